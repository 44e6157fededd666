-- The promise of a cold list, where it is refused and where its list is written. Assumes nothing.
use Rattle.std.proofs.Common.{◌≡◌, ℕ, ◌≢◌, List, length, Err, sym, ap, ◌∙◌, eq-eqb, ne_eqb}
use Rattle.layout.specs.State.{state_of}
use Rattle.rules.specs.Engine.{ours}
use Rattle.rules.specs.Touch.{cold_list}
use Rattle.rules.specs.Steps.{Numbers}
use Rattle.rules.specs.Calls.{Cold, Served, serve, serve_list}
use Rattle.answers.specs.declared.Refusal.{Refusal}
use Rattle.answers.specs.declared.Unserved.TheVariants.{Refused}
use Rattle.answers.specs.Answers.{Answer, numbers_of, served}
use Rattle.answers.proofs.Codes.{refusing}
use Rattle.cold.specs.Listing.{listed}

module _ (t l : List ℕ) (s hour T : ℕ) where
  pub lists_refused : (r : Answer) (x : Refusal) → r ≡ Err (Refused x) → served r t ≡ serve ours t (Cold s hour T (length l)) → listed r t l ≡ serve_list t l s hour T
  unfolding serve_list
  lists_refused r x e w =
      let n : (serve ours t (Cold s hour T (length l))).answer.code ≢ 0 =
      λ z. refusing x (ap (λ (r : Answer). (numbers_of r).code) (sym e) ∙ ap (λ (o : Served). o.answer.code) w ∙ z) in
      rw (ne_eqb _ 0 n) (λ i. record { answer = (w i).answer; bytes = (w i).bytes; list = l })

  pub lists_step : (a : Numbers) (l' : List ℕ) → a.code ≡ 0 → record { answer = a; bytes = t } ≡ serve ours t (Cold s hour T (length l)) → l' ≡ cold_list (state_of t) s hour T
      → record { answer = a; bytes = t; list = l' } ≡ serve_list t l s hour T
  unfolding serve_list
  lists_step a l' z w e =
      let n : (serve ours t (Cold s hour T (length l))).answer.code ≡ 0 = sym (ap (λ (o : Served). o.answer.code) w) ∙ z in
      rw (eq-eqb _ 0 n) (λ i. record { answer = (w i).answer; bytes = (w i).bytes; list = e i })
