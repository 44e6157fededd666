-- The promise of a call, where it is refused and where its step is taken. Assumes nothing.
use mathlib.Core.Path.{◌≡◌, refl, sym, ap, ◌∙◌}
use mathlib.Core.Bool.{true, not}
use mathlib.Core.List.{List, [], ◌∷◌, ◌++◌}
use mathlib.Core.Logic.{◌≢◌}
use Prim.Native.Nat.{ℕ}
use Rattle.std.specs.Prelude.{Err}
use lib.Dec.{eqb}
use lib.ListN.{length}
use Rattle.layout.specs.State.{State, state_of, bytes_of, table}
use Rattle.layout.proofs.TableTrips.{bytes_back}
use Rattle.layout.specs.Ranges.{Bytes}
use Rattle.rules.specs.Engine.{Engine}
use Rattle.rules.specs.Steps.{Numbers, refused}
use Rattle.rules.specs.Refusals.{first}
use Rattle.rules.specs.Calls.{Call, Open, Put, Get, Deliver, Drain, Cold, Touch, Look, Adopt, Retire, words, inside, refusals, beside, step, run, asks, serve}
use Rattle.laws.proofs.Given.{words_proper}
use Rattle.laws.proofs.Serving.{asks_long, asks_short, asks_clear, serve_step, serve_refused, serve_runs}
use Rattle.answers.specs.declared.Refusal.{Refusal}
use Rattle.answers.specs.declared.Refusal.TheVariants.{Size, Unsound, Counts, Site, Same, Key, Spent, Full, NoNext, Unused, NoRecord, OutOfRange, Changed, Retired, LastLive}
use Rattle.answers.specs.declared.Unserved.TheVariants.{Refused}
use Rattle.answers.specs.Answers.{Answer, code_of, served}
use Rattle.answers.proofs.Codes.{first_then, asked_stop, refusing}

-- no refusal that has a name is 10
besides : (S : State) (c : Call) (r : Refusal) → beside S c (code_of r) ≡ refused (code_of r)
unfolding beside
besides S (Open n k) r = refl
besides S (Put s x v) r = refl
besides S (Get s x) r = refl
besides S (Deliver s o) Size = refl
besides S (Deliver s o) Unsound = refl
besides S (Deliver s o) Counts = refl
besides S (Deliver s o) Site = refl
besides S (Deliver s o) Same = refl
besides S (Deliver s o) Key = refl
besides S (Deliver s o) Spent = refl
besides S (Deliver s o) Full = refl
besides S (Deliver s o) NoNext = refl
besides S (Deliver s o) Unused = refl
besides S (Deliver s o) NoRecord = refl
besides S (Deliver s o) OutOfRange = refl
besides S (Deliver s o) Changed = refl
besides S (Deliver s o) Retired = refl
besides S (Deliver s o) LastLive = refl
besides S (Drain s b) r = refl
besides S (Cold s now T m) r = refl
besides S (Touch s x now u w) r = refl
besides S (Look s x) r = refl
besides S (Adopt s x o c) r = refl
besides S (Retire s) r = refl

module _ (E : Engine) (t : List ℕ) (c : Call) where
  pub serves_refused : (r : Refusal) → code_of r ≡ first (asks t c) → served (Err (Refused r)) t ≡ serve E t c
  serves_refused r e =
      sym
      (serve_refused E t c (λ z. refusing r (e ∙ z))
      ∙ (λ i. record { answer = beside (state_of t) c (sym e i); bytes = t })
      ∙ (λ i. record { answer = besides (state_of t) c r i; bytes = t }))

  module _ (r : Numbers) (t' : List ℕ) (same : length t' ≡ length t) (b : Bytes t') where
    pub serves_run : length t ≡ table.width → Bytes t → r ≡ (run E (state_of t) c).answer → state_of t' ≡ (run E (state_of t) c).after → record { answer = r; bytes = t' } ≡ serve E t c
    serves_run h b₀ e f = sym (serve_runs E t c t' h b₀ (same ∙ h) b f ∙ (λ i. record { answer = sym e i; bytes = t' }))

    pub serves_step : first (asks t c) ≡ 0 → r ≡ (step E (state_of t) c).answer → state_of t' ≡ (step E (state_of t) c).after → record { answer = r; bytes = t' } ≡ serve E t c
    serves_step z e f =
        let h = same ∙ (asks_clear t c z).0 in
        (λ i. record { answer = e i; bytes = (sym (bytes_back t' h b) ∙ ap bytes_of f) i }) ∙ sym (serve_step E t c z)

-- ## A call that takes the buffer as a table, then asks its conditions, then takes its step

module _ (E : Engine) (t : List ℕ) (c : Call) where
  pub other_size : (r : Answer) → r ≡ Err (Refused Size) → length t ≢ table.width → first (words c ++ ((1, true) ∷ [])) ≡ 1 → served r t ≡ serve E t c
  other_size r e h w = ap (λ (r : Answer). served r t) e ∙ serves_refused E t c Size (sym (asks_short t c h ∙ w))

  -- its own numbers are asked first of all, before its size
  pub refused_words : (r : Answer) (x : Refusal) → r ≡ Err (Refused x) → code_of x ≡ first (words c) → served r t ≡ serve E t c
  unfolding asks
  refused_words r x e h =
      ap (λ (r : Answer). served r t) e ∙ serves_refused E t c x (asked_stop (words c) ((1, not (eqb (length t) table.width)) ∷ inside (state_of t) c) x h)

  pub size_behind : 0 ≡ first (words c) → first (words c ++ ((1, true) ∷ [])) ≡ 1
  size_behind z = sym (first_then (words c) ((1, true) ∷ []) (words_proper c).0 (sym z))

  pub inside_behind : (S : State) → 0 ≡ first (words c) → first (inside S c) ≡ first (refusals S c)
  unfolding refusals
  inside_behind S z = first_then (words c) (inside S c) (words_proper c).0 (sym z)

  module _ (u : List ℕ) (same : t ≡ u) (size : length u ≡ table.width) where
    pub refused_inside : (r : Answer) (x : Refusal) → r ≡ Err (Refused x) → code_of x ≡ first (refusals (state_of u) c) → served r u ≡ serve E t c
    refused_inside r x e h =
        ap (λ (r : Answer). served r u) e ∙ serves_refused E u c x (h ∙ sym (asks_long u c size)) ∙ ap (λ (t : List ℕ). serve E t c) (sym same)

    pub step_taken : (n : Numbers) (v : List ℕ) → length v ≡ table.width → Bytes v → 0 ≡ first (refusals (state_of u) c)
        → n ≡ (step E (state_of u) c).answer → state_of v ≡ (step E (state_of u) c).after → record { answer = n; bytes = v } ≡ serve E t c
    step_taken n v long b z e f =
        serves_step E u c n v (long ∙ sym size) b (asks_long u c size ∙ sym z) e f ∙ ap (λ (t : List ℕ). serve E t c) (sym same)
