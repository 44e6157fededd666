-- A call on a lent buffer: refused, it keeps every byte; else its bytes are those of the state it leaves. Assumes nothing.
use mathlib.Core.Path.{◌≡◌, refl, sym, ap, ◌∙◌}
use mathlib.Core.Bool.{true, false}
use mathlib.Core.List.{List, [], ◌∷◌, ◌++◌}
use mathlib.Core.Logic.{⊎_elim, ◌≢◌}
use Prim.Native.Nat.{ℕ}
use native.Mathlib.Omega.{arith}
use lib.ListN.{length}
use borrow.Author.Tests.{eq-eqb, ne_eqb}
use Rattle.clock.proofs.Maps.{eq?}
use Rattle.layout.specs.State.{State, state_of, bytes_of, table}
use Rattle.layout.specs.Ranges.{Bytes}
use Rattle.layout.proofs.TableTrips.{bytes_back}
use Rattle.rules.specs.Engine.{Engine}
use Rattle.rules.specs.Steps.{Outcome, refused}
use Rattle.rules.specs.Refusals.{Refusals, first}
use Rattle.rules.specs.Calls.{Call, Open, Put, Get, Deliver, Drain, Cold, Touch, Look, Adopt, Retire, words, inside, refusals, beside, step, run, asks, Served, serve}
use Rattle.laws.proofs.Given.{Avoids, words_proper, run_cases, beside_code}

-- the answer of an outcome, and its state laid out
abbrev pub served : Outcome → Served
served r = record { answer = r.answer; bytes = bytes_of r.after }

-- ## A condition behind the first ones

-- that does not hold, and that holds
first_past : (ps qs : Refusals) (e : ℕ) → first (ps ++ ((e, false) ∷ qs)) ≡ first (ps ++ qs)
first_past [] qs e = refl
first_past ((c, true) ∷ ps) qs e = refl
first_past ((c, false) ∷ ps) qs e = first_past ps qs e

pub first_at : (ps qs : Refusals) (e : ℕ) → first (ps ++ ((e, true) ∷ qs)) ≡ first (ps ++ ((e, true) ∷ []))
first_at [] qs e = refl
first_at ((c, true) ∷ ps) qs e = refl
first_at ((c, false) ∷ ps) qs e = first_at ps qs e

first_some : (ps qs : Refusals) (e : ℕ) → Avoids 0 ps → e ≢ 0 → first (ps ++ ((e, true) ∷ qs)) ≢ 0
first_some [] qs e a h = h
first_some ((c, true) ∷ ps) qs e a h = a.0
first_some ((c, false) ∷ ps) qs e a h = first_some ps qs e a.1 h

-- ## The size of the buffer

beside_words : (S : State) (c : Call) → let e = first (words c ++ ((1, true) ∷ [])) in beside S c e ≡ refused e
unfolding beside
beside_words S (Open n k) = refl
beside_words S (Put s x v) = refl
beside_words S (Get s x) = refl
beside_words S (Deliver s o) = refl
beside_words S (Drain s b) = refl
beside_words S (Cold s now T m) = refl
beside_words S (Touch s x now u r) = refl
beside_words S (Look s x) = refl
beside_words S (Adopt s x o c) = refl
beside_words S (Retire s) = refl

module _ (t : List ℕ) (c : Call) where
  pub asks_long : length t ≡ table.width → first (asks t c) ≡ first (refusals (state_of t) c)
  unfolding asks refusals
  asks_long h = rw (eq-eqb (length t) table.width h) (first_past (words c) (inside (state_of t) c) 1)

  pub asks_short : length t ≢ table.width → first (asks t c) ≡ first (words c ++ ((1, true) ∷ []))
  unfolding asks
  asks_short h = rw (ne_eqb (length t) table.width h) (first_at (words c) (inside (state_of t) c) 1)

  asks_some : length t ≢ table.width → first (asks t c) ≢ 0
  asks_some h z = first_some (words c) [] 1 (words_proper c).0 (omega arith) (sym (asks_short h) ∙ z)

  pub asks_clear : first (asks t c) ≡ 0 → (length t ≡ table.width) × (first (refusals (state_of t) c) ≡ 0)
  asks_clear z =
      ⊎_elim
      (λ (e : length t ≡ table.width). (e, sym (asks_long e) ∙ z))
      (λ e. absurd (asks_some e z))
      (eq? (length t) table.width)

-- ## What is served

module _ (E : Engine) (t : List ℕ) (c : Call) where
  pub serve_step : first (asks t c) ≡ 0 → serve E t c ≡ served (step E (state_of t) c)
  unfolding serve
  serve_step z = rw (eq-eqb (first (asks t c)) 0 z)

  pub serve_refused : first (asks t c) ≢ 0 → serve E t c ≡ record { answer = beside (state_of t) c (first (asks t c)); bytes = t }
  unfolding serve
  serve_refused z = rw (ne_eqb (first (asks t c)) 0 z)

  -- the buffer has another size
  pub serve_short : length t ≢ table.width → let e = first (words c ++ ((1, true) ∷ [])) in serve E t c ≡ record { answer = refused e; bytes = t }
  serve_short h =
      serve_refused (asks_some t c h)
      ∙ (λ i. record { answer = beside (state_of t) c (asks_short t c h i); bytes = t })
      ∙ (λ i. record { answer = beside_words (state_of t) c i; bytes = t })

  pub serve_accepted : (serve E t c).answer.code ≡ 0 → first (asks t c) ≡ 0
  serve_accepted z =
      ⊎_elim
      (λ (e : first (asks t c) ≡ 0). e)
      (λ e. sym (beside_code (state_of t) c (first (asks t c))) ∙ sym (ap (λ (r : Served). r.answer.code) (serve_refused e)) ∙ z)
      (eq? (first (asks t c)) 0)

  pub serve_long : length t ≡ table.width → Bytes t → serve E t c ≡ served (run E (state_of t) c)
  serve_long h b =
      ⊎_elim
      (λ p. serve_step (asks_long t c h ∙ p.0) ∙ ap served (sym p.1))
      (λ p.
      serve_refused (λ z. p.0 (sym (asks_long t c h) ∙ z))
      ∙ (λ i. record { answer = beside (state_of t) c (asks_long t c h i); bytes = sym (bytes_back t h b) i })
      ∙ ap served (sym p.1))
      (run_cases E (state_of t) c)

  pub serve_runs : (t' : List ℕ) → length t ≡ table.width → Bytes t → length t' ≡ table.width → Bytes t' → state_of t' ≡ (run E (state_of t) c).after
      → serve E t c ≡ record { answer = (run E (state_of t) c).answer; bytes = t' }
  serve_runs t' h b h' b' e = serve_long h b ∙ (λ i. record { answer = (run E (state_of t) c).answer; bytes = (ap bytes_of (sym e) ∙ bytes_back t' h' b') i })
