-- A put that first takes on the entry it overwrites: taken on once is taken on, and the rest of the put is as it was. Assumes nothing.
use mathlib.Core.Path.{◌≡◌, sym, ap, ◌∙◌}
use Prim.Native.Nat.{ℕ}
use lib.Dec.{eqb}
use borrow.Author.Tests.{eqb-true}
use Rattle.clock.specs.Map.{◌⟨◌≔◌⟩, ◌⟨◌⟩⟨◌≔◌⟩}
use Rattle.clock.specs.Vector.{Vector}
use Rattle.clock.proofs.Maps.{choice, at_same, at_twice}
use Rattle.layout.specs.State.{State, Entry, with_applied, with_depends, with_store, with_updates}
use Rattle.rules.specs.Engine.{Engine}
use Rattle.rules.specs.Sound.{place}
use Rattle.rules.specs.Steps.{done, next, put, learn}
use Rattle.laws.specs.Taken.{Takes}
use Rattle.rows.specs.Rows.{Row}

module _ (S : State) (s : ℕ) where
  module _ (x : ℕ) (E : Engine) (K : Takes E) where
    abbrev e : Entry
    e = S.store s x

    module _ (T : State) (taken : Row S s (E.sent (S.depends s) e) T) where
      row_is : T.depends s ≡ E.sent (S.depends s) e
      row_is = ap (λ (T : State). T.depends s) taken ∙ at_same S.depends s _

      pub sends_as_is : E.sent (T.depends s) (T.store s x) ≡ T.depends s
      sends_as_is = (λ i. E.sent (row_is i) ((taken i).store s x)) ∙ K.again (S.depends s) e ∙ sym row_is

      pub puts_the_same : (v : ℕ) → put E T s x v ≡ put E S s x v
      unfolding put
      puts_the_same v =
          let c = next S s s in
          let d = E.sent (S.depends s) e in
          let again : E.sent ((S.depends ⟨ s ≔ d ⟩) s) e ≡ d = ap (λ (r : Vector). E.sent r e) (at_same S.depends s d) ∙ K.again (S.depends s) e in
          ap (λ (T : State). put E T s x v) taken
          ∙ (λ i.
          record {
            answer = done x s c v;
            after =
                with_depends
                (with_applied
                (with_store
                (with_updates S (S.updates ⟨ s ⟩⟨ place c ≔ record { value = v; key = x; zero = 0; clock = c; depends = again i } ⟩))
                (S.store ⟨ s ⟩⟨ x ≔ record { value = v; origin = s; zero = 0; clock = c; depends = E.own (again i) } ⟩))
                (S.applied ⟨ s ⟩⟨ s ≔ c ⟩))
                ((at_twice S.depends s d _ ∙ (λ j. S.depends ⟨ s ≔ E.left (again j) s c ⟩)) i);
          })

    -- a get has taken it on
    pub learn_taken : E.sent ((learn E S s x).depends s) ((learn E S s x).store s x) ≡ (learn E S s x).depends s
    unfolding learn
    learn_taken =
        choice (eqb e.clock 0) (λ (T : State). E.sent (T.depends s) (T.store s x) ≡ T.depends s)
        (λ z. K.never (S.depends s) e (eqb-true e.clock 0 z))
        (λ z. let d = at_same S.depends s (E.learned (S.depends s) e) in ap (λ (v : Vector). E.sent v e) d ∙ K.got (S.depends s) e ∙ sym d)
