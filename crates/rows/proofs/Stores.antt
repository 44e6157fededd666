-- The stores of a step, one after another, are the step. Assumes nothing.
use mathlib.Core.Path.{◌≡◌, sym, ap, ◌∙◌}
use mathlib.Core.Bool.{true, false}
use mathlib.Core.Logic.{◌≢◌}
use Prim.Native.Nat.{ℕ, ◌+◌}
use native.Mathlib.Omega.{arith}
use borrow.Author.Tests.{eq-eqb, ne_eqb}
use Rattle.clock.specs.Map.{when◌then◌else◌, ◌⟨◌≔◌⟩, ◌⟨◌⟩⟨◌≔◌⟩}
use Rattle.layout.specs.State.{State, Entry, Update, with_applied, with_depends, with_store, with_updates}
use Rattle.rules.specs.Engine.{Engine}
use Rattle.rules.specs.Sound.{place}
use Rattle.rules.specs.Steps.{next, put, learn, waiting, deliver}
use Rattle.rows.specs.Rows.{Row, Sent, Stored, Replaced}

module _ (S : State) where
  pub next_is : (s o : ℕ) {a c : ℕ} → c ≡ a + 1 → a ≡ S.applied s o → c ≡ next S s o
  next_is s o e f = omega arith

  pub put_stores : (E : Engine) (S₁ S₂ S₃ S₄ : State) (s x v c : ℕ)
      → Sent S s x v c S₁
      → Stored S₁ s x s v c (E.own (S₁.depends s)) S₂
      → S₃ ≡ with_applied S₂ (S₂.applied ⟨ s ⟩⟨ s ≔ c ⟩)
      → Row S₃ s (E.left (S₃.depends s) s c) S₄
      → c ≡ next S s s → E.sent (S.depends s) (S.store s x) ≡ S.depends s
      → S₄ ≡ (put E S s x v).after
  unfolding put
  put_stores E S₁ S₂ S₃ S₄ s x v c e₁ e₂ e₃ e₄ ec taken =
      let sent = sym taken in
      e₄
      ∙ ap (λ (T : State). with_depends T (T.depends ⟨ s ≔ E.left (T.depends s) s c ⟩))
      (e₃
      ∙ ap (λ (T : State). with_applied T (T.applied ⟨ s ⟩⟨ s ≔ c ⟩))
      (e₂ ∙ ap (λ (T : State). with_store T (T.store ⟨ s ⟩⟨ x ≔ record { value = v; origin = s; zero = 0; clock = c; depends = E.own (T.depends s) } ⟩)) e₁))
      ∙ (λ i.
      with_depends
      (with_applied
      (with_store
      (with_updates S (S.updates ⟨ s ⟩⟨ place (ec i) ≔ record { value = v; key = x; zero = 0; clock = ec i; depends = sent i } ⟩))
      (S.store ⟨ s ⟩⟨ x ≔ record { value = v; origin = s; zero = 0; clock = ec i; depends = E.own (sent i) } ⟩))
      (S.applied ⟨ s ⟩⟨ s ≔ ec i ⟩))
      (S.depends ⟨ s ≔ E.left (sent i) s (ec i) ⟩))

  pub learn_none : (E : Engine) (s x : ℕ) → (S.store s x).clock ≡ 0 → S ≡ learn E S s x
  unfolding learn
  learn_none E s x h = rw (eq-eqb (S.store s x).clock 0 h)

  pub learn_some : (E : Engine) (s x : ℕ) (e : Entry) → e ≡ S.store s x → e.clock ≢ 0 → with_depends S (S.depends ⟨ s ≔ E.learned (S.depends s) e ⟩) ≡ learn E S s x
  unfolding learn
  learn_some E s x e p h =
      (λ i. with_depends S (S.depends ⟨ s ≔ E.learned (S.depends s) (p i) ⟩))
      ∙ rw (ne_eqb (S.store s x).clock 0 (λ z. h (ap (λ (e : Entry). e.clock) p ∙ z)))

  -- an update that does not replace the entry of its key, and one that does
  module _ (E : Engine) (s o c x : ℕ) (u : Update) (key : x ≡ u.key) where
    pub kept : E.replaces u o (S.store s x) ≡ false → Replaced E S s o u c S
    kept e = rw (ap (λ (y : ℕ). E.replaces u o (S.store s y)) (sym key) ∙ e)

    pub replaced : E.replaces u o (S.store s x) ≡ true → (T : State) → Stored S s x o u.value c u.depends T → Replaced E S s o u c T
    replaced e T p =
        rw (ap (λ (y : ℕ). E.replaces u o (S.store s y)) (sym key) ∙ e)
        (p ∙ (λ i. with_store S (S.store ⟨ s ⟩⟨ key i ≔ record { value = u.value; origin = o; zero = 0; clock = c; depends = u.depends } ⟩)))

  pub deliver_stores : (E : Engine) (S₁ S₂ : State) (s o c : ℕ) (u : Update)
      → Replaced E S s o u c S₁
      → S₂ ≡ with_applied S₁ (S₁.applied ⟨ s ⟩⟨ o ≔ c ⟩)
      → u ≡ waiting S s o → c ≡ next S s o
      → S₂ ≡ (deliver E S s o).after
  unfolding deliver
  deliver_stores E S₁ S₂ s o c u e₁ e₂ eu ec =
      e₂
      ∙ ap (λ (T : State). with_applied T (T.applied ⟨ s ⟩⟨ o ≔ c ⟩)) e₁
      ∙ (λ i.
      with_applied
      (with_store S
      (when E.replaces (eu i) o (S.store s (eu i).key)
      then S.store ⟨ s ⟩⟨ (eu i).key ≔ record { value = (eu i).value; origin = o; zero = 0; clock = ec i; depends = (eu i).depends } ⟩
      else S.store))
      (S.applied ⟨ s ⟩⟨ o ≔ ec i ⟩))
