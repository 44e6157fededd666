-- A loop that counts up and a test of each number below a bound; the least number that passes. Assumes nothing.
use mathlib.Core.Path.{◌≡◌, refl, sym, ap, ◌∙◌}
use mathlib.Core.Bool.{Bool, true, false, ◌&&◌, ◌||◌, and-true}
use mathlib.Core.Logic.{⊎_elim, ◌≢◌}
use Prim.Native.Nat.{ℕ, zero, suc, ◌+◌, ◌-◌, ◌≤◌, ◌<◌}
use native.Mathlib.Numerals.{add-one}
use native.Mathlib.Omega.{arith}
use denote.Param.Members.{Mut}
use Rattle.std.specs.declared.ops.Range.{Range}
use Rattle.std.specs.Fn.{Called}
use Rattle.std.specs.List.{list_all, range_with_len}
use Rattle.std.specs.Iterator.{ChecksAll}
use Rattle.std.proofs.iter.Yields.{nat_range_steps}
use Rattle.std.proofs.lemmas.Iterator.{YieldsList-from_range}
use Rattle.std.proofs.lemmas.Iterator.Search.{all_from_yields_List}
use Rattle.std.proofs.Math.Bool.{and_assoc}
use Rattle.clock.specs.Map.{when◌then◌else◌, all, any, least}
use Rattle.clock.proofs.Maps.{both, le?, eq?, true_or_false}
use Rattle.clock.proofs.Says.{Says, Denies, says_itself, denies_itself, says_all, denies_any}

module _ (p : ℕ → Bool) where
  pub all_says : (m : ℕ) → Says (all m p) ((j : ℕ) → j < m → p j ≡ true)
  all_says m = says_all p (λ j. p j ≡ true) m (λ j. says_itself (p j))

  pub any_denies : (m : ℕ) → Denies (any m p) ((j : ℕ) → j < m → p j ≡ false)
  any_denies m = denies_any p (λ j. p j ≡ false) m (λ j. denies_itself (p j))

  -- ## A loop

  pub all_none : all 0 p ≡ true
  unfolding all
  all_none = refl

  pub any_nil : any 0 p ≡ false
  unfolding any
  any_nil = refl

  -- goes on
  pub all_more : (i : ℕ) → all i p ≡ true → p i ≡ true → all (i + 1) p ≡ true
  unfolding all
  all_more i h k = rw (add-one, h, k)

  pub any_more : (i : ℕ) → any i p ≡ false → p i ≡ false → any (i + 1) p ≡ false
  unfolding any
  any_more i h k = rw (add-one, h, k)

  -- has reached its bound
  pub all_done : (m i : ℕ) → i ≤ m → m ≤ i → all i p ≡ true → all m p ≡ true
  all_done m i h k e = let q : m ≡ i = omega arith in rw q e

  -- is left before it
  pub all_fails : (m i : ℕ) → i < m → p i ≡ false → all m p ≡ false
  all_fails m i h e = ⊎_elim (λ k. both ((all_says m).0 k i h) e) (λ k. k) (true_or_false (all m p))

  pub any_found : (m i : ℕ) → i < m → p i ≡ true → any m p ≡ true
  any_found m i h e = ⊎_elim (λ k. k) (λ k. both e ((any_denies m).0 k i h)) (true_or_false (any m p))

  -- ## A chain

  -- the first number apart
  all_first : (m : ℕ) → all (suc m) p ≡ (p 0 && all m (λ i. p (suc i)))
  unfolding all
  all_first zero = sym (and-true (p 0))
  all_first (suc m) = ap (λ b. b && p (suc m)) (all_first m) ∙ and_assoc (p 0) (all m (λ i. p (suc i))) (p (suc m))

  -- ## The least number

  -- it is below the bound, passes, and none below it does
  pub least_is : (m : ℕ) → any m p ≡ true → (least m p < m) × (p (least m p) ≡ true) × ((i : ℕ) → i < least m p → p i ≡ false)
  unfolding any least
  least_is zero e = both e refl
  least_is (suc m) e = go (any m p) (p m) refl refl e (least_is m)
    where
      go : (a b : Bool) → any m p ≡ a → p m ≡ b → a || b ≡ true
          → (any m p ≡ true → (least m p < m) × (p (least m p) ≡ true) × ((i : ℕ) → i < least m p → p i ≡ false))
          → ((when a then least m p else when b then m else suc m) < suc m)
          × (p (when a then least m p else when b then m else suc m) ≡ true)
          × ((i : ℕ) → i < (when a then least m p else when b then m else suc m) → p i ≡ false)
      go true b q u w f = let r = f q in (omega arith, r.1, r.2)
      go false true q u w f = (omega arith, u, (any_denies m).0 q)
      go false false q u w f = both w refl

  pub least_at : (m i : ℕ) → i < m → p i ≡ true → ((j : ℕ) → j < i → p j ≡ false) → least m p ≡ i
  least_at m i h e f =
      let r = least_is m (any_found m i h e) in
      ⊎_elim
      (λ (k : i ≤ least m p). ⊎_elim (λ z. z) (λ (z : least m p ≢ i). both e (r.2 i (omega arith))) (eq? (least m p) i))
      (λ k. both r.1 (f (least m p) k))
      (le? i (least m p))

-- the numbers from a on, one after another
in_range : (p : ℕ → Bool) (a n : ℕ) → list_all p (range_with_len a n) ≡ all n (λ i. p (a + i))
unfolding all
in_range p a zero = refl
in_range p a (suc n) =
    (λ k. p (start k) && (in_range p (a + 1) n ∙ ap (all n) (λ j i. p (next i j))) k) ∙ sym (all_first (λ i. p (a + i)) n)
  where
    start : a ≡ a + 0
    start = omega arith

    next : (i : ℕ) → a + 1 + i ≡ a + suc i
    next i = omega arith

-- what `all` of a range answers, where its closure answers p and stays as it was
module _ {F : Type 0} {g : Mut F (ℕ × Unit {0}) Bool} {u : Range ℕ} {f : F} {r : Bool} (p : ℕ → Bool) where
  pub all_ran : {a b : ℕ} → ChecksAll nat_range_steps g (record { start = a; end = b }) f r u
      → ((i : ℕ) (b : Bool) (q : F) → Called g f (i, tt) b q → (q ≡ f) × (b ≡ p i)) → r ≡ all (b - a) (λ i. p (a + i))
  all_ran {a} {b} ran calls = all_from_yields_List p u f r ran (YieldsList-from_range a b (b - a) refl refl) calls ∙ in_range p a (b - a)
