-- The code goes through the counts by origin, with the smallest at hand; the rules go by site. Assumes nothing.
use mathlib.Core.Path.{◌≡◌, ap, ◌∙◌}
use mathlib.Core.Bool.{Bool, false, ◌&&◌, ◌||◌}
use mathlib.Core.Logic.{⊎_elim}
use Prim.Native.Nat.{ℕ, ◌+◌, ◌≤◌}
use native.Mathlib.Omega.{arith}
use lib.Dec.{leb}
use Rattle.clock.specs.Map.{all}
use Rattle.clock.proofs.Maps.{choice}
use Rattle.clock.proofs.Says.{says_itself, says_same, says_le, says_and, says_unless, denies_itself, says_all}
use Rattle.layout.specs.State.{State}
use Rattle.rules.specs.Live.{gone}
use Rattle.laws.proofs.Tested.{smallest_le, smallest_is}
use Rattle.sound.specs.Checks.{entries_in, count_in, lowest_in, retained_in, lag_in, origin_in, body_in}

abbrev pub counts_in : State → (n : ℕ) → Bool
counts_in S n = all n (λ s. all n (λ o. leb (S.applied s o) (S.applied o o) && (gone S s || leb (S.applied o o) (S.applied s o + 16))))

abbrev pub updates_in : State → (n k : ℕ) → Bool
updates_in S n k = all n (λ o. retained_in S k o (lowest_in S n o) (S.applied o o))

-- the facts in the order of the rules
abbrev pub by_site : State → (n k : ℕ) → Bool
by_site S n k = counts_in S n && entries_in S n k && updates_in S n k

module _ (S : State) (n k : ℕ) where
  -- a live site counts as it is
  counts : (o s : ℕ) → gone S s ≡ false → count_in S o s ≡ S.applied s o
  counts o s live = rw live

  pub by_origin : body_in S n k ≡ by_site S n k
  by_origin =
      says_same
      (says_and (says_itself (entries_in S n k))
      (says_all (origin_in S n k) _ n (λ o. says_and (says_all _ _ n (λ s. says_le (S.applied s o) (S.applied o o))) (says_and (says_le (S.applied o o) (lowest_in S n o + 16)) (says_itself (kept o))))))
      (says_and (says_and (says_all _ _ n (λ s. says_all _ _ n (λ o. says_and (says_le (S.applied s o) (S.applied o o)) (says_unless (denies_itself (gone S s)) (says_le (S.applied o o) (S.applied s o + 16)))))) (says_itself (entries_in S n k)))
      (says_all kept _ n (λ o. says_itself (kept o)))) (
        (λ r. (
          ((λ s hs o ho. ((r.1 o ho).0 s hs, λ live. omega (arith, smallest_le n (count_in S o) (S.applied o o) s hs, counts o s live, (r.1 o ho).1.0))), r.0),
          λ o ho. (r.1 o ho).1.1,
        )),
        λ r. (
          r.0.1,
          λ o ho. (
            (λ s hs. (r.0.0 s hs o ho).0),
            (
              ⊎_elim (λ q. omega arith) (λ q. choice (gone S q.0) (λ m. lowest_in S n o ≡ m → S.applied o o ≤ lowest_in S n o + 16) (λ g e. omega arith) (λ g e. omega (arith, (r.0.0 q.0 q.1 o ho).1 g)) q.2)
                  (smallest_is n (count_in S o) (S.applied o o)),
              r.1 o ho,
            ),
          ),
        ),
      )
    where
      kept : ℕ → Bool
      kept o = retained_in S k o (lowest_in S n o) (S.applied o o)

  -- the smallest count is at hand when the sites are through
  pub lag_is : (o s : ℕ) {low top : ℕ} {r : Bool} → r ≡ lag_in S k o low top → low ≡ lowest_in S s o → s ≡ n → top ≡ S.applied o o
      → r ≡ lag_in S k o (lowest_in S n o) (S.applied o o)
  lag_is o s h low e top = h ∙ (λ i. lag_in S k o ((low ∙ ap (λ (m : ℕ). lowest_in S m o) e) i) (top i))
