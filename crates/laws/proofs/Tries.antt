-- How many deliveries and tries a drain makes. Assumes nothing.
use mathlib.Core.Path.{◌≡◌, refl, sym, ap, subst}
use mathlib.Core.Bool.{Bool, true, false}
use mathlib.Core.List.{List, []}
use mathlib.Core.Logic.{◌⊎◌, inl, inr, ⊎_elim, ◌≢◌}
use Prim.Native.Nat.{ℕ, suc, ◌+◌, ◌*◌, ◌-◌, ◌≤◌, ◌<◌}
use native.Mathlib.Omega.{arith}
use native.Mathlib.Nat.{mul-suc, mul-le-mul}
use native.Mathlib.Numerals.{add-one}
use lib.Dec.{ltb}
use lib.ListN.{length}
use borrow.Author.Tests.{ltb-true, ltb-false}
use Rattle.clock.specs.Map.{when◌then◌else◌, sum}
use Rattle.clock.proofs.Maps.{choice, at_is₂}
use Rattle.layout.specs.State.{State}
use Rattle.rules.specs.Engine.{Engine}
use Rattle.rules.specs.Steps.{Numbers, deliver, next}
use Rattle.rules.specs.Drain.{Turn, end, due, skip, turn, Drained, passes, drained, drain}
use Rattle.laws.specs.Theorems.{pending, DrainRises, TriesBounded, PendingBounded, BudgetEnough}
use Rattle.laws.proofs.Ready.{DeliverReady}
use Rattle.laws.proofs.Keeps.{up_new, deliver_own, deliver_behind}
use Rattle.laws.proofs.Sums.{sum_more, sum_most_but}
use Rattle.laws.proofs.Draining.{by_deliveries}
use Rattle.laws.proofs.Turns.{skip_is, Fair, turn_fair}

-- ## An accepted try

module _ (E : Engine) (S : State) (s o : ℕ) (R : DeliverReady S s o) where
  abbrev T : State
  T = (deliver E S s o).after

  other_column : (i : ℕ) → i ≢ o → T.applied s i ≡ S.applied s i
  unfolding deliver
  other_column i q = ⊎_elim (λ r. absurd (q (sym r.1))) (λ r. r.1) (at_is₂ S.applied s o (next S s o) s i)

  deliver_rises : (m : ℕ) → S.n ≤ m → sum m (T.applied s) ≡ suc (sum m (S.applied s))
  unfolding deliver
  deliver_rises m h = sum_more (S.applied s) (T.applied s) m o (omega (arith, R.origin)) (up_new S.applied s o) other_column

  deliver_pending : pending S s ≡ suc (pending T s)
  unfolding deliver pending
  deliver_pending =
      sum_more (λ i. T.applied i i - T.applied s i) (λ i. S.applied i i - S.applied s i) S.n o R.origin
      (omega (arith, deliver_own E S s o R o, up_new S.applied s o, deliver_behind S s o R))
      (λ i q. omega (arith, deliver_own E S s o R i, other_column i q))

-- ## Deliveries

passes_rise : (E : Engine) (m s b : ℕ) (S : State) (T : Turn) (ds : List Numbers) (t : ℕ) → S.n ≤ m
    → sum m ((passes E b S s T ds t).after.applied s) + length ds ≡ sum m (S.applied s) + length (passes E b S s T ds t).made
unfolding deliver
passes_rise E m s =
    by_deliveries E s (λ b S T ds t r. S.n ≤ m → sum m (r.after.applied s) + length ds ≡ sum m (S.applied s) + length r.made)
    (λ b S ds t h. refl)
    (λ S o d ds t h. refl)
    (λ b S o d ds t r R f h. omega (arith, f h, deliver_rises E S s o R m h))
    (λ b S o d ds t r z f h. f h)

pub drain_rises : DrainRises
unfolding drained drain
drain_rises E S s b m h = omega (arith, passes_rise E m s b S (turn S.n s 0 false) [] 0 h)

-- ## Tries

-- the origins from o on, leaving out s
others : (n s o : ℕ) → ℕ
others n s o = (n - o) - (when ltb s o then 0 else 1)

others_is : (n s o : ℕ) → ((o ≤ s) × (others n s o ≡ n - o - 1)) ⊎ ((s < o) × (others n s o ≡ n - o))
unfolding others
others_is n s o =
    choice (ltb s o) (λ z. ((o ≤ s) × (n - o - z ≡ n - o - 1)) ⊎ ((s < o) × (n - o - z ≡ n - o)))
    (λ e. inr (ltb-true s o e, omega arith))
    (λ e. inl (ltb-false s o e, refl))

others_skip : (n s o : ℕ) → others n s (skip s o) ≡ others n s o
others_skip n s o = ⊎_elim (λ p. subst (λ (z : ℕ). others n s z ≡ others n s o) (sym p.1) (over p.0)) (λ p. ap (others n s) p.1) (skip_is s o)
  where
    over : o ≡ s → others n s (suc o) ≡ others n s o
    over p =
        ⊎_elim
        (λ q. absurd (omega (arith, q.0)))
        (λ q. ⊎_elim (λ r. omega (arith, q.1, r.1)) (λ r. absurd (omega (arith, r.0))) (others_is n s o))
        (others_is n s (suc o))

others_start : (n s : ℕ) → others n s 0 ≡ n - 1
others_start n s = ⊎_elim (λ q. omega (arith, q.1)) (λ q. absurd (omega (arith, q.0))) (others_is n s 0)

others_step : (n s o : ℕ) → o < n → o ≢ s → s < n → others n s o ≡ suc (others n s (suc o))
others_step n s o h k l =
    ⊎_elim
    (λ p. ⊎_elim (λ q. omega (arith, p, q)) (λ q. omega (arith, p, q)) (others_is n s (suc o)))
    (λ p. ⊎_elim (λ q. omega (arith, p, q)) (λ q. omega (arith, p, q)) (others_is n s (suc o)))
    (others_is n s o)

-- with p updates undelivered: the most tries from a turn on
cost : (n s p : ℕ) → Turn → ℕ
cost n s p end = 0
cost n s p (due o d) = p + others n s o + (n - 1) * (when d then suc p else p)

turn_cost : (n s p o : ℕ) (d : Bool) → cost n s p (turn n s o d) ≤ p + others n s o + (n - 1) * (when d then suc p else p)
unfolding cost
turn_cost n s p o false =
    choice (ltb (skip s o) n) (λ T. cost n s p T ≤ p + others n s o + (n - 1) * p) (λ e. omega (arith, others_skip n s o)) (λ e. omega arith)
turn_cost n s p o true =
    choice (ltb (skip s o) n) (λ T. cost n s p T ≤ p + others n s o + (n - 1) * suc p)
    (λ e. omega (arith, others_skip n s o))
    (λ e. choice (ltb (skip s 0) n) (λ T. cost n s p T ≤ p + others n s o + (n - 1) * suc p)
    (λ q. omega (arith, others_skip n s 0, others_start n s, mul-suc (n - 1) p))
    (λ q. omega arith))

cost_accepted : (n s p o : ℕ) (d : Bool) → cost n s p (due o true) < cost n s (suc p) (due o d)
unfolding cost
cost_accepted n s p o false = omega arith
cost_accepted n s p o true = omega (arith, mul-suc (n - 1) (suc p))

cost_refused : (n s p o : ℕ) (d : Bool) → o < n → o ≢ s → s < n → cost n s p (turn n s (suc o) d) < cost n s p (due o d)
unfolding cost
cost_refused n s p o d h k l = omega (arith, turn_cost n s p (suc o) d, others_step n s o h k l)

cost_due : (n s p o : ℕ) (d : Bool) → o < n → o ≢ s → s < n → 0 < cost n s p (due o d)
unfolding cost
cost_due n s p o d h k l = omega (arith, others_step n s o h k l)

abbrev Bounded : (b c t : ℕ) → Drained → Type 0
Bounded b c t r = (r.tries ≤ t + c) × (c ≤ b → r.code ≡ 0)

bounded_next : (b c c' t : ℕ) (r : Drained) → c < c' → Bounded b c (suc t) r → Bounded (suc b) c' t r
bounded_next b c c' t r h p = (omega (arith, p.0), λ l. p.1 (omega arith))

passes_bounded : (E : Engine) (s b : ℕ) (S : State) (T : Turn) (ds : List Numbers) (t : ℕ) → s < S.n → Fair S.n s T
    → Bounded b (cost S.n s (pending S s) T) t (passes E b S s T ds t)
unfolding deliver
passes_bounded E s =
    by_deliveries E s (λ b S T ds t r. s < S.n → Fair S.n s T → Bounded b (cost S.n s (pending S s) T) t r)
    (λ b S ds t h k. (omega arith, λ z. refl))
    (λ S o d ds t h k. (omega arith, λ z. absurd (omega (arith, cost_due S.n s (pending S s) o d k.0 k.1 h))))
    (λ b S o d ds t r R f h k. bounded_next b _ _ t r (rw (deliver_pending E S s o R) (cost_accepted S.n s _ o d)) (f h k))
    (λ b S o d ds t r z f h k. bounded_next b _ _ t r (cost_refused S.n s (pending S s) o d k.0 k.1 h) (f h (turn_fair S.n s (suc o) d)))

-- ## The bounds

drained_bounded : (E : Engine) (S : State) (s b : ℕ) → s < S.n → Bounded b (pending S s + (S.n - 1) * (pending S s + 1)) 0 (drained E S s b)
unfolding drained
drained_bounded E S s b h =
    let p = passes_bounded E s b S (turn S.n s 0 false) [] 0 h (turn_fair S.n s 0 false) in
    let e : (S.n - 1) * (pending S s + 1) ≡ (S.n - 1) * pending S s + (S.n - 1) = rw (add-one (pending S s)) (mul-suc (S.n - 1) (pending S s)) in
    let most = turn_cost S.n s (pending S s) 0 false in
    let start = others_start S.n s in
    (omega (arith, p.0), λ l. p.1 (omega arith))

pub tries_bounded : TriesBounded
unfolding drain
tries_bounded E S s b h = omega (arith, (drained_bounded E S s b h).0)

pub pending_bounded : PendingBounded
unfolding pending
pending_bounded S D s h =
    omega (arith, D.sites.1, sum_most_but (λ o. S.applied o o - S.applied s o) S.n s h.0 (omega arith) (λ i p. omega (arith, D.room s i h p)))

pub budget_enough : BudgetEnough
unfolding drain
budget_enough E S D s b h l =
    let p = pending_bounded S D s h in
    (drained_bounded E S s b h.0).1
    (omega (arith, mul-le-mul {n₁ = S.n - 1} {m₁ = pending S s + 1} {n₂ = 7} {m₂ = 113} (omega (arith, D.sites.1)) (omega arith)))
