-- Whose turn it is in a drain: each origin but the site itself, and why a drain that ends leaves no delivery. Assumes nothing.
use mathlib.Core.Path.{◌≡◌, refl, sym, subst}
use mathlib.Core.Bool.{Bool, true, false, ◌&&◌}
use mathlib.Core.List.{List, []}
use mathlib.Core.Logic.{◌⊎◌, inl, inr, ⊎_elim, ◌≢◌}
use Prim.Native.Nat.{ℕ, suc, ◌<◌}
use native.Mathlib.Omega.{arith}
use lib.Dec.{eqb, ltb}
use borrow.Author.Tests.{eqb-true, eqb-false, ltb-true, ltb-false}
use Rattle.clock.proofs.Maps.{both, choice, eq?}
use Rattle.clock.proofs.Says.{says_itself, says_lt, says_and}
use Rattle.layout.specs.State.{State}
use Rattle.rules.specs.Engine.{Engine}
use Rattle.rules.specs.Steps.{Numbers, deliver}
use Rattle.rules.specs.Drain.{try, Turn, end, due, skip, turn, passes, drained, drain}
use Rattle.rules.specs.Calls.{refusals, beside, step, run}
use Rattle.laws.specs.Theorems.{DrainEnds}
use Rattle.laws.proofs.Draining.{took, by_deliveries}

pub skip_is : (s o : ℕ) → ((o ≡ s) × (skip s o ≡ suc o)) ⊎ ((o ≢ s) × (skip s o ≡ o))
skip_is s o =
    choice (eqb o s) (λ z. ((o ≡ s) × (z ≡ suc o)) ⊎ ((o ≢ s) × (z ≡ o))) (λ e. inl (eqb-true o s e, refl)) (λ e. inr (eqb-false o s e, refl))

skip_not : (s o : ℕ) → skip s o ≢ s
skip_not s o e = ⊎_elim (λ p. omega (arith, p)) (λ p. omega (arith, p)) (skip_is s o)

skip_below : (s o i : ℕ) → i < skip s o → i ≢ s → i < o
skip_below s o i h k = ⊎_elim (λ p. omega (arith, p)) (λ p. omega (arith, p)) (skip_is s o)

-- a try is due at another site's origin
abbrev pub Fair : (n s : ℕ) → Turn → Type 0
Fair n s end = Unit {0}
Fair n s (due o d) = (o < n) × (o ≢ s)

pub turn_fair : (n s o : ℕ) (d : Bool) → Fair n s (turn n s o d)
turn_fair n s o d =
    choice (ltb (skip s o) n) (Fair n s) (λ e. (ltb-true _ n e, skip_not s o))
    (λ e. choice (d && ltb (skip s 0) n) (Fair n s) (λ q. (((says_and (says_itself d) (says_lt (skip s 0) n)).0 q).1, skip_not s 0)) (λ q. tt))

-- ## The end

abbrev pub Refused : (E : Engine) → State → (s o : ℕ) → Type 0
Refused E S s o = (try E S s o).answer.code ≢ 0

-- what has been refused where a drain stands: all, or in a pass without a delivery all before
Known : (E : Engine) → State → ℕ → Turn → Type 0
Known E S s end = (o : ℕ) → o < S.n → o ≢ s → Refused E S s o
Known E S s (due o d) = (o < S.n) × (o ≢ s) × (d ≡ false → (i : ℕ) → i < o → i ≢ s → Refused E S s i)

turn_known : (E : Engine) (S : State) (s o : ℕ) (d : Bool) → (d ≡ false → (i : ℕ) → i < o → i ≢ s → Refused E S s i)
    → (d ≡ true → (i : ℕ) × (i < S.n) × (i ≢ s)) → Known E S s (turn S.n s o d)
unfolding Known
turn_known E S s o false f g =
    choice (ltb (skip s o) S.n) (Known E S s)
    (λ e. (ltb-true _ _ e, skip_not s o, λ m i l k. f m i (skip_below s o i l k) k))
    (λ e i l k. f refl i (skip_below s o i (omega (arith, ltb-false (skip s o) S.n e)) k) k)
turn_known E S s o true f g =
    choice (ltb (skip s o) S.n) (Known E S s)
    (λ e. (ltb-true _ _ e, skip_not s o, λ m i l k. f m i (skip_below s o i l k) k))
    (λ e. choice (ltb (skip s 0) S.n) (Known E S s)
    (λ q. (ltb-true _ _ q, skip_not s 0, λ m i l k. absurd (omega (arith, skip_below s 0 i l k))))
    (λ q. let r = g refl in absurd (omega (arith, skip_below s 0 r.0 (omega (arith, r.1, ltb-false (skip s 0) S.n q)) r.2))))

passes_known : (E : Engine) (s b : ℕ) (S : State) (T : Turn) (ds : List Numbers) (t : ℕ) → Known E S s T → (passes E b S s T ds t).code ≡ 0
    → (o : ℕ) → o < (passes E b S s T ds t).after.n → o ≢ s → Refused E (passes E b S s T ds t).after s o
unfolding Known deliver
passes_known E s =
    by_deliveries E s (λ b S T ds t r. Known E S s T → r.code ≡ 0 → (o : ℕ) → o < r.after.n → o ≢ s → Refused E r.after s o)
    (λ b S ds t k z. k)
    (λ S o d ds t k z. absurd (omega arith))
    (λ b S o d ds t r z f k. f (k.0, k.1, λ e. both refl e))
    (λ b S o d ds t r z f k. f (turn_known E S s (suc o) d
    (λ e i l q. ⊎_elim (λ (y : i ≡ o). subst (Refused E S s) (sym y) z) (λ (y : i ≢ o). k.2 e i (omega arith) q) (eq? i o)) (λ e. (o, k.0, k.1))))

pub drain_ends : DrainEnds
unfolding drained drain try run refusals beside step
drain_ends E S s b z o y =
    let T = turn S.n s 0 false in
    let R = (took E (passes E b S s T [] 0).after s o y).0 in
    passes_known E s b S T [] 0 (turn_known E S s 0 false (λ m i l k. absurd (omega arith)) (λ m. both m refl)) z o R.origin (λ q. R.others (sym q)) y
