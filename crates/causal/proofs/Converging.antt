-- Sites of a run that have applied the same puts hold the same answers, with the same sets. Assumes nothing.
use mathlib.Core.Path.{◌≡◌, sym, ap, ◌∙◌}
use mathlib.Core.Logic.Iff
use mathlib.Core.Logic.{◌↔◌, ⊎_elim, ◌≢◌}
use Prim.Native.Nat.{ℕ, ◌≤◌, ◌<◌}
use native.Mathlib.Omega.{arith}
use Rattle.clock.specs.Lists.{◌∈◌}
use Rattle.clock.proofs.Maps.{eq?, le?}
use Rattle.causal.specs.World.{World, nth, Run}
use Rattle.causal.specs.History.{History, Names, Write, order, Ranks}
use Rattle.causal.proofs.Updates.{Issued}
use Rattle.causal.proofs.Ranking.{rank_lt}
use Rattle.causal.proofs.Higher.{Right}
use Rattle.causal.proofs.Highest.{same_highest}
use Rattle.causal.proofs.Invariant.{Inv}
use Rattle.causal.proofs.Puts.{inv}
use Rattle.causal.proofs.Orders.{put_site_below}

module _ {n k : ℕ} (r : Ranks) (h : History) (W : World) (l : Run n k h W) (R : Right r W.updates) where
  abbrev I : Inv r h W
  I = inv r h W l R

  -- ranks rise along the puts of a site
  rising : (o c c' : ℕ) → Issued W.updates o c → Issued W.updates o c' → c < c' → r o c < r o c'
  rising o c c' i j p =
      let m = I.chain o c' c j i.0 p in
      rank_lt _ _ (r o c) (r o c') (R o c i) (R o c' j) (I.closed o c' j o c m).1 o c m i.0 (λ b. I.older o c b i)

  one_put : (o c c' : ℕ) → Issued W.updates o c → Issued W.updates o c' → r o c ≡ r o c' → c ≡ c'
  one_put o c c' i j e =
      ⊎_elim
      (λ (p : c ≤ c'). ⊎_elim (λ (q : c ≡ c'). q) (λ (q : c ≢ c'). absurd (omega (arith, rising o c c' i j (omega arith)))) (eq? c c'))
      (λ (p : c' < c). absurd (omega (arith, rising o c' c j i p)))
      (le? c c')

  -- a write is an issued put
  written : (s o c x v : ℕ) → Write o c x v ∈ order s h → Issued W.updates o c
  written s o c x v q = let w = (I.site s).seen o c x v q in (w.0, omega (arith, w.1, (I.site s).most o))

  module _ (s t : ℕ) (same : (o : ℕ) → o < n → W.applied t o ≡ W.applied s o) where
    brought : (o c x v : ℕ) → Write o c x v ∈ order s h → Write o c x v ∈ order t h
    brought o c x v q =
        let w = (I.site s).seen o c x v q in
        let b = put_site_below h W l o _ _ c (I.holds o c (written s o c x v q)) in
        rw (w.2, w.3) at ((I.site t).shown o c w.0 (omega (arith, w.1, same o b)))

  module _ (s t : ℕ) (same : (o : ℕ) → o < n → W.applied t o ≡ W.applied s o) (x : ℕ) where
    pub same_answer : (W.store s x).answer ≡ (W.store t x).answer
    same_answer =
        (I.site s).table x
        ∙ same_highest r x (order s h) (order t h) (λ o c v. brought s t same o c x v) (λ o c v. brought t s (λ o p. sym (same o p)) o c x v)
        (λ o c v c' v' p q e.
        let z = one_put o c c' (written s o c x v p) (written s o c' x v' q) e in
        (z, sym ((I.site s).seen o c x v p).3 ∙ ap (λ (c : ℕ). (nth (W.updates o) c).value) z ∙ ((I.site s).seen o c' x v' q).3))
        ∙ sym ((I.site t).table x)

    pub same_set : (o c : ℕ) → Names (W.store s x).answer o c → (o' c' : ℕ) → (W.store s x).depends o' c' ↔ (W.store t x).depends o' c'
    same_set o c m o' c' = Iff.trans ((I.site s).sets x o c m o' c') (Iff.symm ((I.site t).sets x o c (rw same_answer at m) o' c'))
