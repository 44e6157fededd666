-- Every history of figure 7 is causal. Assumes nothing.
use mathlib.Core.Path.{sym, ◌≡◌, refl, subst}
use mathlib.Core.Logic.{inl, inr}
use Prim.Native.Nat.{ℕ, ◌<◌}
use native.Mathlib.Omega.{arith}
use Rattle.causal.specs.World.{Step, World, nth, due, Event, put, update, PUT, GET, LOOK, ADOPT, UPDATE, RETIRE, Run, begin, more}
use Rattle.clock.specs.Lists.{◌∈◌, Before}
use Rattle.causal.specs.History.{History, Ranks, Cause, direct, deeper, Ranking, Ordered}
use Rattle.causal.proofs.Updates.{clash, Issued}
use Rattle.causal.proofs.Invariant.{Inv, issued}
use Rattle.causal.proofs.Puts.{came_in, right_less, inv}
use Rattle.causal.proofs.Vectors.{tops_same}
use Rattle.causal.proofs.Higher.{Right}

-- ## Steps

-- every event of a history is the label of a step
labels : {n k : ℕ} (h : History) (W : World) → Run n k h W → (e : Event) → e ∈ h → (V₁ : World) × (V₂ : World) × Step n k V₁ e V₂
labels h W begin e q = absurd q
labels {n} {k} h W (more {h = h₁} {W = W₁} r s) e (inl q) = (W₁, W, subst (λ (z : Event). Step n k W₁ z W) (sym q) s)
labels h W (more {h = h₁} {W = W₁} r s) e (inr q) = labels h₁ W₁ r e q

put_below : {n k : ℕ} {V₁ V₂ : World} {e : Event} → Step n k V₁ e V₂ → (o x v c : ℕ) → e ≡ put o x v c → o < n
put_below {n} (PUT t y w p q) o x v c e = subst (λ (z : ℕ). z < n) (cc) p
put_below (GET t y p q) o x v c e = clash (cc)
put_below (LOOK t y p q) o x v c e = clash (cc)
put_below (ADOPT t y p q) o x v c e = clash (cc)
put_below (UPDATE t o₁ b p q d f g i) o x v c e = clash (cc)
put_below (RETIRE t p) o x v c e = clash (cc)

pub put_site_below : {n k : ℕ} (h : History) (W : World) → Run n k h W → (o x v c : ℕ) → put o x v c ∈ h → o < n
put_site_below h W r o x v c q = put_below (labels h W r (put o x v c) q).2 o x v c refl

-- ## Causes

module _ (r : Ranks) (h : History) (W : World) (I : Inv r h W) where
  cause_issued : {o c o' c' : ℕ} → Cause r h o c o' c' → Issued W.updates o' c'
  cause_issued (direct p s x v c o' c' b k) = issued r h W I s x v c (came_in h p (put s x v c) b)
  cause_issued (deeper p q) = cause_issued q

  -- a put's set has each of its causes
  cause_in : {o c o' c' : ℕ} → Cause r h o c o' c' → (nth (W.updates o') c').depends o c
  cause_in (direct p s x v c o' c' b k) = I.takes p s x v c o' c' b k
  cause_in (deeper {o = o} {c = c} {o' = o'} {c' = c'} {o'' = o''} {c'' = c''} p q) = (I.closed o'' c'' (cause_issued q) o' c' (cause_in q)).1 o c (cause_in p)

  -- and no others, so its rank is that of its causes
  pub ranking : Right r W.updates → Ranking r h
  ranking R o x v c q =
      let i = issued r h W I o x v c q in
      let (m, t, e) = R o c i in
      (m, tops_same m _ _ (I.exact o c i) (λ o' c' k. cause_in k) t, e)

-- ## Demand 3, safety

-- what a site is handed was put before, since an update is one of the puts
handed : {n k : ℕ} (r : Ranks) (h : History) (W : World) → Run n k h W → Right r W.updates → (s o c x v : ℕ) → update s o c x v ∈ h
    → Before h (put o x v c) (update s o c x v)
handed r h W begin R s o c x v q = absurd q
handed r h W (more k (PUT t y w p p')) R s o c x v (inl q) = clash (cc)
handed r h W (more {W = W₁} k (PUT t y w p p')) R s o c x v (inr q) = inr (handed r _ W₁ k (right_less r W₁ t y w R) s o c x v q)
handed r h W (more k (GET t y p p')) R s o c x v (inl q) = clash (cc)
handed r h W (more k (GET t y p p')) R s o c x v (inr q) = inr (handed r _ _ k R s o c x v q)
handed r h W (more k (LOOK t y p p')) R s o c x v (inl q) = clash (cc)
handed r h W (more k (LOOK t y p p')) R s o c x v (inr q) = inr (handed r _ _ k R s o c x v q)
handed r h W (more k (ADOPT t y p p')) R s o c x v (inl q) = clash (cc)
handed r h W (more k (ADOPT t y p p')) R s o c x v (inr q) = inr (handed r _ _ k R s o c x v q)
handed r h W (more k (RETIRE t p)) R s o c x v (inl q) = clash (cc)
handed r h W (more k (RETIRE t p)) R s o c x v (inr q) = inr (handed r _ _ k R s o c x v q)
handed r h W (more {h = h₁} {W = W₁} k (UPDATE t o₁ b p p' d f g i)) R s o c x v (inl q) =
    inl (q, subst (λ (z : Event). z ∈ h₁) (cc) ((inv r h₁ W₁ k R).holds o₁ (due W₁ t o₁) (omega arith, f)))
handed r h W (more k (UPDATE t o₁ b p p' d f g i)) R s o c x v (inr q) = inr (handed r _ _ k R s o c x v q)

pub safety : {n k : ℕ} (r : Ranks) (h : History) (W : World) → Run n k h W → Right r W.updates → (s : ℕ) → Ordered r h s
safety r h W k R s =
    let I = inv r h W k R in
    record {
      put_first = handed r h W k R s;
      once = (I.site s).once;
      caused = λ o c x v o' c' q i. (I.site s).after o c x v o' c' q (cause_in r h W I i);
      reads = (I.site s).reads;
    }
