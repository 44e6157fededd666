-- While a site lacks a put, some update is enabled there. Assumes nothing.
use mathlib.Core.Path.{◌≡◌, refl, sym, ap, subst}
use mathlib.Core.List.{[], ◌∷◌}
use mathlib.Core.Logic.{◌⊎◌, inl, inr, ⊎_elim, ◌≢◌}
use Prim.Native.Nat.{ℕ, ◌≤◌, ◌<◌}
use native.Mathlib.Omega.{arith}
use native.Mathlib.Decide.{dec_le}
use Rattle.clock.proofs.Maps.{eq?}
use Rattle.causal.specs.World.{Behind, CausesApplied, World, nth, due, Event, put, get, look, adopt, update, retire, Run}
use Rattle.clock.specs.Lists.{◌∈◌}
use Rattle.causal.specs.History.{CausalRun, History, Ranks, Lacks}
use Rattle.causal.proofs.Updates.{clash, Issued}
use Rattle.causal.proofs.Invariant.{Past, NoPut, Inv, issued, put_inj}
use Rattle.causal.proofs.Puts.{inv}
use Rattle.causal.proofs.Handed.{came}
use Rattle.causal.proofs.Orders.{ranking, safety, put_site_below}
use Rattle.causal.proofs.Higher.{Right}
use Rattle.causal.proofs.Topped.{all_ranked}
use Rattle.causal.proofs.Only.{only}

-- the site has applied each put of `h`
abbrev All : World → ℕ → History → Type 0
All W s h = (o x v c : ℕ) → put o x v c ∈ h → c ≤ W.applied s o

-- it lacks one whose dependencies it has applied
record Some (W : World) (s : ℕ) (h : History) : Type 0 where
  pub o : ℕ
  pub x : ℕ
  pub v : ℕ
  pub c : ℕ
  pub put_there : put o x v c ∈ h
  pub lacked : W.applied s o < c
  pub ready : (o' c' : ℕ) → (nth (W.updates o) c).depends o' c' → c' ≤ W.applied s o'

some_more : {W : World} {s : ℕ} {h : History} (e : Event) → Some W s h → Some W s (e ∷ h)
some_more e k = record { o = k.o; x = k.x; v = k.v; c = k.c; put_there = inr k.put_there; lacked = k.lacked; ready = k.ready }

-- what is no put changes neither
skip : {W : World} {s : ℕ} {h : History} {e : Event} → NoPut e → All W s h ⊎ Some W s h → All W s (e ∷ h) ⊎ Some W s (e ∷ h)
skip {W} {s} {h} {e} other =
    ⊎_elim (λ (f : All W s h). inl (λ o x v c. ⊎_elim (λ q. absurd (other o x v c (sym q))) (f o x v c))) (λ k. inr (some_more e k))

first : (W : World) (s : ℕ) (h : History) → Past W.updates h → All W s h ⊎ Some W s h
unfolding Past
first W s [] p = inl (λ o x v c q. absurd q)
first W s (put t y w b ∷ h) p = go (first W s h p.1) (dec_le b (W.applied s t))
  where
    all : All W s h → b ≤ W.applied s t → All W s (put t y w b ∷ h)
    all f d o x v c (inl q) = let k = put_inj o x v c t y w b q in omega (arith, k.1, ap (W.applied s) k.0)
    all f d o x v c (inr q) = f o x v c q

    go : All W s h ⊎ Some W s h → Dec (b ≤ W.applied s t) → All W s (put t y w b ∷ h) ⊎ Some W s (put t y w b ∷ h)
    go (inr k) d = inr (some_more (put t y w b) k)
    go (inl f) (yes d) = inl (all f d)
    go (inl f) (no d) =
        inr (record { o = t; x = y; v = w; c = b; put_there = inl refl; lacked = omega arith; ready = λ o' c' k. let r = p.0 t y w b o' c' refl k in f o' r.0 r.1 c' r.2 })
first W s (get t y a ∷ h) p = skip (λ o x v c q. clash (cc)) (first W s h p.1)
first W s (look t y a ∷ h) p = skip (λ o x v c q. clash (cc)) (first W s h p.1)
first W s (retire t ∷ h) p = skip (λ o x v c q. clash (cc)) (first W s h p.1)
first W s (adopt t y a ∷ h) p = skip (λ o x v c q. clash (cc)) (first W s h p.1)
first W s (update t o b y w ∷ h) p = skip (λ o₁ x v c q. clash (cc)) (first W s h p.1)

-- the put found is the next one of its origin, since it depends on all those before it there
some_next : (r : Ranks) (h : History) (W : World) (s : ℕ) → Inv r h W → (k : Some W s h) → Issued W.updates k.o k.c → k.c ≡ due W s k.o
some_next r h W s I k i =
    ⊎_elim
    (λ (p : k.c ≡ due W s k.o). p)
    (λ (p : k.c ≢ due W s k.o).
    let l : due W s k.o < k.c = omega (arith, k.lacked) in
    absurd (omega (arith, k.ready k.o (due W s k.o) (I.chain k.o k.c (due W s k.o) i (omega arith) l))))
    (eq? k.c (due W s k.o))

some_enabled : (r : Ranks) (h : History) (W : World) (s : ℕ) → Inv r h W → (k : Some W s h) → (s ≢ k.o) × Behind W s k.o × CausesApplied W s k.o
some_enabled r h W s I k =
    let i = issued r h W I k.o k.x k.v k.c k.put_there in
    let e = some_next r h W s I k i in (
      (λ q. omega (arith, k.lacked, i.1, I.own_count k.o, ap (λ (z : ℕ). W.applied z k.o) q)),
      omega (arith, k.lacked, i.1),
      subst (λ (z : ℕ). (o' c' : ℕ) → (nth (W.updates k.o) z).depends o' c' → c' ≤ W.applied s o') e k.ready,
    )

not_applied : (r : Ranks) (h : History) (W : World) (s o c : ℕ) → Inv r h W → 1 ≤ c → Lacks h s o c → c ≤ W.applied s o → ⊥
not_applied r h W s o c I p k q = ⊎_elim (λ z. k.0 z.0) (k.1 _ _) (came s h o c _ _ ((I.site s).shown o c p q))

progress : {n k : ℕ} (r : Ranks) (h : History) (W : World) → Run n k h W → Inv r h W → (s o x v c : ℕ) → put o x v c ∈ h → Lacks h s o c
    → (o' : ℕ) × (o' < n) × (s ≢ o') × Behind W s o' × CausesApplied W s o'
progress r h W l I s o x v c p q =
    ⊎_elim
    (λ (f : All W s h). absurd (not_applied r h W s o c I (issued r h W I o x v c p).0 q (f o x v c p)))
    (λ (k : Some W s h). let e = some_enabled r h W s I k in (k.o, put_site_below h W l k.o k.x k.v k.c k.put_there, e.0, e.1, e.2))
    (first W s h I.past)

-- every run of figure 7 with at most eight sites is causal and live
pub run_causal : {n k : ℕ} {h : History} {W : World} → n ≤ 8 → Run n k h W → CausalRun n h W
run_causal {h = h} {W = W} b l =
    let A = all_ranked b h W l in
    let r = A.ranks in
    let R = A.right in
    let I = inv r h W l R in
    record {
      ranked = record { ranks = r; ranking = ranking r h W I R; only = only r h W l R };
      vectors = λ o x v c q. R o c (issued r h W I o x v c q);
      orders = safety r h W l R;
      live = progress r h W l I;
    }

pub run_right : {n k : ℕ} {h : History} {W : World} (b : n ≤ 8) (l : Run n k h W) → Right (run_causal b l).ranked.ranks W.updates
unfolding run_causal
run_right {h = h} {W = W} b l = (all_ranked b h W l).right
