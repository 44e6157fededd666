-- The history alone decides the ranks: a ranking of it has those of the run. Assumes nothing.
use mathlib.Core.Path.{◌≡◌, refl, sym, ap, subst, ◌∙◌}
use mathlib.Core.List.{[], ◌∷◌}
use mathlib.Core.Logic.{inl, inr}
use Prim.Native.Nat.{ℕ}
use native.Mathlib.Omega.{arith}
use lib.ListN.{length}
use Rattle.clock.specs.Lists.{◌∈◌}
use Rattle.causal.specs.World.{Rank, Update, World, nth, Event, put, PUT, GET, LOOK, ADOPT, UPDATE, RETIRE, Run, begin, more}
use Rattle.causal.specs.History.{History, Ranks, Came, Takes, Cause, direct, deeper, Ranking}
use Rattle.causal.proofs.Updates.{clash, next, Updates, Issued}
use Rattle.causal.proofs.Vectors.{tops_same}
use Rattle.causal.proofs.Ranking.{rank_one}
use Rattle.causal.proofs.Higher.{Right}
use Rattle.causal.proofs.Invariant.{NoPut, Inv, issued}
use Rattle.causal.proofs.Puts.{came_in, made, row, u', put_new, put_length, put_each, put_takes, put_caused, put_holds, put_sets, right_less, inv}

in_came : (h : History) (e : Event) → e ∈ h → (p : History) × Came h p e
in_came [] e k = absurd k
in_came (f ∷ h) e (inl k) = (h, inl (k, refl))
in_came (f ∷ h) e (inr k) = let i = in_came h e k in (i.0, inr i.1)

-- ## A put came once

abbrev Unique : History → Type 0
Unique h = (p p' : History) (o x v x' v' c : ℕ) → Came h p (put o x v c) → Came h p' (put o x' v' c) → (p ≡ p') × (x ≡ x')

unique_put : (r : Ranks) (h : History) (W : World) (s y w : ℕ) → Inv r h W → Unique h → Unique (put s y w (next W s) ∷ h)
unique_put r h W s y w I U p p' o x v x' v' c (inl (a, b)) (inl (a', b')) = (b ∙ sym b', cc)
unique_put r h W s y w I U p p' o x v x' v' c (inl (a, b)) (inr m) = absurd (new_put r h W s y w I o x v x' v' c a (came_in h p' _ m))
  where
    new_put : (r : Ranks) (h : History) (W : World) (s y w : ℕ) → Inv r h W → (o x v x' v' c : ℕ) → put o x v c ≡ put s y w (next W s) → put o x' v' c ∈ h → ⊥
    new_put r h W s y w I o x v x' v' c a m =
        let e : o ≡ s = cc in
        let f : c ≡ next W s = cc in
        omega (arith, (issued r h W I o x' v' c m).1, ap (λ (z : ℕ). length (W.updates z)) e)
unique_put r h W s y w I U p p' o x v x' v' c (inr m) (inl (a, b)) =
    let e : o ≡ s = cc in
    let f : c ≡ next W s = cc in
    absurd (omega (arith, (issued r h W I o x v c (came_in h p _ m)).1, ap (λ (z : ℕ). length (W.updates z)) e))
unique_put r h W s y w I U p p' o x v x' v' c (inr m) (inr m') = U p p' o x v x' v' c m m'

unique_other : {h : History} {e : Event} → NoPut e → Unique h → Unique (e ∷ h)
unique_other other U p p' o x v x' v' c (inl a) b = absurd (other o x v c (sym a.0))
unique_other other U p p' o x v x' v' c (inr a) (inl b) = absurd (other o x' v' c (sym b.0))
unique_other other U p p' o x v x' v' c (inr a) (inr b) = U p p' o x v x' v' c a b

run_unique : {n k : ℕ} (r : Ranks) (h : History) (W : World) → Run n k h W → Right r W.updates → Unique h
run_unique r h W begin R = λ p p' o x v x' v' c a b. absurd a
run_unique r h W (more {h = h₁} {W = W₁} k (PUT s y w i j)) R =
    let Q = right_less r W₁ s y w R in
    unique_put r h₁ W₁ s y w (inv r h₁ W₁ k Q) (run_unique r h₁ W₁ k Q)
run_unique r h W (more {h = h₁} {W = W₁} k (GET s y i j)) R = unique_other (λ o x v c e. clash (cc)) (run_unique r h₁ W₁ k R)
run_unique r h W (more {h = h₁} {W = W₁} k (LOOK s y i j)) R = unique_other (λ o x v c e. clash (cc)) (run_unique r h₁ W₁ k R)
run_unique r h W (more {h = h₁} {W = W₁} k (ADOPT s y i j)) R = unique_other (λ o x v c e. clash (cc)) (run_unique r h₁ W₁ k R)
run_unique r h W (more {h = h₁} {W = W₁} k (RETIRE s i)) R = unique_other (λ o x v c e. clash (cc)) (run_unique r h₁ W₁ k R)
run_unique r h W (more {h = h₁} {W = W₁} k (UPDATE s o b i j d e f g)) R = unique_other (λ o x v c e. clash (cc)) (run_unique r h₁ W₁ k R)

-- ## Causes of a put, as its beginning of the history has them

-- H is the history, h' a beginning of it that ends with a put
module _ (r : Ranks) (H : History) (unique : Unique H) (C : Ranking r H) (h : History) (W : World) (s x v : ℕ) (I : Inv r h W)
    (sub : (p : History) (e : Event) → Came (made r h W s x v I ∷ h) p e → Came H p e) where
  abbrev h' : History
  h' = made r h W s x v I ∷ h

  abbrev all : Updates
  all = u' r h W s x v I

  to : {o c o' c' : ℕ} → Cause r h' o c o' c' → Cause r H o c o' c'
  to (direct p s x v c o' c' b k) = direct p s x v c o' c' (sub p _ b) k
  to (deeper i k) = deeper (to i) (to k)

  from : {o c o' c' : ℕ} → Cause r H o c o' c' → Issued all o' c' → (nth (all o') c').depends o c
  from (direct p t y w c o' c' b k) i =
      let m = in_came h' _ (put_holds r h W s x v I t c i) in
      let e = unique p m.0 t y w _ _ c b (sub _ _ m.1) in
      put_takes r h W s x v I m.0 t _ _ c o' c' m.1 (subst (λ (y : ℕ). Takes r m.0 t y o' c') e.1 (subst (λ (q : History). Takes r q t y o' c') e.0 k))
  from (deeper {o = o} {c = c} {o' = o'} {c' = c'} {o'' = o''} {c'' = c''} i k) j =
      let f = put_sets r h W s x v I o'' c'' j o' c' (from k j) in f.1 o c (from i f.0)

  -- so its rank is that of what it sends
  new_rank : Rank (row r h W s x v I) (r s (next W s))
  new_rank =
      let (m, t, e) = C s x v (next W s) (came_in H h _ (sub h _ (inl (refl, refl)))) in (
        m,
        tops_same m _ _
            (λ o c k. subst (λ (u : Update). u.depends o c) (put_new r h W s x v I) (from k (omega arith, omega (arith, put_length r h W s x v I))))
            (λ o c d. to (put_caused r h W s x v I o c d))
            t,
        e,
      )

  new_right : Right r W.updates → Right r all
  new_right R = put_each r h W s x v I (λ o c z. Rank z.depends (r o c)) R new_rank

ranking_right : {n k : ℕ} (r : Ranks) (H : History) → Unique H → Ranking r H → (h : History) (W : World) → Run n k h W
    → ((p : History) (e : Event) → Came h p e → Came H p e) → Right r W.updates
ranking_right r H U C h W begin sub = λ o c i. absurd (omega (arith, i.1))
ranking_right r H U C h W (more {h = h₁} {W = W₁} k (PUT s x v p q)) sub =
    let R = ranking_right r H U C h₁ W₁ k (λ p e i. sub p e (inr i)) in
    new_right r H U C h₁ W₁ s x v (inv r h₁ W₁ k R) sub R
ranking_right r H U C h W (more {h = h₁} {W = W₁} k (GET s x p q)) sub = ranking_right r H U C h₁ W₁ k (λ p e i. sub p e (inr i))
ranking_right r H U C h W (more {h = h₁} {W = W₁} k (LOOK s x p q)) sub = ranking_right r H U C h₁ W₁ k (λ p e i. sub p e (inr i))
ranking_right r H U C h W (more {h = h₁} {W = W₁} k (ADOPT s x p q)) sub = ranking_right r H U C h₁ W₁ k (λ p e i. sub p e (inr i))
ranking_right r H U C h W (more {h = h₁} {W = W₁} k (RETIRE s p)) sub = ranking_right r H U C h₁ W₁ k (λ p e i. sub p e (inr i))
ranking_right r H U C h W (more {h = h₁} {W = W₁} k (UPDATE s o b p q d e f g)) sub = ranking_right r H U C h₁ W₁ k (λ p e i. sub p e (inr i))

pub only : {n k : ℕ} (r : Ranks) (h : History) (W : World) → Run n k h W → Right r W.updates
    → (r' : Ranks) → Ranking r' h → (o x v c : ℕ) → put o x v c ∈ h → r' o c ≡ r o c
only r h W k R r' C o x v c q =
    let i = issued r h W (inv r h W k R) o x v c q in
    rank_one _ _ _ (ranking_right r' h (run_unique r h W k R) C h W k (λ p e i. i) o c i) (R o c i)
