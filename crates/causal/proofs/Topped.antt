-- Every put of a run of at most eight sites has a rank. Assumes nothing.
use mathlib.Core.Path.{refl, sym, ap, subst, ◌∙◌}
use mathlib.Core.Logic.{inl, inr, ⊎_elim}
use Prim.Native.Nat.{ℕ, ◌≤◌, ◌<◌}
use native.Mathlib.Omega.{arith}
use lib.Dec.{eqb}
use lib.ListN.{length}
use Rattle.clock.specs.Map.{◌⟨◌≔◌⟩, ◌⟨◌⟩⟨◌≔◌⟩}
use Rattle.clock.specs.Vector.{Vector, rank}
use Rattle.clock.proofs.Maps.{choice, at_is₂, at_same}
use Rattle.causal.specs.World.{Set, ∅, just, ◌∪◌, Tops, Rank, Answer, never, wrote, World, learned, PUT, GET, LOOK, ADOPT, UPDATE, RETIRE, Run, begin, more}
use Rattle.causal.specs.History.{History, Names, Ranks}
use Rattle.causal.proofs.Updates.{next, each_update}
use Rattle.causal.proofs.Sites.{held_issued}
use Rattle.causal.proofs.Vectors.{tops_none, tops_same, tops_join, tops_note}
use Rattle.causal.proofs.Higher.{Right}
use Rattle.causal.proofs.Puts.{inv}
use Rattle.causal.proofs.Orders.{put_site_below}

abbrev Topped : Set → Type 0
Topped d = (v : Vector) × Tops v d

learned_topped : (d : Set) (w : Answer) (e : Set) → Topped d → ((o c : ℕ) → Names w o c → (o < 8) × Topped e) → Topped (d ∪ learned w e)
learned_topped d never e (v, k) g = (v, tops_same v d (d ∪ ∅) (λ o c h. inl h) (λ o c. ⊎_elim (λ h. h) absurd) k)
learned_topped d (wrote x o₁ c₁) e (v, k) g =
    let (b, t) = g o₁ c₁ (refl, refl) in (
      _,
      tops_same _ ((d ∪ e) ∪ just o₁ c₁) _
          (λ o c. ⊎_elim (⊎_elim inl (λ q. inr (inr q))) (λ q. inr (inl q)))
          (λ o c. ⊎_elim (λ q. inl (inl q)) (⊎_elim inr (λ q. inl (inr q))))
          (tops_note _ (d ∪ e) o₁ c₁ b (tops_join v t.0 d e k t.1)),
    )

-- its updates have ranks, and the rows of its sites greatest clocks
pub record AllRanked (W : World) : Type 0 where
  pub ranks : Ranks
  pub right : Right ranks W.updates
  pub rows : (s : ℕ) → Topped (W.depends s)

set_row : (d : ℕ → Set) (t : ℕ) (e : Set) → Topped e → ((s : ℕ) → Topped (d s)) → (s : ℕ) → Topped ((d ⟨ t ≔ e ⟩) s)
set_row d t e p f s = choice (eqb t s) Topped (λ q. p) (λ q. f s)

module _ {n k : ℕ} (b : n ≤ 8) {h : History} {W : World} (l : Run n k h W) (A : AllRanked W) where
  -- what a put sends, and what a get leaves
  taken_topped : (s x : ℕ) → Topped (W.depends s ∪ learned (W.store s x).answer (W.store s x).depends)
  taken_topped s x =
      learned_topped (W.depends s) (W.store s x).answer (W.store s x).depends (A.rows s)
      (λ o c m.
      let I = inv A.ranks h W l A.right in
      let i = held_issued (I.site s) x o c m in
      let f = (I.site s).sets x o c m in
      let t = A.right o c i in
      (omega (arith, put_site_below h W l o _ _ c (I.holds o c i)), (t.0, tops_same t.0 _ _ (λ o c. (f o c).1) (λ o c. (f o c).0) t.1)))

  got_ranked : (s x : ℕ) → (s' : ℕ) → Topped ((W.depends ⟨ s ≔ W.depends s ∪ learned (W.store s x).answer (W.store s x).depends ⟩) s')
  got_ranked s x = set_row W.depends s _ (taken_topped s x) A.rows

pub all_ranked : {n k : ℕ} → n ≤ 8 → (h : History) (W : World) → Run n k h W → AllRanked W
all_ranked b h W begin = record { ranks = λ o c. 0; right = λ o c i. absurd (omega (arith, i.1)); rows = λ s. (_, tops_none) }
all_ranked b h W (more {h = h₁} {W = W₁} l (PUT s x v p q)) =
    let A = all_ranked b h₁ W₁ l in
    let t = taken_topped b l A s x in
    let c₀ = next W₁ s in
    record {
      ranks = A.ranks ⟨ s ⟩⟨ c₀ ≔ rank t.0 ⟩;
      right =
          each_update W₁.updates s _ (λ o c z. Rank z.depends ((A.ranks ⟨ s ⟩⟨ c₀ ≔ rank t.0 ⟩) o c))
          (λ o c i.
          subst (Rank _)
          (sym (⊎_elim (λ z. absurd (omega (arith, i.1, z.1, ap (λ (y : ℕ). length (W₁.updates y)) z.0))) (λ z. z.1) (at_is₂ A.ranks s c₀ (rank t.0) o c)))
          (A.right o c i))
          (t.0, t.1, ap (λ (f : ℕ → ℕ). f c₀) (at_same A.ranks s (A.ranks s ⟨ c₀ ≔ rank t.0 ⟩)) ∙ at_same (A.ranks s) c₀ (rank t.0));
      rows = set_row W₁.depends s _ (_, tops_note t.0 _ s c₀ (omega arith) t.1) A.rows;
    }
all_ranked b h W (more {h = h₁} {W = W₁} l (GET s x p q)) =
    let A = all_ranked b h₁ W₁ l in record { ranks = A.ranks; right = A.right; rows = got_ranked b l A s x }
all_ranked b h W (more {h = h₁} {W = W₁} l (LOOK s x p q)) = all_ranked b h₁ W₁ l
all_ranked b h W (more {h = h₁} {W = W₁} l (RETIRE s p)) = all_ranked b h₁ W₁ l
all_ranked b h W (more {h = h₁} {W = W₁} l (ADOPT s x p q)) =
    let A = all_ranked b h₁ W₁ l in record { ranks = A.ranks; right = A.right; rows = got_ranked b l A s x }
all_ranked b h W (more {h = h₁} {W = W₁} l (UPDATE s o i p q d e f g)) =
    let A = all_ranked b h₁ W₁ l in record { ranks = A.ranks; right = A.right; rows = A.rows }
