-- A vector of greatest clocks answers as its set does. Assumes nothing.
use mathlib.Core.Path.{◌≡◌, refl, sym, ap, subst}
use mathlib.Core.Bool.{Bool, true, false}
use mathlib.Core.Logic.{◌⊎◌, inl, inr, ⊎_elim}
use Prim.Native.Nat.{ℕ, ◌≤◌, ◌<◌, max}
use native.Mathlib.Omega.{arith}
use lib.Dec.{eqb}
use borrow.Author.Tests.{eqb-true}
use Rattle.clock.specs.Map.{when◌then◌else◌}
use Rattle.clock.specs.Vector.{Vector, zeros, join, note}
use Rattle.clock.proofs.Maps.{at_is, at_same, le?}
use Rattle.causal.specs.World.{Set, ∅, just, ◌∪◌, Tops}
use Rattle.causal.specs.Refines.{SameAnswers}

pub tops_none : Tops zeros ∅
tops_none = record { eight = λ o c h. absurd h; above = λ o c h. absurd h; met = λ o h. inl refl }

pub tops_same : (v : Vector) (d e : Set) → ((o c : ℕ) → d o c → e o c) → ((o c : ℕ) → e o c → d o c) → Tops v d → Tops v e
tops_same v d e f g k =
    record {
      eight = λ o c h. k.eight o c (g o c h);
      above = λ o c h. k.above o c (g o c h);
      met = λ o h. ⊎_elim inl (λ m. inr (f o (v o) m)) (k.met o h);
    }

pub tops_join : (v w : Vector) (d e : Set) → Tops v d → Tops w e → Tops (join v w) (d ∪ e)
tops_join v w d e k l =
    record {
      eight = λ o c. ⊎_elim (k.eight o c) (l.eight o c);
      above = λ o c. ⊎_elim (λ (h : d o c). omega (arith, k.above o c h)) (λ (h : e o c). omega (arith, l.above o c h));
      met = λ o h. go o (k.met o h) (l.met o h) (le? (v o) (w o));
    }
  where
    go : (o : ℕ) → (v o ≡ 0) ⊎ d o (v o) → (w o ≡ 0) ⊎ e o (w o) → (v o ≤ w o) ⊎ (w o < v o) → (max (v o) (w o) ≡ 0) ⊎ ((d ∪ e) o (max (v o) (w o)))
    go o p (inl q) (inl h) = inl (omega arith)
    go o p (inr q) (inl h) = inr (inr (subst (λ (z : ℕ). e o z) (omega arith) q))
    go o (inl p) q (inr h) = inl (omega arith)
    go o (inr p) q (inr h) = inr (inl (subst (λ (z : ℕ). d o z) (omega arith) p))

note_up : (v : Vector) (o c j : ℕ) → v j ≤ note v o c j
note_up v o c j = ⊎_elim (λ p. omega (arith, p.1, ap v p.0)) (λ p. omega (arith, p.1)) (at_is v o (max (v o) c) j)

pub tops_note : (v : Vector) (d : Set) (o c : ℕ) → o < 8 → Tops v d → Tops (note v o c) (d ∪ just o c)
tops_note v d o c b k =
    record {
      eight = λ o' c'. ⊎_elim (k.eight o' c') (λ (p : just o c o' c'). omega (arith, p.0));
      above = λ o' c'. ⊎_elim (λ (p : d o' c'). omega (arith, k.above o' c' p, note_up v o c o')) (own o' c');
      met = λ o' h. go o' h (eqb o o') refl (le? (v o) c);
    }
  where
    own : (o' c' : ℕ) → just o c o' c' → c' ≤ note v o c o'
    own o' c' p = rw p.0 (omega (arith, p.1, at_same v o (max (v o) c)))

    go : (o' : ℕ) → o' < 8 → (t : Bool) → eqb o o' ≡ t → (v o ≤ c) ⊎ (c < v o)
        → ((when t then max (v o) c else v o') ≡ 0) ⊎ ((d ∪ just o c) o' (when t then max (v o) c else v o'))
    go o' h true e (inl l) = inr (inr (sym (eqb-true o o' e), omega arith))
    go o' h true e (inr l) =
        let y : v o ≡ v o' = ap v (eqb-true o o' e) in
        ⊎_elim (λ (p : v o' ≡ 0). inl (omega arith)) (λ (p : d o' (v o')). inr (inl (subst (λ (z : ℕ). d o' z) (omega arith) p))) (k.met o' h)
    go o' h false e l = ⊎_elim inl (λ p. inr (inl p)) (k.met o' h)

-- a column above 0 is met
pub tops_worst : (v a : Vector) (d : Set) → Tops v d → (j : ℕ) → j < 8 → a j < v j → d j (v j)
tops_worst v a d k j h l = ⊎_elim (λ (e : v j ≡ 0). absurd (omega arith)) (λ m. m) (k.met j h)

pub same_answers : (v : Vector) (d : Set) → Tops v d → SameAnswers v d
same_answers v d k =
    record {
      check = λ a. (
        (λ f j h. ⊎_elim (λ (e : v j ≡ 0). omega arith) (λ m. f j (v j) m) (k.met j h)),
        λ f o c m. omega (arith, k.above o c m, f o (k.eight o c m)),
      );
      fails = λ a j h. ((λ p. omega (arith, p.2, k.above j p.0 p.1)), λ l. (v j, tops_worst v a d k j h l, l));
      noted = λ o c h. tops_note v d o c h k;
      joined = λ w e. tops_join v w d e k;
    }
