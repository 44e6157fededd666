-- A world for each table: the sets and lists that its numbers stand for. Assumes nothing.
use mathlib.Core.Path.{◌≡◌, refl, sym, ap, ◌∙◌}
use mathlib.Core.List.{List, [], ◌∷◌, ◌++◌}
use mathlib.Core.Logic.{inl, inr, ⊎_elim, ◌≢◌}
use Prim.Native.Nat.{ℕ, zero, suc, ◌-◌, ◌≤◌, ◌<◌}
use native.Mathlib.Omega.{arith}
use lib.ListN.{length, length-append, get_or-append}
use Rattle.clock.specs.Vector.{Vector}
use Rattle.clock.proofs.Maps.{eq?}
use Rattle.layout.specs.State.{State}
use Rattle.rules.specs.Sound.{place}
use Rattle.rules.specs.Steps.{opened}
use Rattle.causal.specs.World as w
use Rattle.causal.specs.World.{Set, Tops, World, nth, start}
use Rattle.causal.specs.Refines.{answer, Abstracts}
use Rattle.causal.proofs.Updates.{blank, newest, le_suc_cases}
use Rattle.causal.proofs.Vectors.{tops_none}

-- the pairs of the columns that are not 0
set_of : Vector → Set
set_of v o c = (o < 8) × (1 ≤ c) × (c ≡ v o)

tops_set : (v : Vector) → Tops v (set_of v)
unfolding set_of
tops_set v =
    record {
      eight = λ o c h. h.0;
      above = λ o c h. omega (arith, h.2);
      met = λ o h. ⊎_elim inl (λ (p : v o ≢ 0). inr (h, omega arith, refl)) (eq? (v o) 0);
    }

-- the list of the updates 1 to m
listed : (ℕ → w.Update) → ℕ → List w.Update
listed f zero = []
listed f (suc m) = listed f m ++ (f (suc m) ∷ [])

listed_length : (f : ℕ → w.Update) (m : ℕ) → length (listed f m) ≡ m
unfolding listed
listed_length f zero = refl
listed_length f (suc m) = omega (arith, length-append (listed f m) (f (suc m) ∷ []), listed_length f m)

listed_nth : (f : ℕ → w.Update) (m c : ℕ) → 1 ≤ c → c ≤ m → nth (listed f m) c ≡ f c
unfolding listed
listed_nth f zero c p q = absurd (omega arith)
listed_nth f (suc m) c p q =
    ⊎_elim
    (λ (l : c ≤ m). get_or-append (listed f m) (f (suc m) ∷ []) blank (c - 1) (omega (arith, listed_length f m)) ∙ listed_nth f m c p l)
    (λ (e : c ≡ suc m).
    let y : c ≡ suc (length (listed f m)) = omega (arith, listed_length f m) in
    ap (λ (z : ℕ). nth (listed f m ++ (f (suc m) ∷ [])) z) y ∙ newest (listed f m) (f (suc m)) ∙ ap f (sym e))
    (le_suc_cases c m q)

pub meaning : State → World
meaning S =
    record {
      depends = λ s. set_of (S.depends s);
      updates = λ o. listed (λ c. let u = S.updates o (place c) in record { key = u.key; value = u.value; depends = set_of u.depends }) (S.applied o o);
      applied = S.applied;
      store = λ s x. let e = S.store s x in record { answer = answer e.value e.origin e.clock; depends = set_of e.depends };
    }

pub meaning_abstracts : (S : State) → Abstracts S (meaning S)
unfolding meaning
meaning_abstracts S =
    record {
      applied = λ s o p q. refl;
      depends = λ s p. tops_set (S.depends s);
      answers = λ s x p q. refl;
      store = λ s x p q. tops_set _;
      count = λ o p. listed_length _ (S.applied o o);
      updates = λ o c p r. rw (listed_nth _ (S.applied o o) c (omega (arith, r.lacks)) r.made) (refl, refl, tops_set _);
    }

pub open_abstracts : (n k : ℕ) → Abstracts (opened n k) start
unfolding opened
open_abstracts n k =
    record {
      applied = λ s o p q. refl;
      depends = λ s p. tops_none;
      answers = λ s x p q. refl;
      store = λ s x p q. tops_none;
      count = λ o p. refl;
      updates = λ o c p r. absurd (omega (arith, r.made, r.lacks));
    }
