-- Which of two puts is the higher, as `lookup` and UPDATE judge it. Assumes nothing.
use mathlib.Core.Path.{◌≡◌, refl, ap}
use mathlib.Core.Bool.{Bool, true, ◌&&◌, ◌||◌}
use mathlib.Core.Logic.{◌↔◌}
use Prim.Native.Nat.{ℕ}
use lib.Dec.{eqb, ltb, leb}
use Rattle.clock.specs.Map.{when◌then◌else◌}
use Rattle.clock.proofs.Says.{Says, says_same, says_eq, says_lt, says_le, says_and, says_or}
use Rattle.laws.proofs.Ranks.{Under}
use Rattle.causal.specs.World.{Set, Rank, Answer, never, wrote, nth, Replaces}
use Rattle.causal.specs.History.{Names, Ranks, higher}
use Rattle.causal.proofs.Updates.{Updates, Issued}
use Rattle.causal.proofs.Ranking.{rank_one}

-- r has the rank of each update
abbrev pub Right : Ranks → Updates → Type 0
Right r u = (o c : ℕ) → Issued u o c → Rank (nth (u o) c).depends (r o c)

-- the test of `higher`
abbrev pub over : Ranks → (o' c' o c : ℕ) → Bool
over r o' c' o c = ltb (r o' c') (r o c) || (eqb (r o' c') (r o c) && leb o' o)

pub over_says : (r : Ranks) (o' c' o c : ℕ) → Says (over r o' c' o c) (Under (r o' c') o' (r o c) o)
over_says r o' c' o c = says_or (says_lt _ _) (says_and (says_eq _ _) (says_le _ _))

pub higher_new : (r : Ranks) (v' o' c' v o c : ℕ) → Under (r o' c') o' (r o c) o → higher r (wrote v' o' c') v o c ≡ wrote v o c
higher_new r v' o' c' v o c h = rw ((over_says r o' c' o c).1 h)

-- an update replaces an entry exactly where its put is the higher
pub judged : (r : Ranks) (w : Answer) (d e : Set) (v o c : ℕ) (b : Bool) → Rank d (r o c) → ((o' c' : ℕ) → Names w o' c' → Rank e (r o' c'))
    → ((b ≡ true) ↔ Replaces o d w e) → higher r w v o c ≡ (when b then wrote v o c else w)
judged r never d e v o c b p q k = rw (k.1 tt)
judged r (wrote v' o' c') d e v o c b p q k =
    ap (λ (t : Bool). when t then wrote v o c else wrote v' o' c')
    (says_same (over_says r o' c' o c) k (
      λ z. (r o c, r o' c', p, q o' c' (refl, refl), z),
      λ z. let (i, j, x, y, u) = z in rw (rank_one d (r o c) i p x, rank_one e (r o' c') j (q o' c' (refl, refl)) y) u,
    ))
