-- The parts of the soundness test, over numbers that the code has at hand. None need be believed: the check promises the
-- rules' own `sound`, and these are only what its parts promise each other. Assumes nothing.
use Rattle.std.specs.Prelude.{Bool, ◌&&◌, ◌||◌, ℕ, suc, ◌+◌, ◌-◌, ◌^◌, eqb, ltb, leb}
use Rattle.clock.specs.Map.{when◌then◌else◌, all}
use Rattle.clock.specs.Vector.{Vector}
use Rattle.layout.specs.State.{State, Entry, Update}
use Rattle.rules.specs.Live.{gone}
use Rattle.rules.specs.Sound.{blank, smallest, place}
use Rattle.sound.specs.declared.Stray.{Stray}

-- n and k are in range
abbrev pub range_in : (n k : ℕ) → Bool
range_in n k = leb 1 n && leb n 8 && leb 1 k && leb k 64

-- retired sites are all below n and not all n, which one number tells, and byte 3 is zero
abbrev pub header_in : (n k retired byte3 : ℕ) → Bool
header_in n k y z = range_in n k && ltb (suc y) (2 ^ n) && eqb z 0

-- its origin is below n and its clock is from 1 to applied[s][origin], with row the applied row of s
abbrev pub put_in : (n : ℕ) → Vector → Entry → Bool
put_in n row e = ltb e.origin n && leb 1 e.clock && leb e.clock (row e.origin)

-- the entry is 24 zero bytes, or that
abbrev pub written_in : (n : ℕ) → Vector → Entry → Bool
written_in n row e = blank e || put_in n row e

-- an origin below n, and at most the count that row has of it
abbrev pub applied_in : (n : ℕ) → Vector → (origin clock : ℕ) → Bool
applied_in n row o c = ltb o n && leb c (row o)

-- nothing stands where zeros belong
abbrev pub none_in : Stray → Bool
none_in z = eqb z.head 0 && eqb z.left 0 && eqb z.right 0

-- for s below n and each key below k
abbrev pub entries_in : State → (n k : ℕ) → Bool
entries_in S n k = all n (λ s. all k (λ x. written_in n (S.applied s) (S.store s x)))

-- applied[s][o] of a live site; a retired one counts as the origin itself
abbrev pub count_in : State → (o s : ℕ) → ℕ
count_in S o s = when gone S s then S.applied o o else S.applied s o

-- the smallest of these over sites s below n
abbrev pub lowest_in : State → (n o : ℕ) → ℕ
lowest_in S n o = smallest n (count_in S o) (S.applied o o)

-- the place of c holds clock c and a key below k
abbrev pub held_in : (k c : ℕ) → Update → Bool
held_in k c u = eqb u.clock c && ltb u.key k

-- each clock c above the smallest, up to applied[o][o]
abbrev pub retained_in : State → (k o low top : ℕ) → Bool
retained_in S k o low top = all (top - low) (λ i. held_in k (low + suc i) (S.updates o (place (low + suc i))))

-- the smallest is less than applied[o][o] by at most 16, so the others are too
abbrev pub lag_in : State → (k o low top : ℕ) → Bool
lag_in S k o low top = leb top (low + 16) && retained_in S k o low top

-- for sites s below n: applied[s][o] is at most applied[o][o]; and what o's smallest count asks
abbrev pub origin_in : State → (n k o : ℕ) → Bool
origin_in S n k o = all n (λ s. leb (S.applied s o) (S.applied o o)) && lag_in S k o (lowest_in S n o) (S.applied o o)

abbrev pub origins_in : State → (n k : ℕ) → Bool
origins_in S n k = all n (origin_in S n k)

-- all but the header
abbrev pub body_in : State → (n k : ℕ) → Bool
body_in S n k = entries_in S n k && origins_in S n k
