-- The touch record that a value is, its age, and which keys the cold list names. Assumes nothing.
use Rattle.std.specs.Prelude.{Bool, not, ◌&&◌, ◌||◌, List, [], ◌∷◌, ◌++◌, ℕ, zero, suc, ◌+◌, ◌*◌, ◌-◌, ◌/◌, ◌%◌, ◌^◌, eqb, ltb, length, replicate}
use Rattle.clock.specs.Map.{when◌then◌else◌}
use Rattle.layout.specs.State.{State, Entry}

-- "bits from the top: hour (16), toucher (3), tier (2), eleven zero bits"
abbrev pub hour_of : ℕ → ℕ
hour_of v = v / 2 ^ 16

abbrev pub toucher_of : ℕ → ℕ
toucher_of v = v / 2 ^ 13 % 2 ^ 3

abbrev pub tier_of : ℕ → ℕ
tier_of v = v / 2 ^ 11 % 2 ^ 2

abbrev pub touch_of : (hour toucher tier : ℕ) → ℕ
touch_of h u r = h * 2 ^ 16 + u * 2 ^ 13 + r * 2 ^ 11

-- "0 user, 1 backup scan, 2 migration, 3 restore"; "any other form is malformed"
abbrev pub well_formed : ℕ → Bool
well_formed v = ltb (toucher_of v) 4 && eqb (v % 2 ^ 11) 0

-- "with the old hour for toucher 1 or 2, else now"
abbrev pub keeps_hour : (toucher : ℕ) → Bool
keeps_hour u = eqb u 1 || eqb u 2

abbrev pub touched : (old now toucher tier : ℕ) → ℕ
touched v now u r = touch_of (when keeps_hour u then hour_of v else now) u r

-- neither a "never-written key" nor a "malformed record"
abbrev pub recorded : Entry → Bool
recorded e = not (eqb e.clock 0) && well_formed e.value

-- "age is now minus hour, modulo 65,536"
abbrev pub age : (now hour : ℕ) → ℕ
age now h = (now + 2 ^ 16 - h) % 2 ^ 16

-- what the cold list makes of a key
pub data Kind : Type 0 where
  never : Kind
  malformed : Kind
  fresh : Kind
  cold : Kind
  ahead : Kind

-- "cold when its age is from the threshold T to 32,767; a greater age is a clock ahead"
abbrev pub aged : (threshold age : ℕ) → Kind
aged T a = when ltb 32767 a then ahead else when ltb a T then fresh else cold

abbrev pub kind_of : (now threshold value : ℕ) → Kind
kind_of now T v = when well_formed v then aged T (age now (hour_of v)) else malformed

unfoldable pub kind : (now threshold : ℕ) → Entry → Kind
kind now T e = when eqb e.clock 0 then never else kind_of now T e.value

-- whether two kinds are the same
abbrev pub tag : Kind → ℕ
tag never = 0
tag malformed = 1
tag fresh = 2
tag cold = 3
tag ahead = 4

abbrev pub is : Kind → Kind → Bool
is j i = eqb (tag j) (tag i)

-- the numbers below m that pass a test, ascending
unfoldable pub chosen : (ℕ → Bool) → ℕ → List ℕ
chosen p zero = []
chosen p (suc m) = chosen p m ++ (when p m then m ∷ [] else [])

-- the kinds of the keys at s, and the keys of one kind
abbrev pub kinds_at : State → (s now threshold : ℕ) → ℕ → Kind
kinds_at S s now T x = kind now T (S.store s x)

abbrev pub keys_of : Kind → State → (s now threshold : ℕ) → List ℕ
keys_of j S s now T = chosen (λ x. is j (kinds_at S s now T x)) S.k

-- "The list goes, keys ascending, to a lent 64-byte buffer, the rest of it zero"
abbrev pub padded : List ℕ → List ℕ
padded l = l ++ replicate (64 - length l) 0

unfoldable pub cold_list : State → (s now threshold : ℕ) → List ℕ
cold_list S s now T = padded (keys_of cold S s now T)
