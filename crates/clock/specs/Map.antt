-- Choosing by a test, maps with one place changed, tests of every number below a bound, masks of those that pass, and sums. Assumes nothing.
use Rattle.std.specs.Prelude.{Bool, true, false, ◌&&◌, ◌||◌, ℕ, zero, suc, ◌+◌, ◌/◌, ◌%◌, ◌^◌, eqb, ltb}

infix 20 when◌then◌else◌
abbrev pub when◌then◌else◌ {ℓ} : {A : Type ℓ} → Bool → A → A → A
when◌then◌else◌ true a b = a
when◌then◌else◌ false a b = b

-- the map f, with a at i
infixl 90 ◌⟨◌≔◌⟩
abbrev pub ◌⟨◌≔◌⟩ {ℓ} : {A : Type ℓ} → (ℕ → A) → ℕ → A → ℕ → A
◌⟨◌≔◌⟩ f i a j = when eqb i j then a else f j

-- the map of maps f, with a at j of i
infixl 90 ◌⟨◌⟩⟨◌≔◌⟩
abbrev pub ◌⟨◌⟩⟨◌≔◌⟩ {ℓ} : {A : Type ℓ} → (ℕ → ℕ → A) → ℕ → ℕ → A → ℕ → ℕ → A
◌⟨◌⟩⟨◌≔◌⟩ f i j a = f ⟨ i ≔ f i ⟨ j ≔ a ⟩ ⟩

-- below i the map v, from i on the map w
abbrev pub up_to {ℓ} : {A : Type ℓ} → ℕ → (ℕ → A) → (ℕ → A) → ℕ → A
up_to i v w j = when ltb j i then v j else w j

-- whether a test passes at every number below m, and at some number below m
unfoldable pub all : ℕ → (ℕ → Bool) → Bool
all zero p = true
all (suc m) p = all m p && p m

unfoldable pub any : ℕ → (ℕ → Bool) → Bool
any zero p = false
any (suc m) p = any m p || p m

-- the least number below m at which a test passes, and m where there is none
unfoldable pub least : ℕ → (ℕ → Bool) → ℕ
least zero p = 0
least (suc m) p = when any m p then least m p else when p m then m else suc m

-- the sum of 2 to the power j over the numbers j below m at which a test passes
unfoldable pub mask : ℕ → (ℕ → Bool) → ℕ
mask zero p = 0
mask (suc m) p = mask m p + (when p m then 2 ^ m else 0)

-- whether the bit of b that is worth 2 to the power j is set
unfoldable pub bit : ℕ → ℕ → Bool
bit b zero = eqb (b % 2) 1
bit b (suc j) = bit (b / 2) j

-- the sum of f at the numbers below m
unfoldable pub sum : ℕ → (ℕ → ℕ) → ℕ
sum zero f = 0
sum (suc m) f = sum m f + f m
