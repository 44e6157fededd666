-- Chapar's figure 7: worlds (its tuples, as maps by site), labels, and the rules PUT, GET and UPDATE, without the clients' statements;
-- GET in two, LOOK and ADOPT; PUT and UPDATE as request (e) amends them, with ranks; and RETIRE. Assumes nothing.
use Rattle.std.specs.Prelude.{◌≡◌, Bool, true, List, [], ◌∷◌, ◌++◌, ◌⊎◌, ◌↔◌, ◌≢◌, ℕ, suc, ◌-◌, ◌≤◌, ◌<◌, length, get_or}
use Rattle.clock.specs.Map.{when◌then◌else◌, ◌⟨◌≔◌⟩, ◌⟨◌⟩⟨◌≔◌⟩}
use Rattle.clock.specs.Vector.{Vector, rank}

-- D: a set of puts, each named by the pair of its site and its clock
abbrev pub Set : Type 1
Set = ℕ → ℕ → Type 0

abbrev pub ∅ : Set
∅ o c = ⊥

abbrev pub just : ℕ → ℕ → Set
just o c o' c' = (o' ≡ o) × (c' ≡ c)

infixl 60 ◌∪◌
abbrev pub ◌∪◌ : Set → Set → Set
◌∪◌ d e o c = d o c ⊎ e o c

-- "the greatest clock in the set, and 0 when there is none", for each site, over all eight columns
pub record Tops (v : Vector) (d : Set) : Type 0 where
  pub eight : (o c : ℕ) → d o c → o < 8
  pub above : (o c : ℕ) → d o c → c ≤ v o
  pub met : (o : ℕ) → o < 8 → (v o ≡ 0) ⊎ d o (v o)

-- the rank of a put with the set d: the sum, over sites, of these
abbrev pub Rank : Set → ℕ → Type 0
Rank d r = (v : Vector) × Tops v d × (r ≡ rank v)

-- U: what a put sends
pub record Update : Type 1 where
  pub key : ℕ
  pub value : ℕ
  pub depends : Set

-- what a get answers: the value with its put's site and clock, or the dummy of a key never written
pub data Answer : Type 0 where
  never : Answer
  wrote : (value origin clock : ℕ) → Answer

-- M: what a store has for a key
pub record Entry : Type 1 where
  pub answer : Answer
  pub depends : Set

-- for each site: d, the list u of its puts, the applied counts a by site, the store m by key
pub record World : Type 1 where
  pub depends : ℕ → Set
  pub updates : ℕ → List Update
  pub applied : ℕ → ℕ → ℕ
  pub store : ℕ → ℕ → Entry

-- the update with clock c of a list: clocks are counted from 1
abbrev pub nth : List Update → ℕ → Update
nth u c = get_or u (c - 1) (record { key = 0; value = 0; depends = ∅ })

-- u₂[a₁(n₂)]: the update that s is to apply next from o, and its clock
abbrev pub due : World → (s o : ℕ) → ℕ
due W s o = suc (W.applied s o)

abbrev pub waiting : World → (s o : ℕ) → Update
waiting W s o = nth (W.updates o) (due W s o)

-- {(n'', c'')} ∪ d'' of an answer, and nothing of the dummy
abbrev pub learned : Answer → Set → Set
learned never d = ∅
learned (wrote v o c) d = just o c ∪ d

-- what the steps leave; |u'| is the clock of the put, which "first takes on the dependence of the entry it overwrites, as a get would"
abbrev pub with_put : World → (s x v : ℕ) → World
with_put W s x v =
    let c = suc (length (W.updates s)) in
    let d = W.depends s ∪ learned (W.store s x).answer (W.store s x).depends in
    record {
      depends = W.depends ⟨ s ≔ d ∪ just s c ⟩;
      updates = W.updates ⟨ s ≔ W.updates s ++ (record { key = x; value = v; depends = d } ∷ []) ⟩;
      applied = W.applied ⟨ s ⟩⟨ s ≔ suc (W.applied s s) ⟩;
      store = W.store ⟨ s ⟩⟨ x ≔ record { answer = wrote v s c; depends = d } ⟩;
    }

abbrev pub with_get : World → (s x : ℕ) → World
with_get W s x =
    let e = W.store s x in
    record { depends = W.depends ⟨ s ≔ W.depends s ∪ learned e.answer e.depends ⟩; updates = W.updates; applied = W.applied; store = W.store }

-- the update replaces the entry; "otherwise only the applied count rises"
abbrev pub with_update : World → (s o : ℕ) → (replaces : Bool) → World
with_update W s o replaces =
    let u = waiting W s o in
    record {
      depends = W.depends;
      updates = W.updates;
      applied = W.applied ⟨ s ⟩⟨ o ≔ due W s o ⟩;
      store = when replaces then W.store ⟨ s ⟩⟨ u.key ≔ record { answer = wrote u.value o (due W s o); depends = u.depends } ⟩ else W.store;
    }

-- an update of o with the set d replaces what the answer and the set e say: "if that is never written, or if the update's rank is higher,
-- or equal with an origin not lower"
abbrev pub Replaces : (o : ℕ) → (d : Set) → Answer → (e : Set) → Type 0
Replaces o d never e = Unit {0}
Replaces o d (wrote v o' c') e = (r : ℕ) × (r' : ℕ) × Rank d r × Rank e r' × ((r' < r) ⊎ ((r' ≡ r) × (o' ≤ o)))

-- UPDATE's premises: a₁(n₂) < |u₂|; and for each pair in the update's set, the count of that site is at least the clock
abbrev pub Behind : World → (s o : ℕ) → Type 0
Behind W s o = W.applied s o < length (W.updates o)

abbrev pub CausesApplied : World → (s o : ℕ) → Type 0
CausesApplied W s o = (o' c' : ℕ) → (waiting W s o).depends o' c' → c' ≤ W.applied s o'

-- the labels
pub data Event : Type 0 where
  put : (site key value clock : ℕ) → Event
  get : (site key : ℕ) → Answer → Event
  look : (site key : ℕ) → Answer → Event
  adopt : (site key : ℕ) → Answer → Event
  update : (site origin clock key value : ℕ) → Event
  retire : (site : ℕ) → Event

-- the site that acts; of an update, the receiver
abbrev pub acting : Event → ℕ
acting (put s x v c) = s
acting (get s x a) = s
acting (look s x a) = s
acting (adopt s x a) = s
acting (update s o c x v) = s
acting (retire s) = s

-- one step of n sites and k keys
pub data Step (n k : ℕ) (W : World) : Event → World → Type 1 where
  PUT : (s x v : ℕ) → s < n → x < k → Step n k W (put s x v (suc (length (W.updates s)))) (with_put W s x v)
  GET : (s x : ℕ) → s < n → x < k → Step n k W (get s x (W.store s x).answer) (with_get W s x)
  -- GET's answer and no change; GET's change
  LOOK : (s x : ℕ) → s < n → x < k → Step n k W (look s x (W.store s x).answer) W
  ADOPT : (s x : ℕ) → s < n → x < k → Step n k W (adopt s x (W.store s x).answer) (with_get W s x)
  UPDATE : (s o : ℕ) (b : Bool) → s < n → o < n → s ≢ o → Behind W s o → CausesApplied W s o
      → (let u = waiting W s o in let e = W.store s u.key in (b ≡ true) ↔ Replaces o u.depends e.answer e.depends)
      → Step n k W (update s o (due W s o) (waiting W s o).key (waiting W s o).value) (with_update W s o b)
  -- no step of figure 7: the history says who is live
  RETIRE : (s : ℕ) → s < n → Step n k W (retire s) W

-- before any step
abbrev pub start : World
start = record { depends = λ s. ∅; updates = λ s. []; applied = λ s o. 0; store = λ s x. record { answer = never; depends = ∅ } }

-- the steps from the start to W have the labels h, the newest first
pub data Run (n k : ℕ) : List Event → World → Type 1 where
  begin : Run n k [] start
  more : {h : List Event} {W W' : World} {e : Event} → Run n k h W → Step n k W e W' → Run n k (e ∷ h) W'
