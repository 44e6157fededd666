-- What an order says of what its site made and was handed: exactly that is applied, and nothing comes to a site from itself. Assumes nothing.
use mathlib.Core.Path.{◌≡◌, refl, subst}
use mathlib.Core.List.{List, [], ◌∷◌, ◌++◌}
use mathlib.Core.Bool.{Bool, true, false}
use mathlib.Core.Logic.{◌⊎◌, inl, inr, ⊎_elim}
use Prim.Native.Nat.{ℕ}
use lib.Dec.{eqb}
use borrow.Author.Tests.{eqb-true, eq-eqb}
use Rattle.clock.specs.Map.{when◌then◌else◌}
use Rattle.clock.specs.Lists.{◌∈◌, Before}
use Rattle.causal.specs.World.{Event, put, get, look, adopt, update, retire}
use Rattle.causal.specs.History.{History, Ranks, Op, Write, op, order, Ordered, AppliedExactly}
use Rattle.causal.proofs.Updates.{clash, earlier_in}

-- ## The order, as its history has it

in_append : {A : Type 0} (a : A) (l m : List A) → a ∈ (l ++ m) → (a ∈ l) ⊎ (a ∈ m)
in_append a [] m q = inr q
in_append a (x ∷ l) m (inl q) = inl (inl q)
in_append a (x ∷ l) m (inr q) = ⊎_elim (λ r. inl (inr r)) inr (in_append a l m q)

pub in_right : {A : Type 0} (a : A) (l m : List A) → a ∈ m → a ∈ (l ++ m)
in_right a [] m q = q
in_right a (x ∷ l) m q = inr (in_right a l m q)

-- what stands in a list of at most one
one : {A : Type 0} (i : Bool) (a b : A) → a ∈ (when i then b ∷ [] else []) → (i ≡ true) × (a ≡ b)
one true a b (inl r) = (refl, r)
one true a b (inr r) = absurd r
one false a b r = absurd r

op_is : (s : ℕ) (e : Event) (o c x v : ℕ) → Write o c x v ∈ op s e → ((o ≡ s) × (put o x v c ≡ e)) ⊎ (update s o c x v ≡ e)
unfolding op
op_is s (put t y w b) o c x v q = let (i, r) = one (eqb t s) _ _ q in let z : t ≡ s = eqb-true t s i in inl ((cc), (cc))
op_is s (get t y a) o c x v q = let r = (one (eqb t s) _ _ q).1 in clash (cc)
op_is s (look t y a) o c x v q = let r = (one (eqb t s) _ _ q).1 in clash (cc)
op_is s (adopt t y a) o c x v q = absurd q
op_is s (retire t) o c x v q = absurd q
op_is s (update t o₁ b y w) o c x v q = let (i, r) = one (eqb t s) _ _ q in let z : t ≡ s = eqb-true t s i in inr (cc)

pub came : (s : ℕ) (h : History) (o c x v : ℕ) → Write o c x v ∈ order s h → ((o ≡ s) × put o x v c ∈ h) ⊎ (update s o c x v ∈ h)
unfolding order
came s [] o c x v q = absurd q
came s (e ∷ h) o c x v q =
    ⊎_elim
    (λ (r : Write o c x v ∈ op s e). ⊎_elim (λ z. inl (z.0, inl z.1)) (λ z. inr (inl z)) (op_is s e o c x v r))
    (λ (r : Write o c x v ∈ order s h). ⊎_elim (λ z. inl (z.0, inr z.1)) (λ z. inr (inr z)) (came s h o c x v r))
    (in_append (Write o c x v) (op s e) (order s h) q)

-- what came before something stands behind the newest
pub behind : {A : Type 0} (x : A) (l : List A) (a b : A) → Before (x ∷ l) a b → a ∈ l
behind x l a b (inl p) = p.1
behind x l a b (inr p) = earlier_in l a b p

before_right : {A : Type 0} (a b : A) (l m : List A) → Before m a b → Before (l ++ m) a b
before_right a b [] m q = q
before_right a b (x ∷ l) m q = inr (before_right a b l m q)

-- ## An event's place in the order

module _ (s : ℕ) where
  pub own : (o c x v : ℕ) → o ≡ s → op s (put o x v c) ≡ Write o c x v ∷ []
  unfolding op
  own o c x v e = rw (eq-eqb o s e)

  pub arrived : (o c x v : ℕ) → op s (update s o c x v) ≡ Write o c x v ∷ []
  unfolding op
  arrived o c x v = rw (eq-eqb s s refl)

  pub stands : (a : Op) (e : Event) → op s e ≡ a ∷ [] → (h : History) → e ∈ h → a ∈ order s h
  unfolding order
  stands a e k [] q = absurd q
  stands a e k (f ∷ h) (inl q) = subst (λ (z : Event). a ∈ (op s z ++ order s h)) q (rw k (inl refl))
  stands a e k (f ∷ h) (inr q) = in_right a (op s f) (order s h) (stands a e k h q)

  pub stands_before : (a b : Op) (e f : Event) → op s e ≡ a ∷ [] → op s f ≡ b ∷ [] → (h : History) → Before h e f → Before (order s h) a b
  unfolding order
  stands_before a b e f k l [] q = absurd q
  stands_before a b e f k l (g ∷ h) (inl q) =
      subst (λ (z : Event). Before (op s z ++ order s h) a b) q.0 (rw l (inl (refl, stands a e k h q.1)))
  stands_before a b e f k l (g ∷ h) (inr q) = before_right a b (op s g) (order s h) (stands_before a b e f k l h q)

-- ## An order

-- what came to a site from itself would stand twice: as its put, and as handed
pub not_from_itself : (r : Ranks) (h : History) (s c x v : ℕ) → update s s c x v ∈ h → Ordered r h s → ⊥
not_from_itself r h s c x v q O =
    O.once s c x v x v
    (stands_before s (Write s c x v) (Write s c x v) (put s x v c) (update s s c x v) (own s s c x v refl) (arrived s s c x v) h (O.put_first s c x v q))

pub applied_exactly : AppliedExactly
applied_exactly r h s O o c x v = (
  λ q.
      ⊎_elim
      (λ p. (p.1, inl p.0))
      (λ p. (earlier_in h (put o x v c) (update s o c x v) (O.put_first o c x v p), inr p))
      (came s h o c x v q),
  λ p.
      ⊎_elim
      (λ e. stands s (Write o c x v) (put o x v c) (own s o c x v e) h p.0)
      (λ q. stands s (Write o c x v) (update s o c x v) (arrived s o c x v) h q)
      p.1,
)
