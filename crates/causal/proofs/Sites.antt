-- One site over the updates of all: what holds of its sets, counts, store and order, and how a write, a look and an adopt keep it. Assumes nothing.
use mathlib.Core.Path.{◌≡◌, refl, sym, ap, subst, ◌∙◌}
use mathlib.Core.Bool.{Bool, true, false, ◌&&◌, ◌||◌}
use mathlib.Core.List.{List, [], ◌∷◌}
use mathlib.Core.Logic.{◌⊎◌, ◌↔◌, inl, inr, ⊎_elim}
use Prim.Native.Nat.{ℕ, suc, ◌≤◌}
use native.Mathlib.Omega.{arith}
use lib.Dec.{eqb, ltb, leb}
use lib.ListN.{length}
use borrow.Author.Tests.{eqb-true}
use Rattle.clock.specs.Map.{when◌then◌else◌, ◌⟨◌≔◌⟩}
use Rattle.clock.proofs.Maps.{choice, at_is, at_same}
use Rattle.causal.specs.World.{Set, ◌∪◌, Update, Answer, never, wrote, Entry, nth, learned, World}
use Rattle.clock.specs.Lists.{◌∈◌, Before}
use Rattle.causal.proofs.Updates.{clash, earlier_in, Updates, Issued, Closed, learned_is, learned_set, Extends, closed_more, le_suc_cases, nth_at, more_most}
use Rattle.causal.specs.History.{Names, Op, Write, Read, Ranks, higher, lookup, Reads}

-- ## A site

-- a site's dependencies d, applied counts a, store m and order l: its puts are the updates counted, each once and after
-- its set; an entry has its put's set, and the store has the highest-ranked put of each key
pub record Site (r : Ranks) (u : Updates) (d : Set) (a : ℕ → ℕ) (m : ℕ → Entry) (l : List Op) : Type 0 where
  pub most : (o : ℕ) → a o ≤ length (u o)
  pub closed : Closed u d
  pub have : (o c : ℕ) → d o c → c ≤ a o
  pub sets : (x o c : ℕ) → Names (m x).answer o c → (o' c' : ℕ) → (m x).depends o' c' ↔ (nth (u o) c).depends o' c'
  pub seen : (o c x v : ℕ) → Write o c x v ∈ l → (1 ≤ c) × (c ≤ a o) × ((nth (u o) c).key ≡ x) × ((nth (u o) c).value ≡ v)
  pub shown : (o c : ℕ) → 1 ≤ c → c ≤ a o → Write o c (nth (u o) c).key (nth (u o) c).value ∈ l
  pub after : (o c x v o' c' : ℕ) → Write o c x v ∈ l → (nth (u o) c).depends o' c' → (x' : ℕ) × (v' : ℕ) × Before l (Write o' c' x' v') (Write o c x v)
  pub once : (o c x v x' v' : ℕ) → Before l (Write o c x v) (Write o c x' v') → ⊥
  pub reads : Reads r l
  pub table : (x : ℕ) → (m x).answer ≡ lookup r x l

-- that of a world
abbrev pub SiteOf : Ranks → World → (s : ℕ) → List Op → Type 0
SiteOf r W s = Site r W.updates (W.depends s) (W.applied s) (W.store s)

-- ## What a site holds

higher_is : (r : Ranks) (w : Answer) (v o c : ℕ) → (higher r w v o c ≡ wrote v o c) ⊎ (higher r w v o c ≡ w)
higher_is r never v o c = inl refl
higher_is r (wrote v' o' c') v o c =
    choice (ltb (r o' c') (r o c) || (eqb (r o' c') (r o c) && leb o' o)) (λ (w : Answer). (w ≡ wrote v o c) ⊎ (w ≡ wrote v' o' c')) (λ e. inl refl) (λ e. inr refl)

-- it is one of the writes
pub lookup_in : (r : Ranks) (x : ℕ) (l : List Op) (v o c : ℕ) → lookup r x l ≡ wrote v o c → Write o c x v ∈ l
lookup_in r x [] v o c e = clash (cc)
lookup_in r x (Read y w ∷ l) v o c e = inr (lookup_in r x l v o c e)
lookup_in r x (Write o' c' y v' ∷ l) v o c e = go (eqb y x) refl e (lookup_in r x l v o c)
  where
    go : (b : Bool) → eqb y x ≡ b → (when b then higher r (lookup r x l) v' o' c' else lookup r x l) ≡ wrote v o c
        → (lookup r x l ≡ wrote v o c → Write o c x v ∈ l) → Write o c x v ∈ (Write o' c' y v' ∷ l)
    go true p q f = ⊎_elim (λ i. let z : y ≡ x = eqb-true y x p in inl (cc)) (λ i. inr (f (sym i ∙ q))) (higher_is r (lookup r x l) v' o' c')
    go false p q f = inr (f q)

named_is : (w : Answer) (o c : ℕ) → Names w o c → (v : ℕ) × (w ≡ wrote v o c)
named_is never o c k = absurd k
named_is (wrote v o' c') o c k = (v, (cc))

module _ {r : Ranks} {u : Updates} {d : Set} {a : ℕ → ℕ} {m : ℕ → Entry} {l : List Op} (S : Site r u d a m l) (x o c : ℕ) (k : Names (m x).answer o c) where
  pub held_of : (v : ℕ) × Write o c x v ∈ l
  held_of = let n = named_is (m x).answer o c k in (n.0, lookup_in r x l n.0 o c (sym (S.table x) ∙ n.1))

  pub held_applied : (1 ≤ c) × (c ≤ a o)
  held_applied = let w = S.seen o c x held_of.0 held_of.1 in (w.0, w.1)

  pub held_issued : Issued u o c
  held_issued = (held_applied.0, omega (arith, held_applied.1, S.most o))

  -- with its causes
  held_causes : (o' c' : ℕ) → (m x).depends o' c' → c' ≤ a o'
  held_causes o' c' p =
      let b = S.after o c x held_of.0 o' c' held_of.1 ((S.sets x o c k o' c').0 p) in
      (S.seen o' c' b.0 b.1 (earlier_in l _ _ b.2)).1

-- ## One more write at a site

-- the counts a, with one more of o
infixl 90 ◌↑◌
abbrev pub ◌↑◌ : (ℕ → ℕ) → ℕ → ℕ → ℕ
◌↑◌ a o = a ⟨ o ≔ suc (a o) ⟩

pub up_more : (a : ℕ → ℕ) (o o' c : ℕ) → c ≤ a o' → c ≤ (a ↑ o) o'
up_more a o o' c h = ⊎_elim (λ q. omega (arith, q.1, ap a q.0)) (λ q. omega (arith, q.1)) (at_is a o (suc (a o)) o')

up_less : (a : ℕ → ℕ) (o o' c : ℕ) → c ≤ (a ↑ o) o' → (c ≤ a o') ⊎ ((o' ≡ o) × (c ≡ suc (a o)))
up_less a o o' c h =
    ⊎_elim
    (λ q. ⊎_elim (λ (k : c ≤ a o). inl (omega (arith, ap a q.0))) (λ k. inr (sym q.0, k)) (le_suc_cases c (a o) (omega (arith, q.1))))
    (λ q. inl (omega (arith, q.1)))
    (at_is a o (suc (a o)) o')

write_inj : (o c x v o' c' x' v' : ℕ) → Write o c x v ≡ Write o' c' x' v' → (o ≡ o') × (c ≡ c') × (x ≡ x') × (v ≡ v')
write_inj o c x v o' c' x' v' e = ((cc), (cc), (cc), (cc))

-- the write replaces the entry of its key where it is the higher
module _ (r : Ranks) (u : Updates) (d d' : Set) (a : ℕ → ℕ) (m : ℕ → Entry) (l : List Op) (o : ℕ) (up : Update) (S : Site r u d a m l)
    (fits : suc (a o) ≤ length (u o)) (is : nth (u o) (suc (a o)) ≡ up) (ready : (o' c' : ℕ) → up.depends o' c' → (1 ≤ c') × (c' ≤ a o'))
    (closed' : Closed u d') (have' : (o' c' : ℕ) → d' o' c' → c' ≤ (a ↑ o) o') where
  write_most : (o' : ℕ) → (a ↑ o) o' ≤ length (u o')
  write_most o' =
      choice (eqb o o') (λ (z : ℕ). z ≤ length (u o')) (λ q. subst (λ (z : ℕ). suc (a o) ≤ length (u z)) (eqb-true o o' q) fits) (λ q. S.most o')

  abbrev new : Op
  new = Write o (suc (a o)) up.key up.value

  write_seen : (o' c x v : ℕ) → Write o' c x v ∈ (new ∷ l)
      → (1 ≤ c) × (c ≤ (a ↑ o) o') × ((nth (u o') c).key ≡ x) × ((nth (u o') c).value ≡ v)
  write_seen o' c x v (inl q) =
      let (p₀, p₁, p₂, p₃) = write_inj o' c x v o (suc (a o)) up.key up.value q in
      let n : nth (u o') c ≡ up = nth_at u o' o c (suc (a o)) up p₀ p₁ is in
      let k : (a ↑ o) o' ≡ suc (a o) = rw p₀ (at_same a o (suc (a o))) in
      (omega arith, omega arith, ap (λ (z : Update). z.key) n ∙ sym p₂, ap (λ (z : Update). z.value) n ∙ sym p₃)
  write_seen o' c x v (inr q) = let k = S.seen o' c x v q in (k.0, up_more a o o' c k.1, k.2, k.3)

  shown_eq : {o' c : ℕ} → (o' ≡ o) × (c ≡ suc (a o)) → Write o' c (nth (u o') c).key (nth (u o') c).value ≡ new
  shown_eq {o'} {c} p = let n : nth (u o') c ≡ up = nth_at u o' o c (suc (a o)) up p.0 p.1 is in cc

  write_shown : (o' c : ℕ) → 1 ≤ c → c ≤ (a ↑ o) o' → Write o' c (nth (u o') c).key (nth (u o') c).value ∈ (new ∷ l)
  write_shown o' c h k =
      ⊎_elim (λ (p : c ≤ a o'). inr (S.shown o' c h p)) (λ (p : (o' ≡ o) × (c ≡ suc (a o))). inl (shown_eq p)) (up_less a o o' c k)

  write_after : (o₁ c x v o' c' : ℕ) → Write o₁ c x v ∈ (new ∷ l) → (nth (u o₁) c).depends o' c'
      → (x' : ℕ) × (v' : ℕ) × Before (new ∷ l) (Write o' c' x' v') (Write o₁ c x v)
  write_after o₁ c x v o' c' (inl q) k =
      let (p₀, p₁, p₂, p₃) = write_inj o₁ c x v o (suc (a o)) up.key up.value q in
      let r = ready o' c' (subst (λ (z : Update). z.depends o' c') (nth_at u o₁ o c (suc (a o)) up p₀ p₁ is) k) in
      (_, _, inl (q, S.shown o' c' r.0 r.1))
  write_after o₁ c x v o' c' (inr q) k = let r = S.after o₁ c x v o' c' q k in (r.0, r.1, inr r.2)

  write_once : (o₁ c x v x' v' : ℕ) → Before (new ∷ l) (Write o₁ c x v) (Write o₁ c x' v') → ⊥
  write_once o₁ c x v x' v' (inl q) =
      let (p₀, p₁, p₂, p₃) = write_inj o₁ c x' v' o (suc (a o)) up.key up.value q.0 in
      omega (arith, (S.seen o₁ c x v q.1).1, ap a p₀)
  write_once o₁ c x v x' v' (inr q) = S.once o₁ c x v x' v' q

  abbrev fresh : Entry
  fresh = record { answer = wrote up.value o (suc (a o)); depends = up.depends }

  abbrev stores : Bool → ℕ → Entry
  stores b = when b then m ⟨ up.key ≔ fresh ⟩ else m

  write_sets : (b : Bool) (x o' c : ℕ) → Names (stores b x).answer o' c → (o'' c'' : ℕ) → (stores b x).depends o'' c'' ↔ (nth (u o') c).depends o'' c''
  write_sets false x o' c = S.sets x o' c
  write_sets true x o' c =
      choice (eqb up.key x) (λ (e : Entry). Names e.answer o' c → (o'' c'' : ℕ) → e.depends o'' c'' ↔ (nth (u o') c).depends o'' c'')
      (λ q k o'' c''. rw (nth_at u o' o c (suc (a o)) up k.0 k.1 is) ((λ z. z), λ z. z)) (λ q. S.sets x o' c)

  write_table : (b : Bool) → higher r (m up.key).answer up.value o (suc (a o)) ≡ (when b then fresh.answer else (m up.key).answer)
      → (x : ℕ) → (stores b x).answer ≡ lookup r x (new ∷ l)
  write_table true w x = go (eqb up.key x) refl
    where
      go : (i : Bool) → eqb up.key x ≡ i → (when i then fresh else m x).answer ≡ (when i then higher r (lookup r x l) up.value o (suc (a o)) else lookup r x l)
      go true e = sym (subst (λ (z : ℕ). higher r (lookup r z l) up.value o (suc (a o)) ≡ fresh.answer) (eqb-true up.key x e) (rw (← S.table up.key) w))
      go false e = S.table x
  write_table false w x = go (eqb up.key x) refl
    where
      go : (i : Bool) → eqb up.key x ≡ i → (m x).answer ≡ (when i then higher r (lookup r x l) up.value o (suc (a o)) else lookup r x l)
      go true e = sym (subst (λ (z : ℕ). higher r (lookup r z l) up.value o (suc (a o)) ≡ (m z).answer) (eqb-true up.key x e) (rw (← S.table up.key) w))
      go false e = S.table x

  pub write_site : (b : Bool) → higher r (m up.key).answer up.value o (suc (a o)) ≡ (when b then fresh.answer else (m up.key).answer)
      → Site r u d' (a ↑ o) (stores b) (new ∷ l)
  write_site b w =
      record {
        most = write_most;
        closed = closed';
        have = have';
        sets = write_sets b;
        seen = write_seen;
        shown = write_shown;
        after = write_after;
        once = write_once;
        reads = S.reads;
        table = write_table b w;
      }

-- ## A look and an adopt at a site

-- in the order, a read of what the store has
pub look_site : {r : Ranks} {u : Updates} {d : Set} {a : ℕ → ℕ} {m : ℕ → Entry} {l : List Op} (x : ℕ) → Site r u d a m l → Site r u d a m (Read x (m x).answer ∷ l)
look_site x S =
    record {
      most = S.most;
      closed = S.closed;
      have = S.have;
      sets = S.sets;
      seen = λ o c y v. ⊎_elim (λ q. clash (cc)) (S.seen o c y v);
      shown = λ o c h k. inr (S.shown o c h k);
      after = λ o c y v o' c' q k. let b = S.after o c y v o' c' (⊎_elim (λ e. clash (cc)) (λ e. e) q) k in (b.0, b.1, inr b.2);
      once = λ o c y v y' v'. ⊎_elim (λ q. clash (cc)) (S.once o c y v y' v');
      reads = (S.table x, S.reads);
      table = S.table;
    }

-- in the set, what the entry says
module _ {r : Ranks} {u : Updates} {d : Set} {a : ℕ → ℕ} {m : ℕ → Entry} {l : List Op} (x : ℕ) (S : Site r u d a m l)
    (sets : (o c : ℕ) → Issued u o c → Closed u (nth (u o) c).depends) where
  abbrev all : Set
  all = d ∪ learned (m x).answer (m x).depends

  pub learn_closed : Closed u all
  learn_closed o c (inl p) = ((S.closed o c p).0, λ o' c' q. inl ((S.closed o c p).1 o' c' q))
  learn_closed o c (inr p) =
      ⊎_elim
      (λ k. (held_issued S x o c k, λ o' c' q. inr (learned_set (m x).answer _ o c o' c' k ((S.sets x o c k o' c').1 q))))
      (λ k.
      let (o₁, c₁, n, q) = k in
      let f = sets o₁ c₁ (held_issued S x o₁ c₁ n) o c ((S.sets x o₁ c₁ n o c).0 q) in
      (f.0, λ o' c' z. inr (learned_set (m x).answer _ o₁ c₁ o' c' n ((S.sets x o₁ c₁ n o' c').1 (f.1 o' c' z)))))
      (learned_is (m x).answer (m x).depends o c p)

  pub learn_have : (o c : ℕ) → all o c → c ≤ a o
  learn_have o c =
      ⊎_elim (S.have o c)
      (λ p. ⊎_elim (λ k. (held_applied S x o c k).1) (λ k. held_causes S x k.0 k.1 k.2 o c k.3) (learned_is (m x).answer (m x).depends o c p))

  pub learn_site : Site r u all a m l
  learn_site =
      record {
        most = S.most;
        closed = learn_closed;
        have = learn_have;
        sets = S.sets;
        seen = S.seen;
        shown = S.shown;
        after = S.after;
        once = S.once;
        reads = S.reads;
        table = S.table;
      }

-- ## More updates elsewhere

pub more_site : {r : Ranks} (u v : Updates) {d : Set} {a : ℕ → ℕ} {m : ℕ → Entry} {l : List Op} → Extends u v → Site r u d a m l → Site r v d a m l
more_site u v {d} {a} {l = l} x S =
    record {
      most = λ o. more_most u v x o (a o) (S.most o);
      closed = closed_more u v d x S.closed;
      have = S.have;
      sets = λ y o c k o' c'. rw (x o c (held_issued S y o c k)).1 (S.sets y o c k o' c');
      seen = λ o c y w q.
          let k = S.seen o c y w q in
          let e = (x o c (k.0, omega (arith, S.most o))).1 in
          (k.0, k.1, ap (λ (z : Update). z.key) e ∙ k.2, ap (λ (z : Update). z.value) e ∙ k.3);
      shown = λ o c h k.
          subst (λ (z : Update). Write o c z.key z.value ∈ l) (sym (x o c (h, omega (arith, S.most o))).1) (S.shown o c h k);
      after = λ o c y w o' c' q k.
          let r = S.seen o c y w q in
          S.after o c y w o' c' q (subst (λ (z : Update). z.depends o' c') (x o c (r.0, omega (arith, S.most o))).1 k);
      once = S.once;
      reads = S.reads;
      table = S.table;
    }
