-- The engine with short lists agrees with document 01's: applied rows are closed under causes, so where the pairs of a short
-- vector are applied, those of the whole one are. Assumes nothing.
use mathlib.Core.Path.{◌≡◌, refl, sym, ap, subst, ◌∙◌}
use mathlib.Core.Logic.{◌⊎◌, inl, inr, ⊎_elim, ◌≢◌, ◌↔◌}
use Prim.Native.Nat.{ℕ, ◌≤◌, ◌<◌, max}
use native.Mathlib.Omega.{arith}
use lib.Dec.{eqb}
use borrow.Author.Tests.{eqb-true}
use Rattle.clock.specs.Map.{◌⟨◌≔◌⟩, ◌⟨◌⟩⟨◌≔◌⟩}
use Rattle.clock.specs.Vector.{Vector, zeros, join, note}
use Rattle.clock.proofs.Maps.{choice, at_is, at_same, at_is₂, related, related₂, eq?}
use Rattle.layout.specs.State.{State, Entry, Update, with_depends, with_store, with_updates}
use Rattle.rules.specs.Engine.{long, short}
use Rattle.rules.specs.Live.{Live}
use Rattle.rules.specs.Sound.{place, Retained, Sound}
use Rattle.rules.specs.Steps as r
use Rattle.rules.specs.Steps.{opened, next, waiting}
use Rattle.laws.specs.Agreement.{SameEntry}
use Rattle.laws.proofs.Ready.{RetireReady, OpenReady, PutReady, GetReady, DeliverReady}
use Rattle.laws.proofs.Keeps.{retire_retained, retire_sound, up_le, up_new, depends_sound, open_sound, put_sound, deliver_sound, deliver_own, deliver_behind, deliver_retained, put_retained, put_stands}

-- ## Vectors and counts

-- each of the eight columns of v is at most the same column of a
abbrev pub Within : Vector → Vector → Type 0
Within v a = (j : ℕ) → j < 8 → v j ≤ a j

within_note : (v a : Vector) (o c : ℕ) → Within v a → c ≤ a o → Within (note v o c) a
within_note v a o c f h j l =
    ⊎_elim
    (λ p. omega (arith, p.1, ap v p.0, ap a p.0, f j l))
    (λ p. omega (arith, p.1, f j l))
    (at_is v o (max (v o) c) j)

note_up : (v : Vector) (o c j : ℕ) → v j ≤ note v o c j
note_up v o c j = ⊎_elim (λ p. omega (arith, p.1, ap v p.0)) (λ p. omega (arith, p.1)) (at_is v o (max (v o) c) j)

note_own : (v a : Vector) (o c : ℕ) → o < 8 → Within (note v o c) a → c ≤ a o
note_own v a o c h f = omega (arith, f o h, at_same v o (max (v o) c))

note_le : (v w : Vector) (o c j : ℕ) → v j ≤ w j → note v o c j ≤ note w o c j
note_le v w o c j h =
    ⊎_elim
    (λ p. ⊎_elim (λ q. omega (arith, p.1, q.1, ap v p.0, ap w p.0)) (λ q. absurd (q.0 p.0)) (at_is w o (max (w o) c) j))
    (λ p. omega (arith, p.1, note_up w o c j))
    (at_is v o (max (v o) c) j)

-- of each put (o, c) made so far, the vector that the long engine sent
abbrev Whole : Type 0
Whole = ℕ → ℕ → Vector

-- with each put that they count, the counts a have all that it depends on
abbrev Closed : Whole → State → Vector → Type 0
Closed v S a = (o c : ℕ) → o < S.n → 1 ≤ c → c ≤ a o → c ≤ S.applied o o → Within (v o c) a

-- d names some of what D does, and closed counts that have d have D
abbrev Stands : Whole → State → (d D : Vector) → Type 0
Stands v S d D = Within d D × ((a : Vector) → Closed v S a → Within d a → Within D a)

stands_more : (v v' : Whole) (S S' : State) (d D : Vector) → ((a : Vector) → Closed v' S' a → Closed v S a) → Stands v S d D → Stands v' S' d D
stands_more v v' S S' d D f p = (p.0, λ a h. p.1 a (f a h))

-- ## The two tables

-- the other engine's table has the same counts, and rows, entries and updates of its own
abbrev pub other : State → (ℕ → Vector) → (ℕ → ℕ → Entry) → (ℕ → ℕ → Update) → State
other S d m u = with_updates (with_store (with_depends S d) m) u

pub record Agrees (S : State) (d : ℕ → Vector) (m : ℕ → ℕ → Entry) (u : ℕ → ℕ → Update) : Type 0 where
  pub whole : Whole
  pub sound : Sound S
  pub sound' : Sound (other S d m u)
  -- applied rows are closed under causes, and have the site's own
  pub closed : (s : ℕ) → s < S.n → Closed whole S (S.applied s)
  pub within : (s : ℕ) → s < S.n → Within (S.depends s) (S.applied s)
  -- short rows and vectors stand for the whole ones
  pub rows : (s : ℕ) → s < S.n → Stands whole S (d s) (S.depends s)
  pub sent : (o c : ℕ) → o < S.n → Retained S o c → let w = S.updates o (place c) in let z = u o (place c) in
      (w.depends ≡ whole o c) × Stands whole S z.depends (whole o c) × (z.key ≡ w.key) × (z.value ≡ w.value)
  pub entries : (s x : ℕ) → SameEntry (S.store s x) (m s x)
  pub stored : (s x : ℕ) → s < S.n → x < S.k → let e = S.store s x in Within e.depends (whole e.origin e.clock)

-- ## Open

pub open_agrees : (n k : ℕ) → OpenReady n k → let S = opened n k in Agrees S S.depends S.store S.updates
unfolding opened
open_agrees n k R =
    record {
      whole = λ o c. zeros;
      sound = open_sound n k R;
      sound' = open_sound n k R;
      closed = λ s p o c q h l i j b. omega arith;
      within = λ s p j b. omega arith;
      rows = λ s p. ((λ j b. omega arith), λ a h f. f);
      sent = λ o c p t. absurd (omega (arith, t.made, t.lacks));
      entries = λ s x. (refl, refl, refl);
      stored = λ s x p q j b. omega arith;
    }

-- ## Put

module _ (S : State) (d : ℕ → Vector) (m : ℕ → ℕ → Entry) (u : ℕ → ℕ → Update) (A : Agrees S d m u) where
  abbrev T : State
  T = other S d m u

  module _ (s x v : ℕ) (R : PutReady S s x) (R' : PutReady T s x) where
    abbrev S₁ : State
    S₁ = (r.put long S s x v).after

    abbrev T₁ : State
    T₁ = (r.put short T s x v).after

    abbrev c₁ : ℕ
    c₁ = next S s s

    abbrev whole₁ : Whole
    whole₁ = A.whole ⟨ s ⟩⟨ c₁ ≔ S.depends s ⟩

    site₁ : s < 8
    site₁ = omega (arith, R.site, R.sound.sites)

    -- the vector of the new put, and of one made before
    put_new : whole₁ s c₁ ≡ S.depends s
    put_new = ⊎_elim (λ p. p.2) (λ p. absurd (p.0 refl refl)) (at_is₂ A.whole s c₁ (S.depends s) s c₁)

    put_old : (o c : ℕ) → c ≤ S.applied o o → whole₁ o c ≡ A.whole o c
    put_old o c h =
        ⊎_elim (λ p. let e : S.applied s s ≡ S.applied o o = cc p.0 in absurd (omega (arith, p.1))) (λ p. p.1) (at_is₂ A.whole s c₁ (S.depends s) o c)

    put_less : (a : Vector) → Closed whole₁ S₁ a → Closed A.whole S a
    unfolding r.put
    put_less a f o c p h l i = subst (λ (w : Vector). Within w a) (put_old o c i) (f o c p h l (omega (arith, up_le S.applied s s o o)))

    -- what a site counts now it counted before, or it is the new put
    put_counted : (t o c : ℕ) → c ≤ S₁.applied t o → (c ≤ S.applied t o) ⊎ ((s ≡ t) × (s ≡ o) × (c₁ ≡ c))
    unfolding r.put
    put_counted t o c h =
        ⊎_elim
        (λ p. ⊎_elim
        (λ (e : c₁ ≡ c). inr (p.0, p.1, e))
        (λ (e : c₁ ≢ c). let z : S.applied s s ≡ S.applied t o = cc (p.0, p.1) in inl (omega (arith, p.2)))
        (eq? c₁ c))
        (λ p. inl (omega (arith, p.1)))
        (at_is₂ S.applied s s c₁ t o)

    put_closed : (t : ℕ) → t < S.n → Closed whole₁ S₁ (S₁.applied t)
    unfolding r.put
    put_closed t p o c q h l i j b =
        ⊎_elim
        (λ (k : c ≤ S.applied t o).
        let y : c ≤ S.applied o o = omega (arith, A.sound.most t o p q) in
        omega (arith, ap (λ (w : Vector). w j) (put_old o c y), A.closed t p o c q h k y j b, up_le S.applied s s t j))
        (λ k.
        let e : whole₁ o c j ≡ S.depends s j = cc (k.1, k.2, put_new) in
        let f : S.applied s j ≡ S.applied t j = cc k.0 in
        omega (arith, A.within s R.site j b, up_le S.applied s s t j))
        (put_counted t o c l)

    put_within : (t : ℕ) → t < S.n → Within (S₁.depends t) (S₁.applied t)
    unfolding r.put
    put_within t p =
        choice (eqb s t) (λ (w : Vector). Within w (S₁.applied t))
        (λ e. subst (λ (z : ℕ). Within (note (S.depends s) s c₁) (S₁.applied z)) (eqb-true s t e)
        (within_note (S.depends s) (S₁.applied s) s c₁ (λ j b. omega (arith, A.within s R.site j b, up_le S.applied s s s j)) (omega (arith, up_new S.applied s s))))
        (λ e j b. omega (arith, A.within t p j b, up_le S.applied s s t j))

    put_row : Stands whole₁ S₁ (note zeros s c₁) (note (S.depends s) s c₁)
    unfolding r.put
    put_row = (
      (λ j b. note_le zeros (S.depends s) s c₁ j (omega arith)),
      λ a f g.
          let h = note_own zeros a s c₁ site₁ g in
          within_note (S.depends s) a s c₁ (subst (λ (w : Vector). Within w a) put_new (f s c₁ R.site (omega arith) h (omega (arith, up_new S.applied s s)))) h,
    )

    abbrev Sent : (o c : ℕ) → Update → Update → Type 0
    Sent o c w z = (w.depends ≡ whole₁ o c) × Stands whole₁ S₁ z.depends (whole₁ o c) × (z.key ≡ w.key) × (z.value ≡ w.value)

    put_sent : (o c : ℕ) → o < S.n → Retained S₁ o c → Sent o c (S₁.updates o (place c)) (T₁.updates o (place c))
    unfolding r.put
    put_sent o c p t =
        ⊎_elim
        (λ e.
        let y : whole₁ o c ≡ S.depends s = cc (e.0, e.1, put_new) in
        rw (put_stands long S s x v R o c e, put_stands short T s x v R' o c e, y)
        (refl, stands_more A.whole whole₁ S S₁ (d s) (S.depends s) put_less (A.rows s R.site), refl, refl))
        (λ e.
        let old = A.sent o c p e.0 in
        let y = put_old o c e.0.made in
        let k : T₁.updates o (place c) ≡ u o (place c) =
        ⊎_elim (λ f. absurd (omega (arith, e.0.made, f.1, ap (λ (z : ℕ). S.applied z z) f.0))) (λ f. f.1)
        (put_retained short T s x v R' o c (record { made = t.made; by = t.by; site = t.site; lacks = t.lacks })) in
        rw (e.1, k, y) (old.0, stands_more A.whole whole₁ S S₁ _ _ put_less old.1, old.2, old.3))
        (put_retained long S s x v R o c t)

    put_stored : (t y : ℕ) → t < S.n → y < S.k → let e = S₁.store t y in Within e.depends (whole₁ e.origin e.clock)
    unfolding r.put
    put_stored t y p q =
        ⊎_elim
        (λ e. subst (λ (z : Entry). Within z.depends (whole₁ z.origin z.clock)) (sym e.2) (λ j b. omega arith))
        (λ e. subst (λ (z : Entry). Within z.depends (whole₁ z.origin z.clock)) (sym e.1)
        (⊎_elim
        (λ b j h. omega (arith, b.depends j h))
        (λ w. rw (put_old (S.store t y).origin (S.store t y).clock (omega (arith, w.applied, A.sound.most t (S.store t y).origin p w.origin))) (A.stored t y p q))
        (A.sound.entries t y p q)))
        (at_is₂ S.store s x _ t y)

    pub put_agrees : Agrees S₁ T₁.depends T₁.store T₁.updates
    unfolding r.put
    put_agrees =
        record {
          whole = whole₁;
          sound = put_sound long S s x v R;
          sound' = put_sound short T s x v R';
          closed = put_closed;
          within = put_within;
          rows = λ t p. related (Stands whole₁ S₁) d S.depends s _ _ t put_row (stands_more A.whole whole₁ S S₁ _ _ put_less (A.rows t p));
          sent = put_sent;
          entries = λ t y. related₂ SameEntry S.store m s x _ _ t y (refl, refl, refl) (A.entries t y);
          stored = put_stored;
        }

  -- ## Deliver

  -- the update that is due, whole and short: the one is within closed counts where the other is
  module _ (s o : ℕ) (hs : Live S s) (ho : o < S.n) (lt : S.applied s o < S.applied o o) where
    due : let w = waiting S s o in let z = waiting T s o in
        (w.depends ≡ A.whole o (next S s o)) × Stands A.whole S z.depends (A.whole o (next S s o)) × (z.key ≡ w.key) × (z.value ≡ w.value)
    due = A.sent o (next S s o) ho (record { made = lt; by = s; site = hs; lacks = omega arith })

    pub same_check : Within (waiting T s o).depends (S.applied s) ↔ Within (waiting S s o).depends (S.applied s)
    same_check =
        rw due.0 ((due.1.1 (S.applied s) (A.closed s hs.0)), λ f j b. omega (arith, due.1.0 j b, f j b))

  module _ (s o : ℕ) (R : DeliverReady S s o) (R' : DeliverReady T s o) where
    abbrev S₂ : State
    S₂ = (r.deliver long S s o).after

    abbrev T₂ : State
    T₂ = (r.deliver short T s o).after

    abbrev c₂ : ℕ
    c₂ = next S s o

    due₂ : let w = waiting S s o in let z = waiting T s o in
        (w.depends ≡ A.whole o c₂) × Stands A.whole S z.depends (A.whole o c₂) × (z.key ≡ w.key) × (z.value ≡ w.value)
    due₂ = due s o (R.site, R.live) R.origin (deliver_behind S s o R)

    deliver_less : (a : Vector) → Closed A.whole S₂ a → Closed A.whole S a
    unfolding r.deliver
    deliver_less a f o' c p h l i = f o' c p h l (omega (arith, deliver_own long S s o R o'))

    deliver_closed : (t : ℕ) → t < S.n → Closed A.whole S₂ (S₂.applied t)
    unfolding r.deliver
    deliver_closed t p o' c q h l i j b =
        ⊎_elim
        (λ e.
        ⊎_elim
        (λ (k : c₂ ≡ c).
        let y : A.whole o c₂ ≡ A.whole o' c = cc e.1 in
        let z : S.applied s j ≡ S.applied t j = cc e.0 in
        omega (arith, R.causes j b, ap (λ (w : Vector). w j) (due₂.0 ∙ y), up_le S.applied s o t j))
        (λ (k : c₂ ≢ c).
        let z : S.applied s o ≡ S.applied t o' = cc (e.0, e.1) in
        old (omega (arith, e.2)))
        (eq? c₂ c))
        (λ e. old (omega (arith, e.1)))
        (at_is₂ S.applied s o c₂ t o')
      where
        old : c ≤ S.applied t o' → A.whole o' c j ≤ S₂.applied t j
        old k = omega (arith, A.closed t p o' c q h k (omega (arith, A.sound.most t o' p q)) j b, up_le S.applied s o t j)

    deliver_entries : (t y : ℕ) → SameEntry (S₂.store t y) (T₂.store t y)
    unfolding r.deliver
    deliver_entries t y =
        rw due₂.2
        (related₂ SameEntry S.store m s (waiting S s o).key _ _ t y (due₂.3, refl, refl) (A.entries t y))

    deliver_stored : (t y : ℕ) → t < S.n → y < S.k → let e = S₂.store t y in Within e.depends (A.whole e.origin e.clock)
    unfolding r.deliver
    deliver_stored t y p q =
        ⊎_elim
        (λ e. subst (λ (z : Entry). Within z.depends (A.whole z.origin z.clock)) (sym e.2) (rw due₂.0 (λ j b. omega arith)))
        (λ e. subst (λ (z : Entry). Within z.depends (A.whole z.origin z.clock)) (sym e.1) (A.stored t y p q))
        (at_is₂ S.store s (waiting S s o).key _ t y)

    pub deliver_agrees : Agrees S₂ T₂.depends T₂.store T₂.updates
    unfolding r.deliver
    deliver_agrees =
        record {
          whole = A.whole;
          sound = deliver_sound long S s o R;
          sound' = deliver_sound short T s o R';
          closed = deliver_closed;
          within = λ t p j b. omega (arith, A.within t p j b, up_le S.applied s o t j);
          rows = λ t p. stands_more A.whole A.whole S S₂ _ _ deliver_less (A.rows t p);
          sent = λ o' c p t.
              let e = A.sent o' c p (deliver_retained long S s o R o' c t) in
              (e.0, stands_more A.whole A.whole S S₂ _ _ deliver_less e.1, e.2, e.3);
          entries = deliver_entries;
          stored = deliver_stored;
        }

    pub deliver_same : (r.deliver short T s o).answer ≡ (r.deliver long S s o).answer
    unfolding r.deliver
    deliver_same = rw (due₂.2, due₂.3)

  -- ## Get

  module _ (s x : ℕ) (R : GetReady S s x) where
    abbrev e : Entry
    e = S.store s x

    -- the entry's put and what it depends on are applied here, and in closed counts that have it
    get_issued : e.clock ≢ 0 → (e.origin < S.n) × (1 ≤ e.clock) × (e.clock ≤ S.applied s e.origin) × (e.clock ≤ S.applied e.origin e.origin)
    get_issued h =
        ⊎_elim
        (λ b. absurd (h b.clock))
        (λ w. (w.origin, w.some, w.applied, omega (arith, w.applied, A.sound.most s e.origin R.site w.origin)))
        (A.sound.entries s x R.site R.key)

    get_has : e.clock ≢ 0 → (a : Vector) → Closed A.whole S a → e.clock ≤ a e.origin → Within e.depends a
    get_has h a f l j b =
        let i = get_issued h in
        omega (arith, A.stored s x R.site R.key j b, f e.origin e.clock i.0 i.1 l i.3 j b)

    get_row : e.clock ≢ 0 → Stands A.whole S (note (d s) e.origin e.clock) (note (join (S.depends s) e.depends) e.origin e.clock)
    get_row h = (
      (λ j b. note_le (d s) (join (S.depends s) e.depends) e.origin e.clock j (omega (arith, (A.rows s R.site).0 j b))),
      λ a f g.
          let l = note_own (d s) a e.origin e.clock (omega (arith, (get_issued h).0, A.sound.sites)) g in
          let k = (A.rows s R.site).1 a f (λ j b. omega (arith, g j b, note_up (d s) e.origin e.clock j)) in
          within_note (join (S.depends s) e.depends) a e.origin e.clock (λ j b. omega (arith, k j b, get_has h a f l j b)) l,
    )

    get_within : e.clock ≢ 0 → (t : ℕ) → t < S.n
        → Within ((S.depends ⟨ s ≔ note (join (S.depends s) e.depends) e.origin e.clock ⟩) t) (S.applied t)
    get_within h t p =
        choice (eqb s t) (λ (w : Vector). Within w (S.applied t))
        (λ q. subst (λ (z : ℕ). Within (note (join (S.depends s) e.depends) e.origin e.clock) (S.applied z)) (eqb-true s t q)
        (let i = get_issued h in
        within_note (join (S.depends s) e.depends) (S.applied s) e.origin e.clock
        (λ j b. omega (arith, A.within s R.site j b, get_has h (S.applied s) (A.closed s R.site) i.2 j b)) i.2))
        (λ q. A.within t p)

    pub get_agrees : e.clock ≢ 0 → Agrees (with_depends S (S.depends ⟨ s ≔ note (join (S.depends s) e.depends) e.origin e.clock ⟩))
        (d ⟨ s ≔ note (d s) e.origin e.clock ⟩) m u
    get_agrees h =
        record {
          whole = A.whole;
          sound = depends_sound S _ A.sound;
          sound' = depends_sound T _ A.sound';
          closed = A.closed;
          within = get_within h;
          rows = λ t p. related (Stands A.whole S) d S.depends s _ _ t (get_row h) (A.rows t p);
          sent = λ o c p t. A.sent o c p (record { made = t.made; by = t.by; site = t.site; lacks = t.lacks });
          entries = A.entries;
          stored = A.stored;
        }

  -- ## Retire

  pub retire_agrees : (s : ℕ) → RetireReady S s → RetireReady T s → Agrees (r.retire S s).after d m u
  unfolding r.retire
  retire_agrees s R R' =
      record {
        whole = A.whole;
        sound = retire_sound S s R;
        sound' = retire_sound T s R';
        closed = A.closed;
        within = A.within;
        rows = A.rows;
        sent = λ o c p t. A.sent o c p (retire_retained S s R o c t);
        entries = A.entries;
        stored = A.stored;
      }
