-- Put, get and deliver leave a table that figure 7's next world abstracts. Assumes nothing.
use mathlib.Core.Path.{◌≡◌, refl, sym, ap, subst, ◌∙◌}
use mathlib.Core.Bool.{Bool, true, false}
use mathlib.Core.List.{[], ◌∷◌, ◌++◌}
use mathlib.Core.Logic.{inl, inr, ⊎_elim, ◌↔◌, ◌≢◌}
use Prim.Native.Nat.{ℕ, suc, ◌≤◌, ◌<◌}
use native.Mathlib.Omega.{arith}
use lib.Dec.{eqb, eqb-suc-zero}
use lib.ListN.{length, length-append}
use borrow.Author.Tests.{eqb-true, eqb-false, eq-eqb, ne_eqb}
use Rattle.clock.specs.Map.{when◌then◌else◌, ◌⟨◌≔◌⟩, ◌⟨◌⟩⟨◌≔◌⟩}
use Rattle.clock.specs.Vector.{Vector}
use Rattle.clock.proofs.Maps.{choice, eq?, related, related₂}
use Rattle.layout.specs.State.{State, Entry, Update, with_depends}
use Rattle.rules.specs.Engine.{taken_on, outranks, ours}
use Rattle.rules.specs.Live.{Live}
use Rattle.rules.specs.Sound.{place, Retained, Sound}
use Rattle.rules.specs.Steps as r
use Rattle.rules.specs.Steps.{learn}
use Rattle.laws.proofs.Ready.{gets_too, RetireReady, PutReady, GetReady, DeliverReady}
use Rattle.laws.proofs.Ranks.{outranks_says}
use Rattle.laws.proofs.Keeps.{retire_retained, deliver_own, deliver_behind, deliver_waiting, deliver_retained, get_origin, put_retained, put_stands}
use Rattle.causal.specs.World as w
use Rattle.causal.specs.World.{Set, just, ◌∪◌, Tops, World, never, wrote, nth, learned, with_put, with_get, with_update, Replaces, Behind, CausesApplied}
use Rattle.causal.specs.Refines.{answer, Abstracts}
use Rattle.causal.proofs.Updates.{next, newest, extends}
use Rattle.causal.proofs.Vectors.{tops_same, tops_join, tops_note, same_answers}
use Rattle.causal.proofs.Ranking.{rank_one}

abbrev SameEntry : Entry → w.Entry → Type 0
SameEntry e m = (m.answer ≡ answer e.value e.origin e.clock) × Tops e.depends m.depends

same_entry : (S : State) (W : World) → Abstracts S W → (s x : ℕ) → s < S.n → x < S.k → SameEntry (S.store s x) (W.store s x)
same_entry S W A s x p q = (A.answers s x p q, A.store s x p q)

abbrev SameUpdate : Update → w.Update → Type 0
SameUpdate e u = (u.key ≡ e.key) × (u.value ≡ e.value) × Tops e.depends u.depends

-- the entry of a put that is made or applied has a clock above 0
pub written : (v o c c' : ℕ) → c' ≡ suc c → wrote v o c' ≡ answer v o (suc c)
written v o c c' e =
    ap (λ (z : ℕ). wrote v o z) e ∙ sym (ap (λ (t : Bool). when t then never else wrote v o (suc c)) (eqb-suc-zero c))

-- ## Deliver

-- the update that is due
module _ (S : State) (D : Sound S) (s o : ℕ) (hs : Live S s) (ho : o < S.n) (W : World) (A : Abstracts S W) where
  pub same_count : (W.applied s o ≡ S.applied s o) × (length (W.updates o) ≡ S.applied o o)
  same_count = (A.applied s o hs.0 (omega (arith, D.sites.1)), A.count o ho)

  pub same_due : Behind W s o ↔ (S.applied s o < S.applied o o)
  same_due = let e = same_count in ((λ h. omega arith), λ h. omega arith)

  module _ (lt : S.applied s o < S.applied o o) where
    pub same_waiting : SameUpdate (r.waiting S s o) (w.waiting W s o)
    same_waiting =
        subst (λ (z : ℕ). SameUpdate (r.waiting S s o) (nth (W.updates o) (suc z))) (sym same_count.0)
        (A.updates o (suc (S.applied s o)) ho (record { made = lt; by = s; site = hs; lacks = omega arith }))

    -- UPDATE's check over the set is the table's over the vector
    pub same_check : CausesApplied W s o ↔ ((j : ℕ) → j < 8 → (r.waiting S s o).depends j ≤ S.applied s j)
    same_check =
        let T = same_waiting.2 in
        let C = (same_answers _ _ T).check (S.applied s) in (
          (λ f. C.0 (λ o' c' m. omega (arith, f o' c' m, A.applied s o' hs.0 (T.eight o' c' m)))),
          λ f o' c' m. omega (arith, C.1 f o' c' m, A.applied s o' hs.0 (T.eight o' c' m)),
        )

-- the test of an update's rank says what figure 7 says of its set
replaces_same : (u : Update) (o : ℕ) (e : Entry) (d : Set) (m : w.Entry) → Tops u.depends d → SameEntry e m
    → (outranks u o e ≡ true) ↔ Replaces o d m.answer m.depends
replaces_same u o e d m k (a, l) =
    let says = outranks_says u o e in
    rw a
    (choice (eqb e.clock 0) (λ z. (outranks u o e ≡ true) ↔ Replaces o d z m.depends)
    (λ q. ((λ h. tt), λ h. says.1 (inl (inl (eqb-true _ _ q)))))
    (λ q. (
      (λ h. (_, _, (_, k, refl), (_, l, refl), ⊎_elim (⊎_elim (λ z. absurd (eqb-false _ _ q z)) inl) inr (says.0 h))),
      λ (r, r', p, p', h).
          let i = rank_one d r _ p (_, k, refl) in
          let j = rank_one m.depends r' _ p' (_, l, refl) in
          says.1 (⊎_elim (λ (z : r' < r). inl (inr (omega arith))) (λ z. inr (omega (arith, z.0), z.1)) h),
    )))

-- whether the update that is due replaces its entry
abbrev pub replaces : State → (s o : ℕ) → Bool
replaces S s o = let u = r.waiting S s o in outranks u o (S.store s u.key)

module _ (S : State) (s o : ℕ) (R : DeliverReady S s o) (W : World) (A : Abstracts S W) where
  abbrev u : Update
  u = r.waiting S s o

  abbrev u' : w.Update
  u' = w.waiting W s o

  waits : SameUpdate u u'
  waits = same_waiting S R.sound s o (R.site, R.live) R.origin W A (deliver_behind S s o R)

  pub deliver_next : w.due W s o ≡ r.next S s o
  deliver_next = ap suc (same_count S R.sound s o (R.site, R.live) R.origin W A).0

  pub deliver_numbers : (r.deliver ours S s o).answer ≡ r.done u'.key o (w.due W s o) u'.value
  unfolding r.deliver
  deliver_numbers = cc (waits.0, waits.1, deliver_next)

  pub deliver_replaces : let m = W.store s u'.key in (replaces S s o ≡ true) ↔ Replaces o u'.depends m.answer m.depends
  deliver_replaces = rw waits.0 (replaces_same u o _ _ _ waits.2 (same_entry S W A s u.key R.site (deliver_waiting S s o R).1))

  -- the entry that it makes
  abbrev made : Entry
  made = record { value = u.value; origin = o; zero = 0; clock = r.next S s o; depends = u.depends }

  deliver_entry : (b : Bool) (s' x : ℕ) → s' < S.n → x < S.k
      → SameEntry ((when b then S.store ⟨ s ⟩⟨ u.key ≔ made ⟩ else S.store) s' x) ((with_update W s o b).store s' x)
  deliver_entry true s' x p q =
      rw waits.0
      (related₂ SameEntry S.store W.store s u.key made _ s' x
      (ap (λ (z : ℕ). wrote z o (w.due W s o)) waits.1 ∙ written u.value o (S.applied s o) (w.due W s o) deliver_next, waits.2)
      (same_entry S W A s' x p q))
  deliver_entry false s' x p q = same_entry S W A s' x p q

  pub deliver_related : Abstracts (r.deliver ours S s o).after (with_update W s o (replaces S s o))
  unfolding r.deliver
  deliver_related =
      record {
        applied = λ s' o' p q. related₂ (λ a b. b ≡ a) S.applied W.applied s o _ _ s' o' deliver_next (A.applied s' o' p q);
        depends = A.depends;
        answers = λ s' x p q. (deliver_entry (replaces S s o) s' x p q).0;
        store = λ s' x p q. (deliver_entry (replaces S s o) s' x p q).1;
        count = λ o' p. A.count o' p ∙ sym (deliver_own ours S s o R o');
        updates = λ o' c p k. A.updates o' c p (deliver_retained ours S s o R o' c k);
      }

-- ## Get

-- dependency rows changed, on both sides
depends_related : (S : State) (W : World) (d : ℕ → Vector) (d' : ℕ → Set) → Abstracts S W → ((s : ℕ) → s < S.n → Tops (d s) (d' s))
    → Abstracts (with_depends S d) (record { depends = d'; updates = W.updates; applied = W.applied; store = W.store })
depends_related S W d d' A f =
    record {
      applied = A.applied;
      depends = f;
      answers = A.answers;
      store = A.store;
      count = A.count;
      updates = λ o c p k. A.updates o c p (record { made = k.made; by = k.by; site = k.site; lacks = k.lacks });
    }

module _ (S : State) (s x : ℕ) (R : GetReady S s x) (W : World) (A : Abstracts S W) where
  abbrev e : Entry
  e = S.store s x

  -- the set of the site and of what it takes on
  abbrev D : Set
  D = W.depends s ∪ learned (W.store s x).answer (W.store s x).depends

  pub get_row : Tops (ours.sent (S.depends s) e) D
  get_row = rw (A.answers s x R.site R.key) (go (eqb e.clock 0))
    where
      go : (t : Bool)
          → Tops (when t then S.depends s else taken_on (S.depends s) e)
          (W.depends s ∪ learned (when t then never else wrote e.value e.origin e.clock) (W.store s x).depends)
      go true = tops_same _ (W.depends s) _ (λ o c h. inl h) (λ o c. ⊎_elim (λ h. h) absurd) (A.depends s R.site)
      go false =
          tops_same _ ((W.depends s ∪ (W.store s x).depends) ∪ just e.origin e.clock) _
          (λ o c. ⊎_elim (⊎_elim inl (λ q. inr (inr q))) (λ q. inr (inl q)))
          (λ o c. ⊎_elim (λ q. inl (inl q)) (⊎_elim inr (λ q. inl (inr q))))
          (tops_note _ _ e.origin e.clock (omega (arith, get_origin S s x R, R.sound.sites.1))
          (tops_join _ _ _ _ (A.depends s R.site) (A.store s x R.site R.key)))

  pub get_related : Abstracts (r.get ours S s x).after (with_get W s x)
  unfolding r.get learn
  get_related = go (eqb e.clock 0) get_row
    where
      go : (t : Bool) → Tops (when t then S.depends s else taken_on (S.depends s) e) D
          → Abstracts (when t then S else with_depends S (S.depends ⟨ s ≔ taken_on (S.depends s) e ⟩)) (with_get W s x)
      go true k =
          depends_related S W S.depends _ A
          (λ s' p. choice (eqb s s') (Tops (S.depends s')) (λ q. subst (λ (z : ℕ). Tops (S.depends z) D) (eqb-true s s' q) k) (λ q. A.depends s' p))
      go false k = depends_related S W _ _ A (λ s' p. related Tops S.depends W.depends s _ _ s' k (A.depends s' p))

-- ## Put

module _ (S : State) (s x v : ℕ) (R : PutReady S s x) (W : World) (A : Abstracts S W) where
  abbrev T : State
  T = (r.put ours S s x v).after

  abbrev W' : World
  W' = with_put W s x v

  pub put_next : next W s ≡ r.next S s s
  put_next = ap suc (A.count s R.site)

  abbrev new : w.Update
  new = record { key = x; value = v; depends = W.depends s ∪ learned (W.store s x).answer (W.store s x).depends }

  -- "first takes on the dependence of the entry it overwrites"
  put_row : Tops (ours.sent (S.depends s) (S.store s x)) new.depends
  put_row = get_row S s x (gets_too R) W A

  put_count : (o : ℕ) → o < S.n → length (W'.updates o) ≡ T.applied o o
  unfolding r.put
  put_count o p =
      ⊎_elim (λ (e : s ≡ o). rw (eq-eqb s o e, eq-eqb s o e, length-append) (omega (arith, put_next))) (λ (e : s ≢ o). rw (ne_eqb s o e) (A.count o p)) (eq? s o)

  put_newest : (o c : ℕ) → (s ≡ o) × (c ≡ r.next S s s) → nth (W'.updates o) c ≡ new
  put_newest o c e =
      rw (eq-eqb s o e.0) (ap (λ (z : ℕ). nth (W.updates s ++ (new ∷ [])) z) (e.1 ∙ sym put_next) ∙ newest (W.updates s) new)

  put_update : (o c : ℕ) → o < S.n → Retained T o c → SameUpdate (T.updates o (place c)) (nth (W'.updates o) c)
  put_update o c p k =
      ⊎_elim
      (λ e. rw (put_stands ours S s x v R o c e, put_newest o c e) (refl, refl, put_row))
      (λ e.
      let q = extends W.updates s new o c (omega (arith, e.0.lacks), omega (arith, e.0.made, A.count o p)) in
      rw (e.1, q.1) (A.updates o c p e.0))
      (put_retained ours S s x v R o c k)

  put_entry : (s' y : ℕ) → s' < S.n → y < S.k → SameEntry (T.store s' y) (W'.store s' y)
  unfolding r.put
  put_entry s' y p q =
      related₂ SameEntry S.store W.store s x _ _ s' y
      (written v s (S.applied s s) (next W s) put_next, put_row)
      (same_entry S W A s' y p q)

  pub put_related : Abstracts T W'
  unfolding r.put
  put_related =
      record {
        applied = λ s' o p q.
            related₂ (λ a b. b ≡ a) S.applied W.applied s s _ _ s' o
            (ap suc (A.applied s s R.site (omega (arith, R.site, R.sound.sites.1)))) (A.applied s' o p q);
        depends = λ s' p.
            related Tops S.depends W.depends s _ _ s'
            (rw put_next (tops_note _ _ s (r.next S s s) (omega (arith, R.site, R.sound.sites.1)) put_row))
            (A.depends s' p);
        answers = λ s' y p q. (put_entry s' y p q).0;
        store = λ s' y p q. (put_entry s' y p q).1;
        count = put_count;
        updates = put_update;
      }

-- ## Retire

pub retire_related : (S : State) (s : ℕ) → RetireReady S s → (W : World) → Abstracts S W → Abstracts (r.retire S s).after W
unfolding r.retire
retire_related S s R W A =
    record {
      applied = A.applied;
      depends = A.depends;
      answers = A.answers;
      store = A.store;
      count = A.count;
      updates = λ o c p k. A.updates o c p (retire_retained S s R o c k);
    }
