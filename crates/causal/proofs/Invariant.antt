-- What every run of figure 7 keeps, over its start and every step but a put. Assumes nothing.
use mathlib.Core.Path.{◌≡◌, refl, sym, ap, subst, ◌∙◌}
use mathlib.Core.Bool.{Bool, true, false}
use mathlib.Core.List.{List, [], ◌∷◌, ◌++◌}
use mathlib.Core.Logic.{◌⊎◌, ◌↔◌, inl, inr, ⊎_elim, ◌≢◌}
use Prim.Native.Nat.{ℕ, suc, ◌≤◌, ◌<◌}
use native.Mathlib.Omega.{arith}
use lib.Dec.{eqb}
use lib.ListN.{length}
use borrow.Author.Tests.{eqb-true, eq-eqb}
use Rattle.clock.specs.Map.{when◌then◌else◌, ◌⟨◌≔◌⟩, ◌⟨◌⟩⟨◌≔◌⟩}
use Rattle.clock.proofs.Maps.{choice, at_same, at_other}
use Rattle.causal.specs.World.{Set, Rank, Update, Replaces, just, ◌∪◌, Answer, wrote, Entry, World, nth, due, waiting, learned, with_get, with_update, Behind, CausesApplied, Event, put, get, look, adopt, update, retire, start}
use Rattle.clock.specs.Lists.{◌∈◌}
use Rattle.causal.specs.History.{History, Names, Saw, Op, Write, Read, op, order, Ranks, Came, Takes, Cause, direct, deeper}
use Rattle.causal.proofs.Updates.{clash, Updates, Issued, Closed, learned_is, learned_put}
use Rattle.causal.proofs.Sites.{Site, SiteOf, held_issued, ◌↑◌, up_more, write_site, look_site, learn_site}
use Rattle.causal.proofs.Vectors.{tops_same}
use Rattle.causal.proofs.Higher.{Right, judged}

-- ## The run

-- what a site saw, and that with its causes
abbrev pub Seen : History → (s o c : ℕ) → Type 0
Seen h s o c = (e : Event) × (e ∈ h) × Saw e s o c

abbrev pub Known : Ranks → History → (s o c : ℕ) → Type 0
Known r h s o c = Seen h s o c ⊎ ((o' : ℕ) × (c' : ℕ) × Seen h s o' c' × Cause r h o c o' c')

pub cause_more : (r : Ranks) (h : History) (e : Event) {o c o' c' : ℕ} → Cause r h o c o' c' → Cause r (e ∷ h) o c o' c'
cause_more r h e (direct p s x v c o' c' i k) = direct p s x v c o' c' (inr i) k
cause_more r h e (deeper i k) = deeper (cause_more r h e i) (cause_more r h e k)

seen_more : (h : History) (e : Event) {s o c : ℕ} → Seen h s o c → Seen (e ∷ h) s o c
seen_more h e (f, i, k) = (f, inr i, k)

pub known_more : (r : Ranks) (h : History) (e : Event) {s o c : ℕ} → Known r h s o c → Known r (e ∷ h) s o c
known_more r h e (inl k) = inl (seen_more h e k)
known_more r h e (inr (o, c, k, i)) = inr (o, c, seen_more h e k, cause_more r h e i)

-- each put of `h` depends on earlier puts of `h` alone
unfoldable pub Past : Updates → History → Type 0
Past u [] = Unit {0}
Past u (e ∷ h) = ((o x v c o' c' : ℕ) → e ≡ put o x v c → (nth (u o) c).depends o' c' → (x' : ℕ) × (v' : ℕ) × put o' x' v' c' ∈ h) × Past u h

-- the updates are the puts of h, and their sets its causes; a row has what its site saw, with the causes of that
pub record Inv (r : Ranks) (h : History) (W : World) : Type 0 where
  pub own_count : (s : ℕ) → W.applied s s ≡ length (W.updates s)
  pub holds : (o c : ℕ) → Issued W.updates o c → put o (nth (W.updates o) c).key (nth (W.updates o) c).value c ∈ h
  pub closed : (o c : ℕ) → Issued W.updates o c → Closed W.updates (nth (W.updates o) c).depends
  pub chain : (o c c' : ℕ) → Issued W.updates o c → 1 ≤ c' → c' < c → (nth (W.updates o) c).depends o c'
  pub older : (o c c' : ℕ) → Issued W.updates o c → (nth (W.updates o) c).depends o c' → c' < c
  pub saw : (e : Event) (s o c : ℕ) → e ∈ h → Saw e s o c → W.depends s o c
  pub takes : (p : History) (s x v c o' c' : ℕ) → Came h p (put s x v c) → Takes r p s x o' c' → (nth (W.updates s) c).depends o' c'
  pub knows : (s o c : ℕ) → W.depends s o c → Known r h s o c
  pub exact : (o c : ℕ) → Issued W.updates o c → (o' c' : ℕ) → (nth (W.updates o) c).depends o' c' → Cause r h o' c' o c
  pub past : Past W.updates h
  pub site : (s : ℕ) → SiteOf r W s (order s h)

-- ## Steps

pub grow_old : (d : ℕ → Set) (t s : ℕ) (e : Set) (o c : ℕ) → d s o c → (d ⟨ t ≔ d t ∪ e ⟩) s o c
grow_old d t s e o c h = choice (eqb t s) (λ (z : Set). z o c) (λ q. inl (subst (λ (z : ℕ). d z o c) (sym (eqb-true t s q)) h)) (λ q. h)

pub grow_new : (d : ℕ → Set) (t s : ℕ) (e : Set) (o c : ℕ) → t ≡ s → e o c → (d ⟨ t ≔ d t ∪ e ⟩) s o c
grow_new d t s e o c q h = rw (eq-eqb t s q) (inr h)

pub at_just : (P : ℕ → ℕ → Type 0) (o c o' c' : ℕ) → just o c o' c' → P o c → P o' c'
at_just P o c o' c' q p = subst (λ (z : ℕ). P z c') (sym q.0) (subst (λ (z : ℕ). P o z) (sym q.1) p)

pub put_top : (a : ℕ → ℕ) (o : ℕ) → suc (a o) ≤ (a ↑ o) o
put_top a o = omega (arith, at_same a o (suc (a o)))

pub inv_start : (r : Ranks) → Inv r [] start
unfolding Past order
inv_start r =
    record {
      own_count = λ s. refl;
      holds = λ o c h. absurd (omega arith);
      closed = λ o c h. absurd (omega arith);
      chain = λ o c c' h. absurd (omega arith);
      older = λ o c c' h. absurd (omega arith);
      saw = λ e s o c h. absurd h;
      takes = λ p s x v c o' c' h. absurd h;
      knows = λ s o c h. absurd h;
      exact = λ o c h. absurd (omega arith);
      past = tt;
      site = λ s.
          record {
            most = λ o. omega arith;
            closed = λ o c k. absurd k;
            have = λ o c k. absurd k;
            sets = λ y o c k. absurd k;
            seen = λ o c y v k. absurd k;
            shown = λ o c k i. absurd (omega arith);
            after = λ o c y v o' c' k. absurd k;
            once = λ o c y v y' v' k. k;
            reads = tt;
            table = λ y. refl;
          };
    }

-- ## What is no put

abbrev pub NoPut : Event → Type 0
NoPut e = (o x v c : ℕ) → e ≡ put o x v c → ⊥

module _ (r : Ranks) (h : History) (W : World) (I : Inv r h W) (e : Event) (other : NoPut e) (d : ℕ → Set) (a : ℕ → ℕ → ℕ) (m : ℕ → ℕ → Entry)
    (count : (s : ℕ) → a s s ≡ length (W.updates s)) (more : (s o c : ℕ) → W.depends s o c → d s o c) (new : (s o c : ℕ) → Saw e s o c → d s o c)
    (knows : (s o c : ℕ) → d s o c → Known r (e ∷ h) s o c) (site : (s : ℕ) → Site r W.updates (d s) (a s) (m s) (order s (e ∷ h))) where
  -- it leaves the updates
  inv_other : Inv r (e ∷ h) (record { depends = d; updates = W.updates; applied = a; store = m })
  unfolding Past
  inv_other =
      record {
        own_count = count;
        holds = λ o c k. inr (I.holds o c k);
        closed = I.closed;
        chain = I.chain;
        older = I.older;
        saw = λ f s o c. ⊎_elim (λ q k. new s o c (subst (λ (z : Event). Saw z s o c) q k)) (λ q k. more s o c (I.saw f s o c q k));
        takes = λ p s y v c o' c'. ⊎_elim (λ q. absurd (other s y v c (sym q.0))) (I.takes p s y v c o' c');
        knows = knows;
        exact = λ o c k o' c' i. cause_more r h e (I.exact o c k o' c' i);
        past = ((λ o x v c o' c' q. absurd (other o x v c q)), I.past);
        site = site;
      }

-- ## Look, adopt and get

module _ (r : Ranks) (h : History) (W : World) (t x : ℕ) (I : Inv r h W) where
  abbrev found : Answer
  found = (W.store t x).answer

  looked : (s : ℕ) → SiteOf r W s ((when eqb t s then Read x found ∷ [] else []) ++ order s h)
  looked s =
      choice (eqb t s) (λ (l : List Op). SiteOf r W s (l ++ order s h))
      (λ e. subst (λ (z : ℕ). SiteOf r W z (Read x found ∷ order z h)) (eqb-true t s e) (look_site x (I.site t)))
      (λ e. I.site s)

  learns : (l : ℕ → List Op) → ((s : ℕ) → SiteOf r W s (l s)) → (s : ℕ) → SiteOf r (with_get W t x) s (l s)
  learns l S s =
      choice (eqb t s) (λ (d : Set). Site r W.updates d (W.applied s) (W.store s) (l s))
      (λ e. subst (λ (z : ℕ). Site r W.updates (W.depends t ∪ learned found (W.store t x).depends) (W.applied z) (W.store z) (l z)) (eqb-true t s e)
      (learn_site x (S t) I.closed))
      (λ e. S s)

  named : (s o c : ℕ) → (t ≡ s) × Names found o c → (with_get W t x).depends s o c
  named s o c k = grow_new W.depends t s _ o c k.0 (learned_put found _ o c k.1)

  -- by an event that sees the put found
  module _ (e : Event) (sees : (o c : ℕ) → Names found o c → Saw e t o c) where
    learned_known : (o c : ℕ) → learned found (W.store t x).depends o c → Known r (e ∷ h) t o c
    learned_known o c k =
        ⊎_elim
        (λ i. inl (e, inl refl, sees o c i))
        (λ i.
        let (o₁, c₁, n, q) = i in
        let m = I.exact o₁ c₁ (held_issued (I.site t) x o₁ c₁ n) o c (((I.site t).sets x o₁ c₁ n o c).0 q) in
        inr (o₁, c₁, (e, inl refl, sees o₁ c₁ n), cause_more r h e m))
        (learned_is found (W.store t x).depends o c k)

    learns_known : (s o c : ℕ) → (with_get W t x).depends s o c → Known r (e ∷ h) s o c
    learns_known s o c =
        choice (eqb t s) (λ (d : Set). d o c → Known r (e ∷ h) s o c)
        (λ q. subst (λ (z : ℕ). (W.depends t ∪ learned found (W.store t x).depends) o c → Known r (e ∷ h) z o c) (eqb-true t s q)
        (⊎_elim (λ k. known_more r h e (I.knows t o c k)) (learned_known o c)))
        (λ q k. known_more r h e (I.knows s o c k))

  pub inv_look : Inv r (look t x found ∷ h) W
  unfolding order op
  inv_look =
      inv_other r h W I _ (λ o y v c q. clash (cc)) W.depends W.applied W.store I.own_count (λ s o c k. k) (λ s o c k. absurd k)
      (λ s o c k. known_more r h _ (I.knows s o c k)) looked

  pub inv_adopt : Inv r (adopt t x found ∷ h) (with_get W t x)
  unfolding order op
  inv_adopt =
      inv_other r h W I _ (λ o y v c q. clash (cc)) _ W.applied W.store I.own_count (λ s. grow_old W.depends t s _) named
      (learns_known _ (λ o c k. (refl, k))) (learns (λ s. order s h) I.site)

  pub inv_get : Inv r (get t x found ∷ h) (with_get W t x)
  unfolding order op
  inv_get =
      inv_other r h W I _ (λ o y v c q. clash (cc)) _ W.applied W.store I.own_count (λ s. grow_old W.depends t s _) named
      (learns_known _ (λ o c k. (refl, k))) (learns (λ s. order s (get t x found ∷ h)) looked)

pub inv_retire : (r : Ranks) (h : History) (W : World) (t : ℕ) → Inv r h W → Inv r (retire t ∷ h) W
unfolding order op
inv_retire r h W t I =
    inv_other r h W I _ (λ o y v c q. clash (cc)) W.depends W.applied W.store I.own_count (λ s o c k. k) (λ s o c k. absurd k)
    (λ s o c k. known_more r h _ (I.knows s o c k)) I.site

-- ## Update

module _ (r : Ranks) (h : History) (W : World) (t o : ℕ) (others : t ≢ o) (there : Behind W t o) (causes : CausesApplied W t o) (I : Inv r h W)
    (right : Right r W.updates) where
  abbrev up : Update
  up = waiting W t o

  abbrev brought : Event
  brought = update t o (due W t o) up.key up.value

  update_count : (s : ℕ) → (W.applied ⟨ t ⟩⟨ o ≔ due W t o ⟩) s s ≡ length (W.updates s)
  update_count s =
      choice (eqb t s) (λ (a : ℕ → ℕ). a s ≡ length (W.updates s))
      (λ e.
      let k : o ≢ s = λ q. others (eqb-true t s e ∙ sym q) in
      at_other (W.applied t) o (due W t o) s k ∙ ap (λ (z : ℕ). W.applied z s) (eqb-true t s e) ∙ I.own_count s)
      (λ e. I.own_count s)

  abbrev entry : Entry
  entry = W.store t up.key

  update_issued : Issued W.updates o (due W t o)
  update_issued = (omega arith, there)

  entry_rank : (o' c' : ℕ) → Names entry.answer o' c' → Rank entry.depends (r o' c')
  entry_rank o' c' n =
      let (v, p, q) = right o' c' (held_issued (I.site t) up.key o' c' n) in
      let f = (I.site t).sets up.key o' c' n in
      (v, tops_same v _ _ (λ o c. (f o c).1) (λ o c. (f o c).0) p, q)

  module _ (b : Bool) (replaces : (b ≡ true) ↔ Replaces o up.depends entry.answer entry.depends) where
    abbrev arrived : Op
    arrived = Write o (due W t o) up.key up.value

    abbrev fresh : Entry
    fresh = record { answer = wrote up.value o (due W t o); depends = up.depends }

    update_here : Site r W.updates (W.depends t) (W.applied t ↑ o) (when b then W.store t ⟨ up.key ≔ fresh ⟩ else W.store t) (arrived ∷ order t h)
    update_here =
        write_site r W.updates (W.depends t) (W.depends t) (W.applied t) (W.store t) (order t h) o up (I.site t)
        there
        refl
        (λ o' c' q. ((I.closed o (due W t o) update_issued o' c' q).0.0, causes o' c' q))
        (I.site t).closed
        (λ o' c' q. up_more (W.applied t) o o' c' ((I.site t).have o' c' q))
        b
        (judged r entry.answer up.depends entry.depends up.value o (due W t o) b (right o (due W t o) update_issued) entry_rank replaces)

    -- the store of a site is that of t, or as it was
    update_store : (s : ℕ) → (with_update W t o b).store s ≡ (when eqb t s then (when b then W.store t ⟨ up.key ≔ fresh ⟩ else W.store t) else W.store s)
    update_store s = go b (eqb t s) refl
      where
        go : (b i : Bool) → eqb t s ≡ i
            → (when b then (W.store ⟨ t ⟩⟨ up.key ≔ fresh ⟩) else W.store) s ≡ (when i then (when b then W.store t ⟨ up.key ≔ fresh ⟩ else W.store t) else W.store s)
        go true i e = ap (λ (z : Bool). when z then W.store t ⟨ up.key ≔ fresh ⟩ else W.store s) e
        go false true e = ap W.store (sym (eqb-true t s e))
        go false false e = refl

    update_site : (s : ℕ) → SiteOf r (with_update W t o b) s (order s (brought ∷ h))
    unfolding order op
    update_site s = subst (λ (m : ℕ → Entry). Site r W.updates (W.depends s) ((W.applied ⟨ t ⟩⟨ o ≔ due W t o ⟩) s) m (order s (brought ∷ h))) (sym (update_store s)) (go (eqb t s) refl)
      where
        go : (i : Bool) → eqb t s ≡ i
            → Site r W.updates (W.depends s) (when i then (W.applied t ↑ o) else W.applied s) (when i then (when b then W.store t ⟨ up.key ≔ fresh ⟩ else W.store t) else W.store s)
            ((when i then arrived ∷ [] else []) ++ order s h)
        go true e =
            subst
            (λ (z : ℕ). Site r W.updates (W.depends z) (W.applied t ↑ o) (when b then W.store t ⟨ up.key ≔ fresh ⟩ else W.store t) (arrived ∷ order z h))
            (eqb-true t s e)
            update_here
        go false e = I.site s

    pub inv_update : Inv r (brought ∷ h) (with_update W t o b)
    inv_update =
        inv_other r h W I brought (λ o₁ y v c q. clash (cc)) W.depends _ _ update_count (λ s o₁ c k. k) (λ s o₁ c k. absurd k)
        (λ s o₁ c k. known_more r h brought (I.knows s o₁ c k)) update_site

pub issued : (r : Ranks) (h : History) (W : World) → Inv r h W → (o x w c : ℕ) → put o x w c ∈ h → Issued W.updates o c
issued r h W I o x w c q = ((I.site o).closed o c (I.saw (put o x w c) o o c q (refl, refl, refl))).0

pub put_inj : (o x v c o' x' v' c' : ℕ) → put o x v c ≡ put o' x' v' c' → (o ≡ o') × (c ≡ c')
put_inj o x v c o' x' v' c' e = ((cc), (cc))
