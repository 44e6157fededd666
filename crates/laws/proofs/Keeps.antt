-- Put, get and deliver keep a table sound. Assumes nothing.
use mathlib.Core.Path.{◌≡◌, refl, sym, ap, subst, ◌∙◌}
use mathlib.Core.Bool.{false}
use mathlib.Core.Logic.{◌⊎◌, inl, inr, ⊎_elim, ◌≢◌}
use Prim.Native.Nat.{ℕ, suc, ◌+◌, ◌^◌, ◌≤◌, ◌<◌}
use native.Mathlib.Omega.{arith}
use lib.Dec.{eqb}
use Rattle.clock.specs.Map.{◌⟨◌≔◌⟩, ◌⟨◌⟩⟨◌≔◌⟩}
use Rattle.clock.specs.Vector.{Vector}
use Rattle.clock.proofs.Maps.{both, choice, eq?, at_is₂}
use Rattle.layout.specs.State.{State, Entry, Update, with_depends}
use Rattle.rules.specs.Live.{gone, Live}
use Rattle.rules.specs.Sound.{place, Blank, Written, Retained, Sound}
use Rattle.rules.specs.Engine.{Engine}
use Rattle.rules.specs.Steps.{opened, put, learn, get, deliver, next, waiting, retire}
use Rattle.laws.proofs.Ready.{OpenReady, PutReady, GetReady, DeliverReady, RetireReady}
use Rattle.laws.proofs.Bits.{bit_own, bit_other, bit_below, bit_none, two_most}

-- ## A count one higher

module _ (f : ℕ → Vector) (s o : ℕ) where
  abbrev pub up : ℕ → Vector
  up = f ⟨ s ⟩⟨ o ≔ suc (f s o) ⟩

  pub up_le : (s' o' : ℕ) → f s' o' ≤ up s' o'
  up_le s' o' = ⊎_elim (λ p. let e : f s o ≡ f s' o' = cc (p.0, p.1) in omega (arith, p.2)) (λ p. omega (arith, p.1)) (at_is₂ f s o (suc (f s o)) s' o')

  pub up_new : up s o ≡ suc (f s o)
  up_new = ⊎_elim (λ p. p.2) (λ p. absurd (p.0 refl refl)) (at_is₂ f s o (suc (f s o)) s o)

-- ## Entries

abbrev pub Good : State → (s : ℕ) → Entry → Type 0
Good S s e = Blank e ⊎ Written S s e

-- the entries of a sound table are good where counts have grown, and so is one that names the put last counted
module _ (S T : State) (s o : ℕ) (sites : T.n ≡ S.n) (counts : T.applied ≡ up S.applied s o) where
  older : (s' : ℕ) (e : Entry) → Good S s' e → Good T s' e
  older s' e =
      ⊎_elim inl
      (λ w. inr (record {
        origin = omega (arith, w.origin);
        some = w.some;
        applied = rw counts (omega (arith, w.applied, up_le S.applied s o s' e.origin));
      }))

  newest : (e : Entry) → o < S.n → e.origin ≡ o → e.clock ≡ suc (S.applied s o) → Good T s e
  newest e h p q =
      inr (record { origin = omega (arith, p); some = omega (arith, q); applied = rw (counts, p) (omega (arith, q, up_new S.applied s o)) })

  entry_kept : (x : ℕ) (e : Entry) → o < S.n → e.origin ≡ o → e.clock ≡ suc (S.applied s o) → (s' x' : ℕ) → Good S s' (S.store s' x')
      → Good T s' ((S.store ⟨ s ⟩⟨ x ≔ e ⟩) s' x')
  entry_kept x e h p q s' x' g =
      ⊎_elim
      (λ r. subst (Good T s') (sym r.2) (subst (λ (z : ℕ). Good T z e) r.0 (newest e h p q)))
      (λ r. subst (Good T s') (sym r.1) (older s' (S.store s' x') g))
      (at_is₂ S.store s x e s' x')

-- ## Open

pub open_sound : (n k : ℕ) → OpenReady n k → Sound (opened n k)
unfolding opened
open_sound n k R =
    record {
      sites = R.sites;
      keys = R.keys;
      retired = two_most 0 n (omega arith);
      someone = (0, (omega (arith, R.sites), bit_none 0));
      zero = refl;
      most = λ s o p q. omega arith;
      room = λ s o p q. omega arith;
      entries = λ s x p q. inl (record { value = refl; origin = refl; zero = refl; clock = refl; depends = λ j h. refl });
      kept = λ o c p r. absurd (omega (arith, r.made, r.lacks));
    }

-- ## Deliver

module _ (S : State) (s o : ℕ) (R : DeliverReady S s o) where
  pub deliver_behind : S.applied s o < S.applied o o
  deliver_behind = omega (arith, R.behind, R.sound.most s o R.site R.origin)

  -- the next update stands at its place
  pub deliver_waiting : ((waiting S s o).clock ≡ next S s o) × ((waiting S s o).key < S.k)
  deliver_waiting = R.sound.kept o (next S s o) R.origin (record { made = deliver_behind; by = s; site = (R.site, R.live); lacks = omega arith })

module _ (E : Engine) (S : State) (s o : ℕ) (R : DeliverReady S s o) where
  abbrev T₁ : State
  T₁ = (deliver E S s o).after

  pub deliver_own : (o' : ℕ) → T₁.applied o' o' ≡ S.applied o' o'
  unfolding deliver
  deliver_own o' = ⊎_elim (λ p. absurd (R.others (p.0 ∙ sym p.1))) (λ p. p.1) (at_is₂ S.applied s o (next S s o) o' o')

  pub deliver_retained : (o' c : ℕ) → Retained T₁ o' c → Retained S o' c
  unfolding deliver
  deliver_retained o' c r =
      record {
        made = omega (arith, r.made, deliver_own o');
        by = r.by;
        site = r.site;
        lacks = omega (arith, r.lacks, up_le S.applied s o r.by o');
      }

  deliver_most : (s' o' : ℕ) → s' < S.n → o' < S.n → T₁.applied s' o' ≤ T₁.applied o' o'
  unfolding deliver
  deliver_most s' o' p q =
      ⊎_elim
      (λ r. let e : S.applied o o ≡ S.applied o' o' = cc r.1 in omega (arith, r.2, deliver_own o', deliver_behind))
      (λ r. omega (arith, r.1, deliver_own o', R.sound.most s' o' p q))
      (at_is₂ S.applied s o (next S s o) s' o')

  pub deliver_sound : Sound T₁
  unfolding deliver
  deliver_sound =
      record {
        sites = R.sound.sites;
        keys = R.sound.keys;
        retired = R.sound.retired;
        someone = R.sound.someone;
        zero = R.sound.zero;
        most = deliver_most;
        room = λ s' o' p q. omega (arith, deliver_own o', up_le S.applied s o s' o', R.sound.room s' o' p q);
        entries = λ s' x p q.
            let g = R.sound.entries s' x p q in
            choice (E.replaces (waiting S s o) o (S.store s (waiting S s o).key)) (λ (m : ℕ → ℕ → Entry). Good T₁ s' (m s' x))
            (λ e. entry_kept S T₁ s o refl refl (waiting S s o).key _ R.origin refl refl s' x g)
            (λ e. older S T₁ s o refl refl s' _ g);
        kept = λ o' c p r. R.sound.kept o' c p (deliver_retained o' c r);
      }

-- ## Get

-- soundness does not look at the dependency rows
pub depends_sound : (S : State) (d : ℕ → Vector) → Sound S → Sound (with_depends S d)
depends_sound S d D =
    record {
      sites = D.sites;
      keys = D.keys;
      retired = D.retired;
      someone = D.someone;
      zero = D.zero;
      most = D.most;
      room = D.room;
      entries = λ s x p q. ⊎_elim inl (λ w. inr (record { origin = w.origin; some = w.some; applied = w.applied })) (D.entries s x p q);
      kept = λ o c p r. D.kept o c p (record { made = r.made; by = r.by; site = r.site; lacks = r.lacks });
    }

pub get_sound : (E : Engine) (S : State) (s x : ℕ) → Sound S → Sound (get E S s x).after
unfolding get learn
get_sound E S s x D = choice (eqb (S.store s x).clock 0) Sound (λ e. D) (λ e. depends_sound S _ D)

module _ (S : State) (s x : ℕ) (R : GetReady S s x) where
  -- that of a never-written key is 0
  pub get_origin : (S.store s x).origin < S.n
  get_origin = ⊎_elim (λ b. omega (arith, b.origin, R.sound.sites)) (λ w. w.origin) (R.sound.entries s x R.site R.key)

  pub get_never : (S.store s x).clock ≡ 0 → Blank (S.store s x)
  get_never z = ⊎_elim (λ b. b) (λ w. absurd (omega (arith, w.some))) (R.sound.entries s x R.site R.key)

-- ## Put

module _ (E : Engine) (S : State) (s x v : ℕ) (R : PutReady S s x) where
  abbrev T₂ : State
  T₂ = (put E S s x v).after

  abbrev pub fresh : Update
  fresh = record { value = v; key = x; zero = 0; clock = next S s s; depends = E.sent (S.depends s) (S.store s x) }

  -- the sixteen clocks up to the new one have places of their own
  apart : (c : ℕ) → 1 ≤ c → c < next S s s → next S s s < c + 16 → place (next S s s) ≢ place c
  apart c p q r e = omega arith

  pub put_retained : (o c : ℕ) → Retained T₂ o c
      → ((s ≡ o) × (c ≡ next S s s)) ⊎ (Retained S o c × (T₂.updates o (place c) ≡ S.updates o (place c)))
  unfolding put
  put_retained o c r =
      ⊎_elim
      (λ p. ⊎_elim (λ (l : c ≡ next S s s). inl (p.0, l)) (λ (l : c ≢ next S s s). inr (mine p.0 (omega (arith, r.made, p.2)))) (eq? c (next S s s)))
      (λ p. inr (other p))
      (at_is₂ S.applied s s (next S s s) o o)
    where
      before : S.applied r.by o < c
      before = omega (arith, r.lacks, up_le S.applied s s r.by o)

      mine : s ≡ o → c ≤ S.applied s s → Retained S o c × (T₂.updates o (place c) ≡ S.updates o (place c))
      mine e l =
          let z : S.applied s s ≡ S.applied o o = cc in
          let y : S.applied r.by s ≡ S.applied r.by o = cc in (
            record { made = omega arith; by = r.by; site = r.site; lacks = before },
            ⊎_elim
                (λ q. absurd (apart c (omega (arith, before)) (omega arith) (omega (arith, before, y, R.room r.by r.site)) q.1))
                (λ q. q.1)
                (at_is₂ S.updates s (place (next S s s)) fresh o (place c)),
          )

      other : (s ≡ o → s ≡ o → ⊥) × (T₂.applied o o ≡ S.applied o o) → Retained S o c × (T₂.updates o (place c) ≡ S.updates o (place c))
      other p = (
        record { made = omega (arith, r.made, p.1); by = r.by; site = r.site; lacks = before },
        ⊎_elim (λ q. absurd (p.0 q.0 q.0)) (λ q. q.1) (at_is₂ S.updates s (place (next S s s)) fresh o (place c)),
      )

  pub put_stands : (o c : ℕ) → (s ≡ o) × (c ≡ next S s s) → T₂.updates o (place c) ≡ fresh
  unfolding put
  put_stands o c e =
      ⊎_elim (λ q. q.2) (λ q. absurd (q.0 e.0 (ap place (sym e.1)))) (at_is₂ S.updates s (place (next S s s)) fresh o (place c))

  put_most : (s' o : ℕ) → s' < S.n → o < S.n → T₂.applied s' o ≤ T₂.applied o o
  unfolding put
  put_most s' o p q =
      ⊎_elim
      (λ r. ⊎_elim (λ t. omega (arith, r.2, t.2)) (λ t. absurd (t.0 r.1 r.1)) (at_is₂ S.applied s s (next S s s) o o))
      (λ r. omega (arith, r.1, R.sound.most s' o p q, up_le S.applied s s o o))
      (at_is₂ S.applied s s (next S s s) s' o)

  put_sixteen : (s' o : ℕ) → Live S s' → o < S.n → T₂.applied o o ≤ T₂.applied s' o + 16
  unfolding put
  put_sixteen s' o p q =
      ⊎_elim
      (λ r. let e : S.applied s' s ≡ S.applied s' o = cc r.0 in omega (arith, r.2, R.room s' p, up_le S.applied s s s' o))
      (λ r. omega (arith, r.1, R.sound.room s' o p q, up_le S.applied s s s' o))
      (at_is₂ S.applied s s (next S s s) o o)

  pub put_sound : Sound T₂
  unfolding put
  put_sound =
      record {
        sites = R.sound.sites;
        keys = R.sound.keys;
        retired = R.sound.retired;
        someone = R.sound.someone;
        zero = R.sound.zero;
        most = put_most;
        room = put_sixteen;
        entries = λ s' x' p q. entry_kept S T₂ s s refl refl x _ R.site refl refl s' x' (R.sound.entries s' x' p q);
        kept = λ o c p r.
            ⊎_elim
            (λ e. let z = put_stands o c e in (ap (λ (y : Update). y.clock) z ∙ sym e.1, subst (λ (y : Update). y.key < S.k) (sym z) R.key))
            (λ e. subst (λ (y : Update). (y.clock ≡ c) × (y.key < S.k)) (sym e.1) (R.sound.kept o c p e.0))
            (put_retained o c r);
      }

-- ## Retire

module _ (S : State) (s : ℕ) (R : RetireReady S s) where
  abbrev T₃ : State
  T₃ = (retire S s).after

  -- who is live after it was live before, and is another
  pub retire_live : (t : ℕ) → Live T₃ t → Live S t × (t ≢ s)
  unfolding retire
  retire_live t l =
      ⊎_elim
      (λ (e : s ≡ t). both (bit_own S.retired s R.live) (subst (λ (z : ℕ). gone T₃ z ≡ false) (sym e) l.1))
      (λ (e : s ≢ t). ((l.0, sym (bit_other S.retired s t R.live e) ∙ l.1), λ q. e (sym q)))
      (eq? s t)

  pub retire_stays : (t : ℕ) → Live S t → t ≢ s → Live T₃ t
  unfolding retire
  retire_stays t l e = (l.0, bit_other S.retired s t R.live (λ q. e (sym q)) ∙ l.1)

  pub retire_retained : (o c : ℕ) → Retained T₃ o c → Retained S o c
  unfolding retire
  retire_retained o c r = record { made = r.made; by = r.by; site = (retire_live r.by r.site).0; lacks = r.lacks }

  pub retire_sound : Sound T₃
  unfolding retire
  retire_sound =
      let D = R.sound in
      let (t, l, e) = R.another in
      record {
        sites = D.sites;
        keys = D.keys;
        retired = bit_below S.n s S.retired D.retired R.site R.live;
        someone = (t, retire_stays t l e);
        zero = D.zero;
        most = D.most;
        room = λ s' o p. D.room s' o (retire_live s' p).0;
        entries = λ s' x p q. ⊎_elim inl (λ w. inr (record { origin = w.origin; some = w.some; applied = w.applied })) (D.entries s' x p q);
        kept = λ o c p r. D.kept o c p (retire_retained o c r);
      }

  -- the set of retired sites stays a byte
  pub retire_byte : S.retired + 2 ^ s < 256
  retire_byte = omega (arith, bit_below S.n s S.retired R.sound.retired R.site R.live, two_most S.n 8 R.sound.sites.1)
