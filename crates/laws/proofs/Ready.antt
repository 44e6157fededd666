-- What holds where no condition of a call does: exactly then its step is taken. Assumes nothing.
use mathlib.Core.Path.{◌≡◌, refl}
use mathlib.Core.Bool.{Bool, true, false, not, ◌&&◌}
use mathlib.Core.List.{[], ◌∷◌}
use mathlib.Core.Logic.Iff
use mathlib.Core.Logic.{◌≢◌, ◌↔◌}
use Prim.Native.Nat.{ℕ, ◌+◌, ◌^◌, ◌≤◌, ◌<◌}
use native.Mathlib.Omega.{arith}
use lib.Dec.{eqb}
use borrow.Author.Tests.{ne_eqb, lt-leb}
use Rattle.clock.specs.Map.{any}
use Rattle.clock.proofs.Maps.{both, choice}
use Rattle.clock.proofs.Says.{says_itself, says_eq, Denies, denies_itself, denies_eq, denies_le, denies_lt, denies_not, denies_or, denies_unless, denies_any, says_and, says_not, says_any, says_le}
use Rattle.layout.specs.State.{State, Entry, last_clock}
use Rattle.rules.specs.Live.{gone, Live}
use Rattle.rules.specs.Sound.{sound, Sound}
use Rattle.rules.specs.Touch.{keeps_hour, recorded}
use Rattle.rules.specs.Steps.{waiting}
use Rattle.rules.specs.Refusals.{Refusals, first, full, missing, open_refusals, put_refusals, get_refusals, adopt_refusals, deliver_refusals, site_refusals, touch_refusals, last, retire_refusals}
use Rattle.rules.specs.Calls.{Cold, Touch, refusals}
use Rattle.laws.proofs.Given.{Gives, end, here, past}
use Rattle.laws.proofs.Tested.{range_says, sound_tested}

pub record OpenReady (n k : ℕ) : Type 0 where
  pub sites : (1 ≤ n) × (n ≤ 8)
  pub keys : (1 ≤ k) × (k ≤ 64)

pub record PutReady (S : State) (s x : ℕ) : Type 0 where
  pub sound : Sound S
  pub site : s < S.n
  pub live : gone S s ≡ false
  pub key : x < S.k
  pub clock : S.applied s s ≢ last_clock
  pub room : (t : ℕ) → Live S t → S.applied s s < S.applied t s + 16

pub record GetReady (S : State) (s x : ℕ) : Type 0 where
  pub sound : Sound S
  pub site : s < S.n
  pub live : gone S s ≡ false
  pub key : x < S.k

-- where a put is ready a get is
pub gets_too : {S : State} {s x : ℕ} → PutReady S s x → GetReady S s x
gets_too R = record { sound = R.sound; site = R.site; live = R.live; key = R.key }

pub record AdoptReady (S : State) (s x o c : ℕ) : Type 0 where
  pub get : GetReady S s x
  pub below : o < S.n
  pub origin : (S.store s x).origin ≡ o
  pub clock : (S.store s x).clock ≡ c

pub record DeliverReady (S : State) (s o : ℕ) : Type 0 where
  pub sound : Sound S
  pub site : s < S.n
  pub origin : o < S.n
  pub others : s ≢ o
  pub live : gone S s ≡ false
  pub behind : S.applied s o ≢ S.applied o o
  pub causes : (j : ℕ) → j < 8 → (waiting S s o).depends j ≤ S.applied s j

pub record DrainReady (S : State) (s : ℕ) : Type 0 where
  pub sound : Sound S
  pub site : s < S.n
  pub live : gone S s ≡ false

pub record RetireReady (S : State) (s : ℕ) : Type 0 where
  pub sound : Sound S
  pub site : s < S.n
  pub live : gone S s ≡ false
  pub another : (t : ℕ) × Live S t × (t ≢ s)

pub open_ready : (n k : ℕ) → (first (open_refusals n k) ≡ 0) ↔ OpenReady n k
unfolding open_refusals
open_ready n k =
    Iff.trans
    (past 3 (omega arith) (denies_not (range_says n k)) end).exactly
    ((λ r. record { sites = r.0.0.0; keys = (r.0.0.1, r.0.1) }), λ r. (((r.sites, r.keys.0), r.keys.1), tt))

module _ (S : State) where
  past_sound : {Q : Type 0} {ps : Refusals} {e : ℕ} → 2 ≢ e → Gives ps e Q → Gives ((2, not (sound S)) ∷ ps) e (Sound S × Q)
  past_sound h = past 2 h (denies_not (sound_tested S))

  -- 8 is refused exactly where the new clock would have no place
  pub full_denies : (s : ℕ) → Sound S → s < S.n → Denies (full S s) ((t : ℕ) → Live S t → S.applied s s < S.applied t s + 16)
  unfolding full
  full_denies s D h = (
    (λ e t l. omega (arith, D.room t s l h, lags.0 e t l.0 l.1)),
    λ f. lags.1 (λ t l g. omega (arith, f t (l, g))),
  )
    where
      lags : Denies (full S s) ((t : ℕ) → t < S.n → gone S t ≡ false → S.applied t s + 16 ≢ S.applied s s)
      lags = denies_any _ (λ t. gone S t ≡ false → S.applied t s + 16 ≢ S.applied s s) S.n (λ t. denies_unless (denies_itself (gone S t)) (denies_eq _ _))

  past_live : {Q : Type 0} {ps : Refusals} {e : ℕ} → (s : ℕ) → 16 ≢ e → Gives ps e Q → Gives ((16, gone S s) ∷ ps) e ((gone S s ≡ false) × Q)
  past_live s h = past 16 h (denies_itself (gone S s))

  pub put_ready : (s x : ℕ) → (first (put_refusals S s x) ≡ 0) ↔ PutReady S s x
  unfolding put_refusals
  put_ready s x =
      Iff.trans
      (past_sound (omega arith)
      (past 4 (omega arith) (denies_le S.n s)
      (past_live s (omega arith)
      (past 6 (omega arith) (denies_le S.k x)
      (past 7 (omega arith) (denies_eq (S.applied s s) last_clock)
      (past 8 (omega arith) (denies_itself (full S s)) end)))))).exactly (
        (λ r.
            record {
              sound = r.0;
              site = r.1.0;
              live = r.1.1.0;
              key = r.1.1.1.0;
              clock = r.1.1.1.1.0;
              room = (full_denies s r.0 r.1.0).0 r.1.1.1.1.1.0;
            }),
        λ r. (r.sound, (r.site, (r.live, (r.key, (r.clock, ((full_denies s r.sound r.site).1 r.room, tt)))))),
      )

  pub get_ready : (s x : ℕ) → (first (get_refusals S s x) ≡ 0) ↔ GetReady S s x
  unfolding get_refusals
  get_ready s x =
      Iff.trans
      (past_sound (omega arith) (past 4 (omega arith) (denies_le S.n s) (past_live s (omega arith) (past 6 (omega arith) (denies_le S.k x) end)))).exactly
      ((λ r. record { sound = r.0; site = r.1.0; live = r.1.1.0; key = r.1.1.1.0 }), λ r. (r.sound, (r.site, (r.live, (r.key, tt)))))

  pub adopt_ready : (s x o c : ℕ) → (first (adopt_refusals S s x o c) ≡ 0) ↔ AdoptReady S s x o c
  unfolding adopt_refusals
  adopt_ready s x o c =
      Iff.trans
      (past_sound (omega arith)
      (past 4 (omega arith) (denies_or (denies_le S.n s) (denies_le S.n o))
      (past_live s (omega arith)
      (past 6 (omega arith) (denies_le S.k x)
      (past 15 (omega arith) (denies_not (says_and (says_eq (S.store s x).origin o) (says_eq (S.store s x).clock c))) end))))).exactly (
        (λ (D, ((p, q), (l, (k, ((e, f), _))))). record { get = record { sound = D; site = p; live = l; key = k }; below = q; origin = e; clock = f }),
        λ r. (r.get.sound, ((r.get.site, r.below), (r.get.live, (r.get.key, ((r.origin, r.clock), tt))))),
      )

  pub deliver_ready : (s o : ℕ) → (first (deliver_refusals S s o) ≡ 0) ↔ DeliverReady S s o
  unfolding deliver_refusals
  deliver_ready s o =
      Iff.trans
      (past_sound (omega arith)
      (past 4 (omega arith) (denies_or (denies_le S.n s) (denies_le S.n o))
      (past 5 (omega arith) (denies_eq s o)
      (past_live s (omega arith)
      (past 9 (omega arith) (denies_eq (S.applied s o) (S.applied o o))
      (past 10 (omega arith) (denies_any (missing S s o) (λ j. (waiting S s o).depends j ≤ S.applied s j) 8 (λ j. denies_lt _ _)) end)))))).exactly (
        (λ r.
            record {
              sound = r.0;
              site = r.1.0.0;
              origin = r.1.0.1;
              others = r.1.1.0;
              live = r.1.1.1.0;
              behind = r.1.1.1.1.0;
              causes = r.1.1.1.1.1.0;
            }),
        λ r. (r.sound, ((r.site, r.origin), (r.others, (r.live, (r.behind, (r.causes, tt)))))),
      )

  -- of a sound table and two of its sites, the receiver live, only 9 and 10 are left to ask
  pub deliver_asks : (s o : ℕ) → Sound S → s < S.n → o < S.n → s ≢ o → gone S s ≡ false
      → first (deliver_refusals S s o) ≡ first ((9, eqb (S.applied s o) (S.applied o o)) ∷ (10, any 8 (missing S s o)) ∷ [])
  unfolding deliver_refusals
  deliver_asks s o D h l e g = rw ((sound_tested S).1 D, lt-leb S.n s h, lt-leb S.n o l, ne_eqb s o e, g)

  -- 9: no update of o is left for s
  pub deliver_nine : (s o : ℕ) → (first (deliver_refusals S s o) ≡ 9) ↔ (Sound S × ((s < S.n × o < S.n) × (s ≢ o × ((gone S s ≡ false) × S.applied s o ≡ S.applied o o))))
  unfolding deliver_refusals
  deliver_nine s o =
      (past_sound (omega arith)
      (past 4 (omega arith) (denies_or (denies_le S.n s) (denies_le S.n o))
      (past 5 (omega arith) (denies_eq s o)
      (past_live s (omega arith)
      (here 9 ((10, any 8 (missing S s o)) ∷ []) (choice (any 8 (missing S s o)) (λ z. z ≢ 9) (λ e. omega arith) (λ e. omega arith)) (says_eq (S.applied s o) (S.applied o o))))))).exactly

  -- 10: one is, and a cause of it is missing
  pub deliver_ten : (s o : ℕ)
      → (first (deliver_refusals S s o) ≡ 10) ↔ (Sound S × ((s < S.n × o < S.n) × (s ≢ o × ((gone S s ≡ false) × (S.applied s o ≢ S.applied o o × any 8 (missing S s o) ≡ true)))))
  unfolding deliver_refusals
  deliver_ten s o =
      (past_sound (omega arith)
      (past 4 (omega arith) (denies_or (denies_le S.n s) (denies_le S.n o))
      (past 5 (omega arith) (denies_eq s o)
      (past_live s (omega arith)
      (past 9 (omega arith) (denies_eq (S.applied s o) (S.applied o o))
      (here 10 [] (omega arith) (says_itself (any 8 (missing S s o))))))))).exactly

  pub drain_ready : (s : ℕ) → (first (site_refusals S s) ≡ 0) ↔ DrainReady S s
  unfolding site_refusals
  drain_ready s =
      Iff.trans
      (past_sound (omega arith) (past 4 (omega arith) (denies_le S.n s) (past_live s (omega arith) end))).exactly
      ((λ r. record { sound = r.0; site = r.1.0; live = r.1.1.0 }), λ r. (r.sound, (r.site, (r.live, tt))))

  -- 17 is refused exactly where another site is live
  pub last_denies : (s : ℕ) → Denies (last S s) ((t : ℕ) × Live S t × (t ≢ s))
  unfolding last
  last_denies s =
      denies_not
      (Iff.trans (says_any _ (λ t. (t ≢ s) × (gone S t ≡ false)) S.n (λ t. says_not (denies_or (denies_eq t s) (denies_itself (gone S t))))) (
        (λ r. (r.0, (r.1, r.2.1), r.2.0)),
        λ r. (r.0, r.1.0, (r.2, r.1.1)),
      ))

  pub retire_ready : (s : ℕ) → (first (retire_refusals S s) ≡ 0) ↔ RetireReady S s
  unfolding retire_refusals
  retire_ready s =
      Iff.trans
      (past_sound (omega arith) (past 4 (omega arith) (denies_le S.n s) (past_live s (omega arith) (past 17 (omega arith) (last_denies s) end)))).exactly
      ((λ r. record { sound = r.0; site = r.1.0; live = r.1.1.0; another = r.1.1.1.0 }), λ r. (r.sound, (r.site, (r.live, (r.another, tt)))))

-- ## Touch and the cold list

pub record TouchReady (S : State) (s x hour u r : ℕ) : Type 0 where
  pub put : PutReady S s x
  pub toucher : u < 4
  pub tier : r < 4
  pub now : hour < 2 ^ 16
  pub old : keeps_hour u ≡ true → recorded (S.store s x) ≡ true

pub record ColdReady (S : State) (s hour T m : ℕ) : Type 0 where
  pub sound : Sound S
  pub site : s < S.n
  pub live : gone S s ≡ false
  pub threshold : (1 ≤ T) × (T ≤ 32767)
  pub room : m ≡ 64
  pub now : hour < 2 ^ 16

-- a scan or migration touches what is recorded
recorded_denies : (u : ℕ) (e : Entry) → Denies (keeps_hour u && not (recorded e)) (keeps_hour u ≡ true → recorded e ≡ true)
recorded_denies u e = go (keeps_hour u) (recorded e)
  where
    go : (a b : Bool) → Denies (a && not b) (a ≡ true → b ≡ true)
    go true true = ((λ z y. refl), λ f. refl)
    go true false = ((λ z. both refl z), λ f. both (f refl) refl)
    go false b = ((λ z y. both y refl), λ f. refl)

module _ (S : State) where
  pub touch_ready : (s x now u r : ℕ) → first (refusals S (Touch s x now u r)) ≡ 0 → TouchReady S s x now u r
  unfolding refusals touch_refusals
  touch_ready s x now u r z =
      let g =
      (past 14 (omega arith) (denies_or (denies_or (denies_lt 3 u) (denies_lt 3 r)) (denies_lt 65535 now))
      (past_sound S (omega arith)
      (past 4 (omega arith) (denies_le S.n s)
      (past_live S s (omega arith)
      (past 6 (omega arith) (denies_le S.k x)
      (past 13 (omega arith) (recorded_denies u (S.store s x))
      (past 7 (omega arith) (denies_eq (S.applied s s) last_clock)
      (past 8 {t = full S s} (omega arith) Iff.rfl end)))))))).exactly.0 z in
      let D = g.1.0 in
      let R = g.1.1 in
      record {
        put = record { sound = D; site = R.0; live = R.1.0; key = R.1.1.0; clock = R.1.1.1.1.0; room = (full_denies S s D R.0).0 R.1.1.1.1.1.0 };
        toucher = omega (arith, g.0.0.0);
        tier = omega (arith, g.0.0.1);
        now = omega (arith, g.0.1);
        old = R.1.1.1.0;
      }

  pub cold_ready : (s now T m : ℕ) → first (refusals S (Cold s now T m)) ≡ 0 → ColdReady S s now T m
  unfolding refusals site_refusals
  cold_ready s now T m z =
      let g =
      (past 14 (omega arith) (denies_or (denies_or (denies_not (says_and (says_le 1 T) (says_le T 32767))) (denies_not (says_eq m 64))) (denies_lt 65535 now))
      (past_sound S (omega arith) (past 4 (omega arith) (denies_le S.n s) (past_live S s (omega arith) end)))).exactly.0 z in
      record { sound = g.1.0; site = g.1.1.0; live = g.1.1.1.0; threshold = g.0.0.0; room = g.0.0.1; now = omega (arith, g.0.1) }
