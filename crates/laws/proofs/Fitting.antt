-- Every call leaves a table whose numbers fit their bytes. Assumes nothing.
use mathlib.Core.Path.{◌≡◌, refl, sym, ap, subst, ◌∙◌}
use mathlib.Core.Bool.{false}
use mathlib.Core.List.{List, []}
use mathlib.Core.Logic.{⊎_elim}
use Prim.Native.Nat.{ℕ, ◌^◌, ◌<◌}
use native.Mathlib.Omega.{arith}
use lib.Dec.{eqb}
use lib.ListN.{get_or, length, replicate, length-replicate}
use Rattle.clock.specs.Map.{◌⟨◌≔◌⟩, ◌⟨◌⟩⟨◌≔◌⟩}
use Rattle.clock.specs.Vector.{Vector, zeros, join, note}
use Rattle.clock.proofs.Maps.{choice, at_is}
use Rattle.clock.proofs.Cells.{cells_zeros}
use Rattle.layout.specs.Codec.{Codec, row}
use Rattle.layout.specs.State.{State, Entry, Update, of_entry, of_update, all_zero, clock, vector, entry, update, table, with_applied, with_depends, with_store, with_updates}
use Rattle.layout.specs.Ranges.{Bytes, Rows, FitsVector, FitsFields, Fits}
use Rattle.layout.proofs.TableTrips.{state_fits}
use Rattle.layout.proofs.Zeros.{all_zero_read}
use Rattle.rules.specs.Sound.{place}
use Rattle.rules.specs.Engine.{Engine, taken_on, long, short, ours}
use Rattle.rules.specs.Steps as r
use Rattle.rules.specs.Touch.{touch_of, keeps_hour, touched}
use Rattle.rules.specs.Steps.{opened, learn}
use Rattle.rules.specs.Drain.{drained, drain, turn}
use Rattle.rules.specs.Refusals.{first}
use Rattle.rules.specs.Calls.{Call, Open, Put, Get, Deliver, Drain, Cold, Touch, Look, Adopt, Retire, refusals, step, run}
use Rattle.laws.proofs.Ready.{gets_too, RetireReady, retire_ready, OpenReady, PutReady, GetReady, DeliverReady, open_ready, put_ready, get_ready, adopt_ready, deliver_ready, TouchReady, touch_ready}
use Rattle.laws.proofs.Keeps.{get_origin, deliver_behind, deliver_waiting, retire_byte}
use Rattle.laws.proofs.Touching.{learn_apart, apart_ready}
use Rattle.laws.proofs.Draining.{by_deliveries}
use Rattle.laws.proofs.After.{after_run}

-- ## Rows with one part changed

rows_set : {A : Type 0} (m : ℕ) (c : Codec A) (ok : A → Type 0) (f : ℕ → A) → Rows m c ok f → (i : ℕ) (a : A) → i < m → ok a → Rows m c ok (f ⟨ i ≔ a ⟩)
rows_set m c ok f F i a h p = (
  (λ j l. ⊎_elim (λ q. subst ok (sym q.1) p) (λ q. subst ok (sym q.1) (F.0 j l)) (at_is f i a j)),
  λ j l. ⊎_elim (λ q. absurd (omega (arith, q.0))) (λ q. q.1 ∙ F.1 j l) (at_is f i a j),
)

rows_set₂ : {A : Type 0} (m k : ℕ) (c : Codec A) (ok : A → Type 0) (f : ℕ → ℕ → A) → Rows m (row k c) (Rows k c ok) f → (i j : ℕ) (a : A)
    → i < m → j < k → ok a → Rows m (row k c) (Rows k c ok) (f ⟨ i ⟩⟨ j ≔ a ⟩)
rows_set₂ m k c ok f F i j a h l p = rows_set m (row k c) (Rows k c ok) f F i (f i ⟨ j ≔ a ⟩) h (rows_set k c ok (f i) (F.0 i h) j a l p)

join_fits : (v w : Vector) → FitsVector v → FitsVector w → FitsVector (join v w)
join_fits v w F G = ((λ j h. omega (arith, F.0 j h, G.0 j h)), λ j h. omega (arith, F.1 j h, G.1 j h))

note_fits : (v : Vector) (o c : ℕ) → FitsVector v → o < 8 → c < 256 ^ 2 → FitsVector (note v o c)
note_fits v o c F h l = rows_set 8 clock (λ c. c < 256 ^ 2) v F o _ h (omega (arith, F.0 o h))

zeros_fit : FitsVector zeros
zeros_fit = ((λ j h. omega arith), λ j h. refl)

-- ## Engines

-- what an engine makes of vectors that fit fits
pub record FitsEngine (E : Engine) : Type 0 where
  pub learned : (d : Vector) (e : Entry) → FitsVector d → FitsFields (of_entry e) → e.origin < 8 → FitsVector (E.learned d e)
  pub sent : (d : Vector) (e : Entry) → FitsVector d → FitsFields (of_entry e) → e.origin < 8 → FitsVector (E.sent d e)
  pub left : (v : Vector) (s c : ℕ) → FitsVector v → s < 8 → c < 256 ^ 2 → FitsVector (E.left v s c)
  pub own : (v : Vector) → FitsVector v → FitsVector (E.own v)

taken_on_fits : (d : Vector) (e : Entry) → FitsVector d → FitsFields (of_entry e) → e.origin < 8 → FitsVector (taken_on d e)
taken_on_fits d e F G h = note_fits (join d e.depends) e.origin e.clock (join_fits d e.depends F G.1.1.1.1) h G.1.1.1.0

pub long_fits : FitsEngine long
long_fits = record { learned = taken_on_fits; sent = λ d e F G h. F; left = note_fits; own = λ v F. zeros_fit }

pub ours_fits : FitsEngine ours
ours_fits =
    record {
      learned = taken_on_fits;
      sent = λ d e F G h. choice (eqb e.clock 0) FitsVector (λ z. F) (λ z. taken_on_fits d e F G h);
      left = note_fits;
      own = λ v F. F;
    }

pub short_fits : FitsEngine short
short_fits =
    record {
      learned = λ d e F G h. note_fits d e.origin e.clock F h G.1.1.1.0;
      sent = λ d e F G h. F;
      left = λ v s c F. note_fits zeros s c zeros_fit;
      own = λ v F. zeros_fit;
    }

-- ## The parts of a state that fits

module _ (S : State) (F : Fits S) where
  applied_fits : (s o : ℕ) → s < 8 → o < 8 → S.applied s o < 256 ^ 2
  applied_fits s o p q = (F.1.1.1.1.0.0 s p).0 o q

  depends_fits : (s : ℕ) → s < 8 → FitsVector (S.depends s)
  depends_fits s p = F.1.1.1.1.1.0.0 s p

  pub entry_fits : (s x : ℕ) → s < 8 → x < 64 → FitsFields (of_entry (S.store s x))
  entry_fits s x p q = (F.1.1.1.1.1.1.0.0 s p).0 x q

  update_fits : (o p : ℕ) → o < 8 → p < 16 → FitsFields (of_update (S.updates o p))
  update_fits o p h l = (F.1.1.1.1.1.1.1.0 o h).0 p l

  -- a part changed for one that fits
  with_applied_fits : (a : ℕ → Vector) → Rows 8 vector FitsVector a → Fits (with_applied S a)
  with_applied_fits a G = (F.0, (F.1.0, (F.1.1.0, (F.1.1.1.0, (G, F.1.1.1.1.1)))))

  with_depends_fits : (d : ℕ → Vector) → Rows 8 vector FitsVector d → Fits (with_depends S d)
  with_depends_fits d G = (F.0, (F.1.0, (F.1.1.0, (F.1.1.1.0, (F.1.1.1.1.0, (G, F.1.1.1.1.1.1))))))

  with_entry : (s x : ℕ) (e : Entry) → s < 8 → x < 64 → FitsFields (of_entry e) → Fits (with_store S (S.store ⟨ s ⟩⟨ x ≔ e ⟩))
  with_entry s x e p q g =
      let G = rows_set₂ 8 64 entry (λ e. FitsFields (of_entry e)) S.store F.1.1.1.1.1.1.0 s x e p q g in
      (F.0, (F.1.0, (F.1.1.0, (F.1.1.1.0, (F.1.1.1.1.0, (F.1.1.1.1.1.0, (G, F.1.1.1.1.1.1.1)))))))

  with_update_fits : (o p : ℕ) (u : Update) → o < 8 → p < 16 → FitsFields (of_update u) → Fits (with_updates S (S.updates ⟨ o ⟩⟨ p ≔ u ⟩))
  with_update_fits o p u h l g =
      let G = rows_set₂ 8 16 update (λ u. FitsFields (of_update u)) S.updates F.1.1.1.1.1.1.1 o p u h l g in
      (F.0, (F.1.0, (F.1.1.0, (F.1.1.1.0, (F.1.1.1.1.0, (F.1.1.1.1.1.0, (F.1.1.1.1.1.1.0, G)))))))

  with_count : (s o c : ℕ) → s < 8 → o < 8 → c < 256 ^ 2 → Fits (with_applied S (S.applied ⟨ s ⟩⟨ o ≔ c ⟩))
  with_count s o c p q h = with_applied_fits _ (rows_set₂ 8 8 clock (λ c. c < 256 ^ 2) S.applied F.1.1.1.1.0 s o c p q h)

  with_row : (s : ℕ) (v : Vector) → s < 8 → FitsVector v → Fits (with_depends S (S.depends ⟨ s ≔ v ⟩))
  with_row s v p h = with_depends_fits _ (rows_set 8 vector FitsVector S.depends F.1.1.1.1.1.0 s v p h)

-- ## The steps

zero_fits : (l : List ℕ) → length l ≡ table.width → ((i : ℕ) → get_or l i 0 ≡ 0) → Fits all_zero
unfolding Bytes
zero_fits l h z = subst Fits (all_zero_read l z) (state_fits l h (λ i. omega (arith, z i)))

pub open_fits : (n k : ℕ) → OpenReady n k → Fits (opened n k)
unfolding opened
open_fits n k R =
    let F = zero_fits (replicate table.width 0) (length-replicate {A = ℕ} table.width 0) (λ i. ap (λ (g : ℕ → ℕ). g i) (cells_zeros table.width)) in
    (omega (arith, R.sites), (omega (arith, R.keys), F.1.1))

module _ (E : Engine) (L : FitsEngine E) (S : State) (F : Fits S) where
  put_fits : (s x v : ℕ) → PutReady S s x → v < 256 ^ 4 → Fits (r.put E S s x v).after
  unfolding r.put
  put_fits s x v R h =
      let p : s < 8 = omega (arith, R.site, R.sound.sites) in
      let q : x < 64 = omega (arith, R.key, R.sound.keys) in
      let c : r.next S s s < 256 ^ 2 = omega (arith, applied_fits S F s s p p, R.clock) in
      let old = entry_fits S F s x p q in
      let d = L.sent _ _ (depends_fits S F s p) old (omega (arith, get_origin S s x (gets_too R), R.sound.sites)) in
      let u : Update = record { value = v; key = x; zero = 0; clock = r.next S s s; depends = E.sent (S.depends s) (S.store s x) } in
      let e : Entry = record { value = v; origin = s; zero = 0; clock = r.next S s s; depends = E.own u.depends } in
      let U = with_update_fits S F s (place (r.next S s s)) u p (omega arith) (h, (omega arith, (omega arith, (c, d)))) in
      let N = with_entry _ U s x e p q (h, (omega arith, (omega arith, (c, L.own _ d)))) in
      with_row _ (with_count _ N s s (r.next S s s) p p c) s _ p (L.left _ s _ d p c)

  get_fits : (s x : ℕ) → GetReady S s x → Fits (r.get E S s x).after
  unfolding r.get learn
  get_fits s x R =
      choice (eqb (S.store s x).clock 0) Fits (λ e. F) λ e.
      let p : s < 8 = omega (arith, R.site, R.sound.sites) in
      let g = entry_fits S F s x p (omega (arith, R.key, R.sound.keys)) in
      let w = S.store s x in
      let o : w.origin < 8 = omega (arith, get_origin S s x R, R.sound.sites) in
      with_row S F s _ p (L.learned _ _ (depends_fits S F s p) g o)

  deliver_fits : (s o : ℕ) → DeliverReady S s o → Fits (r.deliver E S s o).after
  unfolding r.deliver
  deliver_fits s o R =
      let p : s < 8 = omega (arith, R.site, R.sound.sites) in
      let q : o < 8 = omega (arith, R.origin, R.sound.sites) in
      let c : r.next S s o < 256 ^ 2 = omega (arith, deliver_behind S s o R, applied_fits S F o o q q) in
      let g = update_fits S F o (place (r.next S s o)) q (omega arith) in
      let e : Entry = record { value = (r.waiting S s o).value; origin = o; zero = 0; clock = r.next S s o; depends = (r.waiting S s o).depends } in
      let N =
      choice (E.replaces (r.waiting S s o) o (S.store s (r.waiting S s o).key)) (λ (m : ℕ → ℕ → Entry). Fits (with_store S m))
      (λ z. with_entry S F s (r.waiting S s o).key e p (omega (arith, (deliver_waiting S s o R).1, R.sound.keys)) (g.0, (omega arith, (omega arith, (c, g.1.1.1.1)))))
      (λ z. F) in
      with_count _ N s o _ p q c

-- a bit more is still a byte
retire_fits : (S : State) → Fits S → (s : ℕ) → RetireReady S s → Fits (r.retire S s).after
unfolding r.retire
retire_fits S F s R = (F.0, (F.1.0, (retire_byte S s R, F.1.1.1)))

-- a touch record is 4 bytes
touched_fits : (S : State) (s x now u w : ℕ) → Fits S → TouchReady S s x now u w → touched (S.store s x).value now u w < 256 ^ 4
touched_fits S s x now u w F R =
    let P = R.put in
    let old : (S.store s x).value < 256 ^ 4 = (entry_fits S F s x (omega (arith, P.site, P.sound.sites)) (omega (arith, P.key, P.sound.keys))).0 in
    choice (keeps_hour u) (λ (h : ℕ). touch_of h u w < 256 ^ 4) (λ e. omega (arith, R.toucher, R.tier)) (λ e. omega (arith, R.toucher, R.tier, R.now))

touch_fits : (E : Engine) → FitsEngine E → (S : State) (s x now u w : ℕ) → Fits S → TouchReady S s x now u w → Fits (r.touch E S s x now u w).after
unfolding r.touch r.get
touch_fits E L S s x now u w F R =
    let P = R.put in
    let G = gets_too P in
    put_fits E L (learn E S s x) (get_fits E L S F s x G) s x _ (apart_ready (learn_apart E S s x) P) (touched_fits S s x now u w F R)

drained_fits : (E : Engine) → FitsEngine E → (S : State) (s b : ℕ) → Fits S → Fits (drained E S s b).after
unfolding drained
drained_fits E L S s b =
    by_deliveries E s (λ b S T ds t r. Fits S → Fits r.after)
    (λ b S ds t F. F)
    (λ S o d ds t F. F)
    (λ b S o d ds t r R f F. f (deliver_fits E L S F s o R))
    (λ b S o d ds t r z f F. f F)
    b S (turn S.n s 0 false) [] 0

-- a value is 4 bytes
abbrev pub Sized : Call → Type 0
Sized c = (s x v : ℕ) → c ≡ Put s x v → v < 256 ^ 4

pub put_sized : (s x v : ℕ) → v < 256 ^ 4 → Sized (Put s x v)
put_sized s x v h s' x' v' e = let z : v ≡ v' = cc in omega arith

pub get_sized : (s x : ℕ) → Sized (Get s x)
get_sized s x s' x' v' e = let z : ◌≡◌ {A = ℕ} 0 1 = cc in omega arith

pub look_sized : (s x : ℕ) → Sized (Look s x)
look_sized s x s' x' v' e = let z : ◌≡◌ {A = ℕ} 0 1 = cc in omega arith

pub adopt_sized : (s x o c : ℕ) → Sized (Adopt s x o c)
adopt_sized s x o c s' x' v' e = let z : ◌≡◌ {A = ℕ} 0 1 = cc in omega arith

pub retire_sized : (s : ℕ) → Sized (Retire s)
retire_sized s s' x' v' e = let z : ◌≡◌ {A = ℕ} 0 1 = cc in omega arith

pub deliver_sized : (s o : ℕ) → Sized (Deliver s o)
deliver_sized s o s' x' v' e = let z : ◌≡◌ {A = ℕ} 0 1 = cc in omega arith

step_fits : (E : Engine) → FitsEngine E → (S : State) (c : Call) → Sized c → Fits S → first (refusals S c) ≡ 0 → Fits (step E S c).after
unfolding step drain r.cold r.look refusals
step_fits E L S (Open n k) h F z = open_fits n k ((open_ready n k).0 z)
step_fits E L S (Put s x v) h F z = put_fits E L S F s x v ((put_ready S s x).0 z) (h s x v refl)
step_fits E L S (Get s x) h F z = get_fits E L S F s x ((get_ready S s x).0 z)
step_fits E L S (Deliver s o) h F z = deliver_fits E L S F s o ((deliver_ready S s o).0 z)
step_fits E L S (Drain s b) h F z = drained_fits E L S s b F
step_fits E L S (Cold s now T m) h F z = F
step_fits E L S (Touch s x now u w) h F z = touch_fits E L S s x now u w F (touch_ready S s x now u w z)
step_fits E L S (Look s x) h F z = F
step_fits E L S (Adopt s x o c) h F z = get_fits E L S F s x ((adopt_ready S s x o c).0 z).get
step_fits E L S (Retire s) h F z = retire_fits S F s ((retire_ready S s).0 z)

pub run_fits : (E : Engine) → FitsEngine E → (S : State) (c : Call) → Sized c → Fits S → Fits (run E S c).after
run_fits E L S c h F = after_run E S c Fits (step_fits E L S c h F) F
