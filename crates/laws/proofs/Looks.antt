-- A look and a cold list leave every byte; a get is a look and the adopt of what it answered. Assumes nothing.
use mathlib.Core.Path.{◌≡◌, refl, sym, ap, ◌∙◌}
use mathlib.Core.Bool.{Bool, true, false, not, ◌&&◌, ◌||◌}
use mathlib.Core.List.{List, [], ◌∷◌}
use mathlib.Core.Logic.{⊎_elim, ◌≢◌}
use Prim.Native.Nat.{ℕ}
use native.Mathlib.Omega.{arith}
use lib.Dec.{eqb, leb}
use lib.ListN.{length}
use borrow.Author.Tests.{lt-leb}
use Rattle.clock.proofs.Maps.{eq?}
use Rattle.clock.proofs.Says.{says_itself, denies_not}
use Rattle.layout.specs.State.{State, state_of, bytes_of, table}
use Rattle.layout.specs.Ranges.{Bytes}
use Rattle.layout.proofs.TableTrips.{bytes_back}
use Rattle.rules.specs.Live.{gone}
use Rattle.rules.specs.Sound.{sound}
use Rattle.rules.specs.Engine.{Engine, ours}
use Rattle.rules.specs.Steps.{refused, done, learn, get, look, cold}
use Rattle.rules.specs.Refusals.{first, get_refusals, adopt_refusals}
use Rattle.rules.specs.Calls.{Call, Get, Look, Adopt, Cold, refusals, beside, step, asks, Served, serve, serve_list}
use Rattle.laws.specs.Looks.{LookKeeps, GetIsBoth, AdoptIsGet, AdoptAnswers, AdoptNever, ColdKeeps}
use Rattle.laws.proofs.Ready.{GetReady, get_ready, AdoptReady, adopt_ready}
use Rattle.laws.proofs.Tested.{sound_tested}
use Rattle.laws.proofs.Keeps.{get_origin, get_never}
use Rattle.laws.proofs.Serving.{asks_clear, asks_long, serve_step, serve_refused, serve_accepted}

-- a step that leaves the table leaves the bytes
kept : (E : Engine) (t : List ℕ) → Bytes t → (c : Call) → (step E (state_of t) c).after ≡ state_of t → (serve E t c).bytes ≡ t
kept E t b c e =
    ⊎_elim
    (λ z. ap (λ (w : Served). w.bytes) (serve_step E t c z) ∙ ap bytes_of e ∙ bytes_back t (asks_clear t c z).0 b)
    (λ z. ap (λ (w : Served). w.bytes) (serve_refused E t c z))
    (eq? (first (asks t c)) 0)

pub look_keeps : LookKeeps
unfolding step get look asks refusals get_refusals beside
look_keeps E t b s x = (
  ⊎_elim
      (λ z. ap (λ (w : Served). w.answer) (serve_step E t (Look s x) z) ∙ sym (ap (λ (w : Served). w.answer) (serve_step E t (Get s x) z)))
      (λ z. ap (λ (w : Served). w.answer) (serve_refused E t (Look s x) z) ∙ sym (ap (λ (w : Served). w.answer) (serve_refused E t (Get s x) z)))
      (eq? (first (asks t (Look s x))) 0),
  kept E t b (Look s x) refl,
)

pub cold_keeps : ColdKeeps
unfolding step cold serve_list
cold_keeps t b l s now T = kept ours t b (Cold s now T _) refl

-- ## Adopt

-- what a get's list does not answer 0 to, an adopt's of (0, 0) answers alike: on a sound table 0 is a site
same_first : (a b c g d e f : Bool) → (b ≡ false → e ≡ false) → first ((1, a) ∷ (2, b) ∷ (4, c) ∷ (16, g) ∷ (6, d) ∷ []) ≢ 0
    → first ((1, a) ∷ (2, b) ∷ (4, c || e) ∷ (16, g) ∷ (6, d) ∷ (15, f) ∷ []) ≡ first ((1, a) ∷ (2, b) ∷ (4, c) ∷ (16, g) ∷ (6, d) ∷ [])
same_first true b c g d e f h z = refl
same_first false true c g d e f h z = refl
same_first false false true g d e f h z = refl
same_first false false false true d e f h z = rw (h refl)
same_first false false false false true e f h z = rw (h refl)
same_first false false false false false e f h z = absurd (z refl)

module _ (t : List ℕ) (s x : ℕ) where
  abbrev S : State
  S = state_of t

  asks_alike : first (asks t (Look s x)) ≢ 0 → first (asks t (Adopt s x 0 0)) ≡ first (asks t (Look s x))
  unfolding asks refusals get_refusals adopt_refusals
  asks_alike =
      same_first (not (eqb (length t) table.width)) (not (sound S)) (leb S.n s) (gone S s) (leb S.k x) (leb S.n 0) (not (eqb (S.store s x).origin 0 && eqb (S.store s x).clock 0))
      (λ h. lt-leb S.n 0 (omega (arith, ((sound_tested S).0 ((denies_not (says_itself (sound S))).0 h)).sites)))

  -- no condition of a look holds: then none of an adopt of its entry
  module _ (z : first (asks t (Look s x)) ≡ 0) where
    looks : (length t ≡ table.width) × GetReady S s x
    unfolding refusals
    looks = let r = asks_clear t (Look s x) z in (r.0, (get_ready S s x).0 r.1)

    adopts : first (asks t (Adopt s x (S.store s x).origin (S.store s x).clock)) ≡ 0
    unfolding refusals
    adopts = asks_long t _ looks.0 ∙ (adopt_ready S s x _ _).1 (record { get = looks.1; below = get_origin S s x looks.1; origin = refl; clock = refl })

  named : (o c : ℕ) → first (asks t (Adopt s x o c)) ≡ 0 → AdoptReady S s x o c
  unfolding refusals
  named o c z = (adopt_ready S s x o c).0 (asks_clear t (Adopt s x o c) z).1

pub adopt_is_get : AdoptIsGet
unfolding step refusals
adopt_is_get E t s x o c z =
    let a = serve_accepted E t (Adopt s x o c) z in
    let r = asks_clear t (Adopt s x o c) a in
    serve_step E t (Adopt s x o c) a ∙ sym (serve_step E t (Get s x) (asks_long t (Get s x) r.0 ∙ (get_ready (state_of t) s x).1 (named t s x o c a).get))

pub adopt_answers : AdoptAnswers
unfolding step get
adopt_answers E t s x o c z =
    let a = serve_accepted E t (Adopt s x o c) z in
    let R = named t s x o c a in
    ap (λ (w : Served). w.answer) (serve_step E t (Adopt s x o c) a) ∙ (λ i. done x (R.origin i) (R.clock i) ((state_of t).store s x).value)

pub get_is_both : GetIsBoth
unfolding step look get asks refusals get_refusals beside
get_is_both E t b s x =
    (λ i. serve E ((look_keeps E t b s x).1 i) (Adopt s x (serve E t (Look s x)).answer.site (serve E t (Look s x)).answer.clock))
    ∙ ⊎_elim
    (λ z.
    let e = serve_step E t (Look s x) z in
    (λ i. serve E t (Adopt s x (e i).answer.site (e i).answer.clock)) ∙ serve_step E t _ (adopts t s x z) ∙ sym (serve_step E t (Get s x) z))
    (λ z.
    let e = serve_refused E t (Look s x) z in
    (λ i. serve E t (Adopt s x (e i).answer.site (e i).answer.clock))
    ∙ serve_refused E t (Adopt s x 0 0) (λ q. z (sym (asks_alike t s x z) ∙ q))
    ∙ (λ i. record { answer = refused (asks_alike t s x z i); bytes = t })
    ∙ sym (serve_refused E t (Get s x) z))
    (eq? (first (asks t (Look s x))) 0)

pub adopt_never : AdoptNever
unfolding step get learn
adopt_never E t b s x z k =
    let B = get_never (state_of t) s x (looks t s x z).1 k in
    let a : first (asks t (Adopt s x 0 0)) ≡ 0 = (λ i. first (asks t (Adopt s x (sym B.origin i) (sym k i)))) ∙ adopts t s x z in (
      ap (λ (w : Served). w.answer) (serve_step E t (Adopt s x 0 0) a) ∙ (λ i. done x (B.origin i) (B.clock i) (B.value i)),
      kept E t b (Adopt s x 0 0) (rw k),
    )
