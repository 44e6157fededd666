-- A get changes no part of the table but its site's dependency row; so touch keeps a table sound. Assumes nothing.
use mathlib.Core.Path.{◌≡◌, refl, sym, subst}
use Prim.Native.Nat.{ℕ}
use lib.Dec.{eqb}
use Rattle.clock.specs.Vector.{Vector}
use Rattle.clock.proofs.Maps.{choice}
use Rattle.layout.specs.State.{State, with_depends}
use Rattle.rules.specs.Sound.{Sound}
use Rattle.rules.specs.Touch.{touched}
use Rattle.rules.specs.Engine.{Engine}
use Rattle.rules.specs.Steps.{learn, touch}
use Rattle.laws.proofs.Ready.{PutReady}
use Rattle.laws.proofs.Keeps.{depends_sound, put_sound}

-- the same table but for its dependency rows
abbrev pub Apart : State → State → Type 0
Apart S T = (d : ℕ → Vector) × (T ≡ with_depends S d)

pub learn_apart : (E : Engine) (S : State) (s x : ℕ) → Apart S (learn E S s x)
unfolding learn
learn_apart E S s x = choice (eqb (S.store s x).clock 0) (Apart S) (λ e. (S.depends, refl)) (λ e. (_, refl))

pub apart_sound : {S T : State} → Apart S T → Sound S → Sound T
apart_sound {S} p D = subst Sound (sym p.1) (depends_sound S p.0 D)

pub apart_ready : {S T : State} {s x : ℕ} → Apart S T → PutReady S s x → PutReady T s x
apart_ready {S} {s = s} {x = x} p R =
    subst (λ (T : State). PutReady T s x) (sym p.1)
    (record { sound = depends_sound S p.0 R.sound; site = R.site; live = R.live; key = R.key; clock = R.clock; room = R.room })

pub touch_sound : (E : Engine) (S : State) (s x now u r : ℕ) → PutReady S s x → Sound (touch E S s x now u r).after
unfolding touch
touch_sound E S s x now u r R = put_sound E (learn E S s x) s x (touched (S.store s x).value now u r) (apart_ready (learn_apart E S s x) R)
