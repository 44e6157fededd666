-- A retirement retires its site and no other, and loses nothing; nor does any other call. Assumes nothing.
use mathlib.Core.Path.{◌≡◌, refl, sym, ap, subst, ◌∙◌}
use mathlib.Core.Bool.{false}
use mathlib.Core.List.{List, []}
use mathlib.Core.Logic.{⊎_elim, ◌≢◌}
use Prim.Native.Nat.{ℕ, ◌+◌, ◌^◌, ◌≤◌, ◌<◌}
use native.Mathlib.Omega.{arith}
use lib.Dec.{eqb}
use lib.ListN.{get_or}
use Rattle.clock.specs.Map.{when◌then◌else◌}
use Rattle.layout.specs.State.{State, Update, state_of, bytes_of}
use Rattle.layout.proofs.TableTrips.{bytes_back, retired_byte}
use Rattle.rules.specs.Live.{Live, retiring}
use Rattle.rules.specs.Sound.{place, Retained}
use Rattle.rules.specs.Engine.{Engine}
use Rattle.rules.specs.Steps.{put, learn, get, look, deliver, touch, cold, retire}
use Rattle.rules.specs.Refusals.{first}
use Rattle.rules.specs.Drain.{turn, drained, drain}
use Rattle.rules.specs.Calls.{Call, Open, Put, Get, Deliver, Drain, Cold, Touch, Look, Adopt, Retire, refusals, step, Served}
use Rattle.laws.specs.Retirement.{RetireRetires, RetireBytes, NothingLost}
use Rattle.laws.proofs.Ready.{PutReady, put_ready, touch_ready, retire_ready}
use Rattle.laws.proofs.Given.{run_accepted}
use Rattle.laws.proofs.Serving.{asks_clear, serve_step, serve_accepted}
use Rattle.laws.proofs.Keeps.{retire_byte, up_le, put_retained, deliver_own, retire_live, retire_stays}
use Rattle.laws.proofs.Touching.{Apart, learn_apart, apart_ready}
use Rattle.laws.proofs.Draining.{by_deliveries}
use Rattle.laws.proofs.After.{after_run}

pub retire_retires : RetireRetires
unfolding refusals step retire
retire_retires E S s z =
    let (f, e) = run_accepted E S (Retire s) z in
    let R = (retire_ready S s).0 f in
    rw e (refl, record { live = λ t. ((λ l. retire_live S s R t l), λ l. retire_stays S s R t l.0 l.1); others = refl })

pub retire_bytes : RetireBytes
unfolding step retire refusals
retire_bytes E t b s z i =
    let S = state_of t in
    let k = serve_accepted E t (Retire s) z in
    let (h, f) = asks_clear t (Retire s) k in
    let R = (retire_ready S s).0 f in
    let back = bytes_back t h b in
    let two : get_or t 2 0 ≡ S.retired = sym (ap (λ (u : List ℕ). get_or u 2 0) back) ∙ retired_byte S S.retired 2 (omega (arith, retire_byte S s R)) in
    ap (λ (w : Served). get_or w.bytes i 0) (serve_step E t (Retire s) k) ∙ rw two (subst (λ (u : List ℕ). get_or (bytes_of (retiring S s)) i 0 ≡ (when eqb i 2 then S.retired + 2 ^ s else get_or u i 0)) back (retired_byte S (S.retired + 2 ^ s) i (retire_byte S s R)))

-- ## Nothing is lost

-- own counts do not fall, and what is retained and no higher than they were keeps its place
record Keeps (S T : State) : Type 0 where
  grows : (o : ℕ) → S.applied o o ≤ T.applied o o
  stays : (o i t : ℕ) → i ≤ S.applied o o → Live T t → T.applied t o < i → T.updates o (place i) ≡ S.updates o (place i)

kept : {S T : State} → Keeps S T → (o i t : ℕ) → Retained S o i → Live T t → T.applied t o < i → Retained T o i × (T.updates o (place i) ≡ S.updates o (place i))
kept K o i t R l h = (record { made = omega (arith, K.grows o, R.made); by = t; site = l; lacks = h }, K.stays o i t R.made l h)

same_keeps : (S : State) → Keeps S S
same_keeps S = record { grows = λ o. omega arith; stays = λ o i t m l h. refl }

put_keeps : (E : Engine) (S : State) (s x v : ℕ) → PutReady S s x → Keeps S (put E S s x v).after
unfolding put
put_keeps E S s x v R =
    record {
      grows = λ o. up_le S.applied s s o o;
      stays = λ o i t m l h.
          ⊎_elim
          (λ (p : (s ≡ o) × (i ≡ _)). let e : S.applied s s ≡ S.applied o o = ap (λ (z : ℕ). S.applied z z) p.0 in absurd (omega (arith, p.1)))
          (λ p. p.1)
          (put_retained E S s x v R o i (record { made = omega (arith, up_le S.applied s s o o); by = t; site = l; lacks = h }));
    }

-- a drain leaves the updates and the own counts
drained_keeps : (E : Engine) (S : State) (s b : ℕ) → let T = (drained E S s b).after in ((o : ℕ) → T.applied o o ≡ S.applied o o) × (T.updates ≡ S.updates)
unfolding drained deliver
drained_keeps E S₀ s b =
    by_deliveries E s
    (λ b S T ds t r. ((o : ℕ) → S.applied o o ≡ S₀.applied o o) × (S.updates ≡ S₀.updates) → ((o : ℕ) → r.after.applied o o ≡ S₀.applied o o) × (r.after.updates ≡ S₀.updates))
    (λ b S ds t k. k)
    (λ S o d ds t k. k)
    (λ b S o d ds t r R f k. f ((λ o'. deliver_own E S s o R o' ∙ k.0 o'), k.1))
    (λ b S o d ds t r z f k. f k)
    b S₀ (turn S₀.n s 0 false) [] 0 ((λ o. refl), refl)

learn_keeps : (E : Engine) (S : State) (s x : ℕ) → Keeps S (learn E S s x)
learn_keeps E S s x = let (d, e) = learn_apart E S s x in rw e (record { grows = λ o. omega arith; stays = λ o i t m l h. refl })

-- first the dependency rows, then the rest
through : {S R T : State} → Apart S R → Keeps R T → Keeps S T
through {S} {T = T} (d, e) L = subst (λ (R : State). Keeps R T → Keeps S T) (sym e) (λ M. record { grows = M.grows; stays = M.stays }) L

step_keeps : (E : Engine) (S : State) (c : Call) → ((n k : ℕ) → c ≢ Open n k) → first (refusals S c) ≡ 0 → Keeps S (step E S c).after
unfolding refusals step get look drain touch cold deliver retire
step_keeps E S (Open n k) h z = absurd (h n k refl)
step_keeps E S (Put s x v) h z = put_keeps E S s x v ((put_ready S s x).0 z)
step_keeps E S (Get s x) h z = learn_keeps E S s x
step_keeps E S (Deliver s o) h z = record { grows = λ o'. up_le S.applied s o o' o'; stays = λ o' i t m l k. refl }
step_keeps E S (Drain s b) h z =
    let k = drained_keeps E S s b in record { grows = λ o. omega (arith, k.0 o); stays = λ o i t m l q. ap (λ (u : ℕ → ℕ → Update). u o (place i)) k.1 }
step_keeps E S (Cold s now T m) h z = same_keeps S
step_keeps E S (Touch s x now u r) h z =
    let P = (touch_ready S s x now u r z).put in
    through (learn_apart E S s x) (put_keeps E (learn E S s x) s x _ (apart_ready (learn_apart E S s x) P))
step_keeps E S (Look s x) h z = same_keeps S
step_keeps E S (Adopt s x o c) h z = learn_keeps E S s x
step_keeps E S (Retire s) h z = record { grows = λ o. omega arith; stays = λ o i t m l h. refl }

pub nothing_lost : NothingLost
nothing_lost E S c h o i t R = kept (after_run E S c (Keeps S) (step_keeps E S c h) (same_keeps S)) o i t R
