-- Every table that calls lead to from an opening is the world of a run whose labels are its history: demand 3 on plain numbers. Assumes nothing.
use mathlib.Core.Path.{◌≡◌, refl, sym, ap, subst, ◌∙◌}
use mathlib.Core.Bool.{Bool, true, false, ◌||◌}
use mathlib.Core.List.{List, [], ◌∷◌, ◌++◌, map}
use mathlib.Core.Logic.{inl, inr, ⊎_elim, ◌≢◌, ◌↔◌}
use Prim.Native.Nat.{ℕ, zero, suc, ◌≤◌, ◌<◌}
use native.Mathlib.Omega.{arith}
use lib.Dec.{eqb}
use borrow.Author.Tests.{eq-eqb, ne_eqb}
use Rattle.clock.specs.Map.{when◌then◌else◌, bit}
use Rattle.clock.specs.Lists.{◌∈◌, Before}
use Rattle.clock.specs.Vector.{rank}
use Rattle.clock.proofs.Maps.{eq?}
use Rattle.layout.specs.State.{State}
use Rattle.rules.specs.Engine.{Engine, ours}
use Rattle.rules.specs.Live.{Live}
use Rattle.rules.specs.Sound.{place, Retained, Sound}
use Rattle.rules.specs.Touch.{touched}
use Rattle.rules.specs.Refusals.{first}
use Rattle.rules.specs.Steps as r
use Rattle.rules.specs.Steps.{Numbers, Outcome, opened}
use Rattle.rules.specs.Drain.{drained, drain}
use Rattle.rules.specs.Calls.{Call, Open, Put, Get, Deliver, Drain, Cold, Touch, Look, Adopt, Retire, refusals, step, run}
use Rattle.laws.specs.Theorems.{Delivers, start, one_more}
use Rattle.laws.proofs.Ready.{gets_too, OpenReady, GetReady, open_ready, put_ready, get_ready, drain_ready, cold_ready, touch_ready}
use Rattle.laws.proofs.Bits.{bit_none}
use Rattle.laws.proofs.Given.{no_eleven, run_cases, run_accepted, run_refused}
use Rattle.laws.proofs.Keeps.{open_sound}
use Rattle.laws.proofs.Codes.{accepted_first}
use Rattle.laws.proofs.Touching.{learn_apart, apart_ready}
use Rattle.laws.proofs.Draining.{drained_code, drain_delivers}
use Rattle.laws.proofs.Turns.{drain_ends}
use Rattle.laws.proofs.After.{counts_kept, retired_kept}
use Rattle.causal.specs.World.{Answer, World, Event, put, get, look, update, retire, acting, LOOK, Run, begin, more}
use Rattle.causal.specs.History.{History, Names, Ranks, Lacks, CausalRun}
use Rattle.causal.specs.Refines.{Abstracts, Refines, found, looked, after_call, Causal}
use Rattle.causal.proofs.Meaning.{open_abstracts}
use Rattle.causal.proofs.Following.{puts, gets, looks, adopts, delivers, retires}
use Rattle.causal.proofs.Handed.{in_right}
use Rattle.causal.proofs.Sites.{held_issued}
use Rattle.causal.proofs.Ranking.{rank_same, rank_one}
use Rattle.causal.proofs.Higher.{Right}
use Rattle.causal.proofs.Puts.{inv}
use Rattle.causal.proofs.Progress.{run_causal, run_right}
use Rattle.causal.proofs.Updates.{clash}

pub record Traced (S : State) (h : History) : Type 1 where
  pub world : World
  pub leads : Run S.n S.k h world
  pub related : Abstracts S world
  pub sound : Sound S
  pub alive : (s : ℕ) → Live S s ↔ ((s < S.n) × (retire s ∈ h → ⊥))
  pub quiet : (s : ℕ) (e : Event) → Before h (retire s) e → acting e ≢ s

-- an event of a live site: who is live afterwards, and that retired sites stay quiet
module _ {S : State} {h : History} (T : Traced S h) (e : Event) where
  still_alive : (R : State) → R.n ≡ S.n → ((t : ℕ) → Live R t ↔ (Live S t × (e ≢ retire t))) → (t : ℕ) → Live R t ↔ ((t < R.n) × (retire t ∈ (e ∷ h) → ⊥))
  still_alive R n f t = (
    (λ l. let k = (f t).0 l in (l.0, ⊎_elim (λ q. k.1 (sym q)) ((T.alive t).0 k.0).1)),
    λ l. (f t).1 ((T.alive t).1 (omega (arith, l.0), λ q. l.1 (inr q)), λ q. l.1 (inl (sym q))),
  )

  still_quiet : Live S (acting e) → (s : ℕ) (f : Event) → Before (e ∷ h) (retire s) f → acting f ≢ s
  still_quiet l s f (inl (p, q)) = λ k. ((T.alive (acting e)).0 l).1 (subst (λ (t : ℕ). retire t ∈ h) (sym k ∙ ap acting p) q)
  still_quiet l s f (inr b) = T.quiet s f b

-- ## Put, get, look, adopt and deliver

-- a call that is figure 7's step, and makes no event where it is refused
single : {S : State} {h : History} (T : Traced S h) (c : Call) {P : Type 0} → ((n k : ℕ) → c ≢ Open n k)
    → ((a : Numbers) → a.code ≢ 0 → after_call ours S c a h ≡ h) → Refines S T.world c P (run ours S c)
    → Traced (run ours S c).after (after_call ours S c (run ours S c).answer h)
single {S} {h} T c other none R =
    ⊎_elim
    (λ z.
    let Q = R.accepted z in
    let e = counts_kept ours S c other in
    rw (Q.call h) (record {
      world = Q.world;
      leads = rw (e.0, e.1) (more T.leads Q.step);
      related = Q.abstracts;
      sound = Q.sound;
      alive = still_alive T Q.event (run ours S c).after e.0 Q.live;
      quiet = still_quiet T Q.event Q.acts;
    }))
    (λ z. rw (R.refused z, none (run ours S c).answer z) T)
    (eq? (run ours S c).answer.code 0)

module _ {S : State} {h : History} (T : Traced S h) where
  put_traced : (s x v : ℕ) → Traced (run ours S (Put s x v)).after (after_call ours S (Put s x v) (run ours S (Put s x v)).answer h)
  put_traced s x v =
      single T (Put s x v) (λ n k e. clash (cc)) (λ a z. rw (ne_eqb a.code 0 z))
      (puts S T.sound T.world T.related s x v)

  get_traced : (s x : ℕ) → Traced (run ours S (Get s x)).after (after_call ours S (Get s x) (run ours S (Get s x)).answer h)
  get_traced s x =
      single T (Get s x) (λ n k e. clash (cc)) (λ a z. rw (ne_eqb a.code 0 z))
      (gets S T.sound T.world T.related s x)

  look_traced : (s x : ℕ) → Traced (run ours S (Look s x)).after (after_call ours S (Look s x) (run ours S (Look s x)).answer h)
  look_traced s x =
      single T (Look s x) (λ n k e. clash (cc)) (λ a z. rw (ne_eqb a.code 0 z))
      (looks S T.sound T.world T.related s x)

  adopt_traced : (s x o c : ℕ) → Traced (run ours S (Adopt s x o c)).after (after_call ours S (Adopt s x o c) (run ours S (Adopt s x o c)).answer h)
  adopt_traced s x o c =
      single T (Adopt s x o c) (λ n k e. clash (cc)) (λ a z. rw (ne_eqb a.code 0 z))
      (adopts S T.sound T.world T.related s x o c)

  deliver_traced : (s o : ℕ) → Traced (run ours S (Deliver s o)).after (after_call ours S (Deliver s o) (run ours S (Deliver s o)).answer h)
  deliver_traced s o =
      single T (Deliver s o) (λ n k e. clash (cc)) (λ a z. rw (ne_eqb a.code 0 z))
      (delivers S T.sound T.world T.related s o)

  retire_traced : (s : ℕ) → Traced (run ours S (Retire s)).after (after_call ours S (Retire s) (run ours S (Retire s)).answer h)
  retire_traced s =
      single T (Retire s) (λ n k e. clash (cc)) (λ a z. rw (ne_eqb a.code 0 z))
      (retires S T.sound T.world T.related s)

-- ## Drain

abbrev delivered : (s : ℕ) → Numbers → Event
delivered s a = update s a.site a.clock a.key a.value

-- an accepted delivery answers its origin
from_origin : (S : State) (s o : ℕ) → (run ours S (Deliver s o)).answer.code ≡ 0 → (run ours S (Deliver s o)).answer.site ≡ o
unfolding step r.deliver
from_origin S s o z = ap (λ (x : Outcome). x.answer.site) (run_accepted ours S (Deliver s o) z).1

accepted_delivery : {S : State} {h : History} → Traced S h → (s o : ℕ) → let r = run ours S (Deliver s o) in r.answer.code ≡ 0 → r.answer.site ≡ o
    → Traced r.after (delivered s r.answer ∷ h)
accepted_delivery {S} {h} T s o z e =
    let r = run ours S (Deliver s o) in
    let a = r.answer in
    subst (λ (i : ℕ). Traced r.after (update s i a.clock a.key a.value ∷ h)) (sym e)
    (subst (λ (t : Bool). Traced r.after (when t then update s o a.clock a.key a.value ∷ h else h)) (eq-eqb a.code 0 z) (deliver_traced T s o))

delivers_traced : {s : ℕ} {S R : State} {h : History} {made : List Numbers} → Traced S h → Delivers ours s S made R → Traced R (map (delivered s) made ++ h)
delivers_traced T start = T
delivers_traced {s} {h = h} T (one_more {made = made} {R = Q} d o z) =
    accepted_delivery (delivers_traced T d) s o z (from_origin Q s o z)

drain_traced : {S : State} {h : History} → Traced S h → (s b : ℕ) → Traced (drain ours S s b).after (map (delivered s) (drained ours S s b).made ++ h)
drain_traced {S} T s b = delivers_traced T (drain_delivers ours S s b).0

-- ## Touch and the cold list

-- a call whose step is traced, and that makes no event where it is refused
stepped : {S : State} {h : History} → Traced S h → (c : Call) → (first (refusals S c) ≡ 0 → Traced (step ours S c).after (after_call ours S c (step ours S c).answer h))
    → ((a : Numbers) → a.code ≢ 0 → after_call ours S c a h ≡ h) → Traced (run ours S c).after (after_call ours S c (run ours S c).answer h)
stepped {S} {h} T c f none =
    ⊎_elim
    (λ p. subst (λ (o : Outcome). Traced o.after (after_call ours S c o.answer h)) (sym p.1) (f p.0))
    (λ p. rw (none (run ours S c).answer (λ z. p.0 (sym (run_refused ours S c p.0) ∙ z)), p.1) T)
    (run_cases ours S c)

-- an accepted get, with its event
got_traced : {S : State} {h : History} → Traced S h → (s x : ℕ) → GetReady S s x → Traced (r.learn ours S s x) (get s x (found S s x) ∷ h)
unfolding step r.get refusals
got_traced {S} {h} T s x R =
    let z = (accepted_first ours S (Get s x) refl).1 ((get_ready S s x).1 R) in
    subst (λ (o : Outcome). Traced o.after (after_call ours S (Get s x) o.answer h)) (run_accepted ours S (Get s x) z).1 (get_traced T s x)

touch_traced : {S : State} {h : History} → Traced S h → (s x now u w : ℕ)
    → Traced (run ours S (Touch s x now u w)).after (after_call ours S (Touch s x now u w) (run ours S (Touch s x now u w)).answer h)
unfolding step r.touch r.put refusals
touch_traced {S} {h} T s x now u w =
    stepped T (Touch s x now u w)
    (λ z.
    let P = (touch_ready S s x now u w z).put in
    let L = r.learn ours S s x in
    let v = touched (S.store s x).value now u w in
    let T₁ = got_traced T s x (gets_too P) in
    let y = (accepted_first ours L (Put s x v) refl).1 ((put_ready L s x).1 (apart_ready (learn_apart ours S s x) P)) in
    subst (λ (o : Outcome). Traced o.after (after_call ours L (Put s x v) o.answer (get s x (found S s x) ∷ h))) (run_accepted ours L (Put s x v) y).1 (put_traced T₁ s x v))
    (λ a z. rw (ne_eqb a.code 0 z))

-- looks, key by key
looked_traced : {S : State} {h : History} → Traced S h → (s m : ℕ) → Live S s → m ≤ S.k → Traced S (looked S s m h)
looked_traced T s zero p q = T
looked_traced {S} {h} T s (suc m) p q =
    let T₁ = looked_traced T s m p (omega arith) in
    record {
      world = T₁.world;
      leads = subst (λ (a : Answer). Run S.n S.k (look s m a ∷ looked S s m h) T₁.world) (T₁.related.answers s m p.0 q) (more T₁.leads (LOOK s m p.0 q));
      related = T₁.related;
      sound = T₁.sound;
      alive = still_alive T₁ (look s m (found S s m)) S refl (λ t. ((λ l. (l, λ e. clash (cc))), λ l. l.0));
      quiet = still_quiet T₁ (look s m (found S s m)) p;
    }

cold_traced : {S : State} {h : History} → Traced S h → (s now U m : ℕ)
    → Traced (run ours S (Cold s now U m)).after (after_call ours S (Cold s now U m) (run ours S (Cold s now U m)).answer h)
unfolding step r.cold
cold_traced {S} T s now U m =
    stepped T (Cold s now U m) (λ z. let R = cold_ready S s now U m z in looked_traced T s S.k (R.site, R.live) (omega arith)) (λ a z. rw (ne_eqb a.code 0 z))

-- ## Any call

pub open_traced : (n k : ℕ) → OpenReady n k → Traced (opened n k) []
unfolding opened
open_traced n k R =
    record {
      world = _;
      leads = begin;
      related = open_abstracts n k;
      sound = open_sound n k R;
      alive = λ s. ((λ l. (l.0, λ q. q)), λ l. (l.0, bit_none s));
      quiet = λ s e b. absurd b;
    }

-- the step of an opening or of a drain of which no condition holds, and a refusal
opening_traced : {S : State} {h : History} → Traced S h → (n k : ℕ) → Traced (run ours S (Open n k)).after (after_call ours S (Open n k) (run ours S (Open n k)).answer h)
unfolding refusals step
opening_traced {S} {h} T n k =
    ⊎_elim
    (λ p. rw p.1 (open_traced n k ((open_ready n k).0 p.0)))
    (λ p. rw (ne_eqb _ 0 (λ z. p.0 (sym (run_refused ours S (Open n k) p.0) ∙ z)), p.1) T)
    (run_cases ours S (Open n k))

draining_traced : {S : State} {h : History} → Traced S h → (s b : ℕ) → Traced (run ours S (Drain s b)).after (after_call ours S (Drain s b) (run ours S (Drain s b)).answer h)
unfolding step drain
draining_traced {S} {h} T s b =
    ⊎_elim
    (λ p. rw p.1 (subst (λ t. Traced (drained ours S s b).after (when t then map (delivered s) (drained ours S s b).made ++ h else h)) (sym made) (drain_traced T s b)))
    (λ p.
    let e = run_refused ours S (Drain s b) p.0 in
    let z : eqb (run ours S (Drain s b)).answer.code 0 || eqb (run ours S (Drain s b)).answer.code 11 ≡ false =
    rw (e, ne_eqb _ 0 p.0, ne_eqb _ 11 (no_eleven S (Drain s b))) in
    rw (z, p.1) T)
    (run_cases ours S (Drain s b))
  where
    made : eqb (drained ours S s b).code 0 || eqb (drained ours S s b).code 11 ≡ true
    made = ⊎_elim (λ z. rw z) (λ z. rw z.0) (drained_code ours S s b)

pub run_traced : {S : State} {h : History} → Traced S h → (c : Call) → Traced (run ours S c).after (after_call ours S c (run ours S c).answer h)
run_traced T (Open n k) = opening_traced T n k
run_traced T (Put s x v) = put_traced T s x v
run_traced T (Get s x) = get_traced T s x
run_traced T (Deliver s o) = deliver_traced T s o
run_traced T (Drain s b) = draining_traced T s b
run_traced T (Cold s now U m) = cold_traced T s now U m
run_traced T (Touch s x now u w) = touch_traced T s x now u w
run_traced T (Look s x) = look_traced T s x
run_traced T (Adopt s x o c) = adopt_traced T s x o c
run_traced T (Retire s) = retire_traced T s

-- ## Demand 3

module _ {S : State} {h : History} (T : Traced S h) where
  abbrev causal : CausalRun S.n h T.world
  causal = run_causal T.sound.sites.1 T.leads

  abbrev ranks : Ranks
  ranks = causal.ranked.ranks

  right : Right ranks T.world.updates
  right = run_right T.sound.sites.1 T.leads

  traced_entries : (s x : ℕ) → s < S.n → x < S.k → let e = S.store s x in e.clock ≢ 0 → ranks e.origin e.clock ≡ rank e.depends
  traced_entries s x p q z =
      let e = S.store s x in
      let I = inv ranks h T.world T.leads right in
      let m : Names (T.world.store s x).answer e.origin e.clock = rw (T.related.answers s x p q, ne_eqb e.clock 0 z) (refl, refl) in
      let f = (I.site s).sets x e.origin e.clock m in
      rank_same _ _ _ _ (right e.origin e.clock (held_issued (I.site s) x e.origin e.clock m)) (e.depends, T.related.store s x p q, refl)
      (λ o c. (f o c).1) (λ o c. (f o c).0)

  traced_updates : (o c : ℕ) → o < S.n → Retained S o c → ranks o c ≡ rank (S.updates o (place c)).depends
  traced_updates o c p R =
      rank_one _ _ _ (right o c (omega (arith, R.lacks), omega (arith, R.made, T.related.count o p))) (_, (T.related.updates o c p R).2, refl)

  traced_live : (s o x v c : ℕ) → Live S s → put o x v c ∈ h → Lacks h s o c → (o' : ℕ) × ((run ours S (Deliver s o')).answer.code ≡ 0)
  traced_live s o x v c p q l =
      let e = causal.live s o x v c q l in
      (e.0, (delivers S T.sound T.world T.related s e.0).exactly.1 (p, e.1, e.2, e.3, e.4))

pub traced_drains : {S : State} {h : History} → Traced S h → (s b o x v c : ℕ) → (run ours S (Drain s b)).answer.code ≡ 0 → put o x v c ∈ h
    → Lacks (after_call ours S (Drain s b) (run ours S (Drain s b)).answer h) s o c → ⊥
unfolding refusals step
traced_drains {S} {h} T s b o x v c z q l =
    let k = run_accepted ours S (Drain s b) z in
    let m : Lacks (map (delivered s) (drained ours S s b).made ++ h) s o c = rw (eq-eqb (run ours S (Drain s b)).answer.code 0 z) at l in
    let n : (drain ours S s b).after.n ≡ S.n = subst (λ (x : Outcome). x.after.n ≡ S.n) k.1 (counts_kept ours S (Drain s b) (λ n k e. clash (cc))).0 in
    let g : (drain ours S s b).after.retired ≡ S.retired =
    subst (λ (x : Outcome). x.after.retired ≡ S.retired) k.1 (retired_kept ours S (Drain s b) (λ n k e. clash (cc)) (λ t e. clash (cc))) in
    let R = (drain_ready S s).0 k.0 in
    let e = traced_live (drain_traced T s b) s o x v c (omega (arith, R.site), ap (λ (r : ℕ). bit r s) g ∙ R.live) (in_right (put o x v c) (map (delivered s) (drained ours S s b).made) h q) m in
    drain_ends ours S s b (subst (λ (x : Outcome). x.answer.code ≡ 0) k.1 z) e.0 e.1

pub traced_causal : {S : State} {h : History} → Traced S h → Causal S (λ c. (run ours S c).answer) h
traced_causal T =
    record {
      runs = (T.world, T.leads, T.related);
      ranked = (causal T).ranked;
      entries = traced_entries T;
      updates = traced_updates T;
      orders = λ s p. (causal T).orders s;
      alive = T.alive;
      quiet = T.quiet;
      live = traced_live T;
      drains = traced_drains T;
    }

-- ## Any calls

-- the table and the history after some calls, the oldest first
abbrev pub played : Engine → State → History → List Call → State × History
played E S h [] = (S, h)
played E S h (c ∷ cs) = played E (run E S c).after (after_call E S c (run E S c).answer h) cs

pub played_traced : {S : State} {h : History} → Traced S h → (cs : List Call) → let p = played ours S h cs in Traced p.0 p.1
played_traced T [] = T
played_traced {S = S} {h = h} T (c ∷ cs) = played_traced {S = (run ours S c).after} (run_traced T c) cs

-- from a freshly opened table
pub played_causal : (n k : ℕ) → OpenReady n k → (cs : List Call) → let p = played ours (opened n k) [] cs in Causal p.0 (λ c. (run ours p.0 c).answer) p.1
played_causal n k R cs = traced_causal (played_traced (open_traced n k R) cs)
