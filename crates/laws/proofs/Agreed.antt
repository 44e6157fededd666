-- So every call does the same on both tables: codes, answers but beside a 10, drains; and what it leaves agrees again. Assumes nothing.
use mathlib.Core.Path.{◌≡◌, refl, sym, ap, subst, ◌∙◌}
use mathlib.Core.Bool.{Bool, true, false, ◌||◌}
use mathlib.Core.List.{List, [], ◌∷◌}
use mathlib.Core.Logic.{◌⊎◌, inl, inr, ⊎_elim, ◌≢◌, ◌↔◌}
use Prim.Native.Nat.{ℕ, suc, ◌≤◌, ◌<◌}
use native.Mathlib.Omega.{arith}
use lib.Dec.{eqb, leb}
use lib.ListN.{length}
use borrow.Author.Tests.{eqb-false, eq-eqb, ne_eqb}
use Rattle.clock.specs.Map.{any}
use Rattle.clock.specs.Vector.{Vector}
use Rattle.clock.proofs.Maps.{both, choice, eq?}
use Rattle.clock.proofs.Says.{Denies, denies_le, denies_lt, denies_or, denies_any}
use Rattle.layout.specs.State.{State, Entry, Update}
use Rattle.rules.specs.Engine.{Engine, long, short}
use Rattle.rules.specs.Live.{gone, Live}
use Rattle.rules.specs.Sound.{sound}
use Rattle.rules.specs.Steps as r
use Rattle.rules.specs.Touch.{Kind, cold, ahead, malformed, is, kind, chosen}
use Rattle.rules.specs.Steps.{Numbers, Outcome, done, opened, learn, waiting}
use Rattle.rules.specs.Refusals.{first, full, missing, open_refusals, put_refusals, get_refusals, adopt_refusals, deliver_refusals, site_refusals, touch_refusals, last, retire_refusals}
use Rattle.rules.specs.Drain.{try, Turn, turn, Drained, passes, drained, drain}
use Rattle.rules.specs.Calls.{Call, Open, Put, Get, Deliver, Drain, Cold, Touch, Look, Adopt, Retire, refusals, beside, step, run}
use Rattle.laws.specs.Agreement.{SameEntry, SameTable, SameAnswer}
use Rattle.laws.proofs.Tested.{sound_tested}
use Rattle.laws.proofs.Ready.{gets_too, retire_ready, OpenReady, PutReady, GetReady, open_ready, put_ready, get_ready, adopt_ready, deliver_ready, touch_ready}
use Rattle.laws.proofs.Given.{beside_code, run_cases}
use Rattle.laws.proofs.Codes.{beside_zeros}
use Rattle.laws.proofs.Touching.{learn_apart, apart_ready}
use Rattle.laws.proofs.Draining.{try_runs, passes_end, passes_stop, passes_accepted, passes_refused, by_tries}
use Rattle.laws.proofs.Agreeing.{Within, other, Agrees, open_agrees, put_agrees, same_check, deliver_agrees, deliver_same, get_agrees, retire_agrees}

-- ## Calls

-- two tables that agree
pub record Agree (S T : State) : Type 0 where
  pub depends : ℕ → Vector
  pub store : ℕ → ℕ → Entry
  pub updates : ℕ → ℕ → Update
  pub same : T ≡ other S depends store updates
  pub agrees : Agrees S depends store updates

-- and two outcomes
abbrev Agreed : Outcome → Outcome → Type 0
Agreed p q = SameAnswer p.answer q.answer × Agree p.after q.after

agree : {S : State} {d : ℕ → Vector} {m : ℕ → ℕ → Entry} {u : ℕ → ℕ → Update} → Agrees S d m u → Agree S (other S d m u)
agree {d = d} {m = m} {u = u} A = record { depends = d; store = m; updates = u; same = refl; agrees = A }

same_answer : {a b : Numbers} → b ≡ a → SameAnswer a b
same_answer e = record { code = ap (λ (z : Numbers). z.code) e; key = ap (λ (z : Numbers). z.key) e; others = λ z. e }

-- tests that fail exactly when what is the same holds
same_denied : {P Q : Type 0} (a b : Bool) → Denies a P → Denies b Q → P ↔ Q → a ≡ b
same_denied true true p q k = refl
same_denied false false p q k = refl
same_denied true false p q k = both refl (p.1 (k.1 (q.0 refl)))
same_denied false true p q k = both refl (q.1 (k.0 (p.0 refl)))

-- the numbers beside a refusal have key 0, and but for a 10 no table in them
beside_key : (S : State) (c : Call) (e : ℕ) → (beside S c e).key ≡ 0
unfolding beside
beside_key S (Open n k) e = refl
beside_key S (Put s x v) e = refl
beside_key S (Get s x) e = refl
beside_key S (Deliver s o) e = choice (eqb e 10) (λ (a : Numbers). a.key ≡ 0) (λ q. refl) (λ q. refl)
beside_key S (Drain s b) e = refl
beside_key S (Cold s now T m) e = refl
beside_key S (Touch s x now u w) e = refl
beside_key S (Look s x) e = refl
beside_key S (Adopt s x o c) e = refl
beside_key S (Retire s) e = refl

same_beside : (S T : State) (c : Call) (e : ℕ) → SameAnswer (beside S c e) (beside T c e)
same_beside S T c e =
    record {
      code = beside_code T c e ∙ sym (beside_code S c e);
      key = beside_key T c e ∙ sym (beside_key S c e);
      others = λ z. let y : e ≢ 10 = λ q. z (beside_code S c e ∙ q) in beside_zeros T c e y ∙ sym (beside_zeros S c e y);
    }

module _ (S : State) (d : ℕ → Vector) (m : ℕ → ℕ → Entry) (u : ℕ → ℕ → Update) (A : Agrees S d m u) where
  abbrev T' : State
  T' = other S d m u

  both_sound : (sound S ≡ true) × (sound T' ≡ true)
  both_sound = ((sound_tested S).1 A.sound, (sound_tested T').1 A.sound')

  same_seen : (s x : ℕ) → r.seen T' s x ≡ r.seen S s x
  same_seen s x = let k = A.entries s x in cc (k.0, k.1, k.2)

  -- the cold list counts the same keys
  same_counts : (s now U : ℕ) → (r.cold T' s now U).answer ≡ (r.cold S s now U).answer
  unfolding r.cold kind
  same_counts s now U = λ i. let count : Kind → ℕ = λ j. length (chosen (λ x. is j (same_kind x i)) S.k) in done (count cold) (count ahead) (count malformed) 0
    where
      same_kind : (x : ℕ) → kind now U (m s x) ≡ kind now U (S.store s x)
      same_kind x = let k = A.entries s x in rw (k.0, k.2)

  get_agree : (s x : ℕ) → GetReady S s x → Agreed (r.get long S s x) (r.get short T' s x)
  unfolding r.get learn
  get_agree s x R = (
    same_answer (same_seen s x),
    ⊎_elim
        (λ (z : (S.store s x).clock ≡ 0). rw (eq-eqb (S.store s x).clock 0 z, eq-eqb (m s x).clock 0 (k.2 ∙ z)) (agree A))
        (λ (z : (S.store s x).clock ≢ 0).
        rw (ne_eqb (S.store s x).clock 0 z, ne_eqb (m s x).clock 0 (λ q. z (sym k.2 ∙ q)), k.1, k.2) (agree (get_agrees S d m u A s x R z)))
        (eq? (S.store s x).clock 0),
  )
    where
      k : SameEntry (S.store s x) (m s x)
      k = A.entries s x

  -- the conditions that hold
  guarded : (b c g e p q : Bool) → (b ≡ false → g ≡ false → e ≡ false → p ≡ q)
      → first ((4, b) ∷ (5, c) ∷ (16, g) ∷ (9, e) ∷ (10, p) ∷ []) ≡ first ((4, b) ∷ (5, c) ∷ (16, g) ∷ (9, e) ∷ (10, q) ∷ [])
  guarded true c g e p q f = refl
  guarded false true g e p q f = refl
  guarded false false true e p q f = refl
  guarded false false false true p q f = refl
  guarded false false false false p q f = rw (f refl refl refl)

  same_missing : (s o : ℕ) → Live S s → o < S.n → S.applied s o ≢ S.applied o o → any 8 (missing T' s o) ≡ any 8 (missing S s o)
  same_missing s o p q h =
      same_denied _ _ (causes T') (causes S) (same_check S d m u A s o p q (omega (arith, A.sound.most s o p.0 q)))
    where
      causes : (S : State) → Denies (any 8 (missing S s o)) (Within (waiting S s o).depends (S.applied s))
      causes S = denies_any (missing S s o) (λ j. (waiting S s o).depends j ≤ S.applied s j) 8 (λ j. denies_lt _ _)

  same_first : (c : Call) → first (refusals T' c) ≡ first (refusals S c)
  unfolding refusals open_refusals put_refusals get_refusals adopt_refusals deliver_refusals site_refusals touch_refusals retire_refusals full last
  same_first (Open n k) = refl
  same_first (Put s x v) = rw (both_sound.0, both_sound.1)
  same_first (Get s x) = rw (both_sound.0, both_sound.1)
  same_first (Deliver s o) =
      rw (both_sound.0, both_sound.1)
      (guarded (leb S.n s || leb S.n o) (eqb s o) (gone S s) (eqb (S.applied s o) (S.applied o o)) _ _
      (λ b g e. let k = (denies_or (denies_le S.n s) (denies_le S.n o)).0 b in same_missing s o (k.0, g) k.1 (eqb-false _ _ e)))
  same_first (Drain s b) = rw (both_sound.0, both_sound.1)
  same_first (Cold s now U j) = rw (both_sound.0, both_sound.1)
  same_first (Touch s x now w y) = let k = A.entries s x in rw (both_sound.0, both_sound.1, k.0, k.2)
  same_first (Look s x) = rw (both_sound.0, both_sound.1)
  same_first (Adopt s x o c) = let k = A.entries s x in rw (both_sound.0, both_sound.1, k.1, k.2)
  same_first (Retire s) = rw (both_sound.0, both_sound.1)

  -- a call whose steps agree
  run_agreed : (c : Call) → (first (refusals S c) ≡ 0 → first (refusals T' c) ≡ 0 → Agreed (step long S c) (step short T' c)) → Agreed (run long S c) (run short T' c)
  run_agreed c f = go (run_cases long S c) (run_cases short T' c)
    where
      Cases : Engine → State → Type 0
      Cases E S =
          ((first (refusals S c) ≡ 0) × (run E S c ≡ step E S c))
          ⊎ ((first (refusals S c) ≢ 0) × (run E S c ≡ record { answer = beside S c (first (refusals S c)); after = S }))

      go : Cases long S → Cases short T' → Agreed (run long S c) (run short T' c)
      go (inl p) (inl q) = rw (p.1, q.1) (f p.0 q.0)
      go (inl p) (inr q) = absurd (q.0 (same_first c ∙ p.0))
      go (inr p) (inl q) = absurd (p.0 (sym (same_first c) ∙ q.0))
      go (inr p) (inr q) = rw (p.1, q.1, same_first c) (same_beside S T' c _, agree A)

  deliver_agreed : (s o : ℕ) → Agreed (run long S (Deliver s o)) (run short T' (Deliver s o))
  unfolding refusals step
  deliver_agreed s o =
      run_agreed (Deliver s o)
      (λ z z'.
      let R = (deliver_ready S s o).0 z in
      let R' = (deliver_ready T' s o).0 z' in
      (same_answer (deliver_same S d m u A s o R R'), unfold r.deliver in agree (deliver_agrees S d m u A s o R R')))

-- two tables that agree, by whatever parts
put_agree : {S T : State} → Agree S T → (s x v : ℕ) → PutReady S s x → PutReady T s x → Agreed (r.put long S s x v) (r.put short T s x v)
unfolding r.put
put_agree {S} {T} G s x v = rw G.same (λ R R'. (same_answer refl, agree (put_agrees S G.depends G.store G.updates G.agrees s x v R R')))

deliver_agree : (S T : State) → Agree S T → (s o : ℕ) → Agreed (run long S (Deliver s o)) (run short T (Deliver s o))
deliver_agree S T G s o =
    rw G.same (deliver_agreed S G.depends G.store G.updates G.agrees s o)

-- ## Drain

record SameDrained (p q : Drained) : Type 0 where
  code : q.code ≡ p.code
  made : q.made ≡ p.made
  tries : q.tries ≡ p.tries
  after : Agree p.after q.after

passes_agree : (s b : ℕ) (S : State) (U : Turn) (ds : List Numbers) (t : ℕ) (T : State) → Agree S T → SameDrained (passes long b S s U ds t) (passes short b T s U ds t)
passes_agree s =
    by_tries long s (λ b S U ds t p. (T : State) → Agree S T → SameDrained p (passes short b T s U ds t))
    (λ b S ds t T G. rw (passes_end short b T s ds t) (record { code = refl; made = refl; tries = refl; after = G }))
    (λ S o d ds t T G. rw (passes_stop short T s o d ds t) (record { code = refl; made = refl; tries = refl; after = G }))
    (λ b S o d ds t p z f T G.
    let k = tried S T G o in
    rw (passes_accepted short b T s o d ds t (k.0.code ∙ z), k.0.others (λ e. omega (arith, z, e))) (f (try short T s o).after k.1))
    (λ b S o d ds t p z f T G.
    let k = tried S T G o in
    rw (passes_refused short b T s o d ds t (λ e. z (sym k.0.code ∙ e)))
    (subst (λ (n : ℕ). SameDrained p (passes short b T s (turn n s (suc o) d) ds (suc t))) (sym (ap (λ (X : State). X.n) G.same)) (f T G)))
  where
    tried : (S T : State) → Agree S T → (o : ℕ) → Agreed (try long S s o) (try short T s o)
    tried S T G o = rw (try_runs long S s o, try_runs short T s o) (deliver_agree S T G s o)

-- ## Any call

step_agreed : (S : State) (d : ℕ → Vector) (m : ℕ → ℕ → Entry) (u : ℕ → ℕ → Update) → Agrees S d m u → (c : Call)
    → first (refusals S c) ≡ 0 → first (refusals (other S d m u) c) ≡ 0 → Agreed (step long S c) (step short (other S d m u) c)
unfolding refusals step r.put r.get r.look r.cold r.touch r.deliver r.retire drained drain opened
step_agreed S d m u A (Open n k) z z' = (same_answer refl, agree (open_agrees n k ((open_ready n k).0 z)))
step_agreed S d m u A (Put s x v) z z' = (same_answer refl, agree (put_agrees S d m u A s x v ((put_ready S s x).0 z) ((put_ready (other S d m u) s x).0 z')))
step_agreed S d m u A (Get s x) z z' = get_agree S d m u A s x ((get_ready S s x).0 z)
step_agreed S d m u A (Retire s) z z' = (same_answer refl, agree (retire_agrees S d m u A s ((retire_ready S s).0 z) ((retire_ready (other S d m u) s).0 z')))
step_agreed S d m u A (Look s x) z z' = (same_answer (same_seen S d m u A s x), agree A)
step_agreed S d m u A (Adopt s x o c) z z' = get_agree S d m u A s x ((adopt_ready S s x o c).0 z).get
step_agreed S d m u A (Cold s now U j) z z' = (same_answer (same_counts S d m u A s now U), agree A)
step_agreed S d m u A (Touch s x now w y) z z' =
    let P = (touch_ready S s x now w y z).put in
    let P' = (touch_ready (other S d m u) s x now w y z').put in
    let G = (get_agree S d m u A s x (gets_too P)).1 in
    rw (A.entries s x).0 (put_agree G s x _ (apart_ready (learn_apart long S s x) P) (apart_ready (learn_apart short (other S d m u) s x) P'))
step_agreed S d m u A (Deliver s o) z z' =
    let R = (deliver_ready S s o).0 z in
    let R' = (deliver_ready (other S d m u) s o).0 z' in
    (same_answer (deliver_same S d m u A s o R R'), agree (deliver_agrees S d m u A s o R R'))
step_agreed S d m u A (Drain s b) z z' =
    let k = passes_agree s b S (turn S.n s 0 false) [] 0 (other S d m u) (agree A) in
    (same_answer (rw (k.code, k.made, k.tries)), k.after)

pub run_agree : (S T : State) → Agree S T → (c : Call) → Agreed (run long S c) (run short T c)
run_agree S T G c =
    rw G.same (run_agreed S G.depends G.store G.updates G.agrees c (step_agreed S G.depends G.store G.updates G.agrees c))

pub same_table : {S T : State} → Agree S T → SameTable S T
same_table G = rw G.same (record { sites = refl; keys = refl; retired = refl; applied = λ s o. refl; entries = G.agrees.entries })

-- a drain makes the same deliveries
pub same_made : {S T : State} → Agree S T → (s b : ℕ) → (drained short T s b).made ≡ (drained long S s b).made
unfolding drained
same_made {S} {T} G s b =
    ap (λ (n : ℕ). (passes short b T s (turn n s 0 false) [] 0).made) (same_table G).sites ∙ (passes_agree s b S (turn S.n s 0 false) [] 0 T G).made

-- a table that was opened
pub opened_agree : (n k : ℕ) → OpenReady n k → Agree (opened n k) (opened n k)
unfolding opened
opened_agree n k R = agree (open_agrees n k R)
