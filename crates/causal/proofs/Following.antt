-- The calls of a sound table are figure 7's steps: demand 2 on plain numbers. Assumes nothing.
use mathlib.Core.Path.{◌≡◌, refl, sym, ap, subst, ◌∙◌}
use mathlib.Core.Bool.{Bool, false}
use mathlib.Core.List.{◌∷◌}
use mathlib.Core.Logic.Iff
use mathlib.Core.Logic.{⊎_elim, ◌↔◌, ◌≢◌}
use Prim.Native.Nat.{ℕ, ◌+◌, ◌≤◌, ◌<◌}
use native.Mathlib.Omega.{arith}
use borrow.Author.Tests.{ne_eqb, ltb-true, ltb-false}
use Rattle.clock.specs.Map.{any, bit}
use Rattle.clock.proofs.Maps.{both, eq?, le?, true_or_false}
use Rattle.clock.proofs.Says.{Says, says_lt, Denies, denies_lt, denies_any}
use Rattle.clock.proofs.Bits.{bit_above}
use Rattle.layout.specs.State.{State, last_clock}
use Rattle.rules.specs.Engine.{ours}
use Rattle.rules.specs.Live.{Live}
use Rattle.rules.specs.Sound.{Sound}
use Rattle.rules.specs.Steps as r
use Rattle.rules.specs.Steps.{Numbers, Outcome}
use Rattle.rules.specs.Calls.{Call, Put, Get, Look, Adopt, Retire, Deliver, refusals, step, run}
use Rattle.rules.specs.Refusals.{first, missing, deliver_refusals}
use Rattle.laws.proofs.Ready.{retire_ready, GetReady, AdoptReady, DeliverReady, put_ready, get_ready, adopt_ready, deliver_ready, deliver_nine, deliver_ten}
use Rattle.laws.specs.Theorems.{LowestMissing}
use Rattle.laws.proofs.Given.{run_cases, run_refused}
use Rattle.laws.proofs.Codes.{code_first, missing_named}
use Rattle.laws.proofs.Touching.{learn_apart}
use Rattle.laws.proofs.Keeps.{retire_live, retire_stays, retire_sound, put_sound, get_origin, get_sound, deliver_sound}
use Rattle.causal.specs.World as w
use Rattle.causal.specs.World.{Tops, World, Answer, Behind, CausesApplied, Event, put, get, look, adopt, update, retire, PUT, GET, LOOK, ADOPT, UPDATE, RETIRE, with_put, with_get, with_update}
use Rattle.causal.specs.History.{History}
use Rattle.causal.specs.Refines.{Abstracts, told, found, Steps, Refines, Tells, Follows}
use Rattle.causal.proofs.Updates.{next, clash}
use Rattle.causal.proofs.Vectors.{tops_worst, same_answers}
use Rattle.causal.proofs.Related.{put_next, put_related, get_related, replaces, deliver_numbers, deliver_replaces, deliver_related, retire_related, same_due, same_check, same_waiting}

-- who is live is as before where a call changes neither the sites nor those retired
unretired : {n r n' r' : ℕ} {e : Event} → n' ≡ n → r' ≡ r → ((t : ℕ) → e ≢ retire t)
    → (t : ℕ) → ((t < n') × (bit r' t ≡ false)) ↔ (((t < n) × (bit r t ≡ false)) × (e ≢ retire t))
unretired p q f t = rw (p, q) ((λ l. (l, f t)), λ l. l.0)

-- a call with its step, and what is ready exactly when the step is taken
module _ (S : State) (W : World) (c : Call) {R P : Type 0} (ready : (first (refusals S c) ≡ 0) ↔ R) (same : R ↔ P)
    (zero : (step ours S c).answer.code ≡ 0) (steps : R → Steps S W c (step ours S c)) where
  refines : Refines S W c P (run ours S c)
  refines =
      ⊎_elim
      (λ p. subst (Refines S W c P) (sym p.1)
      (let k = ready.0 p.0 in record { exactly = ((λ z. same.0 k), λ z. zero); accepted = λ z. steps k; refused = λ z. absurd (z zero) }))
      (λ p.
      let e = run_refused ours S c p.0 in
      record {
        exactly = ((λ z. absurd (p.0 (sym e ∙ z))), λ k. absurd (p.0 (ready.1 (same.1 k))));
        accepted = λ z. absurd (p.0 (sym e ∙ z));
        refused = λ z. ap (λ (o : Outcome). o.after) p.1;
      })
      (run_cases ours S c)

module _ (S : State) (D : Sound S) (W : World) (A : Abstracts S W) where
  pub puts : (s x v : ℕ) → Refines S W (Put s x v) (Live S s × (x < S.k) × (S.applied s s ≢ last_clock) × ((t : ℕ) → Live S t → S.applied s s < S.applied t s + 16)) (run ours S (Put s x v))
  unfolding refusals step r.put
  puts s x v =
      refines S W (Put s x v) (put_ready S s x) (
        (λ R. ((R.site, R.live), R.key, R.clock, R.room)),
        λ p. record { sound = D; site = p.0.0; live = p.0.1; key = p.1; clock = p.2; room = p.3 },
      ) refl
      (λ R.
      record {
        event = put s x v (next W s);
        world = with_put W s x v;
        step = PUT s x v R.site R.key;
        call = λ h. ap (λ (c : ℕ). put s x v c ∷ h) (sym (put_next S s x v R W A));
        answer = cc (put_next S s x v R W A);
        abstracts = put_related S s x v R W A;
        acts = (R.site, R.live);
        live = unretired refl refl (λ t e. clash (cc));
        sound = put_sound ours S s x v R;
      })

  -- get, look and adopt answer what the world's entry says
  module _ (s x : ℕ) (p : s < S.n) (q : x < S.k) where
    got : r.seen S s x ≡ told x (W.store s x).answer
    got =
        rw (A.answers s x p q)
        (⊎_elim
        (λ b. rw (b.value, b.origin, b.clock))
        (λ b. rw (ne_eqb (S.store s x).clock 0 (λ z. omega (arith, b.some))))
        (D.entries s x p q))

    named : (e : Answer → Event) (h : History) → e (found S s x) ∷ h ≡ e (W.store s x).answer ∷ h
    named e h = ap (λ (a : Answer). e a ∷ h) (sym (A.answers s x p q))

  asked : (s x : ℕ) → GetReady S s x ↔ (Live S s × (x < S.k))
  asked s x = ((λ R. ((R.site, R.live), R.key)), λ p. record { sound = D; site = p.0.0; live = p.0.1; key = p.1 })

  pub gets : (s x : ℕ) → Refines S W (Get s x) (Live S s × (x < S.k)) (run ours S (Get s x))
  unfolding refusals step r.get
  gets s x =
      refines S W (Get s x) (get_ready S s x) (asked s x) refl
      (λ R.
      record {
        event = get s x (W.store s x).answer;
        world = with_get W s x;
        step = GET s x R.site R.key;
        call = named s x R.site R.key (get s x);
        answer = got s x R.site R.key;
        abstracts = get_related S s x R W A;
        acts = (R.site, R.live);
        live = let e = (learn_apart ours S s x).1 in unretired (ap (λ (T : State). T.n) e) (ap (λ (T : State). T.retired) e) (λ t e. clash (cc));
        sound = get_sound ours S s x D;
      })

  pub looks : (s x : ℕ) → Refines S W (Look s x) (Live S s × (x < S.k)) (run ours S (Look s x))
  unfolding refusals step r.look
  looks s x =
      refines S W (Look s x) (get_ready S s x) (asked s x) refl
      (λ R.
      record {
        event = look s x (W.store s x).answer;
        world = W;
        step = LOOK s x R.site R.key;
        call = named s x R.site R.key (look s x);
        answer = got s x R.site R.key;
        abstracts = A;
        acts = (R.site, R.live);
        live = unretired refl refl (λ t e. clash (cc));
        sound = D;
      })

  abbrev entry : (s x : ℕ) → Numbers
  entry s x = told x (W.store s x).answer

  -- the entry that is named
  asked_entry : (s x o c : ℕ) → AdoptReady S s x o c ↔ (Live S s × (x < S.k) × ((entry s x).site ≡ o) × ((entry s x).clock ≡ c))
  asked_entry s x o c = (
    (λ R. let e = got s x R.get.site R.get.key in ((R.get.site, R.get.live), R.get.key, cc (e, R.origin), cc (e, R.clock))),
    λ (p, q, i, j).
        let e = got s x p.0 q in
        let R = (asked s x).1 (p, q) in
        let k : (S.store s x).origin ≡ o = cc (e, i) in
        record { get = R; below = omega (arith, get_origin S s x R); origin = k; clock = cc (e, j) },
  )

  pub adopts : (s x o c : ℕ) → Refines S W (Adopt s x o c) (Live S s × (x < S.k) × ((entry s x).site ≡ o) × ((entry s x).clock ≡ c)) (run ours S (Adopt s x o c))
  unfolding refusals step r.get
  adopts s x o c =
      refines S W (Adopt s x o c) (adopt_ready S s x o c) (asked_entry s x o c) refl
      (λ R.
      let p = R.get.site in
      let q = R.get.key in
      record {
        event = adopt s x (W.store s x).answer;
        world = with_get W s x;
        step = ADOPT s x p q;
        call = named s x p q (adopt s x);
        answer = got s x p q;
        abstracts = get_related S s x R.get W A;
        acts = (R.get.site, R.get.live);
        live = let e = (learn_apart ours S s x).1 in unretired (ap (λ (T : State). T.n) e) (ap (λ (T : State). T.retired) e) (λ t e. clash (cc));
        sound = get_sound ours S s x D;
      })

  behind : (s o : ℕ) → s < S.n → o < S.n → (S.applied s o ≢ S.applied o o) ↔ (S.applied s o < S.applied o o)
  behind s o p q = ((λ h. omega (arith, D.most s o p q)), λ h. omega arith)

  pub enables : (s o : ℕ) → DeliverReady S s o → Live S s × (o < S.n) × (s ≢ o) × Behind W s o × CausesApplied W s o
  enables s o R =
      let lt = (behind s o R.site R.origin).0 R.behind in (
        (R.site, R.live),
        R.origin,
        R.others,
        (same_due S D s o (R.site, R.live) R.origin W A).1 lt,
        (same_check S D s o (R.site, R.live) R.origin W A lt).1 R.causes,
      )

  readies : (s o : ℕ) → Live S s × (o < S.n) × (s ≢ o) × Behind W s o × CausesApplied W s o → DeliverReady S s o
  readies s o p =
      let lt = (same_due S D s o p.0 p.1 W A).0 p.3 in
      record {
        sound = D;
        site = p.0.0;
        origin = p.1;
        others = p.2;
        live = p.0.1;
        behind = (behind s o p.0.0 p.1).1 lt;
        causes = (same_check S D s o p.0 p.1 W A lt).0 p.4;
      }

  pub delivers : (s o : ℕ) → Refines S W (Deliver s o) (Live S s × (o < S.n) × (s ≢ o) × Behind W s o × CausesApplied W s o) (run ours S (Deliver s o))
  unfolding refusals step r.deliver
  delivers s o =
      refines S W (Deliver s o) (deliver_ready S s o) (enables s o, readies s o) refl
      (λ R.
      record {
        event = update s o (w.due W s o) (w.waiting W s o).key (w.waiting W s o).value;
        world = with_update W s o (replaces S s o);
        step = UPDATE s o _ R.site R.origin R.others (enables s o R).3 (enables s o R).4 (deliver_replaces S s o R W A);
        call = λ h. ap (λ (a : Numbers). update s o a.clock a.key a.value ∷ h) (deliver_numbers S s o R W A);
        answer = deliver_numbers S s o R W A;
        abstracts = deliver_related S s o R W A;
        acts = (R.site, R.live);
        live = unretired refl refl (λ t e. clash (cc));
        sound = deliver_sound ours S s o R;
      })

  pub retires : (s : ℕ) → Refines S W (Retire s) (Live S s × ((t : ℕ) × Live S t × (t ≢ s))) (run ours S (Retire s))
  unfolding refusals step r.retire
  retires s =
      refines S W (Retire s) (retire_ready S s) (
        (λ R. ((R.site, R.live), R.another)),
        λ p. record { sound = D; site = p.0.0; live = p.0.1; another = p.1 },
      ) refl
      (λ R.
      record {
        event = retire s;
        world = W;
        step = RETIRE s R.site;
        call = λ h. refl;
        answer = refl;
        abstracts = retire_related S s R W A;
        acts = (R.site, R.live);
        live = λ t. ((λ l. let k = retire_live S s R t l in (k.0, λ e. k.1 (cc))), λ l. retire_stays S s R t l.0 (λ e. l.1 (cc)));
        sound = retire_sound S s R;
      })

-- ## Which premise of UPDATE fails

module _ (S : State) (D : Sound S) (W : World) (A : Abstracts S W) (s o : ℕ) where
  abbrev a : Numbers
  a = (run ours S (Deliver s o)).answer

  given : (e : ℕ) → e ≢ 0 → e ≢ 11 → (a.code ≡ e) ↔ (first (deliver_refusals S s o) ≡ e)
  unfolding refusals
  given = code_first ours S (Deliver s o)

  nine : (a.code ≡ 9) ↔ (Live S s × (o < S.n) × (s ≢ o) × (Behind W s o → ⊥))
  nine =
      Iff.trans (given 9 (omega arith) (omega arith)) (Iff.trans (deliver_nine S s o) (
        (λ (_, ((p, q), (k, (g, e)))). ((p, g), q, k, λ d. omega (arith, (same_due S D s o (p, g) q W A).0 d))),
        λ (p, q, k, f). (D, ((p.0, q), (k, (p.1, ⊎_elim (λ e. e) (λ e. absurd (f ((same_due S D s o p q W A).1 ((behind S D W A s o p.0 q).0 e)))) (eq? (S.applied s o) (S.applied o o)))))),
      ))

  -- the table finds a cause missing exactly when UPDATE's check fails
  module _ (p : Live S s) (q : o < S.n) (d : Behind W s o) where
    abbrev lt : S.applied s o < S.applied o o
    lt = (same_due S D s o p q W A).0 d

    finds : Denies (any 8 (missing S s o)) (CausesApplied W s o)
    finds =
        Iff.trans (denies_any (missing S s o) (λ j. (r.waiting S s o).depends j ≤ S.applied s j) 8 (λ j. denies_lt _ _)) (Iff.symm (same_check S D s o p q W A lt))

    tops : Tops (r.waiting S s o).depends (w.waiting W s o).depends
    tops = (same_waiting S D s o p q W A lt).2

  ten : (a.code ≡ 10) ↔ (Live S s × (o < S.n) × (s ≢ o) × Behind W s o × (CausesApplied W s o → ⊥))
  ten =
      Iff.trans (given 10 (omega arith) (omega arith)) (Iff.trans (deliver_ten S s o) (
        (λ (_, ((p, q), (k, (g, (b, m))))).
            let d = (same_due S D s o (p, g) q W A).1 ((behind S D W A s o p q).0 b) in
            ((p, g), q, k, d, λ f. both m ((finds (p, g) q d).1 f))),
        λ (p, q, k, d, f). (
          D,
          (
            (p.0, q),
            (
              k,
              (
                p.1,
                (
                  (behind S D W A s o p.0 q).1 (lt p q d),
                  ⊎_elim (λ e. e) (λ e. absurd (f ((finds p q d).0 e))) (true_or_false (any 8 (missing S s o))),
                ),
              ),
            ),
          ),
        ),
      ))

  module _ (z : a.code ≡ 10) where
    abbrev hs : s < S.n
    hs = (ten.0 z).0.0

    abbrev T : Tops (r.waiting S s o).depends (w.waiting W s o).depends
    T = tops (ten.0 z).0 (ten.0 z).1 (ten.0 z).3

    abbrev M : LowestMissing S s o a
    M = missing_named ours S s o z

    fails : (w.waiting W s o).depends a.site a.clock × (W.applied s a.site < a.clock)
    fails =
        let l = ltb-true _ _ M.fails in (
          subst (λ (c : ℕ). (w.waiting W s o).depends a.site c) (sym M.clock) (tops_worst _ (S.applied s) _ T a.site M.column l),
          omega (arith, A.applied s a.site hs M.column, M.clock),
        )

    lowest : (o' c' : ℕ) → o' < a.site → (w.waiting W s o).depends o' c' → c' ≤ W.applied s o'
    lowest o' c' h m =
        omega (arith, ltb-false (S.applied s o') ((r.waiting S s o).depends o') (M.lowest o' h), T.above o' c' m, A.applied s o' hs (T.eight o' c' m))

    greatest : (c' : ℕ) → (w.waiting W s o).depends a.site c' → c' ≤ a.clock
    greatest c' m = omega (arith, T.above a.site c' m, M.clock)

    -- the premise fails for site m
    abbrev Fails : (m count : ℕ) → Type 0
    Fails m count = (c : ℕ) × (w.waiting W s o).depends m c × (count < c)

    waits : (m : ℕ) → Says (bit a.value m) (Fails m (W.applied s m))
    waits m =
        ⊎_elim
        (λ (h : 8 ≤ m). ((λ e. both e (bit_above 8 a.value m M.below h)), λ f. absurd (omega (arith, T.eight m f.0 f.1))))
        (λ (h : m < 8).
        subst (λ (t : Bool). Says t (Fails m (W.applied s m))) (sym (M.bits m h))
        (subst (λ (n : ℕ). Says (missing S s o m) (Fails m n)) (sym (A.applied s m hs h))
        (Iff.trans (says_lt _ _) (Iff.symm ((same_answers _ _ T).fails (S.applied s) m h)))))
        (le? 8 m)

  pub tells : Tells S W s o a
  tells = record { nine = nine; ten = ten; fails = fails; lowest = lowest; greatest = greatest; waits = waits; eight = λ z. (M z).below }

pub follows : (S : State) → Sound S → (W : World) → Abstracts S W → Follows S W (run ours S)
follows S D W A = record { puts = λ s x v h. puts S D W A s x v; gets = gets S D W A; looks = looks S D W A; adopts = adopts S D W A; delivers = delivers S D W A; retires = retires S D W A; tells = tells S D W A }
