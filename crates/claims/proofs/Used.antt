-- Every use follows from the claims, by their fields. Assumes nothing.
use mathlib.Core.Path.{◌≡◌, refl, sym, ap, subst, ◌∙◌}
use mathlib.Core.List.{List, [], ◌∷◌}
use mathlib.Core.Bool.{Bool, true}
use mathlib.Core.Logic.Iff
use mathlib.Core.Logic.{◌↔◌, inl, inr, ⊎_elim, ◌≢◌}
use Prim.Native.Nat.{ℕ, suc, ◌≤◌, ◌<◌}
use native.Mathlib.Omega.{arith}
use lib.Dec.{eqb}
use lib.ListN.{length}
use borrow.Author.Tests.{eq-eqb, ne_eqb}
use Rattle.clock.specs.Map.{when◌then◌else◌}
use Rattle.clock.specs.Lists.{◌∈◌}
use Rattle.clock.proofs.Maps.{true_or_false}
use Rattle.layout.specs.State.{State, state_of, last_clock}
use Rattle.layout.specs.Ranges.{Bytes}
use Rattle.rules.specs.Engine.{Engine, long, short, ours}
use Rattle.rules.specs.Live.{Live}
use Rattle.rules.specs.Sound.{Sound}
use Rattle.rules.specs.Steps.{Numbers, Outcome, refused}
use Rattle.rules.specs.Refusals.{get_refusals}
use Rattle.rules.specs.Calls.{Call, Put, Get, Adopt, Deliver, Drain, Touch, Retire, refusals, asks, Served, serve}
use Rattle.laws.proofs.Ranks.{Under}
use Rattle.laws.specs.Agreement.{SameTable, SameAnswer}
use Rattle.causal.specs.World.{Rank, Answer, wrote, World, due, waiting, with_put, with_get, with_update, Replaces, Event, put, get, look, adopt, update, retire, Step, PUT, GET, LOOK, ADOPT, UPDATE, RETIRE, Run, more}
use Rattle.causal.specs.History.{History, Write, Read, Reads, op, order, Ranks, lookup, Ranking, Ordered, Cause, direct}
use Rattle.causal.specs.Refines.{Abstracts, Follows, Refines, numbers, after_call, Causal}
use Rattle.causal.specs.Anomalies.{looked_at}
use Rattle.causal.proofs.Updates.{clash}
use Rattle.causal.proofs.Sites.{lookup_in}
use Rattle.causal.proofs.Highest.{lookup_most}
use Rattle.causal.proofs.Handed.{came, behind, arrived, stands, stands_before}
use Rattle.demands.specs.Demands.{Demand1, Delivered, none, next}
use Rattle.demands.proofs.Drained.{same_bytes}
use Rattle.claims.specs.Uses.{OfBuffer, Left, OfTable, OfHistory, OfBoth, Uses}
use Rattle.claims.proofs.Proved.{claims}

-- ## Demand 1

one_delivery : {s m : ℕ} {t u : List ℕ} → Delivered ours s t m u → m ≡ 1
    → (o : ℕ) × ((serve ours t (Deliver s o)).answer.code ≡ 0) × (u ≡ (serve ours t (Deliver s o)).bytes)
one_delivery none z = absurd (omega arith)
one_delivery {s} (next d o k) z =
    let e = same_bytes d (omega arith) in
    (o, subst (λ (u : List ℕ). (serve ours u (Deliver s o)).answer.code ≡ 0) e k, ap (λ (u : List ℕ). (serve ours u (Deliver s o)).bytes) e)

both : {w : Served} {a : Numbers} {u : List ℕ} → w.answer ≡ a → w.bytes ≡ u → w ≡ record { answer = a; bytes = u }
both p q = λ i. record { answer = p i; bytes = q i }

of_buffer : (t : List ℕ) → Bytes t → OfBuffer t
of_buffer t b =
    let one = claims.demands.one t b in
    record {
      accepts = λ s x k. (one (Get s x)).accepted.1 (k, tt);
      only = λ s x z. ((one (Get s x)).accepted.0 z).0;
      spent = λ s z. ((one (Drain s 0)).spent.0 z).1;
      zeros = λ s x z. (one (Get s x)).zeros 6 (omega arith) (omega arith) (omega arith) z;
      keeps = λ s o z. (one (Deliver s o)).keeps (omega arith) (omega arith);
      delivered = λ s d z. one_delivery ((one (Drain s d)).delivered s d refl) z;
      look_answers = λ s x a e. let (p, q) = claims.looks.look_keeps ours t b s x in both (p ∙ e) q;
      list_keeps = λ l s now T. claims.looks.cold_keeps t b l s now T;
      get_both = λ s x a e. sym (λ i. serve ours (e i).bytes (Adopt s x (e i).answer.site (e i).answer.clock)) ∙ claims.looks.get_is_both ours t b s x;
      adopts_named = λ s x z. claims.looks.adopt_answers ours t s x 0 1 z;
      adopts_all = λ s x z. claims.looks.adopt_is_get ours t s x 7 last_clock z;
      none_adopted = λ s x z k. let (p, q) = claims.looks.adopt_never ours t b s x z k in both p q;
      retires = λ s z. let B = claims.retirement.in_bytes ours t b s z in (B 2, B 0, B 1, λ i h. B i ∙ rw (ne_eqb i 2 (λ e. omega arith)));
      retires_short = λ s z. let R = claims.retirement.retires short (state_of t) s z in (R.0, R.1.others);
      nobody = λ s d x now u w.
          let K = claims.retirement.kept ours (state_of t) in
          (K (Drain s d) (λ n k e. clash (cc)) (λ t e. clash (cc)), K (Touch s x now u w) (λ n k e. clash (cc)) (λ t e. clash (cc)));
      keeps_place = λ s x v o i t' R l h. (claims.retirement.nothing_lost ours (state_of t) (Put s x v) (λ n k e. clash (cc)) o i t' R l h).1;
      loses_nothing = λ s t' i d z l h m.
          let S = state_of t in
          let R = (claims.retirement.retires ours S s z).1 in
          claims.retirement.nothing_lost ours S (Retire s) (λ n k e. clash (cc)) s i t' (record { made = m; by = t'; site = l; lacks = h })
          ((R.live t').1 (l, d)) (rw R.others h);
      whole = λ c. (one c).whole;
    }

nothing_bytes : Bytes []
unfolding Bytes
nothing_bytes i = omega arith

nothing_is_one : {E : Engine} → Demand1 E → (serve E [] (Get 0 0)).answer ≡ refused 1
unfolding asks refusals get_refusals
nothing_is_one one =
    let A = one [] nothing_bytes (Get 0 0) in
    A.zeros 1 (omega arith) (omega arith) (omega arith) ((A.given 1 (omega arith) (omega arith)).1 (inl (refl, refl)))

-- ## Demand 2

-- the label says which step it was: what it says, and the world it leaves
abbrev label : World → Event → Event
label W (put s x v c) = put s x v (suc (length (W.updates s)))
label W (get s x a) = get s x (W.store s x).answer
label W (look s x a) = look s x (W.store s x).answer
label W (adopt s x a) = adopt s x (W.store s x).answer
label W (update s o c x v) = update s o (due W s o) (waiting W s o).key (waiting W s o).value
label W (retire s) = retire s

-- with whether an update replaced
abbrev leaves : World → Event → Bool → World
leaves W (put s x v c) b = with_put W s x v
leaves W (get s x a) b = with_get W s x
leaves W (look s x a) b = W
leaves W (adopt s x a) b = with_get W s x
leaves W (update s o c x v) b = with_update W s o b
leaves W (retire s) b = W

abbrev Judged : World → Event → Bool → Type 0
Judged W (put s x v c) b = Unit {0}
Judged W (get s x a) b = Unit {0}
Judged W (look s x a) b = Unit {0}
Judged W (adopt s x a) b = Unit {0}
Judged W (retire s) b = Unit {0}
Judged W (update s o c x v) b = let u = waiting W s o in let e = W.store s u.key in (b ≡ true) ↔ Replaces o u.depends e.answer e.depends

step_is : {n k : ℕ} {W W' : World} {e : Event} → Step n k W e W' → (e ≡ label W e) × (b : Bool) × (W' ≡ leaves W e b) × Judged W e b
step_is (PUT s x v p q) = (refl, true, refl, tt)
step_is (GET s x p q) = (refl, true, refl, tt)
step_is (LOOK s x p q) = (refl, true, refl, tt)
step_is (ADOPT s x p q) = (refl, true, refl, tt)
step_is (UPDATE s o b p q d f g i) = (refl, b, refl, i)
step_is (RETIRE s p) = (refl, true, refl, tt)

newest : {e f : Event} → e ∷ [] ≡ f ∷ [] → f ≡ e
newest k = cc

-- an accepted call whose event is known
settled : {S : State} {W : World} {c : Call} {P : Type 0} {r : Outcome} → Refines S W c P r → P → (e : Event)
    → after_call ours S c r.answer [] ≡ (when eqb r.answer.code 0 then e ∷ [] else [])
    → (r.answer ≡ numbers (label W e)) × ((b : Bool) × Abstracts r.after (leaves W e b) × Judged W e b) × Sound r.after
    × ((t : ℕ) → Live r.after t ↔ (Live S t × (e ≢ retire t)))
settled {S} {W} {r = r} R p e is =
    let z = R.exactly.1 p in
    let Q = R.accepted z in
    let k : Q.event ≡ e = newest (rw (eq-eqb _ 0 z) at (sym is ∙ Q.call [])) in
    let i = step_is Q.step in (
      Q.answer ∙ ap numbers i.0 ∙ ap (λ (f : Event). numbers (label W f)) k,
      subst (λ (f : Event). (b : Bool) × Abstracts r.after (leaves W f b) × Judged W f b) k (i.1, subst (Abstracts r.after) i.2 Q.abstracts, i.3),
      Q.sound,
      subst (λ (f : Event). (t : ℕ) → Live r.after t ↔ (Live S t × (f ≢ retire t))) k Q.live,
    )

-- of an event that is no retirement
stayed : (S T : State) {e : Event} → ((t : ℕ) → e ≢ retire t) → Sound T → ((t : ℕ) → Live T t ↔ (Live S t × (e ≢ retire t))) → Left S T
stayed S T f D l = (D, λ t. ((λ k. ((l t).0 k).0), λ k. (l t).1 (k, f t)))

-- and no update
settled_so : {S : State} {W W' : World} {c : Call} {P : Type 0} {r : Outcome} → Refines S W c P r → P → (e : Event) → ((t : ℕ) → e ≢ retire t) → ((b : Bool) → leaves W e b ≡ W')
    → after_call ours S c r.answer [] ≡ (when eqb r.answer.code 0 then e ∷ [] else [])
    → (r.answer ≡ numbers (label W e)) × Abstracts r.after W' × Left S r.after
settled_so {S} {r = r} R p e f left is = let (a, A, D, l) = settled R p e is in (a, subst (Abstracts r.after) (left A.0) A.1, stayed S r.after f D l)

of_table : (t : List ℕ) (W : World) → Follows (state_of t) W (λ c. let r = serve ours t c in record { answer = r.answer; after = state_of r.bytes }) → OfTable t W
of_table t W F =
    record {
      puts = λ s x v b p q l f. settled_so (F.puts s x v b) (p, q, omega arith, f) (put s x v _) (λ t e. clash (cc)) (λ b. refl) refl;
      gets = λ s x p q. settled_so (F.gets s x) (p, q) (get s x _) (λ t e. clash (cc)) (λ b. refl) refl;
      looks = λ s x p q. settled_so (F.looks s x) (p, q) (look s x _) (λ t e. clash (cc)) (λ b. refl) refl;
      adopts = λ s x v o c p q e. let (a, A, D) = settled_so (F.adopts s x o c) (p, q, rw e, rw e) (adopt s x _) (λ t e. clash (cc)) (λ b. refl) refl in (rw e at a, A, D);
      adopts_none = λ s x p q e. let (a, A, D) = settled_so (F.adopts s x 0 0) (p, q, rw e, rw e) (adopt s x _) (λ t e. clash (cc)) (λ b. refl) refl in (rw e at a, A, D);
      changed = λ s x v o c o' c' e d.
          let R = F.adopts s x o' c' in
          let no : (serve ours t (Adopt s x o' c')).answer.code ≢ 0 = λ z. let k = R.exactly.0 z in d (cc (e, k.2)) (cc (e, k.3)) in
          (no, R.refused no);
      changed_none = λ s x o c e d.
          let R = F.adopts s x o c in
          let no : (serve ours t (Adopt s x o c)).answer.code ≢ 0 = λ z. let k = R.exactly.0 z in d (sym (rw e at k.2)) (sym (rw e at k.3)) in
          (no, R.refused no);
      delivers = λ s o p q d b f.
          let (a, A, D, l) = settled (F.delivers s o) (p, q, d, b, f) (update s o _ _ _) refl in
          (a, A, stayed (state_of t) (state_of (serve ours t (Deliver s o)).bytes) (λ t e. clash (cc)) D l);
      last = λ s x v b e. let R = F.puts s x v b in ((λ z. (R.exactly.0 z).2 e), R.refused (λ z. (R.exactly.0 z).2 e));
      nine = λ s o p q d f. (F.tells s o).nine.1 (p, q, d, f);
      ten = λ s o p q d b f.
          let T = F.tells s o in
          let z = T.ten.1 (p, q, d, b, f) in
          let a = (serve ours t (Deliver s o)).answer in (
            (T.fails z).1,
            (T.fails z).0,
            λ o' c' k l. lowest a.site o' (λ h. omega (arith, T.lowest z o' c' h k)),
            T.greatest z,
          );
      retires = λ s s' p q d.
          let (a, A, D, l) = settled (F.retires s) (p, (s', q, d)) (retire s) refl in
          (a, A.1, D, (λ k. ((l s).0 k).1 refl), (l s').1 (q, λ e. d (cc)));
      last_one = λ s f z. let k = (F.retires s).exactly.0 z in k.1.2 (f k.1.0 k.1.1);
      waits = λ s o z.
          let T = F.tells s o in (
            (λ m c k l. (T.waits z m).1 (c, k, l)),
            (λ m f. ⊎_elim (λ e. let (c, k, l) = (T.waits z m).0 e in absurd (omega (arith, f c k))) (λ e. e) (true_or_false _)),
            T.eight z,
          );
    }
  where
    lowest : (i j : ℕ) → (j < i → ⊥) → i ≤ j
    lowest i j f = omega arith

-- ## Demand 3

-- a get and a look answer no put lower than the write that stands right before them
reads_highest : (r : Ranks) (s o c x v : ℕ) (a : Answer) (f e : Event) (g : History) → op s f ≡ Read x a ∷ [] → op s e ≡ Write o c x v ∷ [] → Reads r (order s (f ∷ e ∷ g))
    → (v' o' c' : ℕ) × (a ≡ wrote v' o' c') × Under (r o c) o (r o' c') o' × Write o' c' x v' ∈ order s (f ∷ e ∷ g)
unfolding order
reads_highest r s o c x v a f e g j k R =
    let l = Write o c x v ∷ order s g in
    let i : a ≡ lookup r x l = (rw (j, k) at (R)).0 in
    let (v', o', c', p, u) = lookup_most r x l o c v (inl refl) in
    (v', o', c', i ∙ p, u, rw (j, k) (inr (lookup_in r x l v' o' c' p)))

got : (s x : ℕ) (a : Answer) → op s (get s x a) ≡ Read x a ∷ []
unfolding op
got s x a = rw (eq-eqb s s refl)

looked : (s x : ℕ) (a : Answer) → op s (look s x a) ≡ Read x a ∷ []
unfolding op
looked s x a = rw (eq-eqb s s refl)

-- the causes of what came last stand before it
cause : (r : Ranks) (g : History) (s o c x v o' c' : ℕ) → s ≢ o' → Ordered r (update s o c x v ∷ g) s → Cause r (update s o c x v ∷ g) o' c' o c
    → (x' : ℕ) × (v' : ℕ) × update s o' c' x' v' ∈ g
unfolding order
cause r g s o c x v o' c' d O k =
    let (x', v', b) = O.caused o c x v o' c' (stands s (Write o c x v) (update s o c x v) (arrived s o c x v) (update s o c x v ∷ g) (inl refl)) k in
    let q = behind (Write o c x v) (order s g) (Write o' c' x' v') (Write o c x v) (rw (arrived s o c x v) at b) in
    (x', v', ⊎_elim (λ p. absurd (d (sym p.0))) (λ p. p) (came s g o' c' x' v' q))

-- a put stands in the world that it leaves
put_stands : {n k s x v c : ℕ} {W W' : World} → Step n k W (put s x v c) W' → (W'.store s x).answer ≡ wrote v s c
put_stands {s = s} {x} q =
    let (e, b, d, j) = step_is q in
    ap (λ (W' : World). (W'.store s x).answer) d ∙ rw (eq-eqb s s refl, eq-eqb x x refl) (cc)

got_own : {n k s x v c : ℕ} {a : Answer} {g : History} {W : World} → Run n k (get s x a ∷ put s x v c ∷ g) W → a ≡ wrote v s c
got_own {s = s} {x} {a = a} (more {W = W'} (more R q) p) = let f = (step_is p).0 in let k : a ≡ (W'.store s x).answer = cc in k ∙ put_stands q

looked_own : {n k s x v c : ℕ} {a : Answer} {g : History} {W : World} → Run n k (look s x a ∷ put s x v c ∷ g) W → a ≡ wrote v s c
looked_own {s = s} {x} {a = a} (more {W = W'} (more R q) p) = let f = (step_is p).0 in let k : a ≡ (W'.store s x).answer = cc in k ∙ put_stands q

adopted_own : {n k s x v c : ℕ} {a : Answer} {g : History} {W : World} → Run n k (adopt s x a ∷ put s x v c ∷ g) W → a ≡ wrote v s c
adopted_own {s = s} {x} {a = a} (more {W = W'} (more R q) p) = let f = (step_is p).0 in let k : a ≡ (W'.store s x).answer = cc in k ∙ put_stands q

of_history : (t : List ℕ) (h : History) → Causal (state_of t) (λ c. (serve ours t c).answer) h → OfHistory t h
of_history t h C =
    record {
      own_put = λ g s x v c a e. let (W, R, A) = C.runs in got_own (subst (λ (h : History). Run (state_of t).n (state_of t).k h W) e R);
      own_look = λ g s x v c a e. let (W, R, A) = C.runs in looked_own (subst (λ (h : History). Run (state_of t).n (state_of t).k h W) e R);
      handed_put = λ g s o x v c a. handed g s o x v c a (get s x a) (got s x a);
      handed_look = λ g s o x v c a. handed g s o x v c a (look s x a) (looked s x a);
      entry_rank = λ s x v p y z q r K. C.ranked.only r K _ x v _ q ∙ C.entries s x p y z;
      update_rank = λ o x v c q R r K. C.ranked.only r K o x v c q ∙ C.updates o c (counts o x v c q).0 R;
      made = λ g s o c x v l e. behind (update s o c x v) g (put o x v c) (update s o c x v) ((at l e).put_first o c x v (inl refl));
      once = λ g s o c x v x' v' l e q.
          (at l e).once o c x' v' x v
          (stands_before s (Write o c x' v') (Write o c x v) (update s o c x' v') (update s o c x v) (arrived s o c x' v') (arrived s o c x v) _ (inl (refl, q)));
      caused = λ g s o c x v o' c' l d e. (ranks, C.ranked.ranking, λ k. cause ranks g s o c x v o' c' d (at l e) (subst (λ (h : History). Cause ranks h o' c' o c) e k));
      adopted = λ g s o c x v y w o' c' l d e i.
          let (x', v', q) = cause ranks _ s o c x v o' c' d (at l e) (direct _ o x v c o' c' (inr (inl (refl, refl))) (inl (adopt o y (wrote w o' c'), i, (refl, (refl, refl))))) in
          (x', v', ⊎_elim (λ r. clash (cc)) (λ r. r) q);
      adopts_own = λ g s x v c a e. let (W, R, A) = C.runs in adopted_own (subst (λ (h : History). Run (state_of t).n (state_of t).k h W) e R);
      retired = λ g s e l. ((C.alive s).0 l).1 (rw e (inl refl));
      alive = λ s o x v c p e. (C.alive s).1 (p, λ q. not_retired (subst (λ (h : History). retire s ∈ h) e q));
      others = others;
      quiet = λ g s x v c e. C.quiet s (put s x v c) (rw e (inl (refl, inl refl))) refl;
      handed_none = λ g s o x v c e. C.quiet s (update s o c x v) (rw e (inl (refl, inl refl))) refl;
      reads_none = λ g s x a e. C.quiet s (get s x a) (rw e (inl (refl, inl refl))) refl;
      once_only = λ g s e. C.quiet s (retire s) (rw e (inl (refl, inl refl))) refl;
      third = third;
      live_third = λ s o o' x v c p d d' e.
          C.live s o x v c (third s o o' x v c p d d' e) (rw e (inr (inr (inl refl))))
          ((λ z. d (sym z)), λ y w q. ⊎_elim (λ k. clash (cc)) (⊎_elim (λ k. clash (cc)) never_handed) (subst (λ (h : History). update s o c y w ∈ h) e q));
      counted = λ o x v c q. (counts o x v c q).2;
      live = λ s o x v c l d e. C.live s o x v c l (rw e (inl refl)) ((λ z. d (sym z)), λ y w q. never_handed (subst (λ (h : History). update s o c y w ∈ h) e q));
      drains = λ s o b x v c d e z. C.drains s b o x v c z (rw e (inl refl));
      live_still = λ s o x v c p d e.
          C.live s o x v c (others s o x v c p d e) (rw e (inr (inl refl)))
          ((λ z. d (sym z)), λ y w q. ⊎_elim (λ k. clash (cc)) never_handed (subst (λ (h : History). update s o c y w ∈ h) e q));
      drains_still = λ s o b x v c d e z. C.drains s b o x v c z (rw e (inr (inl refl)));
    }
  where
    counts : (o x v c : ℕ) → put o x v c ∈ h → (o < (state_of t).n) × (1 ≤ c) × (c ≤ (state_of t).applied o o)
    counts = claims.histories.puts_counted (state_of t) (λ c. (serve ours t c).answer) h C

    ranks : Ranks
    ranks = C.ranked.ranks

    at : {s : ℕ} {g : History} → s < (state_of t).n → h ≡ g → Ordered ranks g s
    at {s} l e = subst (λ (h : History). Ordered ranks h s) e (C.orders s l)

    handed : (g : History) (s o x v c : ℕ) (a : Answer) (f : Event) → op s f ≡ Read x a ∷ [] → s < (state_of t).n → h ≡ f ∷ update s o c x v ∷ g
        → (r : Ranks) → Ranking r h → (v' o' c' : ℕ) × (a ≡ wrote v' o' c') × Under (r o c) o (r o' c') o'
    handed g s o x v c a f i l e r K =
        let (v', o', c', p, u, w) = reads_highest ranks s o c x v a f (update s o c x v) g i (arrived s o c x v) (at l e).reads in
        let made : (o c v : ℕ) → Write o c x v ∈ order s h → r o c ≡ ranks o c = λ o c v q. C.ranked.only r K o x v c ((claims.histories.applied_exactly ranks h s (C.orders s l) o c x v).0 q).0 in
        let n = made o c v (stands s _ (update s o c x v) (arrived s o c x v) h (rw e (inr (inl refl)))) in
        let n' = made o' c' v' (subst (λ (h : History). Write o' c' x v' ∈ order s h) (sym e) w) in
        (v', o', c', p, rw (n, n') u)

    not_retired : {s o x v c : ℕ} → retire s ∈ (put o x v c ∷ []) → ⊥
    not_retired (inl q) = clash (cc)
    not_retired (inr q) = q

    others : (s o x v c : ℕ) → s < (state_of t).n → s ≢ o → h ≡ retire o ∷ put o x v c ∷ [] → Live (state_of t) s
    others s o x v c p d e = (C.alive s).1 (p, λ q. ⊎_elim (λ k. d (cc)) not_retired (subst (λ (h : History). retire s ∈ h) e q))

    third : (s o o' x v c : ℕ) → s < (state_of t).n → s ≢ o → s ≢ o' → h ≡ retire o ∷ retire o' ∷ put o x v c ∷ [] → Live (state_of t) s
    third s o o' x v c p d d' e = (C.alive s).1 (p, λ q. ⊎_elim (λ k. d (cc)) (⊎_elim (λ k. d' (cc)) not_retired) (subst (λ (h : History). retire s ∈ h) e q))

    never_handed : {s o c y w o₁ x v c₁ : ℕ} → update s o c y w ∈ (put o₁ x v c₁ ∷ []) → ⊥
    never_handed (inl q) = clash (cc)
    never_handed (inr q) = q

-- in looked-at, 2 has 1's put alone
no_cause : (r : Ranks) → Ordered r looked_at 2 → Cause r looked_at 0 1 1 1 → ⊥
unfolding order op
no_cause r O k = ⊎_elim (λ p. p.1) (λ p. p) (O.caused 1 1 2 9 0 1 (inl refl) k).2

-- ## Both engines

of_both : {l w : List ℕ} → SameTable (state_of l) (state_of w) × ((c : Call) → SameAnswer (serve long l c).answer (serve short w c).answer) → OfBoth l w
of_both (T, A) =
    record {
      codes = λ c. (A c).code;
      puts = λ s x v z. ap (λ (a : Numbers). a.clock) ((A (Put s x v)).others (λ q. omega arith));
      gets = λ s x z. (A (Get s x)).others (λ q. omega (arith, (A (Get s x)).code));
      changed = λ s x o c z. (A (Adopt s x o c)).others (λ q. omega arith);
      waits = λ s o. ((λ z. (A (Deliver s o)).code ∙ z), λ z. sym (A (Deliver s o)).code ∙ z);
      ten_key = λ s o z. (A (Deliver s o)).key;
      drains = λ s b z. (A (Drain s b)).others (λ q. omega arith);
      retires = λ s z. (A (Retire s)).others (λ q. omega arith);
      live = λ s. rw (T.sites, T.retired) Iff.rfl;
      counts = λ s o. (T.applied s o, T.sites, T.keys);
      entries = λ s x. let e = T.entries s x in cc (e.0, e.1, e.2);
    }

-- ## All

pub uses : Uses
uses =
    record {
      nothing = (nothing_is_one claims.demands.one, nothing_is_one claims.engines.one_short);
      engines = λ t n k z cs f. let A = claims.engines.agreement t n k z cs f in (of_both (A.0, A.1), A.2);
      either = λ t n k s x now T m. let F = claims.engines.engine_free in (F.opens short ours t n k, F.looks short ours t s x, F.lists short ours t s now T m, F.retires short ours t s);
      buffers = of_buffer;
      tables = λ t b h S. let p = claims.demands.two t b h S in (p.0.0, of_table t p.0.0 (p.1 p.0.0 p.0.1));
      histories = λ t n k z cs f. of_history _ _ (claims.demands.three t n k z cs f);
      winners = λ t n k z cs f b m l c s o x p q y.
          let d = claims.stores.drained t n k z cs f b m l c in
          (d.0 s o p q, λ l. d.1 s o x p l y);
      settled = claims.stores.one_winner;
      vectors = λ R o x v c q r K. let C = claims.histories.every_run (omega arith) R in subst (Rank _) (sym (C.ranked.only r K o x v c q)) (C.vectors o x v c q);
      none =
          let A = claims.histories.anomalies in
          (A.invented, A.repeated, A.own_put, A.got, A.deeper, A.alone, A.overlooked, A.unseen, A.too_early, A.foretold);
      none_looked = let A = claims.histories.anomalies in (A.looked_early, A.looked_blind, A.adopted, A.not_held);
      looked = let (r, K, O) = claims.histories.anomalies.looked 2 in (r, K, no_cause r O);
      none_ranked = λ r. let A = claims.histories.anomalies in (A.disagreed r, A.newest r, A.overwritten r);
      winner = claims.histories.anomalies.agreed;
      itself = claims.histories.anomalies.from_itself _ 0 1 5 7 (inl refl);
    }
