-- Drain by its tries: an induction over passes, and what holds of a drain of any table. Assumes nothing.
use mathlib.Core.Path.{◌≡◌, refl, sym, ap, subst, ◌∙◌}
use mathlib.Core.Bool.{Bool, true, false}
use mathlib.Core.List.{List, [], ◌∷◌, ◌++◌, append_assoc}
use mathlib.Core.Logic.{◌⊎◌, inl, inr, ⊎_elim, ◌≢◌}
use Prim.Native.Nat.{ℕ, zero, suc, ◌+◌, ◌≤◌, ◌<◌}
use native.Mathlib.Omega.{arith}
use lib.Dec.{eqb}
use lib.ListN.{length, length-append}
use borrow.Author.Tests.{eqb-true, eqb-false, eq-eqb, ne_eqb}
use Rattle.clock.proofs.Maps.{eq?}
use Rattle.layout.specs.State.{State}
use Rattle.rules.specs.Engine.{Engine}
use Rattle.rules.specs.Steps.{Numbers, Outcome, deliver}
use Rattle.rules.specs.Drain.{try, Turn, end, due, turn, Drained, passes, drained, drain}
use Rattle.rules.specs.Calls.{Deliver, refusals, beside, step, run}
use Rattle.laws.specs.Theorems.{Delivers, start, one_more, DrainDelivers, TriesWithin, DrainPrefix}
use Rattle.laws.proofs.Ready.{DeliverReady, deliver_ready}
use Rattle.laws.proofs.Given.{run_accepted}

-- ## One try

pub try_runs : (E : Engine) (S : State) (s o : ℕ) → try E S s o ≡ run E S (Deliver s o)
unfolding try run refusals beside step
try_runs E S s o = refl

-- an accepted try is a delivery of which no condition holds
pub took : (E : Engine) (S : State) (s o : ℕ) → (try E S s o).answer.code ≡ 0 → DeliverReady S s o × (try E S s o ≡ deliver E S s o)
unfolding try run refusals beside step
took E S s o z = let r = run_accepted E S (Deliver s o) z in ((deliver_ready S s o).0 r.0, r.1)

-- ## Induction over the tries

abbrev pub ended : State → List Numbers → ℕ → Drained
ended S ds t = record { code = 0; made = ds; tries = t; after = S }

abbrev pub stopped : State → List Numbers → ℕ → Drained
stopped S ds t = record { code = 11; made = ds; tries = t; after = S }

pub passes_end : (E : Engine) (b : ℕ) (S : State) (s : ℕ) (ds : List Numbers) (t : ℕ) → passes E b S s end ds t ≡ ended S ds t
unfolding passes
passes_end E zero S s ds t = refl
passes_end E (suc b) S s ds t = refl

pub passes_stop : (E : Engine) (S : State) (s o : ℕ) (d : Bool) (ds : List Numbers) (t : ℕ) → passes E 0 S s (due o d) ds t ≡ stopped S ds t
unfolding passes
passes_stop E S s o d ds t = refl

module _ (E : Engine) (b : ℕ) (S : State) (s o : ℕ) (d : Bool) (ds : List Numbers) (t : ℕ) where
  -- what follows a try that was accepted or not
  abbrev tried : Bool → Drained
  tried x =
      elim x [
        | true ↦ passes E b (try E S s o).after s (due o true) ((try E S s o).answer ∷ ds) (suc t)
        | false ↦ passes E b S s (turn S.n s (suc o) d) ds (suc t)
      ]

  pub passes_accepted : (try E S s o).answer.code ≡ 0
      → passes E (suc b) S s (due o d) ds t ≡ passes E b (try E S s o).after s (due o true) ((try E S s o).answer ∷ ds) (suc t)
  unfolding passes
  passes_accepted h = ap tried (eq-eqb (try E S s o).answer.code 0 h)

  pub passes_refused : (try E S s o).answer.code ≢ 0 → passes E (suc b) S s (due o d) ds t ≡ passes E b S s (turn S.n s (suc o) d) ds (suc t)
  unfolding passes
  passes_refused h = ap tried (ne_eqb (try E S s o).answer.code 0 h)

module _ (E : Engine) (s : ℕ) (P : ℕ → State → Turn → List Numbers → ℕ → Drained → Type 0)
    (ends : (b : ℕ) (S : State) (ds : List Numbers) (t : ℕ) → P b S end ds t (ended S ds t))
    (stops : (S : State) (o : ℕ) (d : Bool) (ds : List Numbers) (t : ℕ) → P 0 S (due o d) ds t (stopped S ds t))
    (accepts : (b : ℕ) (S : State) (o : ℕ) (d : Bool) (ds : List Numbers) (t : ℕ) (r : Drained) → (try E S s o).answer.code ≡ 0
    → P b (try E S s o).after (due o true) ((try E S s o).answer ∷ ds) (suc t) r → P (suc b) S (due o d) ds t r)
    (refuses : (b : ℕ) (S : State) (o : ℕ) (d : Bool) (ds : List Numbers) (t : ℕ) (r : Drained) → (try E S s o).answer.code ≢ 0
    → P b S (turn S.n s (suc o) d) ds (suc t) r → P (suc b) S (due o d) ds t r) where
  pub by_tries : (b : ℕ) (S : State) (T : Turn) (ds : List Numbers) (t : ℕ) → P b S T ds t (passes E b S s T ds t)
  unfolding passes
  by_tries zero S end ds t = ends 0 S ds t
  by_tries (suc b) S end ds t = ends (suc b) S ds t
  by_tries zero S (due o d) ds t = stops S o d ds t
  by_tries (suc b) S (due o d) ds t =
      go (eqb (try E S s o).answer.code 0) refl (by_tries b (try E S s o).after (due o true) ((try E S s o).answer ∷ ds) (suc t))
      (by_tries b S (turn S.n s (suc o) d) ds (suc t))
    where
      go : (x : Bool) → eqb (try E S s o).answer.code 0 ≡ x
          → P b (try E S s o).after (due o true) ((try E S s o).answer ∷ ds) (suc t) (tried E b S s o d ds t true)
          → P b S (turn S.n s (suc o) d) ds (suc t) (tried E b S s o d ds t false) → P (suc b) S (due o d) ds t (tried E b S s o d ds t x)
      go true e p q = accepts b S o d ds t _ (eqb-true _ 0 e) p
      go false e p q = refuses b S o d ds t _ (eqb-false _ 0 e) q

-- the same, where the deliveries are what counts
module _ (E : Engine) (s : ℕ) (P : ℕ → State → Turn → List Numbers → ℕ → Drained → Type 0)
    (ends : (b : ℕ) (S : State) (ds : List Numbers) (t : ℕ) → P b S end ds t (ended S ds t))
    (stops : (S : State) (o : ℕ) (d : Bool) (ds : List Numbers) (t : ℕ) → P 0 S (due o d) ds t (stopped S ds t))
    (accepts : (b : ℕ) (S : State) (o : ℕ) (d : Bool) (ds : List Numbers) (t : ℕ) (r : Drained) → DeliverReady S s o
    → P b (deliver E S s o).after (due o true) ((deliver E S s o).answer ∷ ds) (suc t) r → P (suc b) S (due o d) ds t r)
    (refuses : (b : ℕ) (S : State) (o : ℕ) (d : Bool) (ds : List Numbers) (t : ℕ) (r : Drained) → (try E S s o).answer.code ≢ 0
    → P b S (turn S.n s (suc o) d) ds (suc t) r → P (suc b) S (due o d) ds t r) where
  pub by_deliveries : (b : ℕ) (S : State) (T : Turn) (ds : List Numbers) (t : ℕ) → P b S T ds t (passes E b S s T ds t)
  by_deliveries =
      by_tries E s P ends stops
      (λ b S o d ds t r z p.
      let k = took E S s o z in
      accepts b S o d ds t r k.0 (subst (λ (x : Outcome). P b x.after (due o true) (x.answer ∷ ds) (suc t) r) k.1 p))
      refuses

-- ## Codes and counts

-- the tries are within the budget, each delivery takes one, and those made before stay
pub record Counts (b : ℕ) (ds : List Numbers) (t : ℕ) (r : Drained) : Type 0 where
  pub since : t ≤ r.tries
  pub within : r.tries ≤ t + b
  pub code : (r.code ≡ 0) ⊎ ((r.code ≡ 11) × (r.tries ≡ t + b))
  pub tried : length r.made + t ≤ length ds + r.tries
  pub more : List Numbers
  pub made : r.made ≡ more ++ ds

-- one try more, with a delivery or none
counts_next : (a ds : List Numbers) (b t : ℕ) (r : Drained) → length a ≤ 1 → Counts b (a ++ ds) (suc t) r → Counts (suc b) ds t r
counts_next a ds b t r h p =
    record {
      since = omega (arith, p.since);
      within = omega (arith, p.within);
      code = ⊎_elim inl (λ q. inr (q.0, omega (arith, q.1))) p.code;
      tried = omega (arith, p.tried, length-append a ds);
      more = p.more ++ a;
      made = p.made ∙ sym (append_assoc p.more a ds);
    }

pub passes_counts : (E : Engine) (s b : ℕ) (S : State) (T : Turn) (ds : List Numbers) (t : ℕ) → Counts b ds t (passes E b S s T ds t)
passes_counts E s =
    by_tries E s (λ b S T ds t r. Counts b ds t r)
    (λ b S ds t. record { since = omega arith; within = omega arith; code = inl refl; tried = omega arith; more = []; made = refl })
    (λ S o d ds t. record { since = omega arith; within = omega arith; code = inr (refl, omega arith); tried = omega arith; more = []; made = refl })
    (λ b S o d ds t r z. counts_next ((try E S s o).answer ∷ []) ds b t r (omega arith))
    (λ b S o d ds t r z. counts_next [] ds b t r (omega arith))

module _ (E : Engine) (S : State) (s b : ℕ) where
  counts : Counts b [] 0 (drained E S s b)
  unfolding drained
  counts = passes_counts E s b S (turn S.n s 0 false) [] 0

  pub drained_code : ((drained E S s b).code ≡ 0) ⊎ (((drained E S s b).code ≡ 11) × ((drained E S s b).tries ≡ b))
  drained_code = ⊎_elim inl (λ q. inr (q.0, omega (arith, q.1))) counts.code

pub tries_within : TriesWithin
unfolding drain
tries_within E S s b = (omega (arith, (counts E S s b).within), λ z. ⊎_elim (λ q. absurd (omega (arith, q))) (λ q. q.1) (drained_code E S s b))

pub drain_delivers : DrainDelivers
unfolding drained drain try run refusals beside step
drain_delivers E S₀ s b = (
  by_tries E s (λ b S T ds t r. Delivers E s S₀ ds S → Delivers E s S₀ r.made r.after)
      (λ b S ds t D. D)
      (λ S o d ds t D. D)
      (λ b S o d ds t r z f D. f (one_more D o z))
      (λ b S o d ds t r z f D. f D)
      b S₀ (turn S₀.n s 0 false) [] 0 start,
  refl,
)

-- ## Budgets

-- with the budget b' instead of the smaller b
record Longer (b b' t : ℕ) (r r' : Drained) : Type 0 where
  same : r.code ≡ 0 → r' ≡ r
  later : r.code ≡ 11 → b < b' → t + b < r'.tries
  more : List Numbers
  prefix : r'.made ≡ more ++ r.made

longer_next : (b b' t : ℕ) (r r' : Drained) → Longer b b' (suc t) r r' → Longer (suc b) (suc b') t r r'
longer_next b b' t r r' L =
    record { same = L.same; later = λ z h. omega (arith, L.later z (omega arith)); more = L.more; prefix = L.prefix }

-- a try that is due is made
passes_some : (E : Engine) (b : ℕ) (S : State) (s o : ℕ) (d : Bool) (ds : List Numbers) (t : ℕ) → t < (passes E (suc b) S s (due o d) ds t).tries
passes_some E b S s o d ds t =
    ⊎_elim
    (λ z. rw (passes_accepted E b S s o d ds t z) (passes_counts E s b _ _ _ (suc t)).since)
    (λ z. rw (passes_refused E b S s o d ds t z) (passes_counts E s b _ _ _ (suc t)).since)
    (eq? (try E S s o).answer.code 0)

longer : (E : Engine) (s b : ℕ) (S : State) (T : Turn) (ds : List Numbers) (t b' : ℕ) → b ≤ b' → Longer b b' t (passes E b S s T ds t) (passes E b' S s T ds t)
longer E s = by_tries E s P at_end at_stop accepted refused
  where
    P : ℕ → State → Turn → List Numbers → ℕ → Drained → Type 0
    P b S T ds t r = (b' : ℕ) → b ≤ b' → Longer b b' t r (passes E b' S s T ds t)

    at_end : (b : ℕ) (S : State) (ds : List Numbers) (t : ℕ) → P b S end ds t (ended S ds t)
    at_end b S ds t b' h = rw (passes_end E b' S s ds t) (record { same = λ z. refl; later = λ z. absurd (omega arith); more = []; prefix = refl })

    at_stop : (S : State) (o : ℕ) (d : Bool) (ds : List Numbers) (t : ℕ) → P 0 S (due o d) ds t (stopped S ds t)
    at_stop S o d ds t zero h =
        let p = passes_counts E s 0 S (due o d) ds t in
        record { same = λ z. absurd (omega arith); later = λ z l. absurd (omega arith); more = p.more; prefix = p.made }
    at_stop S o d ds t (suc b) h =
        let p = passes_counts E s (suc b) S (due o d) ds t in
        record { same = λ z. absurd (omega arith); later = λ z l. omega (arith, passes_some E b S s o d ds t); more = p.more; prefix = p.made }

    accepted : (b : ℕ) (S : State) (o : ℕ) (d : Bool) (ds : List Numbers) (t : ℕ) (r : Drained) → (try E S s o).answer.code ≡ 0
        → P b (try E S s o).after (due o true) ((try E S s o).answer ∷ ds) (suc t) r → P (suc b) S (due o d) ds t r
    accepted b S o d ds t r z f zero h = absurd (omega arith)
    accepted b S o d ds t r z f (suc b') h =
        subst (Longer (suc b) (suc b') t r) (sym (passes_accepted E b' S s o d ds t z)) (longer_next b b' t r _ (f b' (omega arith)))

    refused : (b : ℕ) (S : State) (o : ℕ) (d : Bool) (ds : List Numbers) (t : ℕ) (r : Drained) → (try E S s o).answer.code ≢ 0
        → P b S (turn S.n s (suc o) d) ds (suc t) r → P (suc b) S (due o d) ds t r
    refused b S o d ds t r z f zero h = absurd (omega arith)
    refused b S o d ds t r z f (suc b') h =
        subst (Longer (suc b) (suc b') t r) (sym (passes_refused E b' S s o d ds t z)) (longer_next b b' t r _ (f b' (omega arith)))

pub drain_prefix : DrainPrefix
unfolding drained
drain_prefix E S s b b' h = let L = longer E s b S (turn S.n s 0 false) [] 0 b' h in (L.more, L.prefix)

-- a budget that was enough, and a larger one
pub drained_same : (E : Engine) (S : State) (s b b' : ℕ) → b ≤ b' → (drained E S s b).code ≡ 0 → drained E S s b' ≡ drained E S s b
unfolding drained
drained_same E S s b b' h = (longer E s b S (turn S.n s 0 false) [] 0 b' h).same

-- a budget that was not, and a larger one
pub drained_later : (E : Engine) (S : State) (s b b' : ℕ) → b < b' → (drained E S s b).code ≡ 11 → b < (drained E S s b').tries
unfolding drained
drained_later E S s b b' h z = omega (arith, (longer E s b S (turn S.n s 0 false) [] 0 b' (omega arith)).later z h)
