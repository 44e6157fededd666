-- A short run of figure 7 worked out step by step, and the smallest case of each definition. Assumes nothing.
use Rattle.std.specs.Prelude.{◌≡◌, refl, true, false, [], ◌∷◌, map, ◌↔◌, ℕ, ◌≤◌}
use Rattle.std.proofs.Common.{ap, inl, inr, arith}
use Rattle.clock.specs.Map.{bit}
use Rattle.clock.specs.Vector.{zeros, note}
use Rattle.layout.specs.State.{State}
use Rattle.rules.specs.Engine.{ours}
use Rattle.rules.specs.Steps.{done, refused}
use Rattle.rules.specs.Calls.{Open, Put, Get, Deliver, Cold, Look, Adopt}
use Rattle.causal.specs.World.{∅, just, ◌∪◌, never, wrote, World, nth, with_put, with_get, with_update, CausesApplied, put, get, look, adopt, update, PUT, GET, LOOK, ADOPT, UPDATE, start, Run, begin, more}
use Rattle.causal.specs.History.{History, Ranks, Cause, direct, deeper, Write, Read, lookup, Reads, op, order}
use Rattle.causal.specs.Refines.{Within, answer, numbers, found, looked, after_call}
use Rattle.causal.specs.Anomalies.{second_first, effect_alone, effect_first, far_effect_first, adopted_alone, adopted_unseen, looked_at, overwriting_first}

-- ## A run

-- each update comes to a key never written, and its set is empty
blank : (true ≡ true) ↔ Unit {0}
blank = ((λ z. tt), λ z. refl)

nothing : (a : ℕ → ℕ) (o c : ℕ) → (∅ ∪ ∅) o c → c ≤ a o
nothing a o c (inl k) = absurd k
nothing a o c (inr k) = absurd k

-- 1 puts, 2 applies it; 0 puts, 1 applies it; 1 gets it; 1 puts again; 2 applies 0's put, looks at it and adopts it
abbrev handed : World
handed = with_update (with_put start 1 3 5) 2 1 true

abbrev sent : World
sent = with_put handed 0 1 7

abbrev applied : World
applied = with_update sent 1 0 true

abbrev got : World
got = with_get applied 1 1

abbrev sent_again : World
sent_again = with_put got 1 2 9

abbrev caught_up : World
caught_up = with_update sent_again 2 0 true

abbrev adopted : World
adopted = with_get caught_up 2 1

abbrev labels : History
labels =
    adopt 2 1 (wrote 7 0 1) ∷ look 2 1 (wrote 7 0 1) ∷ update 2 0 1 1 7
    ∷ put 1 2 9 2 ∷ get 1 1 (wrote 7 0 1) ∷ update 1 0 1 1 7 ∷ put 0 1 7 1 ∷ update 2 1 1 3 5 ∷ put 1 3 5 1 ∷ []

-- a put sends what its site depended on before it; then the site depends on it too
sends : (nth (sent.updates 0) 1).depends ≡ ∅ ∪ ∅
sends = refl

after_put : sent.depends 0 ≡ ∅ ∪ ∅ ∪ just 0 1
after_put = refl

-- an update moves store and count, and its receiver depends on nothing more
stored : (applied.store 1 1).answer ∷ (applied.store 1 3).answer ∷ (applied.store 2 1).answer ∷ [] ≡ wrote 7 0 1 ∷ wrote 5 1 1 ∷ never ∷ []
stored = refl

counted : applied.applied 1 0 ∷ applied.applied 2 0 ∷ applied.applied 2 1 ∷ [] ≡ 1 ∷ 0 ∷ 1 ∷ []
counted = refl

after_update : applied.depends 1 ≡ ∅ ∪ ∅ ∪ just 1 1
after_update = refl

-- a get takes on the put that it answered with that put's set, and the next put sends all
after_get : got.depends 1 ≡ ∅ ∪ ∅ ∪ just 1 1 ∪ (just 0 1 ∪ (∅ ∪ ∅))
after_get = refl

sends_all : (nth (sent_again.updates 1) 2).depends ≡ got.depends 1 ∪ ∅
sends_all = refl

-- and so does an adopt, of what its site did not depend on before
after_adopt : (caught_up.depends 2 ≡ ∅) × (adopted.depends 2 ≡ ∅ ∪ (just 0 1 ∪ (∅ ∪ ∅)))
after_adopt = (refl, refl)

-- 2 has a put of 1, and waits for that of 0; with it, nothing is missing
waits : CausesApplied sent_again 2 1 → ⊥
waits f = omega (arith, f 0 1 (inl (inr (inl (refl, refl)))))

ready : CausesApplied caught_up 2 1
ready o c (inl (inl (inl k))) = nothing (caught_up.applied 2) o c k
ready o c (inl (inl (inr k))) = rw (k.0, k.1) (omega arith)
ready o c (inl (inr (inl k))) = rw (k.0, k.1) (omega arith)
ready o c (inl (inr (inr k))) = nothing (caught_up.applied 2) o c k
ready o c (inr k) = absurd k

run : Run 3 4 labels adopted
run =
    more (more (more (more (more (more (more (more (more begin
    (PUT 1 3 5 (omega arith) (omega arith)))
    (UPDATE 2 1 true (omega arith) (omega arith) (omega arith) (omega arith) (nothing _) blank))
    (PUT 0 1 7 (omega arith) (omega arith)))
    (UPDATE 1 0 true (omega arith) (omega arith) (omega arith) (omega arith) (nothing _) blank))
    (GET 1 1 (omega arith) (omega arith)))
    (PUT 1 2 9 (omega arith) (omega arith)))
    (UPDATE 2 0 true (omega arith) (omega arith) (omega arith) (omega arith) (nothing _) blank))
    (LOOK 2 1 (omega arith) (omega arith)))
    (ADOPT 2 1 (omega arith) (omega arith))

-- 1 looks at 0's put before it puts, and 2 applies 1's put without 0's
pub run_looked : Run 3 4 looked_at (with_update (with_put (with_update (with_put start 0 1 7) 1 0 true) 1 2 9) 2 1 true)
run_looked =
    more (more (more (more (more begin
    (PUT 0 1 7 (omega arith) (omega arith)))
    (UPDATE 1 0 true (omega arith) (omega arith) (omega arith) (omega arith) (nothing _) blank))
    (LOOK 1 1 (omega arith) (omega arith)))
    (PUT 1 2 9 (omega arith) (omega arith)))
    (UPDATE 2 1 true (omega arith) (omega arith) (omega arith) (omega arith) (nothing _) blank)

-- ## Histories

-- what a site called and what it was handed, as it came; one read of a get, one of a look and none of an adopt
in_order : order 0 labels ∷ order 1 labels ∷ order 2 labels ∷ order 3 labels ∷ []
    ≡ (Write 0 1 1 7 ∷ [])
    ∷ (Write 1 2 2 9 ∷ Read 1 (wrote 7 0 1) ∷ Write 0 1 1 7 ∷ Write 1 1 3 5 ∷ [])
    ∷ (Read 1 (wrote 7 0 1) ∷ Write 0 1 1 7 ∷ Write 1 1 3 5 ∷ [])
    ∷ [] ∷ []
unfolding order op
in_order = refl

module _ (r : Ranks) where
  -- a cause: an own earlier put, a put that a get answered or that was adopted, one that was overwritten, a cause of a cause
  pub own_put : Cause r second_first 0 1 0 2
  own_put = direct _ 0 2 9 2 0 1 (inr (inr (inl (refl, refl)))) (inl (put 0 1 7 1, inl refl, (refl, refl, refl)))

  pub by_get_alone : Cause r effect_alone 0 1 1 1
  by_get_alone = direct _ 1 2 9 1 0 1 (inr (inl (refl, refl))) (inl (get 1 1 (wrote 7 0 1), inl refl, (refl, (refl, refl))))

  pub by_get : Cause r effect_first 0 1 1 1
  by_get = direct _ 1 2 9 1 0 1 (inr (inr (inl (refl, refl)))) (inl (get 1 1 (wrote 7 0 1), inl refl, (refl, (refl, refl))))

  pub by_adopt : Cause r adopted_alone 0 1 1 1
  by_adopt = direct _ 1 2 9 1 0 1 (inr (inl (refl, refl))) (inl (adopt 1 1 (wrote 7 0 1), inl refl, (refl, (refl, refl))))

  pub by_adopt_unseen : Cause r adopted_unseen 0 1 1 1
  by_adopt_unseen = direct _ 1 2 9 1 0 1 (inl (refl, refl)) (inl (adopt 1 1 (wrote 7 0 1), inl refl, (refl, (refl, refl))))

  pub by_overwriting : Cause r overwriting_first 0 1 1 1
  unfolding order op
  by_overwriting = direct _ 1 0 6 1 0 1 (inr (inr (inl (refl, refl)))) (inr (refl, refl))

  pub of_a_cause : Cause r far_effect_first 0 1 2 1
  of_a_cause =
      deeper
      (direct _ 1 2 9 1 0 1 (inr (inr (inr (inr (inr (inr (inl (refl, refl)))))))) (inl (get 1 1 (wrote 7 0 1), inl refl, (refl, (refl, refl)))))
      (direct _ 2 3 4 1 1 1 (inr (inr (inl (refl, refl)))) (inl (get 2 2 (wrote 9 1 1), inl refl, (refl, (refl, refl)))))

  pub unread : Reads r (Read 5 never ∷ Write 0 1 5 7 ∷ []) → ⊥
  unread k =
      let e : never ≡ wrote 7 0 1 = k.0 in
      let z : ◌≡◌ {A = ℕ} 0 1 = cc in
      omega arith

-- the highest rank, of equal ranks the higher origin, of this key alone; with the clock as the rank
highest : let l = Write 2 1 6 8 ∷ Write 1 2 5 9 ∷ Write 0 3 5 7 ∷ Write 1 3 5 6 ∷ Write 0 2 5 4 ∷ [] in
    lookup (λ o c. c) 5 l ∷ lookup (λ o c. c) 6 l ∷ lookup (λ o c. c) 4 l ∷ [] ≡ wrote 6 1 3 ∷ wrote 8 2 1 ∷ never ∷ []
highest = refl

-- ## The table's numbers

-- clock 0 is never written, and origin 0 a site as any other
marks : answer 0 0 0 ∷ answer 7 0 1 ∷ answer 7 3 1 ∷ [] ≡ never ∷ wrote 7 0 1 ∷ wrote 7 3 1 ∷ []
marks = refl

-- a cause at the eighth site counts
eighth : Within (note zeros 7 1) zeros → ⊥
eighth f = omega (arith, f 7 (omega arith))

-- beside a 10, 131 = 1 + 2 + 128 names the sites 0, 1 and 7 and no other
named : map (bit 131) (0 ∷ 1 ∷ 2 ∷ 3 ∷ 4 ∷ 5 ∷ 6 ∷ 7 ∷ 8 ∷ []) ≡ true ∷ true ∷ false ∷ false ∷ false ∷ false ∷ false ∷ true ∷ false ∷ []
unfolding bit
named = refl

-- what a label says, and the history after accepted and refused calls
says : numbers (put 0 1 7 2) ∷ numbers (get 1 1 never) ∷ numbers (get 1 1 (wrote 7 0 2)) ∷ numbers (update 1 0 2 1 7) ∷ []
    ≡ done 1 0 2 7 ∷ done 1 0 0 0 ∷ done 1 0 2 7 ∷ done 1 0 2 7 ∷ []
says = refl

says_alike : numbers (look 1 1 never) ∷ numbers (look 1 1 (wrote 7 0 2)) ∷ numbers (adopt 1 1 never) ∷ numbers (adopt 1 1 (wrote 7 0 2)) ∷ []
    ≡ done 1 0 0 0 ∷ done 1 0 2 7 ∷ done 1 0 0 0 ∷ done 1 0 2 7 ∷ []
says_alike = refl

module _ (S : State) (h : History) where
  accepted : after_call ours S (Put 0 1 7) (done 1 0 2 7) h ∷ after_call ours S (Get 2 1) (done 1 0 2 7) h ∷ after_call ours S (Deliver 2 0) (done 1 0 2 7) h ∷ after_call ours S (Open 3 4) (refused 0) h ∷ []
      ≡ (put 0 1 7 2 ∷ h) ∷ (get 2 1 (wrote 7 0 2) ∷ h) ∷ (update 2 0 2 1 7 ∷ h) ∷ [] ∷ []
  accepted = refl

  accepted_alike : after_call ours S (Look 2 1) (done 1 0 2 7) h ∷ after_call ours S (Look 2 1) (done 1 0 0 0) h ∷ after_call ours S (Adopt 2 1 0 2) (done 1 0 2 7) h ∷ after_call ours S (Adopt 2 1 0 0) (done 1 0 0 0) h ∷ []
      ≡ (look 2 1 (wrote 7 0 2) ∷ h) ∷ (look 2 1 never ∷ h) ∷ (adopt 2 1 (wrote 7 0 2) ∷ h) ∷ (adopt 2 1 never ∷ h) ∷ []
  accepted_alike = refl

  -- a cold list looks at every key
  listed : S.k ≡ 2 → after_call ours S (Cold 1 5 1 64) (done 1 0 0 0) h ≡ look 1 1 (found S 1 1) ∷ look 1 0 (found S 1 0) ∷ h
  listed e = ap (λ (k : ℕ). looked S 1 k h) e

  none : after_call ours S (Put 0 1 7) (refused 8) h ∷ after_call ours S (Get 2 9) (refused 6) h ∷ after_call ours S (Deliver 2 0) (refused 9) h ∷ after_call ours S (Open 9 4) (refused 3) h ∷ after_call ours S (Look 2 9) (refused 6) h ∷ after_call ours S (Adopt 2 1 0 3) (refused 15) h ∷ []
      ≡ h ∷ h ∷ h ∷ h ∷ h ∷ h ∷ []
  none = refl
