-- Histories that no store may make have no order, and two that it may make have. Assumes nothing.
use mathlib.Core.Path.{◌≡◌, refl, subst}
use mathlib.Core.Bool.{true, false}
use mathlib.Core.List.{[], ◌∷◌}
use mathlib.Core.Logic.{◌↔◌, inl, inr, ⊎_elim, ◌≢◌}
use Prim.Native.Nat.{ℕ, ◌≤◌, ◌<◌}
use native.Mathlib.Omega.{arith}
use borrow.Author.Tests.{le-ltb, ne_eqb}
use Rattle.clock.specs.Lists.{◌∈◌, Before}
use Rattle.causal.specs.World.{∅, ◌∪◌, never, wrote, World, Replaces, with_put, with_get, with_update, Event, put, update, start, PUT, GET, UPDATE, Run, begin, more}
use Rattle.causal.specs.History.{History, Saw, Write, op, order, Ranks, higher, Came, Takes, Cause, direct, deeper, Ranking}
use Rattle.causal.specs.Anomalies.{NoOrder, HasOrder, forged, prophecy, two_winners, one_winner, newest_wins, Anomalies}
use Rattle.causal.specs.Worked as worked
use Rattle.causal.proofs.Updates.{clash}
use Rattle.causal.proofs.Handed.{not_from_itself}
use Rattle.causal.proofs.Ranking.{rank_one, rank_lt, rank_none}
use Rattle.causal.proofs.Higher.{higher_new}
use Rattle.causal.proofs.Progress.{run_causal}

not_put : Before forged (put 0 5 99 1) (update 1 0 1 5 99) → ⊥
not_put (inl (_, inl e)) = let z : ◌≡◌ {A = ℕ} 99 7 = cc in omega arith
not_put (inl (_, inr e)) = e
not_put (inr (inl p)) = p.1
not_put (inr (inr p)) = p

not_yet : Before prophecy (put 0 5 7 1) (update 1 0 1 5 7) → ⊥
not_yet (inl p) = clash (cc p.0)
not_yet (inr (inl p)) = clash (cc p.0)
not_yet (inr (inr (inl p))) = p.1
not_yet (inr (inr (inr p))) = p

-- of two puts, the second is a cause of the first
late : {h : History} {s : ℕ} (o c x v o' c' x' v' : ℕ) → order s h ≡ Write o' c' x' v' ∷ Write o c x v ∷ []
    → Write o c x v ≢ Write o' c' x' v' → ((r : Ranks) → Cause r h o' c' o c) → NoOrder h s
late o c x v o' c' x' v' e other f r C O = let (x'', v'', b) = O.caused o c x v o' c' (rw e (inr (inl refl))) (f r) in go x'' v'' (rw e at b)
  where
    go : (x'' v'' : ℕ) → Before (Write o' c' x' v' ∷ Write o c x v ∷ []) (Write o' c' x'' v'') (Write o c x v) → ⊥
    go x'' v'' (inl p) = other p.0
    go x'' v'' (inr (inl p)) = p.1
    go x'' v'' (inr (inr p)) = p

-- a put with a cause stands alone
lone : {h : History} {s : ℕ} (o c x v o' c' : ℕ) → order s h ≡ Write o c x v ∷ [] → ((r : Ranks) → Cause r h o' c' o c) → NoOrder h s
lone o c x v o' c' e f r C O = let (x', v', b) = O.caused o c x v o' c' (rw e (inl refl)) (f r) in ⊎_elim (λ p. p.1) (λ p. p) (rw e at b)

-- ## Histories of runs

has_order : {n k : ℕ} {h : History} {W : World} → n ≤ 8 → Run n k h W → (s : ℕ) → HasOrder h s
has_order b l s = let C = run_causal b l in (C.ranked.ranks, C.ranked.ranking, C.orders s)

-- puts of two sites that saw nothing have equal ranks
nobody : (o c : ℕ) → (∅ ∪ ∅) o c → ⊥
nobody o c k = ⊎_elim absurd absurd k

gives_way : (true ≡ true) ↔ Replaces 1 (∅ ∪ ∅) (wrote 5 0 1) (∅ ∪ ∅)
gives_way = ((λ z. (0, 0, rank_none (∅ ∪ ∅) nobody, rank_none (∅ ∪ ∅) nobody, inr (refl, omega arith))), λ z. refl)

stays : (false ≡ true) ↔ Replaces 0 (∅ ∪ ∅) (wrote 6 1 1) (∅ ∪ ∅)
stays = ((λ z. clash (cc)), λ z. let (a, b, p, q, l) = z in ⊎_elim (λ i. absurd (omega (arith, rank_one _ a b p q))) (λ i. absurd (omega (arith, i.1))) l)

run_winner : Run 3 4 one_winner (with_get (with_get (with_update (with_update (with_put (with_put start 0 0 5) 1 0 6) 0 1 true) 1 0 false) 1 0) 0 0)
run_winner =
    more (more (more (more (more (more begin
    (PUT 0 0 5 (omega arith) (omega arith)))
    (PUT 1 0 6 (omega arith) (omega arith)))
    (UPDATE 0 1 true (omega arith) (omega arith) (omega arith) (omega arith) (λ o c k. absurd (nobody o c k)) gives_way))
    (UPDATE 1 0 false (omega arith) (omega arith) (omega arith) (omega arith) (λ o c k. absurd (nobody o c k)) stays))
    (GET 1 0 (omega arith) (omega arith)))
    (GET 0 0 (omega arith) (omega arith))

-- ## Ranks of histories

-- a put that takes nothing has no cause, and rank 0
uncaused : (r : Ranks) (h : History) {o c o' c' : ℕ} → Cause r h o c o' c' → ((p : History) (x v : ℕ) → Came h p (put o' x v c') → (o c : ℕ) → Takes r p o' x o c → ⊥) → ⊥
uncaused r h (direct p s x v c o' c' b k) f = f p x v b o' c' k
uncaused r h (deeper i k) f = uncaused r h k f

rank_zero : (r : Ranks) (h : History) → Ranking r h → (o x v c : ℕ) → put o x v c ∈ h
    → ((p : History) (x v : ℕ) → Came h p (put o x v c) → (o' c' : ℕ) → Takes r p o x o' c' → ⊥) → r o c ≡ 0
rank_zero r h C o x v c q f = rank_one _ (r o c) 0 (C o x v c q) (rank_none _ (λ o' c' k. uncaused r h k f))

-- so do the first put of all, and one of 1 after a put of 0
module _ (r : Ranks) (p : History) (x o c : ℕ) where
  at_first : p ≡ [] → Takes r p 0 x o c → ⊥
  unfolding order
  at_first e k = ⊎_elim (λ i. absurd i.1) absurd (subst (λ (q : History). Takes r q 0 x o c) e k)

  at_second : p ≡ put 0 0 5 1 ∷ [] → Takes r p 1 x o c → ⊥
  unfolding order op
  at_second e k =
      ⊎_elim (λ i. ⊎_elim (λ q. clash (cc (subst (λ (f : Event). Saw f 1 o c) q i.2).0)) absurd i.1) absurd (subst (λ (q : History). Takes r q 1 x o c) e k)

no_winner : (r : Ranks) → Ranking r two_winners → wrote 5 0 1 ≡ higher r (wrote 6 1 1) 5 0 1 → ⊥
no_winner r C e =
    let z₀ : r 0 1 ≡ 0 =
    rank_zero r two_winners C 0 0 5 1 (inr (inr (inr (inr (inl refl)))))
    (λ p x v b o c. at_first r p x o c
    (⊎_elim (λ i. clash (cc i.0)) (⊎_elim (λ i. clash (cc i.0)) (⊎_elim (λ i. clash (cc i.0)) (⊎_elim (λ i. clash (cc i.0)) (⊎_elim (λ i. i.1) absurd)))) b)) in
    let z₁ : r 1 1 ≡ 0 =
    rank_zero r two_winners C 1 0 6 1 (inr (inr (inr (inl refl))))
    (λ p x v b o c. at_second r p x o c
    (⊎_elim (λ i. clash (cc i.0)) (⊎_elim (λ i. clash (cc i.0)) (⊎_elim (λ i. clash (cc i.0)) (⊎_elim (λ i. i.1) (⊎_elim (λ i. clash (cc i.0)) absurd)))) b)) in
    let w : wrote 5 0 1 ≡ wrote 6 1 1 = rw (z₀, z₁) at e in
    let z : ◌≡◌ {A = ℕ} 5 6 = cc in
    omega arith

no_newest : (r : Ranks) → Ranking r newest_wins → wrote 6 1 1 ≡ higher r (higher r (wrote 5 0 1) 7 0 2) 6 1 1 → ⊥
no_newest r C e =
    let z₀ : r 0 1 ≡ 0 =
    rank_zero r newest_wins C 0 0 5 1 (inr (inr (inr (inr (inl refl)))))
    (λ p x v b o c. at_first r p x o c
    (⊎_elim (λ i. clash (cc i.0)) (⊎_elim (λ i. clash (cc i.0)) (⊎_elim (λ i. let y : ◌≡◌ {A = ℕ} 1 2 = cc i.0 in absurd (omega arith)) (⊎_elim (λ i. clash (cc i.0)) (⊎_elim (λ i. i.1) absurd)))) b)) in
    let z₁ : r 1 1 ≡ 0 =
    rank_zero r newest_wins C 1 0 6 1 (inr (inr (inr (inl refl))))
    (λ p x v b o c. at_second r p x o c
    (⊎_elim (λ i. clash (cc i.0)) (⊎_elim (λ i. clash (cc i.0)) (⊎_elim (λ i. clash (cc i.0)) (⊎_elim (λ i. i.1) (⊎_elim (λ i. clash (cc i.0)) absurd)))) b)) in
    let k : Cause r newest_wins 0 1 0 2 = direct _ 0 0 7 2 0 1 (inr (inr (inl (refl, refl)))) (inl (put 0 0 5 1, inr (inl refl), (refl, refl, refl))) in
    let l : 0 < r 0 2 =
    rank_lt ∅ _ 0 (r 0 2) (rank_none ∅ (λ o c q. q)) (C 0 0 7 2 (inr (inr (inl refl)))) (λ o c q. absurd q) 0 1 k (omega arith) (λ c q. absurd q) in
    let w : wrote 6 1 1 ≡ wrote 7 0 2 = rw (higher_new r 5 0 1 7 0 2 (inl (omega arith)), le-ltb (r 0 2) (r 1 1) (omega arith), ne_eqb (r 0 2) (r 1 1) (λ y. omega arith)) at e in
    let z : ◌≡◌ {A = ℕ} 6 7 = cc in
    omega arith

pub anomalies : Anomalies
unfolding order op
anomalies =
    record {
      invented = λ r C O. not_put (O.put_first 0 1 5 99 (inl refl));
      repeated = λ r C O. O.once 0 1 5 7 5 7 (inr (inl (refl, inr (inl refl))));
      own_put = late 0 2 2 9 0 1 1 7 refl (λ e. clash (cc)) worked.own_put;
      got = late 1 1 2 9 0 1 1 7 refl (λ e. clash (cc)) worked.by_get;
      deeper = late 2 1 3 4 0 1 1 7 refl (λ e. clash (cc)) worked.of_a_cause;
      alone = lone 1 1 2 9 0 1 refl worked.by_get_alone;
      overlooked = λ r C O. worked.unread r O.reads;
      unseen = λ r C O. worked.unread r O.reads.1;
      too_early = λ r C O. let e : wrote 7 0 1 ≡ never = O.reads.0 in clash (cc);
      foretold = λ r C O. not_yet (O.put_first 0 1 5 7 (inr (inr (inl refl))));
      looked_early = λ r C O. let e : wrote 7 0 1 ≡ never = O.reads.0 in clash (cc);
      looked_blind = λ r C O. worked.unread r O.reads;
      adopted = lone 1 1 2 9 0 1 refl worked.by_adopt;
      not_held = lone 1 1 2 9 0 1 refl worked.by_adopt_unseen;
      looked = has_order (omega arith) worked.run_looked;
      from_itself = λ h s c x v q r C. not_from_itself r h s c x v q;
      disagreed = λ r C O. no_winner r C O.reads.0;
      agreed = has_order (omega arith) run_winner;
      newest = λ r C O. no_newest r C O.reads.0;
      overwritten = late 1 1 0 6 0 1 0 5 refl (λ e. clash (cc)) worked.by_overwriting;
    }
