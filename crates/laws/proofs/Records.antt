-- Touch records: bits and back, ages, and the keys of a kind. Assumes nothing.
use mathlib.Core.Path.{◌≡◌, refl, sym, ap, subst, ◌∙◌}
use mathlib.Core.Bool.{Bool, true, false}
use mathlib.Core.List.{List, [], ◌∷◌, ◌++◌}
use mathlib.Core.Logic.{◌⊎◌, inl, inr, ⊎_elim, ◌≢◌, ◌↔◌}
use Prim.Native.Nat.{ℕ, zero, suc, ◌-◌, ◌%◌, ◌^◌, ◌≤◌, ◌<◌}
use native.Mathlib.Omega.{arith}
use lib.ListN.{length, get_or, replicate, length-append, length-replicate, get_or-append}
use lib.Seq.{get_or_at}
use borrow.Author.Tests.{lt-ltb, le-ltb, eq-eqb, ne_eqb, eqb-true}
use Rattle.clock.specs.Map.{when◌then◌else◌}
use Rattle.clock.specs.Lists.{◌∈◌}
use Rattle.clock.proofs.Maps.{both, choice, true_or_false, eq?, le?}
use Rattle.clock.proofs.Says.{Says, says_and, says_or, says_lt, says_eq}
use Rattle.layout.specs.State.{Entry}
use Rattle.rules.specs.Touch.{hour_of, toucher_of, tier_of, touch_of, well_formed, keeps_hour, recorded, age, Kind, never, malformed, fresh, cold, ahead, aged, kind, kinds_at, tag, is, chosen, keys_of, cold_list}
use Rattle.laws.specs.Touches.{TouchBack, FormedExactly, AgeAdds, AgedExactly, KindIs, KindExactly, TouchedSays, KindsListed, ListFilled}

-- ## Bits

pub touch_back : TouchBack
touch_back h u r hu hr = omega arith

pub touch_formed : (h u r : ℕ) → u < 4 → r < 4 → well_formed (touch_of h u r) ≡ true
touch_formed h u r hu hr = rw (lt-ltb (toucher_of (touch_of h u r)) 4 (omega arith), eq-eqb (touch_of h u r % 2 ^ 11) 0 (omega arith))

pub formed_exactly : FormedExactly
formed_exactly v l = (
  (λ e.
      let p = (says_and (says_lt (toucher_of v) 4) (says_eq (v % 2 ^ 11) 0)).0 e in
      (hour_of v, toucher_of v, tier_of v, omega arith, p.0, omega arith, omega (arith, p.0, p.1))),
  λ p. subst (λ (w : ℕ). well_formed w ≡ true) (sym p.6) (touch_formed p.0 p.1 p.2 p.4 p.5),
)

pub age_adds : AgeAdds
age_adds now h p q = omega arith

-- ## Kinds

-- a kind by its number
kind_numbered : ℕ → Kind
kind_numbered zero = never
kind_numbered (suc zero) = malformed
kind_numbered (suc (suc zero)) = fresh
kind_numbered (suc (suc (suc zero))) = cold
kind_numbered (suc (suc (suc (suc n)))) = ahead

numbered : (j : Kind) → kind_numbered (tag j) ≡ j
unfolding kind_numbered
numbered never = refl
numbered malformed = refl
numbered fresh = refl
numbered cold = refl
numbered ahead = refl

pub is_says : (j i : Kind) → Says (is j i) (i ≡ j)
is_says j i = (
  (λ e. sym (numbered i) ∙ ap kind_numbered (sym (eqb-true (tag j) (tag i) e)) ∙ numbered j),
  λ e. eq-eqb (tag j) (tag i) (ap tag (sym e)),
)

unlike : {A : Type 0} → ◌≡◌ {A = ℕ} 0 1 → A
unlike e = absurd (omega arith)

aged_cases : (T a : ℕ) → ((32767 < a) × (aged T a ≡ ahead)) ⊎ (((a ≤ 32767) × (a < T) × (aged T a ≡ fresh)) ⊎ ((a ≤ 32767) × (T ≤ a) × (aged T a ≡ cold)))
aged_cases T a =
    ⊎_elim
    (λ (p : a ≤ 32767). inr (⊎_elim
    (λ (q : T ≤ a). inr (p, q, rw (le-ltb 32767 a p, le-ltb a T q)))
    (λ (q : a < T). inl (p, q, rw (le-ltb 32767 a p, lt-ltb a T q)))
    (le? T a)))
    (λ (p : 32767 < a). inl (p, rw (lt-ltb 32767 a p)))
    (le? a 32767)

pub aged_exactly : AgedExactly
aged_exactly T a h = go (aged_cases T a)
  where
    go : ((32767 < a) × (aged T a ≡ ahead)) ⊎ (((a ≤ 32767) × (a < T) × (aged T a ≡ fresh)) ⊎ ((a ≤ 32767) × (T ≤ a) × (aged T a ≡ cold)))
        → ((aged T a ≡ cold) ↔ ((T ≤ a) × (a ≤ 32767))) × ((aged T a ≡ ahead) ↔ (32767 < a)) × ((aged T a ≡ fresh) ↔ (a < T))
    go (inl p) =
        let e = p.1 in
        (((λ q. unlike (cc)), λ q. absurd (omega (arith, p.0, q.1))), ((λ q. p.0), λ q. e), ((λ q. unlike (cc)), λ q. absurd (omega (arith, p.0))))
    go (inr (inl p)) =
        let e = p.2 in
        (((λ q. unlike (cc)), λ q. absurd (omega (arith, p.1, q.0))), ((λ q. unlike (cc)), λ q. absurd (omega (arith, p.0))), ((λ q. p.1), λ q. e))
    go (inr (inr p)) =
        let e = p.2 in
        (((λ q. (p.1, p.0)), λ q. e), ((λ q. unlike (cc)), λ q. absurd (omega (arith, p.0))), ((λ q. unlike (cc)), λ q. absurd (omega (arith, p.1))))

-- never written, malformed, or by its age
kind_cases : (now T : ℕ) (e : Entry)
    → ((e.clock ≡ 0) × (kind now T e ≡ never))
    ⊎ (((e.clock ≢ 0) × (well_formed e.value ≡ false) × (kind now T e ≡ malformed))
    ⊎ ((e.clock ≢ 0) × (well_formed e.value ≡ true) × (kind now T e ≡ aged T (age now (hour_of e.value)))))
unfolding kind
kind_cases now T e =
    ⊎_elim
    (λ (p : e.clock ≡ 0). inl (p, rw (eq-eqb e.clock 0 p)))
    (λ (p : e.clock ≢ 0). inr (⊎_elim
    (λ (w : well_formed e.value ≡ true). inr (p, w, rw (ne_eqb e.clock 0 p, w)))
    (λ (w : well_formed e.value ≡ false). inl (p, w, rw (ne_eqb e.clock 0 p, w)))
    (true_or_false (well_formed e.value))))
    (eq? e.clock 0)

-- what an age makes of a record is one of the last three kinds
aged_some : (T a : ℕ) (j : Kind) → tag j < 2 → aged T a ≡ j → ⊥
aged_some T a j h q =
    ⊎_elim
    (λ p. let e = ap tag (sym q ∙ p.1) in omega arith)
    (⊎_elim (λ p. let e = ap tag (sym q ∙ p.2) in omega arith) (λ p. let e = ap tag (sym q ∙ p.2) in omega arith))
    (aged_cases T a)

pub kind_exactly : KindExactly
kind_exactly now T e h = go (kind_cases now T e)
  where
    -- an entry without a record is neither cold nor ahead nor fresh
    without : (P : Type 0) → recorded e ≡ false → (j : Kind) → kind now T e ≡ j → (i : Kind) → (tag j ≢ tag i) → (kind now T e ≡ i) ↔ ((recorded e ≡ true) × P)
    without P n j k i d = ((λ q. absurd (d (ap tag (sym k ∙ q)))), λ q. both q.0 n)

    go : ((e.clock ≡ 0) × (kind now T e ≡ never))
        ⊎ (((e.clock ≢ 0) × (well_formed e.value ≡ false) × (kind now T e ≡ malformed))
        ⊎ ((e.clock ≢ 0) × (well_formed e.value ≡ true) × (kind now T e ≡ aged T (age now (hour_of e.value))))) → KindIs now T e (kind now T e)
    go (inl p) =
        let k = p.1 in
        let n : recorded e ≡ false = rw (eq-eqb e.clock 0 p.0) in
        record {
          as_never = ((λ q. p.0), λ q. k);
          as_malformed = ((λ q. unlike (cc)), λ q. absurd (q.0 p.0));
          as_cold = without ((T ≤ age now (hour_of e.value)) × (age now (hour_of e.value) ≤ 32767)) n never k cold (λ q. omega arith);
          as_ahead = without (32767 < age now (hour_of e.value)) n never k ahead (λ q. omega arith);
          as_fresh = without (age now (hour_of e.value) < T) n never k fresh (λ q. omega arith);
        }
    go (inr (inl p)) =
        let k = p.2 in
        let n : recorded e ≡ false = rw (ne_eqb e.clock 0 p.0, p.1) in
        record {
          as_never = ((λ q. unlike (cc)), λ q. absurd (p.0 q));
          as_malformed = ((λ q. (p.0, p.1)), λ q. k);
          as_cold = without ((T ≤ age now (hour_of e.value)) × (age now (hour_of e.value) ≤ 32767)) n malformed k cold (λ q. omega arith);
          as_ahead = without (32767 < age now (hour_of e.value)) n malformed k ahead (λ q. omega arith);
          as_fresh = without (age now (hour_of e.value) < T) n malformed k fresh (λ q. omega arith);
        }
    go (inr (inr p)) =
        let k = p.2 in
        let r : recorded e ≡ true = rw (ne_eqb e.clock 0 p.0, p.1) in
        let a = age now (hour_of e.value) in
        let A = aged_exactly T a h in
        record {
          as_never = ((λ q. absurd (aged_some T a never (omega arith) (sym k ∙ q))), λ q. absurd (p.0 q));
          as_malformed = ((λ q. absurd (aged_some T a malformed (omega arith) (sym k ∙ q))), λ q. both p.1 q.1);
          as_cold = ((λ q. (r, A.0.0 (sym k ∙ q))), λ q. k ∙ A.0.1 q.1);
          as_ahead = ((λ q. (r, A.1.0 (sym k ∙ q))), λ q. k ∙ A.1.1 q.1);
          as_fresh = ((λ q. (r, A.2.0 (sym k ∙ q))), λ q. k ∙ A.2.1 q.1);
        }

pub touched_says : TouchedSays
touched_says old now u r hu hr =
    ⊎_elim
    (λ (k : keeps_hour u ≡ true). (
      rw k (touch_formed (hour_of old) u r hu hr),
      rw k (touch_back (hour_of old) u r hu hr).1,
      rw k (touch_back (hour_of old) u r hu hr).2,
      (λ p. rw k (touch_back (hour_of old) u r hu hr).0),
      λ a b. both k (rw (ne_eqb u 1 a, ne_eqb u 2 b)),
    ))
    (λ (k : keeps_hour u ≡ false). (
      rw k (touch_formed now u r hu hr),
      rw k (touch_back now u r hu hr).1,
      rw k (touch_back now u r hu hr).2,
      (λ p. both ((says_or (says_eq u 1) (says_eq u 2)).1 p) k),
      λ a b. rw k (touch_back now u r hu hr).0,
    ))
    (true_or_false (keeps_hour u))

-- ## Keys that pass a test

in_append : {A : Type 0} (a : A) (l m : List A) → (a ∈ (l ++ m)) ↔ ((a ∈ l) ⊎ (a ∈ m))
in_append a [] m = (inr, ⊎_elim (λ e. absurd e) (λ e. e))
in_append a (x ∷ l) m =
    let r = in_append a l m in (
      ⊎_elim (λ e. inl (inl e)) (λ q. ⊎_elim (λ k. inl (inr k)) inr (r.0 q)),
      ⊎_elim (⊎_elim inl (λ k. inr (r.1 (inl k)))) (λ k. inr (r.1 (inr k))),
    )

pub chosen_exactly : (p : ℕ → Bool) (m x : ℕ) → (x ∈ chosen p m) ↔ ((x < m) × (p x ≡ true))
unfolding chosen
chosen_exactly p zero x = ((λ e. absurd e), λ q. absurd (omega (arith, q.0)))
chosen_exactly p (suc m) x = go (p m) refl (chosen_exactly p m x)
  where
    new : (b : Bool) → p m ≡ b → x ∈ (when b then m ∷ [] else []) → (x < suc m) × (p x ≡ true)
    new true e (inl k) = (omega (arith, k), ap p k ∙ e)
    new true e (inr k) = absurd k
    new false e k = absurd k

    old : (b : Bool) → p m ≡ b → x ≡ m → p x ≡ true → x ∈ (when b then m ∷ [] else [])
    old true e k z = inl k
    old false e k z = both (sym (ap p k) ∙ z) e

    go : (b : Bool) → p m ≡ b → (x ∈ chosen p m) ↔ ((x < m) × (p x ≡ true)) → (x ∈ (chosen p m ++ (when b then m ∷ [] else []))) ↔ ((x < suc m) × (p x ≡ true))
    go b e r = (
      (λ q. ⊎_elim (λ k. (omega (arith, (r.0 k).0), (r.0 k).1)) (new b e) ((in_append x (chosen p m) _).0 q)),
      λ q.
          (in_append x (chosen p m) _).1
          (⊎_elim (λ (k : x ≡ m). inr (old b e k q.1)) (λ k. inl (r.1 (omega (arith, q.0, k), q.1))) (eq? x m)),
    )

-- an element of the longer list is one of the shorter, or the new number behind them
chosen_at : (p : ℕ → Bool) (m i : ℕ) → i < length (chosen p (suc m))
    → ((i < length (chosen p m)) × (get_or (chosen p (suc m)) i 0 ≡ get_or (chosen p m) i 0)) ⊎ ((i ≡ length (chosen p m)) × (get_or (chosen p (suc m)) i 0 ≡ m))
unfolding chosen
chosen_at p m i =
    choice (p m)
    (λ (l : List ℕ). i < length (chosen p m ++ l)
    → ((i < length (chosen p m)) × (get_or (chosen p m ++ l) i 0 ≡ get_or (chosen p m) i 0)) ⊎ ((i ≡ length (chosen p m)) × (get_or (chosen p m ++ l) i 0 ≡ m)))
    (λ e h.
    ⊎_elim
    (λ (k : i ≡ length (chosen p m)). inr (k, get_or_at (chosen p m) m [] 0 i (sym k)))
    (λ k. let l : i < length (chosen p m) = omega (arith, length-append (chosen p m) (m ∷ []), k) in inl (l, get_or-append (chosen p m) (m ∷ []) 0 i l))
    (eq? i (length (chosen p m))))
    (λ e h. let l : i < length (chosen p m) = omega (arith, length-append (chosen p m) []) in inl (l, get_or-append (chosen p m) [] 0 i l))

chosen_none : (p : ℕ → Bool) (i : ℕ) → i < length (chosen p zero) → ⊥
unfolding chosen
chosen_none p i h = omega arith

chosen_below : (p : ℕ → Bool) (m i : ℕ) → i < length (chosen p m) → get_or (chosen p m) i 0 < m
chosen_below p zero i h = absurd (chosen_none p i h)
chosen_below p (suc m) i h =
    ⊎_elim (λ q. omega (arith, q.1, chosen_below p m i q.0)) (λ q. omega (arith, q.1)) (chosen_at p m i h)

pub chosen_ascends : (p : ℕ → Bool) (m i i' : ℕ) → i < i' → i' < length (chosen p m) → get_or (chosen p m) i 0 < get_or (chosen p m) i' 0
chosen_ascends p zero i i' h k = absurd (chosen_none p i' k)
chosen_ascends p (suc m) i i' h k =
    ⊎_elim
    (λ q. ⊎_elim
    (λ r. omega (arith, q.1, r.1, chosen_ascends p m i i' h q.0))
    (λ r. absurd (omega (arith, q.0, r.0)))
    (chosen_at p m i (omega arith)))
    (λ q. ⊎_elim
    (λ r. omega (arith, q.1, r.1, chosen_below p m i r.0))
    (λ r. absurd (omega (arith, q.0, r.0)))
    (chosen_at p m i (omega arith)))
    (chosen_at p m i' k)

pub chosen_short : (p : ℕ → Bool) (m : ℕ) → length (chosen p m) ≤ m
unfolding chosen
chosen_short p zero = omega arith
chosen_short p (suc m) =
    choice (p m) (λ (l : List ℕ). length (chosen p m ++ l) ≤ suc m)
    (λ e. omega (arith, length-append (chosen p m) (m ∷ []), chosen_short p m))
    (λ e. omega (arith, length-append (chosen p m) [], chosen_short p m))

-- ## The list

pub kinds_listed : KindsListed
kinds_listed S s now T j =
    record {
      exactly = λ x.
          let r = chosen_exactly (λ x. is j (kinds_at S s now T x)) S.k x in
          let q = is_says j (kinds_at S s now T x) in
          ((λ m. ((r.0 m).0, q.0 (r.0 m).1)), λ m. r.1 (m.0, q.1 m.1));
      ascends = chosen_ascends (λ x. is j (kinds_at S s now T x)) S.k;
    }

pub list_filled : ListFilled
unfolding cold_list
list_filled S s now T h =
    let l = keys_of cold S s now T in
    let n : length l ≤ S.k = chosen_short (λ x. is cold (kinds_at S s now T x)) S.k in
    (omega (arith, length-append l (replicate (64 - length l) 0), length-replicate {A = ℕ} (64 - length l) 0), refl)
