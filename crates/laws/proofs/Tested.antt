-- The test of soundness decides soundness. Assumes nothing.
use mathlib.Core.Path.{◌≡◌, refl, ap, subst}
use mathlib.Core.Bool.{Bool, true, false, ◌&&◌}
use mathlib.Core.Logic.Iff
use mathlib.Core.Logic.{◌⊎◌, inl, inr, ⊎_elim}
use Prim.Native.Nat.{ℕ, zero, suc, ◌+◌, ◌-◌, ◌^◌, ◌≤◌, ◌<◌, min}
use native.Mathlib.Omega.{arith}
use native.Mathlib.Decide.{dec_le}
use lib.Dec.{leb}
use Rattle.clock.specs.Map.{when◌then◌else◌}
use Rattle.clock.proofs.Says.{Says, denies_itself, says_eq, says_le, says_lt, says_and, says_or, says_not, says_unless, below_suc, says_all, says_any}
use Rattle.layout.specs.State.{State, Entry}
use Rattle.rules.specs.Live.{gone, Live}
use Rattle.rules.specs.Sound.{place, Blank, Written, Retained, header, counted, blank, written, smallest, lowest, holds, retains, sound}
use Rattle.laws.specs.Theorems.{SoundTested}

-- ## The smallest applied count

pub smallest_le : (n : ℕ) (f : ℕ → ℕ) (m i : ℕ) → i < n → smallest n f m ≤ f i
unfolding smallest
smallest_le zero f m i h = absurd (omega arith)
smallest_le (suc n) f m i h = (below_suc (λ j. min (smallest n f m) (f n) ≤ f j) n).0 ((λ j k. omega (arith, smallest_le n f m j k)), omega arith) i h

pub smallest_is : (n : ℕ) (f : ℕ → ℕ) (m : ℕ) → (smallest n f m ≡ m) ⊎ ((i : ℕ) × (i < n) × (smallest n f m ≡ f i))
unfolding smallest
smallest_is zero f m = inl refl
smallest_is (suc n) f m = go (dec_le (smallest n f m) (f n)) (smallest_is n f m)
  where
    go : Dec (smallest n f m ≤ f n) → (smallest n f m ≡ m) ⊎ ((i : ℕ) × (i < n) × (smallest n f m ≡ f i))
        → (min (smallest n f m) (f n) ≡ m) ⊎ ((i : ℕ) × (i < suc n) × (min (smallest n f m) (f n) ≡ f i))
    go (yes h) (inl e) = inl (omega arith)
    go (yes h) (inr r) = inr (r.0, omega (arith, r.1), omega (arith, r.2))
    go (no h) r = inr (n, omega arith, omega arith)

-- ## Each part of the test

abbrev pub InRange : (n k : ℕ) → Type 0
InRange n k = ((1 ≤ n × n ≤ 8) × 1 ≤ k) × k ≤ 64

pub range_says : (n k : ℕ) → Says (leb 1 n && leb n 8 && leb 1 k && leb k 64) (InRange n k)
range_says n k = says_and (says_and (says_and (says_le 1 n) (says_le n 8)) (says_le 1 k)) (says_le k 64)

pub header_says : (S : State) → Says (header S) (((InRange S.n S.k × S.retired < 2 ^ S.n) × ((s : ℕ) × Live S s)) × S.byte3 ≡ 0)
unfolding header
header_says S =
    says_and (says_and (says_and (range_says S.n S.k) (says_lt S.retired (2 ^ S.n)))
    (Iff.trans (says_any _ (λ s. gone S s ≡ false) S.n (λ s. says_not (denies_itself (gone S s)))) ((λ r. (r.0, (r.1, r.2))), λ r. (r.0, r.1.0, r.1.1))))
    (says_eq S.byte3 0)

abbrev Counted : State → (s o : ℕ) → Type 0
Counted S s o = S.applied s o ≤ S.applied o o × (gone S s ≡ false → S.applied o o ≤ S.applied s o + 16)

counted_says : (S : State) (s o : ℕ) → Says (counted S s o) (Counted S s o)
unfolding counted
counted_says S s o = says_and (says_le _ _) (says_unless (denies_itself (gone S s)) (says_le _ _))

pub blank_says : (e : Entry) → Says (blank e) (Blank e)
unfolding blank
blank_says e =
    Iff.trans
    (says_and (says_and (says_and (says_and (says_eq e.value 0) (says_eq e.origin 0)) (says_eq e.zero 0)) (says_eq e.clock 0))
    (says_all _ (λ j. e.depends j ≡ 0) 8 (λ j. says_eq (e.depends j) 0))) (
      (λ r. record { value = r.0.0.0.0; origin = r.0.0.0.1; zero = r.0.0.1; clock = r.0.1; depends = r.1 }),
      λ b. ((((b.value, b.origin), b.zero), b.clock), b.depends),
    )

pub written_says : (S : State) (s : ℕ) (e : Entry) → Says (written S s e) (Blank e ⊎ Written S s e)
unfolding written
written_says S s e =
    says_or (blank_says e)
    (Iff.trans
    (says_and (says_and (says_lt e.origin S.n) (says_le 1 e.clock)) (says_le e.clock (S.applied s e.origin)))
    ((λ r. record { origin = r.0.0; some = r.0.1; applied = r.1 }), λ w. ((w.origin, w.some), w.applied)))

abbrev Holds : State → (o c : ℕ) → Type 0
Holds S o c = ((S.updates o (place c)).clock ≡ c) × ((S.updates o (place c)).key < S.k)

holds_says : (S : State) (o c : ℕ) → Says (holds S o c) (Holds S o c)
unfolding holds
holds_says S o c = says_and (says_eq _ c) (says_lt _ S.k)

module _ (S : State) (o : ℕ) where
  abbrev counts : ℕ → ℕ
  counts s = when gone S s then S.applied o o else S.applied s o

  lowest_le : (s : ℕ) → Live S s → lowest S o ≤ S.applied s o
  unfolding lowest
  lowest_le s h = omega (arith, smallest_le S.n counts (S.applied o o) s h.0, ap (λ (t : Bool). when t then S.applied o o else S.applied s o) h.1)

  lowest_is : (lowest S o ≡ S.applied o o) ⊎ ((s : ℕ) × Live S s × (lowest S o ≡ S.applied s o))
  unfolding lowest
  lowest_is = ⊎_elim inl (λ r. go r.0 r.1 (gone S r.0) refl r.2) (smallest_is S.n counts (S.applied o o))
    where
      go : (s : ℕ) → s < S.n → (t : Bool) → gone S s ≡ t → lowest S o ≡ (when t then S.applied o o else S.applied s o)
          → (lowest S o ≡ S.applied o o) ⊎ ((s : ℕ) × Live S s × (lowest S o ≡ S.applied s o))
      go s h true q e = inl e
      go s h false q e = inr (s, (h, q), e)

-- the clocks above the lowest are those that some live site lacks
retains_says : (S : State) (o : ℕ) → Says (retains S o) ((c : ℕ) → Retained S o c → Holds S o c)
unfolding retains
retains_says S o =
    Iff.trans
    (says_all _ (λ i. Holds S o (l + suc i)) (S.applied o o - l) (λ i. holds_says S o (l + suc i))) (
      (λ f c r.
          let low = lowest_le S o r.by r.site in
          subst (Holds S o) (omega (arith, r.lacks)) (f (c - suc l) (omega (arith, r.lacks, r.made)))),
      λ g i h. ⊎_elim
          (λ (e : l ≡ S.applied o o). absurd (omega arith))
          (λ r. g (l + suc i) (record { made = omega arith; by = r.0; site = r.1; lacks = omega (arith, r.2) }))
          (lowest_is S o),
    )
  where
    l : ℕ
    l = lowest S o

-- ## The whole

pub sound_tested : SoundTested
unfolding sound
sound_tested S =
    Iff.trans
    (says_and (says_and (says_and (header_says S)
    (says_all _ (λ s. (o : ℕ) → o < S.n → Counted S s o) S.n (λ s. says_all _ (Counted S s) S.n (counted_says S s))))
    (says_all _ (λ s. (x : ℕ) → x < S.k → Blank (S.store s x) ⊎ Written S s (S.store s x)) S.n
    (λ s. says_all _ (λ x. Blank (S.store s x) ⊎ Written S s (S.store s x)) S.k (λ x. written_says S s (S.store s x)))))
    (says_all _ (λ o. (c : ℕ) → Retained S o c → Holds S o c) S.n (retains_says S))) (
      (λ r.
          let h = r.0.0.0 in
          record {
            sites = h.0.0.0.0.0;
            keys = (h.0.0.0.0.1, h.0.0.0.1);
            retired = h.0.0.1;
            someone = h.0.1;
            zero = h.1;
            most = λ s o p q. (r.0.0.1 s p o q).0;
            room = λ s o p q. (r.0.0.1 s p.0 o q).1 p.1;
            entries = λ s x p q. r.0.1 s p x q;
            kept = λ o c p. r.1 o p c;
          }),
      λ D. (
        (
          (((((((D.sites, D.keys.0), D.keys.1)), D.retired), D.someone), D.zero), λ s p o q. (D.most s o p q, λ z. D.room s o (p, z) q)),
          λ s p x q. D.entries s x p q,
        ),
        λ o p c. D.kept o c p,
      ),
    )
