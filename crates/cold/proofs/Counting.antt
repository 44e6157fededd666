-- One key more in a tally, and a list with one key more. Assumes nothing.
use Rattle.std.proofs.Common.{◌≡◌, ℕ, suc, ◌+◌, ◌-◌, ◌<◌, ◌≤◌, true, false, List, [], ◌∷◌, ◌++◌, length, set, replicate, sym, ap, ◌∙◌, append-nil, arith, length-append}
use lib.Seq.{set-append_seam, append_snoc}
use Rattle.rules.specs.Touch.{Kind, malformed, cold, ahead, is, chosen, padded}
use Rattle.laws.proofs.Records.{chosen_short}
use Rattle.cold.specs.declared.Tallies.{Tallies}
use Rattle.cold.specs.Tally.{those, Tally}

-- a key of the kind, and one of another
pub those_more : (j : Kind) (f : ℕ → Kind) (x : ℕ) → is j (f x) ≡ true → those j f (suc x) ≡ those j f x ++ (x ∷ [])
unfolding chosen
those_more j f x e = rw e

pub those_same : (j : Kind) (f : ℕ → Kind) (x : ℕ) → is j (f x) ≡ false → those j f (suc x) ≡ those j f x
unfolding chosen
those_same j f x e = rw e (append-nil (those j f x))

pub padded_more : (l : List ℕ) (x : ℕ) → length l < 64 → set (padded l) (length l) x ≡ padded (l ++ (x ∷ []))
padded_more l x h =
    let r : 64 - length l ≡ suc (64 - suc (length l)) = omega arith in
    let n : length (l ++ (x ∷ [])) ≡ suc (length l) = omega (arith, length-append l (x ∷ [])) in
    ap (λ (m : ℕ). set (l ++ replicate m 0) (length l) x) r
    ∙ set-append_seam l 0 (replicate (64 - suc (length l)) 0) x
    ∙ sym (append_snoc l x (replicate (64 - suc (length l)) 0))
    ∙ ap (λ (m : ℕ). (l ++ (x ∷ [])) ++ replicate (64 - m) 0) (sym n)

-- one key more, by its kind
module _ {f : ℕ → Kind} {x : ℕ} {l : List ℕ} {c : Tallies} (T : Tally f x l c) where
  same : (j : Kind) {n : ℕ} → n ≡ length (those j f x) → is j (f x) ≡ false → n ≡ length (those j f (suc x))
  same j e h = e ∙ ap length (sym (those_same j f x h))

  more : (j : Kind) {n : ℕ} → n ≡ length (those j f x) → is j (f x) ≡ true → n + 1 ≡ length (those j f (suc x))
  more j e h = omega (arith, e, length-append (those j f x) (x ∷ []), ap length (those_more j f x h))

  kept : is cold (f x) ≡ false → l ≡ padded (those cold f (suc x))
  kept h = T.list ∙ ap padded (sym (those_same cold f x h))

  -- no count is above the number of keys passed
  pub tally_small : (c.listed ≤ x) × (c.ahead ≤ x) × (c.malformed ≤ x)
  tally_small =
      let short : (j : Kind) → length (those j f x) ≤ x = λ j. chosen_short (λ y. is j (f y)) x in
      omega (arith, T.listed, T.ahead, T.malformed, short cold, short ahead, short malformed)

  pub tally_cold : f x ≡ cold → c.listed < 64 → Tally f (suc x) (set l c.listed x) (record { listed = c.listed + 1; ahead = c.ahead; malformed = c.malformed })
  tally_cold e h =
      record {
        list =
            (λ i. set (T.list i) (T.listed i) x)
            ∙ padded_more (those cold f x) x (omega (arith, T.listed)) ∙ ap padded (sym (those_more cold f x (ap (is cold) e)));
        listed = more cold T.listed (ap (is cold) e);
        ahead = same ahead T.ahead (ap (is ahead) e);
        malformed = same malformed T.malformed (ap (is malformed) e);
      }

  pub tally_ahead : f x ≡ ahead → Tally f (suc x) l (record { listed = c.listed; ahead = c.ahead + 1; malformed = c.malformed })
  tally_ahead e =
      record {
        list = kept (ap (is cold) e);
        listed = same cold T.listed (ap (is cold) e);
        ahead = more ahead T.ahead (ap (is ahead) e);
        malformed = same malformed T.malformed (ap (is malformed) e);
      }

  pub tally_malformed : f x ≡ malformed → Tally f (suc x) l (record { listed = c.listed; ahead = c.ahead; malformed = c.malformed + 1 })
  tally_malformed e =
      record {
        list = kept (ap (is cold) e);
        listed = same cold T.listed (ap (is cold) e);
        ahead = same ahead T.ahead (ap (is ahead) e);
        malformed = more malformed T.malformed (ap (is malformed) e);
      }

  pub tally_other : is cold (f x) ≡ false → is ahead (f x) ≡ false → is malformed (f x) ≡ false → Tally f (suc x) l c
  tally_other p q r = record { list = kept p; listed = same cold T.listed p; ahead = same ahead T.ahead q; malformed = same malformed T.malformed r }
