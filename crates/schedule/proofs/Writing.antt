-- Texts written one behind the other. Assumes nothing.
use mathlib.Core.Path.{◌≡◌, sym, ap, ◌∙◌}
use mathlib.Core.List.{List, ◌++◌, append_assoc}
use Prim.Native.Nat.{ℕ}
use native.Mathlib.Omega.{arith}
use lib.ListN.{length, take, drop, length-append, length-drop}
use lib.Seq.{take_at, drop_at, drop-drop, length-take-le}
use Rattle.schedule.specs.declared.Output.{Output}
use Rattle.schedule.specs.Written.{Written, Adds}

module _ {b m : List ℕ} {at p : ℕ} {s : List ℕ} (f : Written b at s p m) where
  head : m ≡ (take at b ++ s) ++ drop p b
  head = f.bytes ∙ sym (append_assoc (take at b) s (drop p b))

  head_long : length (take at b ++ s) ≡ p
  head_long =
      let h = f.fits in
      let e = f.ends in
      length-append (take at b) s ∙ omega (arith, length-take-le at b (omega arith))

  same_long : length m ≡ length b
  same_long = ap length head ∙ length-append (take at b ++ s) (drop p b) ∙ omega (arith, head_long, length-drop p b, f.fits)

  head_is : take p m ≡ take at b ++ s
  head_is = ap (take p) head ∙ take_at (take at b ++ s) (drop p b) p head_long

  behind_is : drop p m ≡ drop p b
  behind_is = ap (drop p) head ∙ drop_at (take at b ++ s) (drop p b) p head_long

written_then : {b m a : List ℕ} {at p r : ℕ} {s t : List ℕ} → Written b at s p m → Written m p t r a → Written b at (s ++ t) r a
written_then {b} {m} {a} {at} {p} {r} {s} {t} f g =
    record {
      ends = rw (length-append s t) (omega (arith, f.ends, g.ends));
      fits = omega (arith, g.fits, same_long f);
      bytes =
          g.bytes
          ∙ (λ i. head_is f i ++ (t ++ behind i))
          ∙ append_assoc (take at b) s (t ++ drop r b)
          ∙ ap (λ (l : List ℕ). take at b ++ l) (sym (append_assoc s t (drop r b)));
    }
  where
    behind : drop r m ≡ drop r b
    behind =
        rw g.ends (sym (drop-drop (length t) p m) ∙ ap (drop (length t)) (behind_is f) ∙ drop-drop (length t) p b)

pub adds_then : {o m a : Output} {s t : List ℕ} → Adds o s m → Adds m t a → Adds o (s ++ t) a
adds_then f g = record { lent = g.lent ∙ f.lent; long = g.long ∙ f.long; text_written = written_then f.text_written g.text_written }
