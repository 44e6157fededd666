-- What is asked of a lent buffer: its size, then what is asked of a table's bytes. Assumes nothing.
use mathlib.Core.Path.{◌≡◌, sym, ap, ◌∙◌}
use mathlib.Core.Bool.{true}
use mathlib.Core.List.{List, [], ◌∷◌, ◌++◌}
use mathlib.Core.Logic.{◌≢◌}
use Prim.Native.Nat.{ℕ}
use lib.ListN.{length}
use Rattle.std.specs.Prelude.{Result, Err}
use Rattle.layout.specs.State.{state_of, table}
use Rattle.rules.specs.Refusals.{first}
use Rattle.rules.specs.Calls.{Call, words, refusals, asks}
use Rattle.laws.proofs.Serving.{asks_long, asks_short}
use Rattle.answers.specs.declared.Refusal.{Refusal}
use Rattle.answers.specs.declared.Refusal.TheVariants.{Size}
use Rattle.answers.specs.Answers.{asked}

module _ (t : List ℕ) (c : Call) where
  pub size_asked : {A : Type 0} (r : Result A Refusal) → r ≡ Err Size → length t ≢ table.width → first (words c ++ ((1, true) ∷ [])) ≡ 1 → asked r ≡ first (asks t c)
  size_asked r e h w = ap asked e ∙ sym (asks_short t c h ∙ w)

  pub inside_asked : (u : List ℕ) → t ≡ u → length u ≡ table.width → (n : ℕ) → n ≡ first (refusals (state_of u) c) → n ≡ first (asks t c)
  inside_asked u same size n e = e ∙ sym (asks_long u c size) ∙ ap (λ (t : List ℕ). first (asks t c)) (sym same)
