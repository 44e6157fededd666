-- Document 01's input and listing, and inputs at the edges, computed. Assumes nothing.
use Rattle.std.specs.Prelude.{◌≡◌, refl, List, [], ◌∷◌, map, ℕ, codes}
use Rattle.rules.specs.Cases.{rules}
use Rattle.schedule.specs.Step.{step_of, call_of, unused_zero, played}
use Rattle.schedule.specs.Text.{digits, decimal, line, end_line, cut_line}
use Rattle.schedule.specs.Listing.{last_line, listed, after_open, listing}

input : List ℕ
input =
    0x03 ∷ 0x04
    ∷ 0x00 ∷ 0x01 ∷ 0x00 ∷ 0x00 ∷ 0x00 ∷ 0x07
    ∷ 0x88 ∷ 0x00 ∷ 0x00 ∷ 0x00 ∷ 0x00 ∷ 0x00
    ∷ 0x48 ∷ 0x01 ∷ 0x00 ∷ 0x00 ∷ 0x00 ∷ 0x00
    ∷ 0x08 ∷ 0x02 ∷ 0x00 ∷ 0x00 ∷ 0x00 ∷ 0x09
    ∷ 0x91 ∷ 0x00 ∷ 0x00 ∷ 0x00 ∷ 0x00 ∷ 0x00
    ∷ 0xD0 ∷ 0x00 ∷ 0x00 ∷ 0x00 ∷ 0x00 ∷ 0x00
    ∷ 0x50 ∷ 0x01 ∷ 0x00 ∷ 0x00 ∷ 0x00 ∷ 0x00
    ∷ []

-- opens every definition, for what is computed
unfolded : ℕ
unfolding rules step_of call_of unused_zero played digits decimal line end_line cut_line last_line listed after_open listing
unfolded = 0

document : listing input ≡ codes "0 0 0 0 0 0\n1 0 1 0 1 7\n2 0 1 0 1 7\n3 0 1 0 1 7\n4 0 2 1 1 9\n5 10 0 0 1 1\n6 0 0 0 2 6\n7 0 1 0 1 7\nend 7\n"
unfolding unfolded input
document = refl

-- no byte at all, a header cut short, a refused open with more behind it, a cut step, a step with a field that it does not use
edges : map listing ([] ∷ (3 ∷ []) ∷ (9 ∷ 4 ∷ 1 ∷ []) ∷ (1 ∷ 1 ∷ 0 ∷ 0 ∷ []) ∷ (1 ∷ 1 ∷ 1 ∷ 9 ∷ 0 ∷ 0 ∷ 0 ∷ 0 ∷ []) ∷ [])
    ≡ map codes ("cut 0\n" ∷ "cut 1\n" ∷ "0 3 0 0 0 0\nend 0\n" ∷ "0 0 0 0 0 0\ncut 2\n" ∷ "0 0 0 0 0 0\n1 12 0 0 0 0\nend 1\n" ∷ [])
unfolding unfolded
edges = refl
