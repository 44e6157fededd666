-- What is proved of the text of a run, for any input (crates/schedule/proofs/Rest), and that no promise leaves a second outcome. Assumes nothing.
use Rattle.std.specs.Prelude.{◌≡◌, refl, List, ◌++◌, ◌⊎◌, ℕ, take, drop}
use Rattle.std.proofs.Common.{sym, ap, ◌∙◌}
use Rattle.schedule.specs.Text.{end_line, cut_line}
use Rattle.rules.specs.Calls.{Served}
use Rattle.schedule.specs.declared.Step.{Step}
use Rattle.schedule.specs.Step.{played_on, Promise}
use Rattle.schedule.specs.Written.{Written}
use Rattle.schedule.specs.Listing.{listing}

-- "what follows them is ignored": the first 65,534 bytes decide the whole text
abbrev pub RestIgnored : Type 0
RestIgnored = (l : List ℕ) → listing (take 65534 l) ≡ listing l

-- "The last line is `end` and the number of steps, or `cut` and the count of left bytes", whatever the input
pub record Ends (text : List ℕ) : Type 0 where
  pub lines : List ℕ
  pub number : ℕ
  pub last : (text ≡ lines ++ end_line number) ⊎ (text ≡ lines ++ cut_line number)

abbrev pub AlwaysEnds : Type 0
AlwaysEnds = (l : List ℕ) → Ends (listing l)

-- no second outcome of a step, nor of a text written: of the promises in the `ensures` of play, write_answer and write_listing
pub play_no_second : (t : List ℕ) (p : Step) → ((w w' : Served) → Promise t p w → Promise t p w' → w ≡ w') × ((w : Served) × Promise t p w)
play_no_second t p = ((λ w w' f g. f ∙ sym g), (played_on t p, refl))

pub written_no_second : {before text after after' : List ℕ} {at end end' : ℕ} → Written before at text end after → Written before at text end' after'
    → (end ≡ end') × (after ≡ after')
written_no_second {before} {text} {after} {after'} {at} f g =
    let e = f.ends ∙ sym g.ends in
    (e, f.bytes ∙ ap (λ (k : ℕ). take at before ++ (text ++ drop k before)) e ∙ sym g.bytes)
