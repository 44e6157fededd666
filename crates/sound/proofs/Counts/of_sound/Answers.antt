use Rattle.std.proofs.Common.{◌≡◌, ◌&&◌, ◌∙◌, rules, is_some}
use Rattle.layout.specs.State.{state_of}
use Rattle.sound.specs.Checks.{header_in, body_in}
use Rattle.sound.proofs.Bytes.{sound_is}
use Rattle.sound.proofs.Counts.of_sound.Goals as goal

pub returns-clause-sound : goal.returns-clause-sound
returns-clause-sound c =
    let h = c.read_header-h.ensures in
    let r = c.read_header-h.result in
    let S = state_of c.args.t.now in
    let e : is_some c.filter.result ≡ (header_in r.n r.k r.retired r.byte3 && body_in S S.n S.k) = search rules in
    e ∙ sound_is S _ _ _ _ h.n h.k h.retired h.byte3
