-- Worked replies, byte by byte, at the places that document 01 gives. Assumes nothing.
use Rattle.std.specs.Prelude.{◌≡◌, refl, [], ◌∷◌}
use Rattle.rules.specs.Engine.{ours}
use Rattle.rules.specs.Steps.{opened}
use Rattle.rules.specs.Calls.{Put, run}
use Rattle.rules.specs.Cases.{rules}
use Rattle.reply.specs.Reply.{reply_of}

-- "code, key, site, zero, clock (2), two zeros, value (4)", "most significant byte first": every number another
pub reply : reply_of (record { code = 1; key = 2; site = 3; clock = 0x0405; value = 0x06070809 }) ≡ 1 ∷ 2 ∷ 3 ∷ 0 ∷ 4 ∷ 5 ∷ 0 ∷ 0 ∷ 6 ∷ 7 ∷ 8 ∷ 9 ∷ []
reply = refl

-- a put of key 6 at site 2: accepted as its clock 1
pub put : reply_of (run ours (opened 3 7) (Put 2 6 0x0A0B0C0D)).answer ≡ 0 ∷ 6 ∷ 2 ∷ 0 ∷ 0 ∷ 1 ∷ 0 ∷ 0 ∷ 0x0A ∷ 0x0B ∷ 0x0C ∷ 0x0D ∷ []
unfolding rules
put = refl

-- "For drain, deliveries stand in the clock's place and tries in the value's": case 14's 11, with 2 deliveries and 5 tries
pub spent : reply_of (record { code = 11; key = 0; site = 0; clock = 2; value = 5 }) ≡ 11 ∷ 0 ∷ 0 ∷ 0 ∷ 0 ∷ 2 ∷ 0 ∷ 0 ∷ 0 ∷ 0 ∷ 0 ∷ 5 ∷ []
spent = refl

-- beside 10 the mask stands in the value's place: for the sites 0, 1 and 7, of which 0 lacks clock 0x0102
pub waits : reply_of (record { code = 10; key = 0; site = 0; clock = 0x0102; value = 131 }) ≡ 10 ∷ 0 ∷ 0 ∷ 0 ∷ 1 ∷ 2 ∷ 0 ∷ 0 ∷ 0 ∷ 0 ∷ 0 ∷ 131 ∷ []
waits = refl
