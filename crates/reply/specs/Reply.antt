-- The reply, byte by byte. Assumes nothing.
use Rattle.std.specs.Prelude.{◌≡◌, refl, List, ℕ}
use Rattle.layout.specs.Codec.{Codec, number, ◌then◌}
use Rattle.layout.specs.State.{byte, value, clock}
use Rattle.rules.specs.Steps.{Numbers}

-- "The reply is 12 bytes: code, key, site, zero, clock (2), two zeros, value (4)"
abbrev pub reply : Codec (ℕ × (ℕ × (ℕ × (ℕ × (ℕ × (ℕ × ℕ))))))
reply = byte then byte then byte then byte then clock then number 2 then value

abbrev pub reply_bytes : ℕ
reply_bytes = reply.width

twelve : reply_bytes ≡ 12
twelve = refl

abbrev pub reply_of : Numbers → List ℕ
reply_of a = reply.enc (a.code, (a.key, (a.site, (0, (a.clock, (0, a.value))))))
