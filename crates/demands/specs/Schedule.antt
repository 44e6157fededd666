-- Document 01's schedule and four more lists of calls, and the histories that a reader would write of them. Assumes nothing.
use Rattle.std.specs.Prelude.{List, [], ◌∷◌}
use Rattle.rules.specs.Calls.{Call, Put, Get, Look, Adopt, Deliver, Drain, Retire}
use Rattle.causal.specs.World.{wrote, put, get, look, adopt, update, retire}
use Rattle.causal.specs.History.{History}

unfoldable pub schedule : List Call
schedule = Put 0 1 7 ∷ Deliver 1 0 ∷ Get 1 1 ∷ Put 1 2 9 ∷ Deliver 2 1 ∷ Drain 2 903 ∷ Get 2 1 ∷ []

-- step 5 is refused; the drain of step 6 delivers 0's put and then 1's; the newest stands first
unfoldable pub by_hand : History
by_hand =
    get 2 1 (wrote 7 0 1) ∷ update 2 1 1 2 9 ∷ update 2 0 1 1 7
    ∷ put 1 2 9 1 ∷ get 1 1 (wrote 7 0 1) ∷ update 1 0 1 1 7 ∷ put 0 1 7 1 ∷ []

-- 1 looks at 0's put and then puts, and its put is delivered to 2: `looked_at` (crates/causal/specs/Anomalies)
unfoldable pub looking : List Call
looking = Put 0 1 7 ∷ Deliver 1 0 ∷ Look 1 1 ∷ Put 1 2 9 ∷ Deliver 2 1 ∷ []

-- 1 looks at it, adopts it and then puts: the delivery to 2 is refused
unfoldable pub adopting : List Call
adopting = Put 0 1 7 ∷ Deliver 1 0 ∷ Look 1 1 ∷ Adopt 1 1 0 1 ∷ Put 1 2 9 ∷ Deliver 2 1 ∷ []

unfoldable pub adopted : History
adopted = put 1 2 9 1 ∷ adopt 1 1 (wrote 7 0 1) ∷ look 1 1 (wrote 7 0 1) ∷ update 1 0 1 1 7 ∷ put 0 1 7 1 ∷ []

-- case 13 of document 01, and a get at each site: `one_winner` (crates/causal/specs/Anomalies)
unfoldable pub winning : List Call
winning = Put 0 0 5 ∷ Put 1 0 6 ∷ Deliver 0 1 ∷ Deliver 1 0 ∷ Get 1 0 ∷ Get 0 0 ∷ []

-- 0 puts and is retired: its next put is refused, and its first reaches the others all the same
unfoldable pub closing : List Call
closing = Put 0 1 7 ∷ Retire 0 ∷ Put 0 1 8 ∷ Deliver 1 0 ∷ Drain 2 903 ∷ Get 2 1 ∷ []

unfoldable pub closed : History
closed = get 2 1 (wrote 7 0 1) ∷ update 2 0 1 1 7 ∷ update 1 0 1 1 7 ∷ retire 0 ∷ put 0 1 7 1 ∷ []
