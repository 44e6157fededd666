-- What Forkcanyon claims, on one page: each field is a sentence, and the statement that says it. The prover has filled
-- every one (crates/claims/proofs/Proved), so that a theorem that goes missing is an error. Assumes nothing.
use Rattle.std.specs.Prelude.{◌≡◌, List, [], ◌∷◌, map, ℕ, min, ◌≤◌, length}
use Rattle.clock.specs.Vector.{Vector}
use Rattle.layout.specs.State.{table, state_of, the_widths, the_offsets}
use Rattle.layout.specs.Theorems.{BytesBack, StateBack, StateFits, BytesLong}
use Rattle.rules.specs.Engine.{Engine, short, ours}
use Rattle.rules.specs.Calls.{Open, Put, Get, Deliver, Drain, Touch, Look, Adopt, Retire, Served, Listed, serve}
use Rattle.rules.specs.Cases.{Case, cases, Computed}
use Rattle.rules.specs.TouchCases.{parts, forms, kinds, touches, listed_so, words_first}
use Rattle.rules.specs.LookCases.{looks}
use Rattle.rules.specs.RankCases.{ranks}
use Rattle.rules.specs.RetireCases.{retirements}
use Rattle.rules.specs.ShortCases.{long_chain, short_chain, shorts}
use Rattle.rules.specs.Bounds.{bounds}
use Rattle.rules.specs.SoundCases.{Fact, tables, answered, expected}
use Rattle.laws.specs.Theorems.{SoundTested, AcceptedSound, KeepsSound, RefusedKeeps, CodesListed, FollowsOrder, GivenExactly, AcceptedExactly, SpentExactly, RefusedZeros, MissingNamed, DrainDelivers, DrainRises, DrainEnds, TriesWithin, TriesBounded, PendingBounded, BudgetEnough, DrainPrefix}
use Rattle.laws.specs.Touches.{TouchBack, FormedExactly, AgeAdds, AgedExactly, KindExactly, KindsListed, ListFilled, ColdAnswers, TouchedSays, TouchIsBoth, ScanKeepsColdness}
use Rattle.laws.specs.Looks.{LookKeeps, GetIsBoth, AdoptIsGet, AdoptAnswers, AdoptNever, ColdKeeps}
use Rattle.laws.specs.Agreement.{EngineFree}
use Rattle.laws.specs.Taken.{Takes}
use Rattle.laws.specs.Retirement.{RetireRetires, RetireBytes, RetiredKept, NothingLost}
use Rattle.causal.specs.World.{Set, Tops, World, Run}
use Rattle.causal.specs.History.{History, AppliedExactly, CausalRun}
use Rattle.causal.specs.Anomalies.{looked_at, one_winner, Anomalies}
use Rattle.causal.specs.Refines.{SameAnswers, PutsCounted, Causal}
use Rattle.demands.specs.Demands.{Demand1, Demand2, Demand3, NothingDelivered, play}
use Rattle.demands.specs.Stores.{OneWinner, DrainedEqual}
use Rattle.demands.specs.Agreement.{Agreement}
use Rattle.demands.specs.Schedule.{schedule, by_hand, looking, adopting, adopted, winning, closing, closed}
use Rattle.answers.specs.Answers.{Chosen}
use Rattle.answers.specs.NoSecond as table
use Rattle.table.specs.Worked as worked
use Rattle.host.specs.Host.{most_tries}
use Rattle.forkcanyon.specs.NoSecond as host
use Rattle.forkcanyon.specs.ShortNoSecond as short_host
use Rattle.both.specs.ColdHost as fc_cold
use Rattle.both.specs.ColdHost.{Hosted}
use Rattle.cold.specs.Listing as cold
use Rattle.reply.specs.Worked as replies
use Rattle.forkcanyon.specs.Theorems.{WrongReply, WrongTable, SizeExactly, ColdHosts, ListWritten}
use Rattle.schedule.specs.declared.Step.{Step}
use Rattle.schedule.specs.Step.{Promise}
use Rattle.schedule.specs.Written.{Written}
use Rattle.schedule.specs.Theorems.{RestIgnored, AlwaysEnds}

-- the three demands
pub record Demands : Type 1 where
  -- any call on any buffer answers the first condition that holds, and a refusal leaves every byte
  pub one : Demand1 ours
  -- .. also a drain that delivered nothing, whatever it answers
  pub nothing_delivered : NothingDelivered
  -- put, get and deliver are figure 7's steps, and look and adopt the two halves of its get, from every sound table
  pub two : Demand2
  -- every site has its order, and nothing accepted is held back for good, from every opening
  pub three : Demand3

-- "Two sites, two winners", and now one
pub record OfStores : Type 0 where
  -- where every live site has applied every put their stores are equal, and a drain of each gets there
  pub one_winner : OneWinner
  pub drained : DrainedEqual

-- "The engine with short lists"
pub record OfEngines : Type 0 where
  -- it agrees with the steps before the ranks, but for the numbers beside a 10, and makes one history with them
  pub agreement : Agreement
  -- demand 1 for short lists
  pub one_short : Demand1 short
  -- open, look, retire and the cold list do not depend on the engine
  pub engine_free : EngineFree
  -- the law of every engine of the code, for ours and for short lists: what is taken on once is taken on
  pub taken : Takes ours × Takes short
  -- a value of the code that chooses an engine chooses one of these two
  pub chosen : Chosen

-- "Retire a site"
pub record OfRetirement : Type 0 where
  -- a retirement retires its site and changes nothing else; no other call but open changes who is retired
  pub retires : RetireRetires
  pub in_bytes : RetireBytes
  pub kept : RetiredKept
  -- what some live site lacks stays, whatever the call, until it has it
  pub nothing_lost : NothingLost

-- what demand 3 rests on and shuts out
pub record OfHistories : Type 1 where
  -- every run of figure 7 has it, its ranks among them
  pub every_run : {n k : ℕ} {h : History} {W : World} → n ≤ 8 → Run n k h W → CausalRun n h W
  -- the greatest clock for each site and the set of pairs give the same answers
  pub same_answers : (v : Vector) (d : Set) → Tops v d → SameAnswers v d
  -- an order has exactly the puts applied at its site, and a history only puts that the table counts
  pub applied_exactly : AppliedExactly
  pub puts_counted : PutsCounted
  -- histories that no store may make have no order; what was looked at is not waited for, what was adopted or overwritten is
  pub anomalies : Anomalies
  -- document 01's schedule, on any buffer, has the history that a reader would write, and is causal
  pub schedule : (t : List ℕ) → length t ≡ (table).width → let p = play ours (serve ours t (Open 3 4)).bytes [] schedule in
      (p.1 ≡ by_hand) × Causal (state_of p.0) (λ c. (serve ours p.0 c).answer) by_hand
  -- so for a put after a look, which is handed on at once, and a put after an adopt, which is not
  pub looking : (t : List ℕ) → length t ≡ (table).width → (play ours (serve ours t (Open 3 4)).bytes [] looking).1 ≡ looked_at
  pub adopting : (t : List ℕ) → length t ≡ (table).width → (play ours (serve ours t (Open 3 4)).bytes [] adopting).1 ≡ adopted
  -- and for a site that puts and is retired
  pub closing : (t : List ℕ) → length t ≡ (table).width → (play ours (serve ours t (Open 3 4)).bytes [] closing).1 ≡ closed
  -- and for case 13, where both sites get the one winner
  pub winning : (t : List ℕ) → length t ≡ (table).width → (play ours (serve ours t (Open 3 4)).bytes [] winning).1 ≡ one_winner

-- no second outcome: of each public call's promise
pub record NoSecondOutcome : Type 0 where
  pub opens : (n k : ℕ) → table.NoSecond (Open n k) × table.One (Open n k)
  pub puts : (e : Engine) (s x v : ℕ) → table.NoSecondBy e (Put s x v) × table.OneBy e (Put s x v)
  pub gets : (e : Engine) (s x : ℕ) → table.NoSecondBy e (Get s x) × table.OneBy e (Get s x)
  pub looks : (s x : ℕ) → table.NoSecond (Look s x) × table.One (Look s x)
  pub adopts : (e : Engine) (s x o c : ℕ) → table.NoSecondBy e (Adopt s x o c) × table.OneBy e (Adopt s x o c)
  pub delivers : (e : Engine) (s o : ℕ) → table.NoSecondBy e (Deliver s o) × table.OneBy e (Deliver s o)
  pub drains : (e : Engine) (s b : ℕ) → table.NoSecondBy e (Drain s b) × table.OneBy e (Drain s b)
  pub retires : (s : ℕ) → table.NoSecond (Retire s) × table.One (Retire s)
  pub fc_retire : (s : ℕ) → host.NoSecond (Retire s) × host.One (Retire s)
  pub fc_open : (n k : ℕ) → host.NoSecond (Open n k) × host.One (Open n k)
  pub fc_put : (s x v : ℕ) → host.NoSecond (Put s x v) × host.One (Put s x v)
  pub fc_get : (s x : ℕ) → host.NoSecond (Get s x) × host.One (Get s x)
  pub fc_look : (s x : ℕ) → host.NoSecond (Look s x) × host.One (Look s x)
  pub fc_adopt : (s x o c : ℕ) → host.NoSecond (Adopt s x o c) × host.One (Adopt s x o c)
  pub fc_deliver : (s o : ℕ) → host.NoSecond (Deliver s o) × host.One (Deliver s o)
  pub touches : (e : Engine) (s x hour u r : ℕ) → table.NoSecondBy e (Touch s x hour u r) × table.OneBy e (Touch s x hour u r)
  pub lists : (t l : List ℕ) (s hour T : ℕ)
      → ((o o' : Listed) → cold.Promise t l s hour T o → cold.Promise t l s hour T o' → o ≡ o') × ((o : Listed) × cold.Promise t l s hour T o)
  pub fc_touch : (s x hour u r : ℕ) → host.NoSecond (Touch s x hour u r) × host.One (Touch s x hour u r)
  pub fc_cold : (t l r : List ℕ) (s hour T : ℕ)
      → ((o o' : Hosted) → fc_cold.Promise t l r s hour T o → fc_cold.Promise t l r s hour T o' → o ≡ o') × ((o : Hosted) × fc_cold.Promise t l r s hour T o)
  pub fc_drain : (s b : ℕ) → host.NoSecond (Drain s (min b most_tries)) × host.One (Drain s (min b most_tries))
  pub fc_short_put : (s x v : ℕ) → short_host.NoSecond (Put s x v) × short_host.One (Put s x v)
  pub fc_short_get : (s x : ℕ) → short_host.NoSecond (Get s x) × short_host.One (Get s x)
  pub fc_short_adopt : (s x o c : ℕ) → short_host.NoSecond (Adopt s x o c) × short_host.One (Adopt s x o c)
  pub fc_short_touch : (s x hour u r : ℕ) → short_host.NoSecond (Touch s x hour u r) × short_host.One (Touch s x hour u r)
  pub fc_short_deliver : (s o : ℕ) → short_host.NoSecond (Deliver s o) × short_host.One (Deliver s o)
  pub fc_short_drain : (s b : ℕ) → short_host.NoSecond (Drain s (min b most_tries)) × short_host.One (Drain s (min b most_tries))
  pub plays : (t : List ℕ) (p : Step) → ((w w' : Served) → Promise t p w → Promise t p w' → w ≡ w') × ((w : Served) × Promise t p w)
  pub written : {before text after after' : List ℕ} {at end end' : ℕ} → Written before at text end after → Written before at text end' after'
      → (end ≡ end') × (after ≡ after')

-- what a worked case says, by its name
abbrev Says : {A : Type 0} → A → Type 0
Says {A} a = A

-- worked cases, computed from the rules
pub record OfCases : Type 0 where
  -- document 01's starred cases and its schedule; each number and step at its bounds
  pub starred : Computed ours (cases (6 ∷ 6 ∷ []))
  pub at_bounds : Computed ours bounds
  -- all of them: case 15 has two tables, 0 is the schedule
  pub which : map (λ (c : Case). c.number) (cases []) ≡ 1 ∷ 3 ∷ 4 ∷ 5 ∷ 6 ∷ 7 ∷ 9 ∷ 10 ∷ 11 ∷ 12 ∷ 13 ∷ 15 ∷ 15 ∷ 0 ∷ []
  pub how_many : length bounds ≡ 26
  -- touch and the cold list; records, kinds and the list at their edges
  pub touches : Computed ours touches × (length touches ≡ 10)
  pub records : Says parts × Says forms × Says kinds × Says listed_so × Says words_first
  -- look and adopt
  pub looks : Computed ours looks × (length looks ≡ 8)
  -- retirement: who is refused, who counts no longer, and what stays
  pub retirements : Computed ours retirements × (length retirements ≡ 6)
  -- ranks: what a put learns, and which deliveries replace
  pub ranks : Computed ours ranks × (length ranks ≡ 6)
  -- short lists answer document 01's cases too, and in case 13 two sites disagree for good; a chain of three sites in both, and what a short put leaves and a short get adds
  pub starred_short : Computed short (cases (6 ∷ 5 ∷ []))
  pub chains : Says long_chain × Says short_chain
  pub shorts : Computed short shorts × (length shorts ≡ 5)
  -- for each fact of soundness a table that breaks it, and a neighbour that is sound
  pub fact_by_fact : (f : Fact) → map answered (tables f) ≡ map expected (tables f)

-- the bytes of a table and its numbers say the same
pub record OfBytes : Type 0 where
  -- bytes read as numbers and laid out again are the same bytes
  pub bytes_back : BytesBack
  -- numbers within their widths, laid out and read again, are the same numbers
  pub state_back : StateBack
  -- what is read of bytes is within its width, and what is laid out has the table's size
  pub state_fits : StateFits
  pub bytes_long : BytesLong
  -- document 01's sizes and places, a worked table at them, and worked replies
  pub sizes : Says the_widths × Says the_offsets
  pub worked_table : Says worked.long × Says worked.header × Says worked.applied × Says worked.depends × Says worked.entry × Says worked.update
  pub worked_replies : Says replies.reply × Says replies.put × Says replies.spent × Says replies.waits
  -- code 1 at the host: a reply or a table of another size
  pub wrong_reply : WrongReply
  pub wrong_table : WrongTable
  pub size_exactly : SizeExactly

-- "A table is sound when all of these hold"
pub record OfSoundness : Type 0 where
  -- the test that the calls make decides exactly document 01's words
  pub tested : SoundTested
  -- every accepted call leaves a sound table, and so does every call on a sound one
  pub accepted : AcceptedSound
  pub kept : KeepsSound

-- "given exactly when"
pub record OfCodes : Type 0 where
  -- each call's codes, as they are asked
  pub listed : CodesListed
  -- every call's list follows the one order of all codes
  pub in_order : FollowsOrder
  -- a code is answered exactly when it is given, 0 and 11 exactly when none is
  pub given : GivenExactly
  pub accepted : AcceptedExactly
  pub spent : SpentExactly
  -- a refusal keeps the table, and has zeros beside its code
  pub keeps : RefusedKeeps
  pub zeros : RefusedZeros
  -- beside 10 stands what the delivery waits for
  pub missing : MissingNamed

-- "passes over origins .. It ends after a pass that delivered nothing"
pub record OfDrain : Type 0 where
  -- a drain is its deliveries, and its answer counts them
  pub delivers : DrainDelivers
  pub rises : DrainRises
  pub ends : DrainEnds
  pub prefix : DrainPrefix
  -- "at most P + (n - 1)(P + 1) tries. P is at most 112, so a budget of 903 is always enough"
  pub within : TriesWithin
  pub bounded : TriesBounded
  pub pending : PendingBounded
  pub enough : BudgetEnough

-- "Split get in two"
pub record OfLooks : Type 0 where
  -- a look answers as get and changes nothing
  pub look_keeps : LookKeeps
  -- a get is a look and at once the adopt of what it answered
  pub get_is_both : GetIsBoth
  -- an accepted adopt is the get, and answers the origin and the clock that it was given
  pub adopt_is_get : AdoptIsGet
  pub adopt_answers : AdoptAnswers
  -- of a never-written key (0, 0) is adopted, which changes nothing
  pub adopt_never : AdoptNever
  -- a cold list changes no byte of the table
  pub cold_keeps : ColdKeeps

-- touch records, the cold list and touch
pub record OfTouches : Type 0 where
  -- a record's bits, put together and taken apart; "any other form is malformed"
  pub touch_back : TouchBack
  pub formed_exactly : FormedExactly
  -- "age is now minus hour, modulo 65,536", and every age is fresh, cold or ahead
  pub age_adds : AgeAdds
  pub aged_exactly : AgedExactly
  -- what the list makes of every entry
  pub kind_exactly : KindExactly
  -- the keys of a kind, each once and ascending; the list is the cold ones, and zeros
  pub kinds_listed : KindsListed
  pub list_filled : ListFilled
  -- an accepted list counts three kinds; over the host edge it writes the list, or leaves it
  pub cold_answers : ColdAnswers
  pub cold_hosts : ColdHosts
  pub list_written : ListWritten
  -- the record that a touch puts
  pub touched_says : TouchedSays
  -- an accepted touch is its get and then its put
  pub touch_is_both : TouchIsBoth
  -- a touch by the backup scan or by migration changes no key's coldness at its site
  pub scan_keeps_coldness : ScanKeepsColdness

-- the text of a schedule's run
pub record OfListings : Type 0 where
  -- "what follows them is ignored"; every listing ends in an `end` or a `cut` line
  pub rest_ignored : RestIgnored
  pub always_ends : AlwaysEnds

pub record Claims : Type 1 where
  pub demands : Demands
  pub stores : OfStores
  pub engines : OfEngines
  pub retirement : OfRetirement
  pub histories : OfHistories
  pub outcomes : NoSecondOutcome
  pub cases : OfCases
  pub bytes : OfBytes
  pub soundness : OfSoundness
  pub codes : OfCodes
  pub drain : OfDrain
  pub looks : OfLooks
  pub touches : OfTouches
  pub listings : OfListings
