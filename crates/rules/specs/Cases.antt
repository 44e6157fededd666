-- The starred cases of document 01 and its schedule, as one table of calls and what they show, with one proof. Assumes nothing.
use Rattle.std.specs.Prelude.{◌≡◌, refl, Bool, ◌&&◌, List, [], ◌∷◌, ◌++◌, ℕ, eqb, replicate}
use Rattle.clock.specs.Map.{when◌then◌else◌, all, any, least, mask, sum, bit}
use Rattle.clock.specs.Vector.{Vector}
use Rattle.layout.specs.State.{State, Fields, Parts, of_entry, of_update, of_state}
use Rattle.rules.specs.Sound.{sound, header, counted, blank, written, smallest, lowest, holds, retains}
use Rattle.rules.specs.Touch.{kind, chosen, cold_list}
use Rattle.rules.specs.Engine.{Engine, outranks, short, ours}
use Rattle.rules.specs.Steps.{Numbers, refused, done, opened, put, learn, get, look, deliver, touch, cold, retire}
use Rattle.rules.specs.Refusals.{open_refusals, full, put_refusals, get_refusals, adopt_refusals, deliver_refusals, site_refusals, touch_refusals, last, retire_refusals}
use Rattle.rules.specs.Drain.{try, passes, drained, drain}
use Rattle.rules.specs.Calls.{Call, Put, Get, Deliver, Drain, refusals, beside, step, run}

-- opens every rule, for what is computed
unfoldable pub rules : ℕ
unfolding all any least mask sum bit sound header counted blank written smallest lowest holds retains opened outranks put learn get look deliver open_refusals full put_refusals get_refusals adopt_refusals deliver_refusals site_refusals touch_refusals last retire_refusals try passes drained drain kind chosen cold_list touch cold retire refusals beside step run
rules = 0

-- calls on a freshly opened table, their answers, and what is seen of the table before and after the last call
pub record Case : Type 0 where
  pub number : ℕ
  pub table : State
  pub calls : List Call
  pub answers : List Numbers
  pub view : State → State → List ℕ
  pub seen : List ℕ

abbrev pub answered : Engine → State → List Call → List Numbers
answered E S [] = []
answered E S (c ∷ cs) = (run E S c).answer ∷ answered E (run E S c).after cs

abbrev pub sight : Engine → (State → State → List ℕ) → State → List Call → List ℕ
sight E f S [] = []
sight E f S (c ∷ []) = f S (run E S c).after
sight E f S (c ∷ d ∷ cs) = sight E f (run E S c).after (d ∷ cs)

abbrev pub case : ℕ → State → List Call → List Numbers → Case
case i S cs rs = record { number = i; table = S; calls = cs; answers = rs; view = λ S T. []; seen = [] }

-- a case with a sentence on the table
abbrev pub case_of : ℕ → State → List Call → List Numbers → (State → State → List ℕ) → List ℕ → Case
case_of i S cs rs f l = record { number = i; table = S; calls = cs; answers = rs; view = f; seen = l }

-- the same numbers in all that stands in bytes, so the same bytes
abbrev same_row : Vector → Vector → Bool
same_row v w = all 8 (λ j. eqb (v j) (w j))

abbrev same_fields : Fields → Fields → Bool
same_fields (v, (o, (z, (c, d)))) (v', (o', (z', (c', d')))) = eqb v v' && eqb o o' && eqb z z' && eqb c c' && same_row d d'

abbrev same : Parts → Parts → Bool
same (n, (k, (r, (b, (a, (d, (e, u))))))) (n', (k', (r', (b', (a', (d', (e', u'))))))) =
    eqb n n' && eqb k k' && eqb r r' && eqb b b'
    && all 8 (λ s. same_row (a s) (a' s) && same_row (d s) (d' s))
    && all 8 (λ s. all 64 (λ x. same_fields (of_entry (e s x)) (of_entry (e' s x))) && all 16 (λ p. same_fields (of_update (u s p)) (of_update (u' s p))))

-- 1 where no byte has changed
abbrev pub unchanged : State → State → List ℕ
unchanged S T = (when same (of_state S) (of_state T) then 1 else 0) ∷ []

abbrev pub fives : List Numbers
fives =
    done 0 0 1 5 ∷ done 0 0 2 5 ∷ done 0 0 3 5 ∷ done 0 0 4 5 ∷ done 0 0 5 5 ∷ done 0 0 6 5 ∷ done 0 0 7 5 ∷ done 0 0 8 5
    ∷ done 0 0 9 5 ∷ done 0 0 10 5 ∷ done 0 0 11 5 ∷ done 0 0 12 5 ∷ done 0 0 13 5 ∷ done 0 0 14 5 ∷ done 0 0 15 5 ∷ done 0 0 16 5 ∷ []

abbrev pub ten : (site clock mask : ℕ) → Numbers
ten j c b = record { code = 10; key = 0; site = j; clock = c; value = b }

abbrev pub spent : (deliveries tries : ℕ) → Numbers
spent d t = record { code = 11; key = 0; site = 0; clock = d; value = t }

-- with what the two sites of case 13 hold in the end
unfoldable pub cases : (held : List ℕ) → List Case
cases held =
    case 1 (opened 2 2) (Put 0 0 5 ∷ []) (done 0 0 1 5 ∷ [])
    ∷ case 3 (opened 2 2) (Put 1 0 5 ∷ Put 2 0 5 ∷ []) (done 0 1 1 5 ∷ refused 4 ∷ [])
    ∷ case 4 (opened 2 2) (Put 0 1 5 ∷ Put 0 2 5 ∷ []) (done 1 0 1 5 ∷ refused 6 ∷ [])
    ∷ case 5 (opened 2 2) (Deliver 0 0 ∷ []) (refused 5 ∷ [])
    ∷ case 6 (opened 2 2) (Deliver 1 0 ∷ []) (refused 9 ∷ [])
    ∷ case_of 7 (opened 2 2) (replicate 17 (Put 0 0 5) ++ (Deliver 1 0 ∷ Put 0 0 5 ∷ []))
    (fives ++ (refused 8 ∷ done 0 0 1 5 ∷ done 0 0 17 5 ∷ []))
    (λ S T. (S.updates 0 0).clock ∷ (T.updates 0 0).clock ∷ []) (1 ∷ 17 ∷ [])
    ∷ case_of 9 (opened 2 2) (Get 0 1 ∷ []) (done 1 0 0 0 ∷ []) unchanged (1 ∷ [])
    ∷ case_of 10 (opened 2 2) (Put 0 0 5 ∷ Get 0 0 ∷ []) (done 0 0 1 5 ∷ done 0 0 1 5 ∷ []) unchanged (1 ∷ [])
    ∷ case 11 (opened 3 2) (Put 0 0 7 ∷ Deliver 1 0 ∷ Put 1 1 9 ∷ Deliver 2 1 ∷ []) (done 0 0 1 7 ∷ done 0 0 1 7 ∷ done 1 1 1 9 ∷ done 1 1 1 9 ∷ [])
    ∷ case 12 (opened 3 2) (Put 0 0 7 ∷ Deliver 1 0 ∷ Get 1 0 ∷ Put 1 1 9 ∷ Deliver 2 1 ∷ [])
    (done 0 0 1 7 ∷ done 0 0 1 7 ∷ done 0 0 1 7 ∷ done 1 1 1 9 ∷ ten 0 1 1 ∷ [])
    ∷ case_of 13 (opened 2 2) (Put 0 0 5 ∷ Put 1 0 6 ∷ Deliver 0 1 ∷ Deliver 1 0 ∷ []) (done 0 0 1 5 ∷ done 0 1 1 6 ∷ done 0 1 1 6 ∷ done 0 0 1 5 ∷ [])
    (λ S T. (T.store 0 0).value ∷ (T.store 1 0).value ∷ []) held
    ∷ case 15 (opened 1 2) (Drain 0 0 ∷ []) (done 0 0 0 0 ∷ [])
    ∷ case 15 (opened 2 2) (Drain 0 0 ∷ Drain 0 1 ∷ []) (spent 0 0 ∷ done 0 0 0 1 ∷ [])
    ∷ case 0 (opened 3 4) (Put 0 1 7 ∷ Deliver 1 0 ∷ Get 1 1 ∷ Put 1 2 9 ∷ Deliver 2 1 ∷ Drain 2 903 ∷ Get 2 1 ∷ [])
    (done 1 0 1 7 ∷ done 1 0 1 7 ∷ done 1 0 1 7 ∷ done 2 1 1 9 ∷ ten 0 1 1 ∷ done 0 0 2 6 ∷ done 1 0 1 7 ∷ [])
    ∷ []

abbrev pub computed : Engine → Case → List Numbers × List ℕ
computed E c = (answered E c.table c.calls, sight E c.view c.table c.calls)

abbrev pub expected : Case → List Numbers × List ℕ
expected c = (c.answers, c.seen)

-- each case answers as it says, and shows what it says
abbrev pub Computed : Engine → List Case → Type 0
Computed E [] = Unit {0}
Computed E (c ∷ cs) = (computed E c ≡ expected c) × Computed E cs

-- "In case 13 both sites then hold 6"
pub starred : Computed ours (cases (6 ∷ 6 ∷ []))
unfolding rules cases
starred = (refl, (refl, (refl, (refl, (refl, (refl, (refl, (refl, (refl, (refl, (refl, (refl, (refl, (refl, tt))))))))))))))

-- figure 15 answers the same, and "two sites disagree for good"
pub starred_short : Computed short (cases (6 ∷ 5 ∷ []))
unfolding rules cases
starred_short = (refl, (refl, (refl, (refl, (refl, (refl, (refl, (refl, (refl, (refl, (refl, (refl, (refl, (refl, tt))))))))))))))
