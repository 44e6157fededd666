-- A delivery attempted on a sound table and two of its sites: 9, then 10, then the step. Assumes nothing.
use mathlib.Core.Path.{◌≡◌, sym, ap, ◌∙◌}
use mathlib.Core.Bool.{true, false}
use mathlib.Core.Logic.{◌≢◌}
use Prim.Native.Nat.{ℕ, ◌+◌, ◌-◌, ◌%◌, ◌<◌}
use native.Mathlib.Omega.{arith}
use borrow.Author.Tests.{eq-eqb, ne_eqb}
use Rattle.std.specs.Prelude.{Result}
use Rattle.clock.specs.Map.{any}
use Rattle.clock.proofs.Says.{denies_not, denies_or, denies_le, denies_eq, denies_itself}
use Rattle.clock.specs.declared.Beyond.{Beyond}
use Rattle.clock.specs.Clock.{columns, compare}
use Rattle.layout.specs.State.{State, Update}
use Rattle.layout.specs.declared.Record.{Record}
use Rattle.layout.specs.Records.{update_of}
use Rattle.rules.specs.Engine.{Engine}
use Rattle.rules.specs.Live.{gone}
use Rattle.rules.specs.Sound.{Sound, Retained}
use Rattle.rules.specs.Steps.{refused, next, waiting, deliver}
use Rattle.rules.specs.Refusals.{first, missing, cause, deliver_refusals, undelivered}
use Rattle.rules.specs.Drain.{try}
use Rattle.laws.proofs.Given.{unless_none, unless_first, past, end}
use Rattle.laws.proofs.Tested.{sound_tested}
use Rattle.laws.proofs.Ready.{deliver_asks}
use Rattle.refusals.specs.Asked.{receives_in, Attempts}
use Rattle.deliver.specs.Fits.{DeliverFits}

module _ (E : Engine) (S : State) (s o : ℕ) (D : Sound S) (hs : s < S.n) (ho : o < S.n) (hd : s ≢ o) (live : gone S s ≡ false) where
  pub try_nine : S.applied s o ≡ S.applied o o → try E S s o ≡ record { answer = refused 9; after = S }
  unfolding try
  try_nine e =
      unless_first (deliver_refusals S s o) (undelivered S s o) S (deliver E S s o) 9 (deliver_asks S s o D hs ho hd live ∙ rw (eq-eqb (S.applied s o) (S.applied o o) e)) (omega arith)

  module _ (behind : S.applied s o ≢ S.applied o o) where
    pub try_ten : any 8 (missing S s o) ≡ true → try E S s o ≡ record { answer = cause S s o; after = S }
    unfolding try
    try_ten e =
        unless_first (deliver_refusals S s o) (undelivered S s o) S (deliver E S s o) 10
        (deliver_asks S s o D hs ho hd live ∙ rw (ne_eqb (S.applied s o) (S.applied o o) behind, e)) (omega arith)

    pub try_done : any 8 (missing S s o) ≡ false → try E S s o ≡ deliver E S s o
    unfolding try
    try_done e =
        unless_none (deliver_refusals S s o) (undelivered S s o) S (deliver E S s o)
        (deliver_asks S s o D hs ho hd live ∙ rw (ne_eqb (S.applied s o) (S.applied o o) behind, e))

-- two numbers that code has read differ in the table
pub differ : {x y a b : ℕ} → x ≡ a → y ≡ b → x ≢ y → a ≢ b
differ ex ey h e = h (ex ∙ e ∙ sym ey)

-- the update that is left for s: its key is one of the table's
module _ (S : State) (s o : ℕ) (h : Attempts S s o) (behind : S.applied s o ≢ S.applied o o) where
  pub waiting_key : (waiting S s o).key < 64
  waiting_key =
      let most = h.sound.most s o h.site h.origin in
      let r : Retained S o (next S s o) = record { made = omega arith; by = s; site = (h.site, h.live); lacks = omega arith } in
      omega (arith, (h.sound.kept o (next S s o) h.origin r).1, h.sound.keys)

  -- as code finds it
  module _ (u : Record) (p : ℕ) (eu : update_of u ≡ S.updates o (p % 16)) (ep : p ≡ S.applied s o) where
    pub next_update : update_of u ≡ waiting S s o
    next_update =
        let e : p ≡ next S s o - 1 = ep ∙ omega arith in
        eu ∙ (λ i. S.updates o (e i % 16))

    pub compared : (m : Result Unit Beyond) → m ≡ compare (columns u.depends) (S.applied s) → compare (waiting S s o).depends (S.applied s) ≡ m
    compared m e = sym (e ∙ (λ i. compare (next_update i).depends (S.applied s)))

    pub deliver_fits : (c : ℕ) → c ≡ S.applied s o + 1 → DeliverFits S s o u c
    deliver_fits c ec =
        record {
          site = omega (arith, h.site, h.sound.sites);
          origin = omega (arith, h.origin, h.sound.sites);
          key = omega (arith, waiting_key, ap (λ (w : Update). w.key) next_update);
          update = next_update;
          clock = ec ∙ omega arith;
        }

-- what is asked of a delivery first does not hold
pub deliver_clear : (S : State) (s o : ℕ) → first (receives_in S s o) ≡ 0 → Attempts S s o
deliver_clear S s o h =
    let r =
    (past 2 (omega arith) (denies_not (sound_tested S))
    (past 4 (omega arith) (denies_or (denies_le S.n s) (denies_le S.n o)) (past 5 (omega arith) (denies_eq s o) (past 16 (omega arith) (denies_itself (gone S s)) end)))).exactly.0 h in
    record { sound = r.0; site = r.1.0.0; origin = r.1.0.1; others = r.1.1.0; live = r.1.1.1.0 }
