-- Where every site has applied every put all stores are equal, and draining each site gets there. Assumes nothing.
use mathlib.Core.Path.{◌≡◌, refl, sym, ap, subst, ◌∙◌, fun_ext}
use mathlib.Core.List.{List, [], ◌∷◌, map}
use mathlib.Core.Logic.{◌⊎◌, inl, inr, ⊎_elim, ◌≢◌}
use Prim.Native.Nat.{ℕ, ◌≤◌, ◌<◌}
use native.Mathlib.Omega.{arith}
use borrow.Author.Tests.{ne_eqb}
use Rattle.clock.specs.Map.{bit}
use Rattle.clock.specs.Lists.{◌∈◌}
use Rattle.clock.specs.Vector.{Vector}
use Rattle.clock.proofs.Maps.{eq?, le?}
use Rattle.layout.specs.State.{State, Entry}
use Rattle.layout.specs.Ranges.{FitsVector, Fits}
use Rattle.layout.proofs.TableTrips.{state_back}
use Rattle.rules.specs.Live.{Live}
use Rattle.rules.specs.Engine.{ours}
use Rattle.rules.specs.Sound.{Blank}
use Rattle.rules.specs.Steps.{opened}
use Rattle.rules.specs.Calls.{Call, Drain, refusals, step, run}
use Rattle.laws.proofs.Ready.{drain_ready}
use Rattle.laws.proofs.Codes.{accepted_first}
use Rattle.laws.proofs.Tries.{budget_enough}
use Rattle.laws.proofs.After.{counts_kept, retired_kept}
use Rattle.laws.proofs.Fitting.{ours_fits, open_fits, entry_fits}
use Rattle.laws.proofs.Spare.{Spare, open_spare, run_spare}
use Rattle.laws.proofs.Elsewhere.{drain_elsewhere}
use Rattle.causal.specs.World.{World, never, wrote}
use Rattle.causal.specs.History.{History, Names}
use Rattle.causal.specs.Refines.{answer, after_call}
use Rattle.causal.proofs.Updates.{clash}
use Rattle.causal.proofs.Ranking.{tops_le}
use Rattle.causal.proofs.Handed.{arrived, stands}
use Rattle.causal.proofs.Invariant.{Inv}
use Rattle.causal.proofs.Puts.{inv}
use Rattle.causal.proofs.Converging.{same_answer, same_set}
use Rattle.causal.proofs.Topped.{AllRanked, all_ranked}
use Rattle.causal.proofs.Tracing.{Traced, run_traced, traced_drains, open_traced, played, played_traced}
use Rattle.demands.specs.Demands.{FourBytes}
use Rattle.demands.specs.Stores.{AllApplied, OneWinner, DrainedEqual}
use Rattle.demands.proofs.Serving.{play_is}
use Rattle.demands.proofs.Proved.{opens}

-- ## Equal entries

same_vector : (v w : Vector) → FitsVector v → FitsVector w → ((j : ℕ) → j < 8 → v j ≡ w j) → v ≡ w
same_vector v w F G f = fun_ext λ j. ⊎_elim (λ (l : 8 ≤ j). F.1 j l ∙ sym (G.1 j l)) (λ (l : j < 8). f j l) (le? 8 j)

same_entry : (e f : Entry) → e.value ≡ f.value → e.origin ≡ f.origin → e.zero ≡ f.zero → e.clock ≡ f.clock → e.depends ≡ f.depends → e ≡ f
same_entry e f a b c d v =
    let g : ◌≡◌ {A = Entry} (record { value = e.value; origin = e.origin; zero = e.zero; clock = e.clock; depends = e.depends })
    (record { value = f.value; origin = f.origin; zero = f.zero; clock = f.clock; depends = f.depends }) = cc in
    g

module _ {S : State} {h : History} (T : Traced S h) where
  abbrev W : World
  W = T.world

  abbrev A : AllRanked W
  A = all_ranked T.sound.sites.1 h W T.leads

  abbrev I : Inv A.ranks h W
  I = inv A.ranks h W T.leads A.right

  module _ (F : Fits S) (Z : Spare S) (all : AllApplied S) (s t x : ℕ) (p : Live S s) (q : Live S t) (y : x < S.k) where
    abbrev e : Entry
    e = S.store s x

    abbrev f : Entry
    f = S.store t x

    same : (o : ℕ) → o < S.n → W.applied t o ≡ W.applied s o
    same o b =
        let l : o < 8 = omega (arith, T.sound.sites) in
        T.related.applied t o q.0 l ∙ all t o q b ∙ sym (all s o p b) ∙ sym (T.related.applied s o p.0 l)

    answers : answer e.value e.origin e.clock ≡ answer f.value f.origin f.clock
    answers = sym (T.related.answers s x p.0 y) ∙ same_answer A.ranks h W T.leads A.right s t same x ∙ T.related.answers t x q.0 y

    fits : (s : ℕ) → s < S.n → FitsVector (S.store s x).depends
    fits s p = (entry_fits S F s x (omega (arith, T.sound.sites)) (omega (arith, T.sound.keys))).1.1.1.1

    never_written : (s : ℕ) → s < S.n → (S.store s x).clock ≡ 0 → Blank (S.store s x)
    never_written s p z = ⊎_elim (λ b. b) (λ w. absurd (omega (arith, w.some))) (T.sound.entries s x p y)

    blanks : e.clock ≡ 0 → f.clock ≡ 0 → e ≡ f
    blanks z w =
        let b = never_written s p.0 z in
        let c = never_written t q.0 w in
        same_entry e f (b.value ∙ sym c.value) (b.origin ∙ sym c.origin) (Z s x ∙ sym (Z t x)) (z ∙ sym w)
        (same_vector _ _ (fits s p.0) (fits t q.0) (λ j l. b.depends j l ∙ sym (c.depends j l)))

    wrotes : e.clock ≢ 0 → wrote e.value e.origin e.clock ≡ wrote f.value f.origin f.clock → e ≡ f
    wrotes z k =
        let m : Names (W.store s x).answer e.origin e.clock = rw (T.related.answers s x p.0 y, ne_eqb e.clock 0 z) (refl, refl) in
        let g = same_set A.ranks h W T.leads A.right s t same x e.origin e.clock m in
        let a = T.related.store s x p.0 y in
        let b = T.related.store t x q.0 y in
        same_entry e f (cc) (cc) (Z s x ∙ sym (Z t x)) (cc)
        (same_vector _ _ (fits s p.0) (fits t q.0)
        (λ j l. omega (arith, tops_le _ _ _ _ a b (λ o c. (g o c).0) j l, tops_le _ _ _ _ b a (λ o c. (g o c).1) j l)))

    entries_equal : e ≡ f
    entries_equal = go (eq? e.clock 0) (eq? f.clock 0)
      where
        go : (e.clock ≡ 0) ⊎ (e.clock ≢ 0) → (f.clock ≡ 0) ⊎ (f.clock ≢ 0) → e ≡ f
        go (inl z) (inl w) = blanks z w
        go (inl z) (inr w) = let k : never ≡ wrote f.value f.origin f.clock = rw (z, ne_eqb f.clock 0 w) at answers in clash (cc)
        go (inr z) (inl w) = let k : wrote e.value e.origin e.clock ≡ never = rw (w, ne_eqb e.clock 0 z) at answers in clash (cc)
        go (inr z) (inr w) = wrotes z (rw (ne_eqb e.clock 0 z, ne_eqb f.clock 0 w) at answers)

-- ## Drains

-- the site has applied every put
abbrev Row : State → (s : ℕ) → Type 0
Row S s = (o : ℕ) → o < S.n → S.applied s o ≡ S.applied o o

module _ {S : State} {h : History} (T : Traced S h) (b : ℕ) (much : 903 ≤ b) (s : ℕ) where
  abbrev drain : Call
  drain = Drain s b

  abbrev S' : State
  S' = (run ours S drain).after

  abbrev T' : Traced S' (after_call ours S drain (run ours S drain).answer h)
  T' = run_traced T drain

  sites : S'.n ≡ S.n
  sites = (counts_kept ours S drain (λ n k e. clash (cc))).0

  retired : S'.retired ≡ S.retired
  retired = retired_kept ours S drain (λ n k e. clash (cc)) (λ t e. clash (cc))

  -- a drain changes nothing in who is live
  before : (t : ℕ) → Live S' t → Live S t
  before t l = (omega (arith, l.0, sites), ap (λ (r : ℕ). bit r t) (sym retired) ∙ l.1)

  after : (t : ℕ) → Live S t → Live S' t
  after t l = (omega (arith, l.0, sites), ap (λ (r : ℕ). bit r t) retired ∙ l.1)

  enough : Live S s → (run ours S drain).answer.code ≡ 0
  unfolding step refusals
  enough p = (accepted_first ours S drain (budget_enough ours S T.sound s b p much)).1 ((drain_ready S s).1 (record { sound = T.sound; site = p.0; live = p.1 }))

  drained_row : Live S s → Row S' s
  drained_row p o q =
      ⊎_elim (λ e. e)
      (λ (e : S'.applied s o ≢ S'.applied o o).
      let l : o < S.n = omega (arith, sites) in
      let own : S'.applied o o ≡ S.applied o o = drain_elsewhere ours S s b o o (λ z. z) in
      let m = T'.sound.most s o (omega (arith, sites)) q in
      absurd
      (traced_drains T s b o _ _ (S'.applied o o) (enough p)
      ((I T).holds o (S'.applied o o) (omega arith, omega (arith, own, T.related.count o l))) (
        (λ z. e (rw z refl)),
        λ x v u.
            let w = (((I T').site s).seen o (S'.applied o o) x v (stands s _ _ (arrived s o (S'.applied o o) x v) _ u)).1 in
            omega (arith, w, T'.related.applied s o (omega (arith, sites)) (omega (arith, T.sound.sites)), m, e),
      )))
      (eq? (S'.applied s o) (S'.applied o o))

  row_kept : (t : ℕ) → Live S t → Row S t → Row S' t
  row_kept t p R o q =
      ⊎_elim
      (λ (e : t ≡ s). subst (λ (z : ℕ). Row S' z) (sym e) (drained_row (subst (Live S) e p)) o q)
      (λ (e : t ≢ s). drain_elsewhere ours S s b t o (λ z. absurd (e z)) ∙ R o (omega (arith, sites)) ∙ sym (drain_elsewhere ours S s b o o (λ z. z)))
      (eq? t s)

abbrev drains : (b : ℕ) → List ℕ → List Call
drains b = map (λ s. Drain s b)

drained_rows : (b : ℕ) → 903 ≤ b → (l : List ℕ) {S : State} {h : History} → Traced S h → let R = (played ours S h (drains b l)).0 in
    ((s : ℕ) → Live R s → Live S s) × ((s : ℕ) → Live S s → (s ∈ l) ⊎ Row S s → Row R s)
drained_rows b e [] T = ((λ s p. p), λ s p. ⊎_elim absurd (λ r. r))
drained_rows b e (t ∷ l) {S = S} T =
    let d = drained_rows b e l (T' T b e t) in (
      (λ s p. before T b e t s (d.0 s p)),
      λ s p k.
          d.1 s (after T b e t s p)
          (⊎_elim
          (⊎_elim (λ (q : s ≡ t). inr (subst (λ (z : ℕ). Row (S' T b e t) z) (sym q) (drained_row T b e t (subst (Live S) q p)))) inl)
          (λ r. inr (row_kept T b e t s p r))
          k),
    )

-- ## Over bytes

played_spare : (cs : List Call) (S : State) (h : History) → Spare S → Spare (played ours S h cs).0
played_spare [] S h Z = Z
played_spare (c ∷ cs) S h Z = played_spare cs _ _ (run_spare ours S c Z)

no_puts : (b : ℕ) (l : List ℕ) → FourBytes (drains b l)
no_puts b [] s x v q = absurd q
no_puts b (t ∷ l) s x v (inl q) = clash (cc)
no_puts b (t ∷ l) s x v (inr q) = no_puts b l s x v q

pub one_winner : OneWinner
one_winner t n k z cs h =
    let o = opens ours t n k z in
    let p = play_is ours ours_fits (opened n k) (open_fits n k o.0) [] cs h in
    let S = (played ours (opened n k) [] cs).0 in
    rw (o.1, p.1, state_back S p.0)
    (entries_equal (played_traced (open_traced n k o.0) cs) p.0 (played_spare cs (opened n k) [] (open_spare n k)))

pub drained_equal : DrainedEqual
drained_equal t n k z cs h =
    let o = opens ours t n k z in
    let p = play_is ours ours_fits (opened n k) (open_fits n k o.0) [] cs h in
    let q = played ours (opened n k) [] cs in
    let T = played_traced (open_traced n k o.0) cs in
    rw (o.1, p.1, state_back q.0 p.0)
    (λ b e l covers.
    let d = play_is ours ours_fits q.0 p.0 q.1 (drains b l) (no_puts b l) in
    let R = (played ours q.0 q.1 (drains b l)).0 in
    let r = drained_rows b e l T in
    let all : AllApplied R = λ s o i j. r.1 s (r.0 s i) (inl (covers s (r.0 s i))) o j in
    rw (d.1, state_back R d.0)
    (all, entries_equal (played_traced T (drains b l)) d.0 (played_spare (drains b l) q.0 q.1 (played_spare cs (opened n k) [] (open_spare n k))) all))
