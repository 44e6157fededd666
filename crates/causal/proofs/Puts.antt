-- A put keeps what every run keeps; so every run has it. Assumes nothing.
use mathlib.Core.Path.{◌≡◌, refl, sym, ap, subst, ◌∙◌}
use mathlib.Core.Bool.{Bool, true, false}
use mathlib.Core.List.{[], ◌∷◌, ◌++◌}
use mathlib.Core.Logic.{inl, inr, ⊎_elim}
use Prim.Native.Nat.{ℕ, suc, ◌≤◌, ◌<◌}
use native.Mathlib.Omega.{arith}
use lib.Dec.{eqb}
use lib.ListN.{length, length-append}
use borrow.Author.Tests.{eqb-true, eq-eqb}
use Rattle.clock.specs.Map.{when◌then◌else◌, ◌⟨◌≔◌⟩}
use Rattle.clock.proofs.Maps.{choice, at_same}
use Rattle.causal.specs.World.{Set, Rank, just, ◌∪◌, Update, Answer, never, wrote, Entry, World, nth, learned, with_put, Event, put, PUT, GET, LOOK, ADOPT, UPDATE, RETIRE, Run, begin, more}
use Rattle.clock.specs.Lists.{◌∈◌}
use Rattle.causal.specs.History.{History, Names, Saw, Write, op, order, Ranks, higher, Came, Takes, Cause, direct, deeper}
use Rattle.causal.proofs.Updates.{next, Updates, Issued, Closed, learned_is, learned_put, learned_set, Extends, closed_more, nth_at, extends, newest, each_update}
use Rattle.causal.proofs.Sites.{Site, SiteOf, held_issued, ◌↑◌, up_more, write_site, learn_closed, learn_have, more_site}
use Rattle.causal.proofs.Ranking.{rank_lt}
use Rattle.causal.proofs.Higher.{Right, higher_new}
use Rattle.causal.proofs.Invariant.{Past, Inv, Known, cause_more, known_more, at_just, put_top, inv_start, inv_look, inv_adopt, inv_get, inv_retire, inv_update, issued, put_inj}

past_more : (u v : Updates) (h : History) → Extends u v → ((o x w c : ℕ) → put o x w c ∈ h → Issued u o c) → Past u h → Past v h
unfolding Past
past_more u v [] x k p = tt
past_more u v (e ∷ h) x k p = (
  λ o y w c o' c' q m. p.0 o y w c o' c' q (subst (λ (z : Update). z.depends o' c') (x o c (k o y w c (inl (sym q)))).1 m),
  past_more u v h x (λ o y w c q. k o y w c (inr q)) p.1,
)

pub came_in : (h p : History) (e : Event) → Came h p e → e ∈ h
came_in [] p e k = absurd k
came_in (f ∷ h) p e (inl k) = inl k.0
came_in (f ∷ h) p e (inr k) = inr (came_in h p e k)

module _ (r : Ranks) (h : History) (W : World) (t x w : ℕ) (I : Inv r h W) where
  abbrev pub made : Event
  made = put t x w (next W t)

  abbrev old : Entry
  old = W.store t x

  -- what the put sends: the row of its site, and what it overwrites
  abbrev pub row : Set
  row = W.depends t ∪ learned old.answer old.depends

  abbrev pub up : Update
  up = record { key = x; value = w; depends = row }

  abbrev pub u' : Updates
  u' = (with_put W t x w).updates

  ext : Extends W.updates u'
  ext = extends W.updates t up

  pub put_new : nth (u' t) (next W t) ≡ up
  put_new = rw (at_same W.updates t (W.updates t ++ (up ∷ []))) (newest (W.updates t) up)

  pub put_length : length (u' t) ≡ next W t
  put_length = rw (at_same W.updates t (W.updates t ++ (up ∷ []))) (omega (arith, length-append (W.updates t) (up ∷ [])))

  -- what holds of the old updates and of the new one holds of all
  pub put_each : (P : ℕ → ℕ → Update → Type 0) → ((o c : ℕ) → Issued W.updates o c → P o c (nth (W.updates o) c)) → P t (next W t) up
      → (o c : ℕ) → Issued u' o c → P o c (nth (u' o) c)
  put_each = each_update W.updates t up

  put_count : (s : ℕ) → (with_put W t x w).applied s s ≡ length (u' s)
  put_count s = go (eqb t s) refl
    where
      go : (b : Bool) → eqb t s ≡ b
          → (when b then (W.applied t ↑ t) else W.applied s) s ≡ length (when b then W.updates t ++ (up ∷ []) else W.updates s)
      go true e =
          subst (λ (z : ℕ). (W.applied t ↑ t) z ≡ length (W.updates t ++ (up ∷ []))) (eqb-true t s e)
          (at_same (W.applied t) t (suc (W.applied t t)) ∙ omega (arith, I.own_count t, length-append (W.updates t) (up ∷ [])))
      go false e = I.own_count s

  -- ## Causes

  row_closed : Closed W.updates row
  row_closed = learn_closed x (I.site t) I.closed

  row_have : (o c : ℕ) → row o c → c ≤ W.applied t o
  row_have = learn_have x (I.site t) I.closed

  grow : (s : ℕ) (o c : ℕ) → W.depends s o c → (with_put W t x w).depends s o c
  grow s o c k = choice (eqb t s) (λ (z : Set). z o c) (λ q. inl (inl (subst (λ (z : ℕ). W.depends z o c) (sym (eqb-true t s q)) k))) (λ q. k)

  put_saw : (e : Event) (s o c : ℕ) → e ∈ (made ∷ h) → Saw e s o c → (with_put W t x w).depends s o c
  put_saw e s o c (inl q) k =
      let z = subst (λ (z : Event). Saw z s o c) q k in
      rw (eq-eqb t s z.0) (inr (z.1 ∙ sym z.0, z.2))
  put_saw e s o c (inr q) k = grow s o c (I.saw e s o c q k)

  made_is : (o y v c : ℕ) → put o y v c ≡ made → nth (u' o) c ≡ up
  made_is o y v c q = let p = put_inj o y v c t x w (next W t) q in nth_at u' o t c (next W t) up p.0 p.1 put_new

  -- the put takes what its row has: what was seen, and what is overwritten
  row_takes : (o c : ℕ) → Takes r h t x o c → row o c
  row_takes o c (inl (e, i, k)) = inl (I.saw e t o c i k)
  row_takes o c (inr k) = inr (learned_put old.answer _ o c (rw ((I.site t).table x) k))

  pub put_takes : (p : History) (s y v c o' c' : ℕ) → Came (made ∷ h) p (put s y v c) → Takes r p s y o' c' → (nth (u' s) c).depends o' c'
  put_takes p s y v c o' c' (inl q) k =
      let i : s ≡ t = (put_inj s y v c t x w (next W t) q.0).0 in
      let j : y ≡ x = cc q.0 in
      subst (λ (z : Update). z.depends o' c') (sym (made_is s y v c q.0)) (row_takes o' c' (rw (i, j, q.1) at k))
  put_takes p s y v c o' c' (inr q) k =
      subst (λ (z : Update). z.depends o' c') (sym (ext s c (issued r h W I s y v c (came_in h p (put s y v c) q))).1) (I.takes p s y v c o' c' q k)

  takes_cause : (o c : ℕ) → Takes r h t x o c → Cause r (made ∷ h) o c t (next W t)
  takes_cause o c k = direct h t x w (next W t) o c (inl (refl, refl)) k

  pub put_caused : (o c : ℕ) → row o c → Cause r (made ∷ h) o c t (next W t)
  put_caused o c (inl k) =
      ⊎_elim
      (λ i. takes_cause o c (inl i))
      (λ i. deeper (cause_more r h made i.3) (takes_cause i.0 i.1 (inl i.2)))
      (I.knows t o c k)
  put_caused o c (inr k) =
      let over : (o c : ℕ) → Names old.answer o c → Cause r (made ∷ h) o c t (next W t) = λ o c n. takes_cause o c (inr (rw (← (I.site t).table x) n)) in
      ⊎_elim
      (over o c)
      (λ i.
      let (o₁, c₁, n, q) = i in
      deeper (cause_more r h made (I.exact o₁ c₁ (held_issued (I.site t) x o₁ c₁ n) o c (((I.site t).sets x o₁ c₁ n o c).0 q))) (over o₁ c₁ n))
      (learned_is old.answer old.depends o c k)

  put_knows : (s o c : ℕ) → (with_put W t x w).depends s o c → Known r (made ∷ h) s o c
  put_knows s o c =
      choice (eqb t s) (λ (d : Set). d o c → Known r (made ∷ h) s o c)
      (λ q. subst (λ (z : ℕ). (row ∪ just t (next W t)) o c → Known r (made ∷ h) z o c) (eqb-true t s q)
      (⊎_elim
      (λ k. inr (t, next W t, (made, inl refl, (refl, refl, refl)), put_caused o c k))
      (λ k. inl (made, inl refl, (refl, k.0, k.1)))))
      (λ q k. known_more r h made (I.knows s o c k))

  pub put_holds : (o c : ℕ) → Issued u' o c → put o (nth (u' o) c).key (nth (u' o) c).value c ∈ (made ∷ h)
  put_holds = put_each (λ o c z. put o z.key z.value c ∈ (made ∷ h)) (λ o c k. inr (I.holds o c k)) (inl refl)

  pub put_sets : (o c : ℕ) → Issued u' o c → Closed u' (nth (u' o) c).depends
  put_sets =
      put_each (λ o c z. Closed u' z.depends) (λ o c k. closed_more W.updates u' _ ext (I.closed o c k)) (closed_more W.updates u' _ ext row_closed)

  -- ## The site

  count : suc (W.applied t t) ≡ next W t
  count = ap suc (I.own_count t)

  new₀ : nth (u' t) (suc (W.applied t t)) ≡ up
  new₀ = rw count put_new

  issued₀ : Issued u' t (suc (W.applied t t))
  issued₀ = (omega arith, omega (arith, put_length, count))

  put_closed : Closed u' (row ∪ just t (suc (W.applied t t)))
  put_closed o c (inl q) = let f = closed_more W.updates u' row ext row_closed o c q in (f.0, λ o' c' k. inl (f.1 o' c' k))
  put_closed o c (inr q) =
      at_just (λ o c. Issued u' o c × ((o' c' : ℕ) → (nth (u' o) c).depends o' c' → (row ∪ just t (suc (W.applied t t))) o' c'))
      t (suc (W.applied t t)) o c q
      (issued₀, λ o' c' k. inl (subst (λ (z : Update). z.depends o' c') new₀ k))

  module _ (right : Right r u') where
    -- the new put is above what it overwrites, which is among its causes
    put_higher : higher r old.answer w t (suc (W.applied t t)) ≡ wrote w t (suc (W.applied t t))
    put_higher = go old.answer refl
      where
        go : (a : Answer) → old.answer ≡ a → higher r a w t (suc (W.applied t t)) ≡ wrote w t (suc (W.applied t t))
        go never e = refl
        go (wrote v o c) e =
            let n : Names old.answer o c = rw e (refl, refl) in
            let i = held_issued (I.site t) x o c n in
            let l = right o c (ext o c i).0 in
            let m : Rank row (r t (suc (W.applied t t))) = subst (λ (z : Update). Rank z.depends (r t (suc (W.applied t t)))) new₀ (right t (suc (W.applied t t)) issued₀) in
            higher_new r v o c w t (suc (W.applied t t))
            (inl (rank_lt (nth (W.updates o) c).depends row (r o c) (r t (suc (W.applied t t)))
            (subst (λ (z : Update). Rank z.depends (r o c)) (ext o c i).1 l)
            m
            (λ o' c' k. inr (learned_set old.answer _ o c o' c' n (((I.site t).sets x o c n o' c').1 k)))
            o c
            (inr (learned_put old.answer _ o c n))
            i.0
            (λ c' k. I.older o c c' i k)))

    abbrev kept : ℕ → Entry
    kept c = record { answer = wrote w t c; depends = row }

    put_here : Site r u' (row ∪ just t (next W t)) (W.applied t ↑ t) (W.store t ⟨ x ≔ kept (next W t) ⟩) (Write t (next W t) x w ∷ order t h)
    put_here =
        subst
        (λ (z : ℕ). Site r u' (row ∪ just t z) (W.applied t ↑ t) (W.store t ⟨ x ≔ kept z ⟩) (Write t z x w ∷ order t h))
        count
        (write_site r u' (W.depends t) (row ∪ just t (suc (W.applied t t))) (W.applied t) (W.store t) (order t h) t up
        (more_site W.updates u' ext (I.site t))
        issued₀.1
        new₀
        (λ o c q. ((row_closed o c q).0.0, row_have o c q))
        put_closed
        (λ o c. ⊎_elim (λ q. up_more (W.applied t) t o c (row_have o c q))
        (λ q. at_just (λ o c. c ≤ (W.applied t ↑ t) o) t (suc (W.applied t t)) o c q (put_top (W.applied t) t)))
        true
        put_higher)

    put_site : (s : ℕ) → SiteOf r (with_put W t x w) s (order s (made ∷ h))
    unfolding order op
    put_site s = go (eqb t s) refl
      where
        go : (b : Bool) → eqb t s ≡ b
            → Site r u' (when b then row ∪ just t (next W t) else W.depends s) (when b then (W.applied t ↑ t) else W.applied s)
            (when b then (W.store t ⟨ x ≔ kept (next W t) ⟩) else W.store s)
            ((when b then Write t (next W t) x w ∷ [] else []) ++ order s h)
        go true e =
            subst
            (λ (z : ℕ). Site r u' (row ∪ just t (next W t)) (W.applied t ↑ t) (W.store t ⟨ x ≔ kept (next W t) ⟩) (Write t (next W t) x w ∷ order z h))
            (eqb-true t s e)
            put_here
        go false e = more_site W.updates u' ext (I.site s)

    pub inv_put : Inv r (made ∷ h) (with_put W t x w)
    unfolding Past
    inv_put =
        record {
          own_count = put_count;
          holds = put_holds;
          closed = put_sets;
          chain = λ o c c' k.
              put_each (λ o c z. 1 ≤ c' → c' < c → z.depends o c') (λ o c k. I.chain o c c' k)
              (λ l₁ l₂. inl (I.saw _ t t c' (I.holds t c' (l₁, omega arith)) (refl, refl, refl))) o c k;
          older = λ o c c' k.
              put_each (λ o c z. z.depends o c' → c' < c) (λ o c k. I.older o c c' k) (λ l. omega (arith, row_have t c' l, count)) o c k;
          saw = put_saw;
          takes = put_takes;
          knows = put_knows;
          exact =
              put_each (λ o c z. (o' c' : ℕ) → z.depends o' c' → Cause r (made ∷ h) o' c' o c) (λ o c k o' c' i. cause_more r h made (I.exact o c k o' c' i)) put_caused;
          past = (
            λ o y v c o' c' q m.
                let d : row o' c' = subst (λ (z : Update). z.depends o' c') (made_is o y v c (sym q)) m in
                (_, _, I.holds o' c' (row_closed o' c' d).0),
            past_more W.updates u' h ext (issued r h W I) I.past,
          );
          site = put_site;
        }

-- without its newest put a run has the ranks of the others
pub right_less : (r : Ranks) (W : World) (s x v : ℕ) → Right r (with_put W s x v).updates → Right r W.updates
right_less r W s x v R o c i = let e = extends W.updates s _ o c i in subst (λ (z : Update). Rank z.depends (r o c)) e.1 (R o c e.0)

pub inv : {n k : ℕ} (r : Ranks) (h : History) (W : World) → Run n k h W → Right r W.updates → Inv r h W
inv r h W begin R = inv_start r
inv r h W (more {h = h₁} {W = W₁} k (PUT s x v p q)) R = inv_put r h₁ W₁ s x v (inv r h₁ W₁ k (right_less r W₁ s x v R)) R
inv r h W (more {h = h₁} {W = W₁} k (GET s x p q)) R = inv_get r h₁ W₁ s x (inv r h₁ W₁ k R)
inv r h W (more {h = h₁} {W = W₁} k (LOOK s x p q)) R = inv_look r h₁ W₁ s x (inv r h₁ W₁ k R)
inv r h W (more {h = h₁} {W = W₁} k (ADOPT s x p q)) R = inv_adopt r h₁ W₁ s x (inv r h₁ W₁ k R)
inv r h W (more {h = h₁} {W = W₁} k (RETIRE s p)) R = inv_retire r h₁ W₁ s (inv r h₁ W₁ k R)
inv r h W (more {h = h₁} {W = W₁} k (UPDATE s o b p q d e f g)) R = inv_update r h₁ W₁ s o d e f (inv r h₁ W₁ k R) R b g
