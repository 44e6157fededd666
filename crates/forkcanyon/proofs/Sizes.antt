-- Code 1 of the host edge: what is left under it, and that it is given exactly when a buffer has another size. Assumes nothing.
use mathlib.Core.Path.{◌≡◌, refl, sym, ap, ◌∙◌}
use mathlib.Core.Bool.{true, false}
use mathlib.Core.List.{List, [], ◌∷◌}
use mathlib.Core.Logic.{◌⊎◌, ◌≢◌, ◌↔◌, inl, inr, ⊎_elim}
use Prim.Native.Nat.{ℕ}
use native.Mathlib.Omega.{arith}
use lib.ListN.{length}
use borrow.Author.Tests.{eq-eqb, ne_eqb}
use Rattle.clock.proofs.Maps.{eq?}
use Rattle.layout.specs.State.{table, state_of}
use Rattle.rules.specs.Engine.{Engine, ours}
use Rattle.rules.specs.Refusals.{Refusals, first}
use Rattle.rules.specs.Calls.{Call, Open, Put, Get, Deliver, Drain, Cold, Touch, Look, Adopt, Retire, words, asks, Served, serve, serve_list}
use Rattle.laws.proofs.Given.{Avoids, words_proper, no_one, beside_code}
use Rattle.laws.proofs.Codes.{step_code}
use Rattle.laws.proofs.Serving.{asks_long, serve_step, serve_refused, serve_short}
use Rattle.reply.specs.Reply.{reply_bytes, reply_of}
use Rattle.host.specs.Host.{Hosted, left, unsized, host}
use Rattle.forkcanyon.specs.Theorems.{WrongReply, WrongTable, SizeExactly, ColdHosts, ListWritten}
use Rattle.both.specs.ColdHost as cold

pub wrong_reply : WrongReply
unfolding host
wrong_reply E t r c o h p = p ∙ rw (ne_eqb (length r) reply_bytes h)

-- what a call serves is left, and told
host_serves : (E : Engine) (t r : List ℕ) (c : Call) → length r ≡ reply_bytes → host E t r c ≡ (let w = serve E t c in left w.answer.code w.bytes (reply_of w.answer))
unfolding host
host_serves E t r c h = rw (eq-eqb (length r) reply_bytes h)

pub wrong_table : WrongTable
wrong_table E t r c o h k p = p ∙ host_serves E t r c h ∙ ap (λ (w : Served). left w.answer.code w.bytes (reply_of w.answer)) (serve_short E t c k)

-- 14, where it applies, or 1
unsized_one : (ps : Refusals) → Avoids 0 ps → Avoids 1 ps → (unsized ps ≡ 1) ↔ (first ps ≡ 0)
unsized_one [] a b = ((λ e. refl), λ e. refl)
unsized_one ((c, true) ∷ ps) a b = ((λ e. absurd (b.0 e)), λ e. absurd (a.0 e))
unsized_one ((c, false) ∷ ps) a b = unsized_one ps a.1 b.1

words_one : (c : Call) → (unsized (words c) ≡ 1) ↔ (first (words c) ≡ 0)
words_one c = unsized_one (words c) (words_proper c).0 (avoids c)
  where
    avoids : (c : Call) → Avoids 1 (words c)
    avoids (Open n k) = tt
    avoids (Put s x v) = tt
    avoids (Get s x) = tt
    avoids (Deliver s o) = tt
    avoids (Drain s b) = tt
    avoids (Cold s now T m) = omega arith
    avoids (Touch s x now u w) = omega arith
    avoids (Look s x) = tt
    avoids (Adopt s x o c) = tt
    avoids (Retire s) = tt

-- a call on a buffer of the right size never answers 1
never : (E : Engine) (t : List ℕ) (c : Call) → length t ≡ table.width → (serve E t c).answer.code ≢ 1
never E t c k q =
    ⊎_elim
    (λ z. ⊎_elim
    (λ e. absurd (omega (arith, e, sym (ap (λ (w : Served). w.answer.code) (serve_step E t c z)) ∙ q)))
    (λ e. absurd (omega (arith, e, sym (ap (λ (w : Served). w.answer.code) (serve_step E t c z)) ∙ q)))
    (step_code E (state_of t) c))
    (λ z.
    no_one (state_of t) c
    (sym (asks_long t c k) ∙ sym (beside_code (state_of t) c (first (asks t c))) ∙ sym (ap (λ (w : Served). w.answer.code) (serve_refused E t c z)) ∙ q))
    (eq? (first (asks t c)) 0)

pub size_exactly : SizeExactly
size_exactly E t r c o p = go (eq? (length r) reply_bytes) (eq? (length t) table.width)
  where
    code : (x : Hosted) → o ≡ x → o.code ≡ 1 → x.code ≡ 1
    code x e q = sym (ap (λ (y : Hosted). y.code) e) ∙ q

    go : (length r ≡ reply_bytes) ⊎ (length r ≢ reply_bytes) → (length t ≡ table.width) ⊎ (length t ≢ table.width)
        → (o.code ≡ 1) ↔ ((first (words c) ≡ 0) × ((length r ≢ reply_bytes) ⊎ (length t ≢ table.width)))
    go (inl h) (inl k) = ((λ q. absurd (never E t c k (code _ (p ∙ host_serves E t r c h) q))), λ q. ⊎_elim (λ n. absurd (n h)) (λ n. absurd (n k)) q.1)
    go (inl h) (inr k) =
        let e = wrong_table E t r c o h k p in
        ((λ q. ((words_one c).0 (code _ e q), inr k)), λ q. ap (λ (y : Hosted). y.code) e ∙ (words_one c).1 q.0)
    go (inr h) k =
        let e = wrong_reply E t r c o h p in
        ((λ q. ((words_one c).0 (code _ e q), inl h)), λ q. ap (λ (y : Hosted). y.code) e ∙ (words_one c).1 q.0)

-- ## The cold list

pub cold_hosts : ColdHosts
unfolding host cold.host serve_list
cold_hosts t l r s hour T = ⊎_elim (λ h. rw (eq-eqb (length r) reply_bytes h)) (λ h. rw (ne_eqb (length r) reply_bytes h)) (eq? (length r) reply_bytes)

unsized_some : (ps : Refusals) → Avoids 0 ps → unsized ps ≢ 0
unsized_some [] a e = omega arith
unsized_some ((c, true) ∷ ps) a e = a.0 e
unsized_some ((c, false) ∷ ps) a e = unsized_some ps a.1 e

pub list_written : ListWritten
unfolding cold.host serve_list
list_written t l r s hour T =
    let w = (serve ours t (Cold s hour T (length l))).answer.code in
    ⊎_elim
    (λ h. rw (eq-eqb (length r) reply_bytes h) ((λ e. rw (eq-eqb w 0 e)), λ e. rw (ne_eqb w 0 e)))
    (λ h. rw (ne_eqb (length r) reply_bytes h) ((λ e. absurd (unsized_some (words (Cold s hour T (length l))) (words_proper (Cold s hour T (length l))).0 e)), λ e. refl))
    (eq? (length r) reply_bytes)
