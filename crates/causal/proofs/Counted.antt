-- The table counts the puts of its history. Assumes nothing.
use mathlib.Core.Logic.{inl, inr}
use Prim.Native.Nat.{ℕ, ◌<◌}
use native.Mathlib.Omega.{arith}
use Rattle.clock.specs.Lists.{◌∈◌}
use Rattle.causal.specs.World.{World, put, with_put, PUT, GET, LOOK, ADOPT, UPDATE, RETIRE, Run, begin, more}
use Rattle.causal.specs.History.{History}
use Rattle.causal.specs.Refines.{PutsCounted}
use Rattle.causal.proofs.Updates.{clash, next, Issued, extends, newest_issued}
use Rattle.causal.proofs.Invariant.{at_just, put_inj}
use Rattle.causal.proofs.Orders.{put_site_below}

run_issued : {n k : ℕ} (h : History) (W : World) → Run n k h W → (o x v c : ℕ) → put o x v c ∈ h → Issued W.updates o c
run_issued h W begin o x v c q = absurd q
run_issued h W (more {W = W₁} l (PUT s y w i j)) o x v c (inl q) =
    at_just (Issued (with_put W₁ s y w).updates) s (next W₁ s) o c (put_inj o x v c s y w (next W₁ s) q) (newest_issued W₁.updates s _)
run_issued h W (more {h = h₁} {W = W₁} l (PUT s y w i j)) o x v c (inr q) = (extends W₁.updates s _ o c (run_issued h₁ W₁ l o x v c q)).0
run_issued h W (more l (GET s y i j)) o x v c (inl q) = clash (cc)
run_issued h W (more {h = h₁} {W = W₁} l (GET s y i j)) o x v c (inr q) = run_issued h₁ W₁ l o x v c q
run_issued h W (more l (LOOK s y i j)) o x v c (inl q) = clash (cc)
run_issued h W (more {h = h₁} {W = W₁} l (LOOK s y i j)) o x v c (inr q) = run_issued h₁ W₁ l o x v c q
run_issued h W (more l (ADOPT s y i j)) o x v c (inl q) = clash (cc)
run_issued h W (more {h = h₁} {W = W₁} l (ADOPT s y i j)) o x v c (inr q) = run_issued h₁ W₁ l o x v c q
run_issued h W (more l (RETIRE s i)) o x v c (inl q) = clash (cc)
run_issued h W (more {h = h₁} {W = W₁} l (RETIRE s i)) o x v c (inr q) = run_issued h₁ W₁ l o x v c q
run_issued h W (more l (UPDATE s t b i j d e f g)) o x v c (inl q) = clash (cc)
run_issued h W (more {h = h₁} {W = W₁} l (UPDATE s t b i j d e f g)) o x v c (inr q) = run_issued h₁ W₁ l o x v c q

pub puts_counted : PutsCounted
puts_counted S answers h C o x v c q =
    let (W, l, A) = C.runs in
    let i = run_issued h W l o x v c q in
    let p : o < S.n = omega (arith, put_site_below h W l o x v c q) in
    (p, i.0, omega (arith, i.1, A.count o p))
