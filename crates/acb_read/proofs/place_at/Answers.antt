use Prim.Native.Nat.{ℕ, ◌+◌, ◌-◌}
use mathlib.Core.Path.{sym, ap, ◌∙◌}
use native.Mathlib.Omega.{arith}
use Rattle.acb_read.specs.Walked.{passed}
use Rattle.acb_read.proofs.Walking.{passed_start, passed-turn, passed-end}
use Rattle.acb_read.proofs.place_at.Goals as goal

pub loop-k-init : goal.loop-k-init
loop-k-init c = (omega arith, passed_start _ _ _ _)

pub loop-k-preserved : goal.loop-k-preserved
loop-k-preserved c =
    let l = c.loop-k in
    let a = c.args in
    let t = c.loop-k-test.true in
    let n = c.units_at-p.ensures.next in
    (omega arith, l.invariant.1 ∙ passed-turn a.space a.file.now l.p a.i l._k t ∙ ap (λ (q : ℕ). passed a.space a.file.now q (a.i - (l._k + 1))) (sym n))

pub returns : goal.returns
returns c =
    let l = c.loop-k in
    let a = c.args in
    sym (l.invariant.1 ∙ passed-end a.space a.file.now l.p a.i l._k c.loop-k-test.false)
