use native.Mathlib.Omega.{arith}
use lib.Seq.{length-take-le}
use mathlib.Core.Path.{sym, ap, ◌∙◌}
use Prim.Native.Nat.{◌+◌}
use Rattle.algebra.specs.Reader.{map_res}
use Rattle.fault.proofs.Exit.{told-exit}
use Rattle.ase.specs.Reading.{inside}
use Rattle.ase_judge.proofs.Judging.{start-deep, start-map}
use Rattle.ase_judge.proofs.group_start_at.Goals as goal

pub returns-then-depth-ge-DEEPEST : goal.returns-then-depth-ge-DEEPEST
returns-then-depth-ge-DEEPEST c = let a = c.args in start-deep a.depth a.end a.file.now a.at (omega (arith, c.if-depth-ge-DEEPEST.true))

pub slice_bounds-group_at-end : goal.slice_bounds-group_at-end
slice_bounds-group_at-end c = sym (length-take-le c.args.end c.args.file.now c.requires.1)

pub returns-in_err-next : goal.returns-in_err-next
returns-in_err-next c =
    let a = c.args in
    told-exit _ _ _ c.from_residual.ensures.1
    (ap (map_res (λ u. (a.depth + 1, 0))) (c.in_err-next.ensures ∙ ap (inside (a.at + 2) a.end) c.group_at.ensures) ∙ sym (start-map a.depth a.end a.file.now a.at c.if-depth-ge-DEEPEST.false))

pub returns : goal.returns
returns c =
    let a = c.args in
    ap (map_res (λ u. (a.depth + 1, 0))) (c.in_ok-next.ensures ∙ ap (inside (a.at + 2) a.end) c.group_at.ensures) ∙ sym (start-map a.depth a.end a.file.now a.at c.if-depth-ge-DEEPEST.false)
