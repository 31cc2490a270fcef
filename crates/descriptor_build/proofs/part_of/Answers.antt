use native.Mathlib.Omega.{arith}
use Rattle.descriptor_build.proofs.Puts as P
use Rattle.descriptor_build.proofs.part_of.Goals as goal

pub overflow_add-end : goal.overflow_add-end
overflow_add-end c =
    omega (arith, P.part-place c.args.text.now c.args.first c.args.n c.requires c.if-n-eq0.false)

pub slice_bounds-result-end-2 : goal.slice_bounds-result-end-2
slice_bounds-result-end-2 c =
    omega (arith, P.part-place c.args.text.now c.args.first c.args.n c.requires c.if-n-eq0.false)

pub returns : goal.returns
returns c = let a = c.args in P.part-lent a.text.now a.first a.n
