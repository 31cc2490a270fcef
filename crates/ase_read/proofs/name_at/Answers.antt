use native.Mathlib.Omega.{arith}
use Rattle.ase_read.proofs.Answers.{name_in}
use Rattle.ase_read.proofs.name_at.Goals as goal

pub overflow_add-result : goal.overflow_add-result
overflow_add-result c = let p = c.in-Ok-GroupStart in omega (arith, name_in c.args.file.now c.args.i _ (rw p.field-0-is at p.ensures))

pub slice_bounds-result-end : goal.slice_bounds-result-end
slice_bounds-result-end c = let p = c.in-Ok-GroupStart in omega (arith, name_in c.args.file.now c.args.i _ (rw p.field-0-is at p.ensures))

pub overflow_add-result-in-Ok-Colour : goal.overflow_add-result-in-Ok-Colour
overflow_add-result-in-Ok-Colour c = let p = c.in-Ok-Colour in omega (arith, name_in c.args.file.now c.args.i _ (rw p.field-0-is at p.ensures))

pub slice_bounds-result-end-in-Ok-Colour : goal.slice_bounds-result-end-in-Ok-Colour
slice_bounds-result-end-in-Ok-Colour c = let p = c.in-Ok-Colour in omega (arith, name_in c.args.file.now c.args.i _ (rw p.field-0-is at p.ensures))
