use mathlib.Core.Path.{ap}
use native.Mathlib.Omega.{arith}
use Rattle.resource_read.proofs.Answers.{parts-inside, name-part}
use Rattle.resource_read.specs.Table.{name_of}
use Rattle.resource_read.proofs.name_at.Goals as goal

pub overflow_add-end : goal.overflow_add-end
overflow_add-end c = omega (arith, (parts-inside c.args.file.now c.args.i c.in-Ok.ensures).name)

pub slice_bounds-result-end : goal.slice_bounds-result-end
slice_bounds-result-end c = omega (arith, (parts-inside c.args.file.now c.args.i c.in-Ok.ensures).name)

pub returns-in-Ok : goal.returns-in-Ok
returns-in-Ok c = name-part c.args.file.now c.in-Ok.ensures

pub returns-in-Err : goal.returns-in-Err
returns-in-Err c = ap (name_of c.args.file.now) c.in-Err.ensures
