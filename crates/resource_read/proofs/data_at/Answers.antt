use mathlib.Core.Path.{ap}
use native.Mathlib.Omega.{arith}
use Rattle.resource_read.proofs.Answers.{parts-inside, payload-part}
use Rattle.resource_read.specs.Table.{payload_of}
use Rattle.resource_read.proofs.data_at.Goals as goal

pub overflow_add-end : goal.overflow_add-end
overflow_add-end c = omega (arith, (parts-inside c.args.file.now c.args.i c.in-Ok.ensures).payload)

pub slice_bounds-result-end : goal.slice_bounds-result-end
slice_bounds-result-end c = omega (arith, (parts-inside c.args.file.now c.args.i c.in-Ok.ensures).payload)

pub returns-in-Ok : goal.returns-in-Ok
returns-in-Ok c = payload-part c.args.file.now c.in-Ok.ensures

pub returns-in-Err : goal.returns-in-Err
returns-in-Err c = ap (payload_of c.args.file.now) c.in-Err.ensures
