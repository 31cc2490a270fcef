use Prim.Native.Nat.{◌+◌, ◌*◌, ◌-◌}
use mathlib.Core.Path.{sym}
use native.Mathlib.Omega.{arith}
use Rattle.unicode_utf8.proofs.Scalars.{fault-none}
use Rattle.unicode_utf8.proofs.Answers.{part-units, no-units}
use Rattle.algebra.proofs.Places.{length_part}
use Rattle.unicode_utf8.proofs.name.bytes_at.Goals as goal

pub returns-then-units-eq0 : goal.returns-then-units-eq0
returns-then-units-eq0 c =
    let a = c.args in
    (sym (fault-none a.file.now a.at a.units (omega arith) (omega arith)), no-units a.file.now a.at a.units c.if-units-eq0.true, omega arith)

pub returns : goal.returns
returns c =
    let a = c.args in
    (sym (fault-none a.file.now a.at a.units (omega arith) (omega arith)), part-units a.file.now a.at a.units (omega arith), omega (arith, length_part a.file.now a.at (a.at + 2 * a.units - a.at) (omega arith)))
