use Rattle.algebra.proofs.Places.{length-be}
use Rattle.descriptor_replace.proofs.Values as Q
use native.Mathlib.Omega.{arith}
use mathlib.Core.Path.{sym}
use Rattle.descriptor_replace.proofs.size_of.Goals as goal

pub returns-in-Bool : goal.returns-in-Bool
returns-in-Bool c =
    (sym (Q.sized _ _ 1 c.in-Bool.is (length-be 1 _)), omega arith)

pub returns-in-Long : goal.returns-in-Long
returns-in-Long c =
    (sym (Q.sized _ _ 4 c.in-Long.is (length-be 4 _)), omega arith)

pub returns-in-Comp : goal.returns-in-Comp
returns-in-Comp c =
    (sym (Q.sized _ _ 8 c.in-Comp.is (length-be 8 _)), omega arith)

pub returns-in-Double : goal.returns-in-Double
returns-in-Double c =
    (sym (Q.sized _ _ 8 c.in-Double.is (length-be 8 _)), omega arith)

pub returns-in-UnitDouble : goal.returns-in-UnitDouble
returns-in-UnitDouble c =
    (sym (Q.sized _ _ 12 c.in-UnitDouble.is (Q.unit_size _ _)), omega arith)
