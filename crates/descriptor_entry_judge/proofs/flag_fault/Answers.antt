use mathlib.Core.Path.{sym, ap}
use mathlib.Core.Bool.{Bool}
use native.Mathlib.Omega.{arith}
use Rattle.algebra.specs.Reader.{pick}
use borrow.Author.Tests.{le-leb, lt-leb}
use Rattle.descriptor_entry_judge.proofs.flag_fault.Goals as goal

pub returns-then-value-le1 : goal.returns-then-value-le1
returns-then-value-le1 c = sym (ap (λ (b : Bool). pick b 0 5) (le-leb _ 1 c.if-value-le1.true))

pub returns : goal.returns
returns c = sym (ap (λ (b : Bool). pick b 0 5) (lt-leb c.args.value 1 (omega arith)))
