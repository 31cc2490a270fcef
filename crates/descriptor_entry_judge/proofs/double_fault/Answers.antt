use native.Mathlib.Omega.{arith}
use Rattle.descriptor_entry_judge.proofs.Judging as J
use Rattle.descriptor_entry_judge.proofs.double_fault.Goals as goal

pub returns-then-bits-lt9218868437227405312 : goal.returns-then-bits-lt9218868437227405312
returns-then-bits-lt9218868437227405312 c = J.double-right _ _ (omega (arith, c.from.ensures, c.from-2.ensures)) c.if-bits-lt9218868437227405312.true

pub returns : goal.returns
returns c = J.double-wrong _ _ (omega (arith, c.from.ensures, c.from-2.ensures)) c.if-bits-lt9218868437227405312.false
