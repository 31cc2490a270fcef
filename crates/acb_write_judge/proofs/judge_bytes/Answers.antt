use Rattle.acb_write_judge.proofs.Judging.{byte-bad, byte-fine, bytes-end}
use native.Mathlib.Omega.{arith}
use Rattle.acb_write_judge.proofs.judge_bytes.Goals as goal

pub returns-then-x-gt255 : goal.returns-then-x-gt255
returns-then-x-gt255 c = let l = c.loop-x in byte-bad c.args.numbers.now l.x-index l.invariant (omega arith) (omega (arith, c.if-x-gt255.true))

pub loop-x-preserved : goal.loop-x-preserved
loop-x-preserved c = let l = c.loop-x in byte-fine c.args.numbers.now l.x-index l.invariant (omega arith) c.if-x-gt255.false

pub returns : goal.returns
returns c = let l = c.loop-x in bytes-end c.args.numbers.now l.x-index l.invariant c.loop-x-test.false
