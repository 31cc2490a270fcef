use native.Mathlib.Omega.{arith}
use Rattle.aco_pass.proofs.Turns.{passes-with, passes-begun}
use Rattle.aco_pass.proofs.pass.Goals as goal

pub returns-then-got-gt0 : goal.returns-then-got-gt0
returns-then-got-gt0 c = let a = c.args in passes-begun a.got a.start a.bytes.now a.stage a.at a.store.now (omega (arith, c.requires.0)) c.if-got-gt0.true c.requires.2

pub returns : goal.returns
returns c = passes-with _ (omega (arith, c.if-got-gt0.false)) c.pass_within.ensures
