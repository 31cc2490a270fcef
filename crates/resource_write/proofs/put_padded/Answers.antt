use native.Mathlib.Omega.{arith}
use Rattle.resource_write.proofs.Puts.{pad-none, pad-one}
use Rattle.resource_write.proofs.put_padded.Goals as goal

pub returns-then-k-n-eq0 : goal.returns-then-k-n-eq0
returns-then-k-n-eq0 c =
    let a = c.args in
    (pad-none a.out.now a.run.now a.at a.k c.requires.0 _ c.put_run.ensures c.if-k-n-eq0.true, omega (arith, c.if-k-n-eq0.true))

pub returns : goal.returns
returns c =
    let a = c.args in
    (pad-one a.out.now a.run.now a.at a.k c.requires.0 _ c.put_run.ensures c.if-k-n-eq0.false, omega (arith, c.if-k-n-eq0.false))
