use Prim.Native.Nat.{◌/◌}
use lib.ListN.{length}
use native.Mathlib.Omega.{arith}
use Rattle.descriptor_build_judge.proofs.Turns as W
use Rattle.descriptor_build_judge.proofs.write_length.Goals as goal

pub returns-then-n-eq0 : goal.returns-then-n-eq0
returns-then-n-eq0 c = let a = c.args in W.no-entry a.text.now a.entries.now _ c.if-n-eq0.true

pub returns-then-root-gt-LIMIT : goal.returns-then-root-gt-LIMIT
returns-then-root-gt-LIMIT c =
    let a = c.args in
    W.root-long a.text.now a.entries.now (length a.entries.now / 16) _ (omega (arith, c.if-n-eq0.false)) c.judge_first-root.ensures c.if-root-gt-LIMIT.true
