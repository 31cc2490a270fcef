use Rattle.std.proofs.Common.{arith}
use Rattle.algebra.proofs.Lanes.{clear-join}
use Rattle.names.proofs.passed_fours.Goals as goal

pub returns : goal.returns
returns c =
    let first = c.clear_fours-i in
    let more = c.sound_fours in
    (omega arith, clear-join _ _ first.result more.result first.ensures.1 more.ensures.1)
