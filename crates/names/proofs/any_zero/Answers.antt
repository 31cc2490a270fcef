use Rattle.std.proofs.Common.{sym, ◌∙◌}
use Rattle.algebra.proofs.Lanes.{clear-left}
use Rattle.names.proofs.any_zero.Goals as goal

pub returns : goal.returns
returns c = let k = c.passed_fours-k in c.any_in_few-2.ensures ∙ sym (clear-left _ _ _ k.result k.ensures.0 k.ensures.1)
