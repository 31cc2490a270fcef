use mathlib.Core.Path.{sym, ap, ◌∙◌}
use native.Mathlib.Omega.{arith}
use lib.Seq.{sets}
use Rattle.acb.specs.Grammar.{ending_bytes}
use Rattle.acb.specs.Faults.{ending_fault}
use Rattle.acb_writing.specs.Writing.{ending_size}
use Rattle.acb_write_judge.specs.Answer.{told_ending}
use Rattle.acb_write.proofs.put_ending.Goals as goal

pub put_tag-requires : goal.put_tag-requires
put_tag-requires c = omega (arith, c.requires.0, ap (λ t. ending_size (told_ending t)) c.in-Tagged.is)

pub returns-in-Tagged : goal.returns-in-Tagged
returns-in-Tagged c = let a = c.args in
    c.put_tag.ensures ∙ ap (λ t. sets a.out.now a.at (ending_bytes (told_ending t))) (sym c.in-Tagged.is)

-- another tag is a fault
pub returns-in-Other : goal.returns-in-Other
returns-in-Other c = absurd (omega (arith, c.requires.1, ap (λ t. ending_fault (told_ending t)) c.in-Other.is))
