use Rattle.acb_write_judge.proofs.Judging.{sizes-four}
use native.Mathlib.Omega.{arith}
use Rattle.acb_judge.specs.Answer.{told_text}
use Rattle.acb_writing.specs.Writing.{string_size}
use Rattle.acb_write_judge.proofs.head_size.Goals as goal

pub returns : goal.returns
returns c = let h = c.args.header in (omega (arith, sizes-four string_size (told_text h.title) (told_text h.prefix) (told_text h.suffix) (told_text h.description)), omega arith)
