use Rattle.acb_write_judge.proofs.Judging.{text_in, text-cut}
use native.Mathlib.Omega.{arith}
use Rattle.acb_judge.specs.Answer.{told_text}
use Rattle.acb_write_judge.proofs.judge_text.Goals as goal

pub returns-then-string-eq0 : goal.returns-then-string-eq0
returns-then-string-eq0 c = let a = c.args in text_in a.text.now (told_text a.string) (omega arith)

pub returns-then-n-k : goal.returns-then-n-k
returns-then-n-k c = let a = c.args in text-cut a.text.now (told_text a.string) (omega arith)

pub returns-then-n-k-2 : goal.returns-then-n-k-2
returns-then-n-k-2 c = let a = c.args in text-cut a.text.now (told_text a.string) (omega arith)

pub returns : goal.returns
returns c = let a = c.args in text_in a.text.now (told_text a.string) (omega arith)
