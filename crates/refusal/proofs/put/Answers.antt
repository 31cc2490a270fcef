use native.Mathlib.Omega.{arith}
use Rattle.refusal.proofs.Laws.{text-short, text-stored}
use Rattle.refusal.proofs.put.Goals as goal

pub returns-then-out-text : goal.returns-then-out-text
returns-then-out-text c = let a = c.args in text-short a.text.now a.out.now (omega arith)

pub returns : goal.returns
returns c = let a = c.args in text-stored a.text.now a.out.now (omega arith) _ c.put_run.ensures
