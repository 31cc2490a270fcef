use mathlib.Core.Path.{sym, ap}
use native.Mathlib.Omega.{arith}
use Rattle.algebra.specs.Reader.{done}
use Rattle.algebra.proofs.Laws.{body-done, body-short}
use Rattle.fields.proofs.number.run_at.Goals as goal

pub returns-then-k-eq0 : goal.returns-then-k-eq0
returns-then-k-eq0 c = sym (body-done 1 _ _ _ _ (omega arith) (omega arith))

pub returns-then-n-k : goal.returns-then-n-k
returns-then-n-k c = sym (ap done (body-short 1 _ _ _ (omega arith)))

pub returns-then-n-k-2 : goal.returns-then-n-k-2
returns-then-n-k-2 c = sym (ap done (body-short 1 _ _ _ (omega arith)))

pub returns : goal.returns
returns c = sym (body-done 1 _ _ _ _ (omega arith) (omega arith))
