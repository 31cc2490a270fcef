use Rattle.std.proofs.Common.{sym, ◌∙◌, arith}
use Rattle.algebra.proofs.Texts.{text-none, text-short, text-zero, text-fine}
use Rattle.names.proofs.text_at.Goals as goal

pub returns-then-n-eq0 : goal.returns-then-n-eq0
returns-then-n-eq0 c = sym (text-none _ _ _ c.if-n-eq0.true)

pub returns-then-len-k : goal.returns-then-len-k
returns-then-len-k c = sym (text-short _ _ _ (omega arith))

pub returns-then-len-k-2 : goal.returns-then-len-k-2
returns-then-len-k-2 c = sym (text-short _ _ _ (omega arith))

pub returns-then-any_zero : goal.returns-then-any_zero
returns-then-any_zero c = sym (text-zero _ _ _ (omega arith) (sym c.any_zero.ensures ∙ c.if-any_zero.true))

pub returns : goal.returns
returns c = sym (text-fine _ _ _ _ (omega arith) (sym c.any_zero.ensures ∙ c.if-any_zero.false) (omega arith))
