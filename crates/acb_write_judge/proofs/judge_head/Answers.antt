use Rattle.acb_write_judge.proofs.Judging.{head-text, head-many, head-page, head-space, fault-exit, some}
use native.Mathlib.Omega.{arith}
use mathlib.Core.Path.{refl, sym, ◌∙◌}
use Rattle.acb_judge.specs.Answer.{told_header}
use Rattle.acb_write_judge.proofs.judge_head.Goals as goal

pub returns-in_err-judge_texts : goal.returns-in_err-judge_texts
returns-in_err-judge_texts c =
    let a = c.args in
    let e = c.in_err-judge_texts in
    fault-exit _ _ c.from_residual.ensures.1 (head-text a.text.now (told_header a.header) a.count _ e.ensures (some e.field-0.0))

pub returns-then-count-gt65535 : goal.returns-then-count-gt65535
returns-then-count-gt65535 c =
    let a = c.args in
    head-many a.text.now (told_header a.header) a.count 0 c.in_ok-judge_texts.ensures refl (omega (arith, c.if-count-gt65535.true))

pub returns-then-header-eq0 : goal.returns-then-header-eq0
returns-then-header-eq0 c =
    let a = c.args in
    head-page a.text.now (told_header a.header) a.count 0 c.in_ok-judge_texts.ensures refl c.if-count-gt65535.false c.if-header-eq0.true

pub returns-then-not-is_space : goal.returns-then-not-is_space
returns-then-not-is_space c =
    let a = c.args in
    let w = sym c.is_space.ensures ∙ c.if-not-is_space.true in
    head-space a.text.now (told_header a.header) a.count 0 c.in_ok-judge_texts.ensures refl c.if-count-gt65535.false c.if-header-eq0.false 4 (sym (rw w))

pub returns : goal.returns
returns c =
    let a = c.args in
    let w = sym c.is_space.ensures ∙ c.if-not-is_space.false in
    let few = c.if-count-gt65535.false in
    head-space a.text.now (told_header a.header) a.count 0 c.in_ok-judge_texts.ensures refl few c.if-header-eq0.false 0 (sym (rw w))
