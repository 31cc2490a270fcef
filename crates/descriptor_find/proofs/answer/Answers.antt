use Rattle.descriptor_find.proofs.Keys as K
use Rattle.descriptor_find.specs.scaffold.Finding.{rows_in}
use Rattle.descriptor.specs.Reading.{descriptor}
use Rattle.descriptor_find.proofs.answer.Goals as goal

pub returns-then-answers-count : goal.returns-then-answers-count
returns-then-answers-count c =
    let a = c.args in
    let k = c.in-Ok.ensures in
    K.keys-room a.file.now (rows_in (descriptor a.file.now)) a.keys.now a.answers.now _ k c.if-answers-count.true

pub answer_all-requires : goal.answer_all-requires
answer_all-requires c =
    let a = c.args in
    let k = c.in-Ok.ensures in
    (c.requires, K.keys-fit a.file.now (rows_in (descriptor a.file.now)) a.keys.now a.answers.now _ k c.if-answers-count.false)

pub returns-in-Err : goal.returns-in-Err
returns-in-Err c =
    let a = c.args in
    K.keys-refused a.file.now (rows_in (descriptor a.file.now)) a.keys.now a.answers.now _ _ c.in-Err.ensures

pub returns-else-answers-count : goal.returns-else-answers-count
returns-else-answers-count c =
    let a = c.args in
    let k = c.in-Ok.ensures in
    K.keys-answered a.file.now (rows_in (descriptor a.file.now)) a.keys.now a.answers.now _ k c.if-answers-count.false c.answer_all.ensures
