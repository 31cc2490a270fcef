use Rattle.resource_list.proofs.Listed.{of-document, of-long, of-section}
use Rattle.resource_list.proofs.section_of.Goals as goal

pub returns-then-number_or_zero-eq-DOCUMENT : goal.returns-then-number_or_zero-eq-DOCUMENT
returns-then-number_or_zero-eq-DOCUMENT c =
    of-document c.args.file.now c.number_or_zero.ensures c.if-number_or_zero-eq-DOCUMENT.true c.section_within.ensures

pub returns-then-file-gt-TAKEN : goal.returns-then-file-gt-TAKEN
returns-then-file-gt-TAKEN c =
    of-long c.args.file.now c.number_or_zero.ensures c.if-number_or_zero-eq-DOCUMENT.false c.if-file-gt-TAKEN.true

pub returns : goal.returns
returns c =
    of-section c.args.file.now c.number_or_zero.ensures c.if-number_or_zero-eq-DOCUMENT.false c.if-file-gt-TAKEN.false
