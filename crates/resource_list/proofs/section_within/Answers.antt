use borrow.Author.Rules.{rules}
use native.Mathlib.Omega.{arith}
use lib.ListN.{length}
use Rattle.resource_list.proofs.Listed.{cut-is, cut-not, found_inside, reached-there, reached-past, refused-short, cut-long, refused-long}
use Rattle.resource_list.proofs.section_within.Goals as goal

pub overflow_add-section : goal.overflow_add-section
overflow_add-section c =
    let inside = found_inside c.args.file.now c.in-Ok.ensures in
    search rules

pub returns-then-section-gt-TAKEN : goal.returns-then-section-gt-TAKEN
returns-then-section-gt-TAKEN c = reached-past (length c.args.file.now) _ c.in-Ok.ensures (omega (arith, c.if-section-gt-TAKEN.true))

pub returns-then-file-le-TAKEN : goal.returns-then-file-le-TAKEN
returns-then-file-le-TAKEN c = refused-short (length c.args.file.now) _ c.in-Err.ensures (omega (arith, c.if-file-le-TAKEN.true))

pub returns-then-eq : goal.returns-then-eq
returns-then-eq c = cut-long (length c.args.file.now) _ c.in-Err.ensures (omega arith) (cut-is _ c.eq.ensures c.if-eq.true)

pub returns-else-section-gt-TAKEN : goal.returns-else-section-gt-TAKEN
returns-else-section-gt-TAKEN c = reached-there (length c.args.file.now) _ c.in-Ok.ensures (omega arith)

pub returns-else-eq : goal.returns-else-eq
returns-else-eq c = refused-long (length c.args.file.now) _ c.in-Err.ensures (omega arith) (cut-not _ c.eq.ensures c.if-eq.false)
