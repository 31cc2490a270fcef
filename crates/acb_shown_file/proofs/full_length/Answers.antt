use mathlib.Core.Path.{refl}
use native.Mathlib.Omega.{arith}
use Rattle.acb_judge.specs.Answer.{told_header}
use Rattle.acb_shown_file.proofs.Naming.{Opened, opened, text-inside, length_none, parts-small, full-length}
use Rattle.acb_shown_file.proofs.full_length.Goals as goal

pub returns-then-book-i : goal.returns-then-book-i
returns-then-book-i c =
    let b = c.in_ok-book.book in
    let o : Opened c.args.file.now (told_header b.header) b.count = opened _ c.in_ok-book.ensures in
    length_none _ o c.args.i c.if-book-i.true

pub text_in-prefix-requires : goal.text_in-prefix-requires
text_in-prefix-requires c =
    let b = c.in_ok-book.book in
    let o : Opened c.args.file.now (told_header b.header) b.count = opened _ c.in_ok-book.ensures in
    text-inside _ o 1 (omega arith) refl

pub text_in-suffix-requires : goal.text_in-suffix-requires
text_in-suffix-requires c =
    let b = c.in_ok-book.book in
    let o : Opened c.args.file.now (told_header b.header) b.count = opened _ c.in_ok-book.ensures in
    text-inside _ o 2 (omega arith) refl

pub overflow_add-result : goal.overflow_add-result
overflow_add-result c =
    let b = c.in_ok-book.book in
    let o : Opened c.args.file.now (told_header b.header) b.count = opened _ c.in_ok-book.ensures in
    let k = parts-small _ o c.args.i c.if-book-i.false refl refl _ _ _ c.text_in-prefix.ensures c.name_at-name.ensures c.text_in-suffix.ensures in
    omega arith

pub returns : goal.returns
returns c =
    let b = c.in_ok-book.book in
    let o : Opened c.args.file.now (told_header b.header) b.count = opened _ c.in_ok-book.ensures in
    full-length _ o c.args.i c.if-book-i.false refl refl _ _ _ c.text_in-prefix.ensures c.name_at-name.ensures c.text_in-suffix.ensures
