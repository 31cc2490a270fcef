use mathlib.Core.Path.{refl}
use native.Mathlib.Omega.{arith}
use Rattle.acb_judge.specs.Answer.{told_header}
use Rattle.acb_shown_file.proofs.Naming.{Opened, opened, text-inside, name-none, parts-small, full-short, full_put}
use Rattle.acb_shown_file.proofs.full_name.Goals as goal

pub returns-then-book-i : goal.returns-then-book-i
returns-then-book-i c =
    let b = c.in_ok-book.book in
    let o : Opened c.args.file.now (told_header b.header) b.count = opened _ c.in_ok-book.ensures in
    name-none _ o c.args.i c.if-book-i.true _

pub text_in-prefix-requires : goal.text_in-prefix-requires
text_in-prefix-requires c =
    let b = c.in_ok-book.book in
    let o : Opened c.args.file.now (told_header b.header) b.count = opened _ c.in_ok-book.ensures in
    text-inside _ o 1 (omega arith) refl

pub text_in-suffix-requires : goal.text_in-suffix-requires
text_in-suffix-requires c =
    let b = c.in_ok-book.book in
    let o : Opened c.args.file.now (told_header b.header) b.count = opened _ c.in_ok-book.ensures in
    text-inside _ o 2 (omega arith) refl

pub overflow_add-n : goal.overflow_add-n
overflow_add-n c =
    let b = c.in_ok-book.book in
    let o : Opened c.args.file.now (told_header b.header) b.count = opened _ c.in_ok-book.ensures in
    let k = parts-small _ o c.args.i c.if-book-i.false refl refl _ _ _ c.text_in-prefix.ensures c.name_at-name.ensures c.text_in-suffix.ensures in
    omega arith

pub returns-then-out-n : goal.returns-then-out-n
returns-then-out-n c =
    let b = c.in_ok-book.book in
    let o : Opened c.args.file.now (told_header b.header) b.count = opened _ c.in_ok-book.ensures in
    full-short _ o c.args.i c.if-book-i.false refl refl _ _ _ c.text_in-prefix.ensures c.name_at-name.ensures c.text_in-suffix.ensures _ c.if-out-n.true

pub returns : goal.returns
returns c =
    let b = c.in_ok-book.book in
    let o : Opened c.args.file.now (told_header b.header) b.count = opened _ c.in_ok-book.ensures in
    full_put _ o c.args.i c.if-book-i.false refl refl _ _ _ c.text_in-prefix.ensures c.name_at-name.ensures c.text_in-suffix.ensures _ _ c.if-out-n.false c.put_three.ensures
