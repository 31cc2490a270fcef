use Rattle.acb_write.proofs.Puts.{file-front}
use Rattle.acb_write_judge.proofs.Outcomes.{needed-bytes}
use Rattle.algebra.specs.Writing.{Outcome}
use Rattle.algebra.proofs.Writing.{writes-no, writes-none, writes-all}
use Rattle.fault.proofs.Exit.{written-exit}
use mathlib.Core.Path.{refl, ap, ◌∙◌}
use native.Mathlib.Omega.{arith}
use Rattle.acb_judge.specs.Answer.{told_header}
use Rattle.acb_write_judge.specs.Answer.{told_ending}
use Prim.Native.Nat.{◌/◌}
use lib.ListN.{length}
use Rattle.acb.specs.Grammar.{file_bytes}
use Rattle.acb_writing.specs.Writing.{book_in, size, fault}
use Rattle.algebra.specs.Table.{rows}
use Rattle.acb.specs.Row.{width, taken}
use Rattle.acb_write.proofs.write.Goals as goal

pub returns-in_err-size : goal.returns-in_err-size
returns-in_err-size c =
    let a = c.args in
    let text = a.text.now in
    let h = told_header a.header in
    let t = told_ending a.ending in
    let n = length a.records.now / width in
    let gs = rows width taken a.records.now n 0 in
    ap (λ (w : Outcome). (w, a.out.now)) (written-exit _ _ c.from_residual.ensures.1 refl) ∙ writes-no (fault text h t gs) (size h t gs) (file_bytes (book_in text h t gs)) a.out.now _ c.in_err-size.ensures

pub returns-then-out-size : goal.returns-then-out-size
returns-then-out-size c =
    let a = c.args in
    let text = a.text.now in
    let h = told_header a.header in
    let t = told_ending a.ending in
    let n = length a.records.now / width in
    let gs = rows width taken a.records.now n 0 in
    writes-none (fault text h t gs) (size h t gs) (file_bytes (book_in text h t gs)) a.out.now _ c.in_ok-size.ensures c.if-out-size.true

pub put_file-requires : goal.put_file-requires
put_file-requires c =
    let a = c.args in
    let n = length a.records.now / width in
    let w = needed-bytes a.text.now (told_header a.header) (told_ending a.ending) (rows width taken a.records.now n 0) _ c.in_ok-size.ensures in
    (omega arith, omega (arith, w.1, c.if-out-size.false), w.0)

pub returns : goal.returns
returns c =
    let a = c.args in
    let text = a.text.now in
    let h = told_header a.header in
    let t = told_ending a.ending in
    let n = length a.records.now / width in
    let gs = rows width taken a.records.now n 0 in
    let w = needed-bytes text h t gs _ c.in_ok-size.ensures in
    let room = c.if-out-size.false in
    writes-all (fault text h t gs) (size h t gs) (file_bytes (book_in text h t gs)) a.out.now _ c.in_ok-size.ensures room _ (file-front a.records.now text h t n a.out.now _ (omega (arith, w.1, room)) c.put_file.ensures)
