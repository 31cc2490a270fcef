use mathlib.Core.Path.{refl, sym, ap, ◌∙◌}
use mathlib.Core.List.{List}
use Prim.Native.Nat.{ℕ}
use native.Mathlib.Omega.{arith}
use lib.Dec.{leb}
use lib.ListN.{length}
use lib.Seq.{sets}
use borrow.Author.Tests.{leb-true, leb-false}
use Rattle.algebra.specs.Numbers.{nums}
use Rattle.algebra.specs.Writing.{Outcome}
use Rattle.fault.proofs.Exit.{written-exit}
use Rattle.unicode_text.specs.Reading.{utf8}
use Rattle.unicode_utf8.specs.Answer.{name_fault}
use Rattle.unicode_utf8.proofs.Laws.{length-units}
use Rattle.unicode_utf8.proofs.Answers.{gives_none, gives-short, gives_all, some-number}
use Rattle.unicode_utf8.proofs.name.name_utf8.Goals as goal

pub returns-in_err-bytes : goal.returns-in_err-bytes
returns-in_err-bytes c =
    let a = c.args in
    ap (λ (w : Outcome). (w, a.out.now)) (written-exit _ _ c.from_residual.ensures.1 refl)
    ∙ gives_none (name_fault a.file.now a.at a.units) (utf8 (nums 2 a.units a.file.now a.at)) a.out.now _ c.in_err-bytes.ensures (some-number _)

pub has_room-requires : goal.has_room-requires
has_room-requires c = let f = c.in_ok-bytes.ensures in omega (arith, f.2, length-units c.in_ok-bytes.bytes.now)

pub returns-then-not-has_room : goal.returns-then-not-has_room
returns-then-not-has_room c =
    let a = c.args in
    let f = c.in_ok-bytes.ensures in
    gives-short (name_fault a.file.now a.at a.units) (utf8 (nums 2 a.units a.file.now a.at)) a.out.now f.0 (leb-false _ _ (sym (c.has_room.ensures ∙ ap (λ (us : List ℕ). leb (length (utf8 us)) (length a.out.now)) f.1) ∙ c.if-not-has_room.true))

pub fill-requires : goal.fill-requires
fill-requires c = let f = c.in_ok-bytes.ensures in (omega (arith, f.2, length-units c.in_ok-bytes.bytes.now), leb-true _ _ (sym c.has_room.ensures ∙ c.if-not-has_room.false))

pub returns : goal.returns
returns c =
    let a = c.args in
    let f = c.in_ok-bytes.ensures in
    gives_all (name_fault a.file.now a.at a.units) (utf8 (nums 2 a.units a.file.now a.at)) a.out.now f.0 (leb-true _ _ (sym (c.has_room.ensures ∙ ap (λ (us : List ℕ). leb (length (utf8 us)) (length a.out.now)) f.1) ∙ c.if-not-has_room.false)) _ _
    (c.fill.ensures.0 ∙ ap (λ (us : List ℕ). length (utf8 us)) f.1) (c.fill.ensures.1 ∙ ap (λ (us : List ℕ). sets a.out.now 0 (utf8 us)) f.1)
