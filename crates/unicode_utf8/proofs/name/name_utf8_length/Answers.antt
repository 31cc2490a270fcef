use mathlib.Core.Path.{sym, ap, ◌∙◌}
use mathlib.Core.List.{List}
use Prim.Native.Nat.{ℕ}
use native.Mathlib.Omega.{arith}
use lib.ListN.{length}
use Rattle.algebra.specs.Numbers.{nums}
use Rattle.algebra.proofs.Writing.{needs-no, needs-all}
use Rattle.fault.proofs.Exit.{written-exit}
use Rattle.unicode_text.specs.Reading.{utf8}
use Rattle.unicode_utf8.specs.Answer.{name_fault}
use Rattle.unicode_utf8.proofs.Laws.{length-units}
use Rattle.unicode_utf8.proofs.Answers.{some-number}
use Rattle.unicode_utf8.proofs.name.name_utf8_length.Goals as goal

pub returns-in_err-bytes : goal.returns-in_err-bytes
returns-in_err-bytes c =
    let a = c.args in
    written-exit _ _ c.from_residual.ensures.1 (needs-no (name_fault a.file.now a.at a.units) (length (utf8 (nums 2 a.units a.file.now a.at))) _ c.in_err-bytes.ensures (some-number _))

pub count-requires : goal.count-requires
count-requires c = let f = c.in_ok-bytes.ensures in omega (arith, f.2, length-units c.in_ok-bytes.bytes.now)

pub returns : goal.returns
returns c =
    let a = c.args in
    let f = c.in_ok-bytes.ensures in
    needs-all (name_fault a.file.now a.at a.units) (length (utf8 (nums 2 a.units a.file.now a.at))) c.count.result f.0 (sym (c.count.ensures ∙ ap (λ (us : List ℕ). length (utf8 us)) f.1))
