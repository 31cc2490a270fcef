use mathlib.Core.Path.{◌≡◌, refl, sym, ap, ◌∙◌}
use native.Mathlib.Omega.{arith}
use Prim.Native.Nat.{ℕ}
use Rattle.algebra.specs.Faults.{faults}
use Rattle.acb_writing.specs.Writing.{components_in, byte_fault}
use Rattle.acb_write_judge.proofs.Judging.{colour-named, colour-coded, colour-rest, fault-exit, some, bytes-first, told-fine}
use Rattle.acb_write_judge.specs.Parts.{told_record}
use Rattle.acb_write_judge.proofs.judge_colour.Goals as goal

pub returns-in_err-judge_text : goal.returns-in_err-judge_text
returns-in_err-judge_text c =
    let a = c.args in
    let e = c.in_err-judge_text in
    fault-exit _ _ c.from_residual.ensures.1 (colour-named a.text.now a.n (told_record a.given) _ e.ensures (some e.field-0.0))

pub returns-in_err-judge_bytes : goal.returns-in_err-judge_bytes
returns-in_err-judge_bytes c =
    let a = c.args in
    let e = c.in_err-judge_bytes in
    fault-exit _ _ c.from_residual-in_err-judge_bytes.ensures.1
    (colour-coded a.text.now a.n (told_record a.given) 0 c.in_ok-judge_text.ensures refl _ e.ensures (some e.field-0.0))

pub returns-then-is_ok : goal.returns-then-is_ok
returns-then-is_ok c =
    let a = c.args in
    let g = told_record a.given in
    let all = sym (told-fine c.judge_bytes-2.result c.if-is_ok.ensures.value) ∙ c.judge_bytes-2.ensures in
    colour-rest a.text.now a.n g 0 c.in_ok-judge_text.ensures refl 0 c.in_ok-judge_bytes.ensures refl 0 (bytes-first a.n g.components all)

pub returns-then-n-eq3 : goal.returns-then-n-eq3
returns-then-n-eq3 c =
    let a = c.args in
    let three : 3 ≡ a.n = omega (arith, c.if-n-eq3.true) in
    colour-rest a.text.now a.n (told_record a.given) 0 c.in_ok-judge_text.ensures refl 0 c.in_ok-judge_bytes.ensures refl _
    (c.judge_bytes-then-n-eq3.ensures ∙ ap (λ (k : ℕ). faults byte_fault (components_in k (told_record a.given))) three)

pub returns : goal.returns
returns c =
    let a = c.args in
    colour-rest a.text.now a.n (told_record a.given) 0 c.in_ok-judge_text.ensures refl 0 c.in_ok-judge_bytes.ensures refl _ c.judge_bytes-3.ensures
