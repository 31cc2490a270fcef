use mathlib.Core.Path.{refl, ap, ◌∙◌}
use native.Mathlib.Omega.{arith}
use Rattle.resource_write.proofs.Puts.{made-front}
use Rattle.fault.proofs.Exit.{written-exit}
use Rattle.algebra.specs.Writing.{Outcome}
use Rattle.resource.specs.Grammar.{section_bytes}
use Rattle.resource_writing.specs.Writing.{given, block_by_row, sizes, fault}
use mathlib.Core.List.{map}
use Rattle.resource_write_judge.proofs.Judging.{no-fault}
use Rattle.algebra.proofs.Writing.{needs-inv, writes-no, writes-none, writes-all}
use Rattle.resource_write.proofs.write.Goals as goal

pub returns-in_err-size : goal.returns-in_err-size
returns-in_err-size c =
    let a = c.args in
    let t = a.text.now in
    let rs = given a.records.now in
    ap (λ (w : Outcome). (w, a.out.now)) (written-exit _ _ c.from_residual.ensures.1 refl)
    ∙ writes-no (fault t rs) (sizes rs) (section_bytes (map (block_by_row t) rs)) a.out.now _ c.in_err-size.ensures

pub returns-then-out-size : goal.returns-then-out-size
returns-then-out-size c =
    let a = c.args in
    let t = a.text.now in
    let rs = given a.records.now in
    writes-none (fault t rs) (sizes rs) (section_bytes (map (block_by_row t) rs)) a.out.now _ c.in_ok-size.ensures c.if-out-size.true

pub put_blocks-requires : goal.put_blocks-requires
put_blocks-requires c =
    let a = c.args in
    let t = a.text.now in
    let rs = given a.records.now in
    let w = needs-inv (fault t rs) (sizes rs) _ c.in_ok-size.ensures in
    let f = no-fault t rs w.0 in
    (omega arith, record { inside = omega (arith, w.1, c.if-out-size.false); short = f.0; sound = f.1 })

pub returns : goal.returns
returns c =
    let a = c.args in
    let t = a.text.now in
    let rs = given a.records.now in
    let q = c.in_ok-size.ensures in
    let w = needs-inv (fault t rs) (sizes rs) _ q in
    let room = c.if-out-size.false in
    writes-all (fault t rs) (sizes rs) (section_bytes (map (block_by_row t) rs)) a.out.now _ q room _ (made-front t rs (no-fault t rs w.0).1 a.out.now _ (omega (arith, w.1, room)) c.put_blocks.ensures)
