use Prim.Native.Nat.{◌+◌, ◌*◌}
use mathlib.Core.Path.{◌≡◌, refl, sym, ap, ◌∙◌, subst₂}
use lib.ListN.{length}
use lib.Seq.{sets}
use native.Mathlib.Omega.{arith}
use Rattle.algebra.proofs.Table.{whole_in}
use Rattle.aco.specs.Grammar.{entry_bytes}
use Rattle.aco.specs.Row.{RecordRow, width, taken, empty_record}
use Rattle.aco_writing.specs.Writing.{swatch_in}
use Rattle.aco_write_judge.specs.scaffold.Parts.{EntryFits}
use Rattle.aco_write_judge.proofs.Judging.{given_at, fit-start, fit_next, fit-rest}
use Rattle.aco_write.proofs.Puts.{puts-start, puts-turn, puts-end, length-entry}
use Rattle.aco_write.proofs.put_entries.Goals as goal

pub loop-i-init : goal.loop-i-init
loop-i-init c =
    let a = c.args in
    (omega arith, puts-start a.run.now (swatch_in a.text.now) entry_bytes _ a.out.now a.n 0 a.at refl, fit-start a.text.now a.run.now a.n a.at _ c.requires.1, refl)

pub put_entry-requires : goal.put_entry-requires
put_entry-requires c =
    let l = c.loop-i in
    let a = c.args in
    let w = whole_in width taken a.run.now empty_record l.i (omega (arith, c.requires.0, c.loop-i-test.true)) in
    let f = fit_next a.text.now a.run.now a.n l.i l.p (length a.out.now) c.loop-i-test.true l.invariant.2 in
    subst₂ (λ g n. EntryFits a.text.now g l.p n) (sym (c.record_at-given.ensures ∙ w)) (sym l.invariant.3) f

pub overflow_add-p-in-loop-i : goal.overflow_add-p-in-loop-i
overflow_add-p-in-loop-i c =
    let l = c.loop-i in
    let a = c.args in
    let tk = c.loop-i-test.true in
    let r = c.record_at-given.ensures ∙ whole_in width taken a.run.now empty_record l.i (omega (arith, c.requires.0, tk)) in
    let u = ap (λ (g : RecordRow). g.units) r in
    omega (arith, fit_next a.text.now a.run.now a.n l.i l.p (length a.out.now) tk l.invariant.2, u)

pub loop-i-preserved : goal.loop-i-preserved
loop-i-preserved c =
    let l = c.loop-i in
    let a = c.args in
    let tk = c.loop-i-test.true in
    let r = c.record_at-given.ensures ∙ whole_in width taken a.run.now empty_record l.i (omega (arith, c.requires.0, tk)) in
    let u = ap (λ (g : RecordRow). g.units) r in
    let w : 16 + 2 * (given_at a.run.now l.i).units ≡ 16 + 2 * c.record_at-given.result.units = omega (arith, u) in
    let pe = c.put_entry in (
      omega arith,
      puts-turn a.run.now (swatch_in a.text.now) entry_bytes _ l.out a.n l.i l.p l.invariant.1 tk _ _ (length-entry a.text.now (given_at a.run.now l.i) refl ∙ w) (pe.ensures ∙ ap (λ g. sets l.out l.p (entry_bytes (swatch_in a.text.now g))) r),
      fit-rest a.text.now a.run.now a.n l.i l.p (length a.out.now) tk l.invariant.2 _ w,
      pe.auto.out ∙ l.invariant.3,
    )

pub shape_of-out : goal.shape_of-out
shape_of-out c = c.loop-i.invariant.3

pub returns : goal.returns
returns c =
    let l = c.loop-i in
    let a = c.args in
    puts-end a.run.now (swatch_in a.text.now) entry_bytes _ l.out a.n l.i l.p l.invariant.1 c.loop-i-test.false
