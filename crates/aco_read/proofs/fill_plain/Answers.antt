use Prim.Native.Nat.{◌+◌, ◌*◌}
use mathlib.Core.Path.{refl, sym, ap, ◌∙◌}
use lib.Seq.{sets}
use native.Mathlib.Omega.{arith}
use Rattle.algebra.proofs.Rows.{fill-turn, fill_end}
use Rattle.colour.specs.declared.space.Colour.{Colour}
use Rattle.aco.specs.Reading.{aco, unnamed, zero_colour}
use Rattle.aco.specs.Row.{width, numbers, named_with, row}
use Rattle.aco_read.specs.Table.{records_of}
use Rattle.aco_read.proofs.Filling.{plain_in, plain-is, length-records}
use Rattle.aco_read.proofs.Answers.{row-wide}
use Rattle.aco_read.proofs.fill_plain.Goals as goal

pub loop-i-init : goal.loop-i-init
loop-i-init c = (omega arith, refl, refl)

pub colour_in-requires : goal.colour_in-requires
colour_in-requires c =
    plain_in c.args.file.now c.args.n 1 c.requires.0 refl c.loop-i.i c.loop-i-test.true

pub loop-i-preserved : goal.loop-i-preserved
loop-i-preserved c =
    let l = c.loop-i in
    let a = c.args in
    let s = a.file.now in
    let e = c.put_row.ensures ∙ ap (λ (k : Colour). sets l.table (width * l.i) (numbers (named_with k 0 0))) c.colour_in.ensures in (
      omega arith,
      fill-turn width row (records_of (aco s)) _ l.table l.i l.invariant.1 (unnamed zero_colour) (omega (arith, length-records s a.n 1 c.requires.0)) _ _
          (ap numbers (plain-is s a.n 1 c.requires.0 refl l.i c.loop-i-test.true)) (row-wide s (4 + 10 * l.i) 0 0) e,
      c.put_row.auto.table ∙ l.invariant.2,
    )

pub shape_of-table : goal.shape_of-table
shape_of-table c = c.loop-i.invariant.2

pub returns : goal.returns
returns c =
    let l = c.loop-i in
    let s = c.args.file.now in
    sym (fill_end width row (records_of (aco s)) _ l.table l.i l.invariant.1 (omega (arith, length-records s c.args.n 1 c.requires.0)))
