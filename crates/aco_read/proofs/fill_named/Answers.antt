use Prim.Native.Nat.{◌+◌, ◌-◌, ◌*◌}
use mathlib.Core.Path.{refl, sym, ap, ◌∙◌}
use lib.Seq.{sets}
use native.Mathlib.Omega.{arith}
use Rattle.algebra.proofs.Rows.{fill-turn, fill_end}
use Rattle.colour.specs.declared.space.Colour.{Colour}
use Rattle.aco.specs.Reading.{aco, unnamed, zero_colour}
use Rattle.aco.specs.Row.{width, numbers, named_with, row}
use Rattle.aco_read.specs.Table.{records_of}
use Rattle.aco_read.proofs.Filling.{named-colour, count_small, entry_first, length-records, counted-in, counted}
use Rattle.aco_read.proofs.Answers.{row-wide}
use Rattle.aco_read.proofs.fill_named.Goals as goal

pub overflow_mul-p : goal.overflow_mul-p
overflow_mul-p c = let few = count_small c.args.file.now c.args.n 2 c.requires.0 in omega arith

pub overflow_add-p : goal.overflow_add-p
overflow_add-p c = let few = count_small c.args.file.now c.args.n 2 c.requires.0 in omega arith

pub loop-i-init : goal.loop-i-init
loop-i-init c = (omega arith, refl, refl, sym (entry_first _ _))

pub overflow_add-p-in-loop-i : goal.overflow_add-p-in-loop-i
overflow_add-p-in-loop-i c = omega (arith, counted-in c.args.file.now c.args.n 2 c.requires.0 refl c.loop-i.i c.loop-i-test.true c.loop-i.p c.loop-i.invariant.3)

pub colour_in-colour-requires : goal.colour_in-colour-requires
colour_in-colour-requires c =
    named-colour c.args.file.now c.args.n 2 c.requires.0 refl c.loop-i.i c.loop-i-test.true

pub overflow_add-p-in-loop-i-2 : goal.overflow_add-p-in-loop-i-2
overflow_add-p-in-loop-i-2 c = omega (arith, counted c.args.file.now c.args.n 2 c.requires.0 refl c.loop-i.i c.loop-i-test.true c.loop-i.p c.loop-i.invariant.3 _ c.number_or_zero-count.ensures)

pub overflow_cast-p : goal.overflow_cast-p
overflow_cast-p c = omega (arith, counted c.args.file.now c.args.n 2 c.requires.0 refl c.loop-i.i c.loop-i-test.true c.loop-i.p c.loop-i.invariant.3 _ c.number_or_zero-count.ensures)

pub overflow_sub-count : goal.overflow_sub-count
overflow_sub-count c = omega (arith, counted c.args.file.now c.args.n 2 c.requires.0 refl c.loop-i.i c.loop-i-test.true c.loop-i.p c.loop-i.invariant.3 _ c.number_or_zero-count.ensures)

pub overflow_cast-p-in-loop-i : goal.overflow_cast-p-in-loop-i
overflow_cast-p-in-loop-i c = omega (arith, counted c.args.file.now c.args.n 2 c.requires.0 refl c.loop-i.i c.loop-i-test.true c.loop-i.p c.loop-i.invariant.3 _ c.number_or_zero-count.ensures)

pub overflow_mul-p-in-loop-i : goal.overflow_mul-p-in-loop-i
overflow_mul-p-in-loop-i c = omega (arith, counted c.args.file.now c.args.n 2 c.requires.0 refl c.loop-i.i c.loop-i-test.true c.loop-i.p c.loop-i.invariant.3 _ c.number_or_zero-count.ensures)

pub overflow_add-p-in-loop-i-3 : goal.overflow_add-p-in-loop-i-3
overflow_add-p-in-loop-i-3 c = omega (arith, counted c.args.file.now c.args.n 2 c.requires.0 refl c.loop-i.i c.loop-i-test.true c.loop-i.p c.loop-i.invariant.3 _ c.number_or_zero-count.ensures)

pub overflow_add-p-in-loop-i-4 : goal.overflow_add-p-in-loop-i-4
overflow_add-p-in-loop-i-4 c = omega (arith, counted c.args.file.now c.args.n 2 c.requires.0 refl c.loop-i.i c.loop-i-test.true c.loop-i.p c.loop-i.invariant.3 _ c.number_or_zero-count.ensures)

pub loop-i-preserved : goal.loop-i-preserved
loop-i-preserved c =
    let l = c.loop-i in
    let s = c.args.file.now in
    let k = counted c.args.file.now c.args.n 2 c.requires.0 refl c.loop-i.i c.loop-i-test.true c.loop-i.p c.loop-i.invariant.3 _ c.number_or_zero-count.ensures in
    let e = c.put_row.ensures ∙ ap (λ (x : Colour). sets l.table (width * l.i) (numbers (named_with x (l.p + 14) (c.number_or_zero-count.result - 1)))) c.colour_in-colour.ensures in (
      omega arith,
      fill-turn width row (records_of (aco s)) _ l.table l.i l.invariant.1 (unnamed zero_colour) (omega (arith, length-records s c.args.n 2 c.requires.0)) _ _ (ap numbers k.is) (row-wide s (4 + 10 * l.i) _ _) e,
      c.put_row.auto.table ∙ l.invariant.2,
      omega (arith, k.next),
    )

pub shape_of-table : goal.shape_of-table
shape_of-table c = c.loop-i.invariant.2

pub returns : goal.returns
returns c =
    let l = c.loop-i in
    let s = c.args.file.now in
    sym (fill_end width row (records_of (aco s)) _ l.table l.i l.invariant.1 (omega (arith, length-records s c.args.n 2 c.requires.0)))
