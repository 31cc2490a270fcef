use mathlib.Core.Path.{refl, sym, ap, ◌∙◌}
use native.Mathlib.Omega.{arith}
use Rattle.ase.specs.Reading.{group_end_read, ase}
use Rattle.ase.specs.Row.{width, numbers}
use Rattle.ase_read.specs.Table.{row}
use Rattle.ase_read.specs.Table.{entries_of}
use Rattle.ase_read.specs.scaffold.Raw.{raw_row}
use Rattle.ase_read.proofs.Filling.{place-first, length-entries, count_small, here}
use Rattle.algebra.proofs.Rows.{fill-turn, fill_end}
use Rattle.ase_read.proofs.fill.Goals as goal

pub loop-i-init : goal.loop-i-init
loop-i-init c = (omega arith, refl, refl, sym (place-first _))

pub block_end-end-requires : goal.block_end-end-requires
block_end-end-requires c = let h = here c.args.file.now c.args.n c.requires.0 c.loop-i.i c.loop-i-test.true c.loop-i.at c.loop-i.invariant.3 in (h.inside, h.short)

pub overflow_mul-i : goal.overflow_mul-i
overflow_mul-i c =
    omega (arith, c.loop-i-test.true, count_small c.args.file.now c.args.n c.requires.0)

pub put_row-requires : goal.put_row-requires
put_row-requires c =
    let b = c.block_end-end in
    let h = here c.args.file.now c.args.n c.requires.0 c.loop-i.i c.loop-i-test.true c.loop-i.at c.loop-i.invariant.3 in
    (omega (arith, b.ensures), omega (arith, b.ensures, h.inside), h.short, omega (arith, c.loop-i-test.true, c.loop-i.invariant.2, c.requires.1))

pub loop-i-preserved : goal.loop-i-preserved
loop-i-preserved c =
    let b = c.block_end-end in
    let l = c.loop-i in
    let s = c.args.file.now in
    let k = here c.args.file.now c.args.n c.requires.0 c.loop-i.i c.loop-i-test.true c.loop-i.at c.loop-i.invariant.3 in (
      omega (arith, c.loop-i-test.true),
      fill-turn width row (entries_of (ase s)) _ l.table l.i l.invariant.1 group_end_read (omega (arith, c.loop-i-test.true, length-entries s c.args.n c.requires.0)) _ _
          (ap numbers k.is_row ∙ ap (raw_row s l.at) (sym b.ensures)) refl c.put_row.ensures,
      c.put_row.auto.table ∙ l.invariant.2,
      b.ensures ∙ k.next,
    )

pub shape_of-table : goal.shape_of-table
shape_of-table c = c.loop-i.invariant.2

pub returns : goal.returns
returns c =
    let l = c.loop-i in
    let s = c.args.file.now in
    sym (fill_end width row (entries_of (ase s)) _ l.table l.i l.invariant.1 (omega (arith, c.loop-i-test.false, length-entries s c.args.n c.requires.0)))
