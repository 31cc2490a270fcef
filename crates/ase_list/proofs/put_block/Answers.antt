use mathlib.Core.Path.{◌≡◌, refl}
use Rattle.std.specs.Prelude.{Some, None}
use Rattle.listing.specs.Buffer.{put_all}
use Rattle.ase_read.specs.declared.Record.TheVariants.{GroupStart, Colour}
use Rattle.ase_list.proofs.Listed.{put-group, put-shown}
use Rattle.ase_list.proofs.put_block.Goals as goal

pub returns-in-Ok-Some-GroupStart : goal.returns-in-Ok-Some-GroupStart
returns-in-Ok-Some-GroupStart c =
    let a = c.args in
    let b = c.in-Ok-Some-GroupStart in
    let e : b.field-0 ≡ Some b.field-0-0 = rw b.is at b.field-0-is in
    let f : b.field-0-0 ≡ GroupStart b.place b.units = rw e at (rw b.is at b.field-0-0-is) in
    rw (b.is, e, f) (put-group a.file.now (a.out.now, a.n) b.place b.units c.name_part.ensures c.put_text-at.ensures c.put_name.ensures)

pub returns-in-Ok-Some-Colour : goal.returns-in-Ok-Some-Colour
returns-in-Ok-Some-Colour c =
    let a = c.args in
    let b = c.in-Ok-Some-Colour in
    let e : b.field-0 ≡ Some b.field-0-0 = rw b.is at b.field-0-is in
    let f : b.field-0-0 ≡ Colour b.given = rw e at (rw b.is at b.field-0-0-is) in
    rw (b.is, e, f) (put-shown a.file.now (a.out.now, a.n) b.given c.put_text-at-in-Ok-Some-Colour.ensures c.put_colour.ensures)

pub returns-in-Ok-None : goal.returns-in-Ok-None
unfolding put_all
returns-in-Ok-None c =
    let b = c.in-Ok-None in
    let e : b.field-0 ≡ None = rw b.is at b.field-0-is in
    rw (b.is, e) refl

pub returns-in-Err : goal.returns-in-Err
unfolding put_all
returns-in-Err c = rw c.in-Err.is refl
