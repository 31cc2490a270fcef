use mathlib.Core.Path.{refl, sym, ap, ◌∙◌}
use native.Mathlib.Omega.{arith}
use native.Mathlib.Nat.{add-zero}
use Rattle.descriptor_entry.specs.Shapes.{id_length}
use Rattle.descriptor_entry.specs.declared.Field.TheVariants as f
use Rattle.descriptor_entries_read.proofs.Stored.{room_as, put_as}
use Rattle.descriptor_entries_read.proofs.put_field.Goals as goal

pub put_word-requires : goal.put_word-requires
put_word-requires c =
    let a = c.args in
    let p = c.requires in
    (p.0, room_as a.file.now a.at a.field (f.Word _) c.in-Word.is p.1)

pub put_word-requires-in-Measure : goal.put_word-requires-in-Measure
put_word-requires-in-Measure c =
    let a = c.args in
    let p = c.requires in
    (p.0, room_as a.file.now a.at a.field f.Measure c.in-Measure.is p.1)

pub put_word-requires-in-ArrayMeasure : goal.put_word-requires-in-ArrayMeasure
put_word-requires-in-ArrayMeasure c =
    let a = c.args in
    let p = c.requires in
    (p.0, room_as a.file.now a.at a.field f.ArrayMeasure c.in-ArrayMeasure.is p.1)

pub put_flag-requires : goal.put_flag-requires
put_flag-requires c =
    let a = c.args in
    let p = c.requires in
    (p.0, room_as a.file.now a.at a.field f.Flag c.in-Flag.is p.1)

pub put_wide-requires : goal.put_wide-requires
put_wide-requires c =
    let a = c.args in
    let p = c.requires in
    (p.0, room_as a.file.now a.at a.field f.Wide c.in-Wide.is p.1)

pub put_wide-requires-in-Double : goal.put_wide-requires-in-Double
put_wide-requires-in-Double c =
    let a = c.args in
    let p = c.requires in
    (p.0, room_as a.file.now a.at a.field f.Double c.in-Double.is p.1)

pub put_part-requires : goal.put_part-requires
put_part-requires c =
    let a = c.args in
    let p = c.requires in
    let l = room_as a.file.now a.at a.field (f.Id _) c.in-Id.is p.1 in
    (p.0, omega (arith, l), p.2)

pub put_part-requires-in-Text : goal.put_part-requires-in-Text
put_part-requires-in-Text c =
    let a = c.args in
    let p = c.requires in
    let l = room_as a.file.now a.at a.field (f.Text _) c.in-Text.is p.1 in
    (p.0, omega (arith, l), p.2)

pub put_part-requires-in-Run : goal.put_part-requires-in-Run
put_part-requires-in-Run c =
    let a = c.args in
    let p = c.requires in
    let l = room_as a.file.now a.at a.field (f.Run _) c.in-Run.is p.1 in
    (p.0, omega (arith, l), p.2)

pub put_part-requires-in-Doubles : goal.put_part-requires-in-Doubles
put_part-requires-in-Doubles c =
    let a = c.args in
    let p = c.requires in
    let l = room_as a.file.now a.at a.field (f.Doubles _) c.in-Doubles.is p.1 in
    (p.0, omega (arith, l), p.2)

pub returns-in-Nothing : goal.returns-in-Nothing
returns-in-Nothing c =
    let a = c.args in
    put_as a.file.now a.at a.field f.Nothing c.in-Nothing.is a.entry.now _ _ (refl) (sym (add-zero a.at))

pub returns-in-Word : goal.returns-in-Word
returns-in-Word c =
    let a = c.args in
    put_as a.file.now a.at a.field (f.Word _) c.in-Word.is a.entry.now _ _ c.put_word.ensures.0 c.put_word.ensures.1

pub returns-in-Measure : goal.returns-in-Measure
returns-in-Measure c =
    let a = c.args in
    put_as a.file.now a.at a.field f.Measure c.in-Measure.is a.entry.now _ _ c.put_word-in-Measure.ensures.0 c.put_word-in-Measure.ensures.1

pub returns-in-ArrayMeasure : goal.returns-in-ArrayMeasure
returns-in-ArrayMeasure c =
    let a = c.args in
    put_as a.file.now a.at a.field f.ArrayMeasure c.in-ArrayMeasure.is a.entry.now _ _ c.put_word-in-ArrayMeasure.ensures.0 c.put_word-in-ArrayMeasure.ensures.1

pub returns-in-Flag : goal.returns-in-Flag
returns-in-Flag c =
    let a = c.args in
    put_as a.file.now a.at a.field f.Flag c.in-Flag.is a.entry.now _ _ c.put_flag.ensures.0 c.put_flag.ensures.1

pub returns-in-Wide : goal.returns-in-Wide
returns-in-Wide c =
    let a = c.args in
    put_as a.file.now a.at a.field f.Wide c.in-Wide.is a.entry.now _ _ c.put_wide.ensures.0 c.put_wide.ensures.1

pub returns-in-Double : goal.returns-in-Double
returns-in-Double c =
    let a = c.args in
    put_as a.file.now a.at a.field f.Double c.in-Double.is a.entry.now _ _ c.put_wide-in-Double.ensures.0 c.put_wide-in-Double.ensures.1

pub returns-in-Id : goal.returns-in-Id
returns-in-Id c =
    let a = c.args in
    let z = c.id_length.ensures.0 ∙ ap id_length c.put_part.ensures.1 in
    put_as a.file.now a.at a.field (f.Id _) c.in-Id.is a.entry.now _ _ c.put_part.ensures.0 (omega (arith, z))

pub returns-in-Text : goal.returns-in-Text
returns-in-Text c =
    let a = c.args in
    let y = c.put_part-in-Text.ensures.1 in
    put_as a.file.now a.at a.field (f.Text _) c.in-Text.is a.entry.now _ _ c.put_part-in-Text.ensures.0 (omega (arith, y))

pub returns-in-Run : goal.returns-in-Run
returns-in-Run c =
    let a = c.args in
    let y = c.put_part-in-Run.ensures.1 in
    put_as a.file.now a.at a.field (f.Run _) c.in-Run.is a.entry.now _ _ c.put_part-in-Run.ensures.0 (omega (arith, y))

pub returns-in-Doubles : goal.returns-in-Doubles
returns-in-Doubles c =
    let a = c.args in
    let y = c.put_part-in-Doubles.ensures.1 in
    put_as a.file.now a.at a.field (f.Doubles _) c.in-Doubles.is a.entry.now _ _ c.put_part-in-Doubles.ensures.0 (omega (arith, y))
