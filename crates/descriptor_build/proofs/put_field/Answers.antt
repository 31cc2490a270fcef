use Prim.Native.Nat.{ℕ, ◌*◌}
use mathlib.Core.Path.{refl, ap, ◌∙◌}
use Rattle.descriptor_build.proofs.Puts as P
use Rattle.descriptor_entry.specs.declared.Field.TheVariants as f
use Rattle.descriptor_entry.specs.Shapes.{id_length}
use Rattle.descriptor_build.proofs.put_field.Goals as goal

pub put_word-requires : goal.put_word-requires
put_word-requires c =
    let a = c.args in
    P.room-number a.text.now a.row.now 4 _ _ a.at _ (P.ready-as a.text.now a.row.now a.field (f.Word _) a.at _ c.in-Word.is c.requires)

pub put_word-requires-in-Measure : goal.put_word-requires-in-Measure
put_word-requires-in-Measure c =
    let a = c.args in
    P.room-number a.text.now a.row.now 4 _ _ a.at _ (P.ready-as a.text.now a.row.now a.field f.Measure a.at _ c.in-Measure.is c.requires)

pub put_word-requires-in-ArrayMeasure : goal.put_word-requires-in-ArrayMeasure
put_word-requires-in-ArrayMeasure c =
    let a = c.args in
    P.room-number a.text.now a.row.now 4 _ _ a.at _ (P.ready-as a.text.now a.row.now a.field f.ArrayMeasure a.at _ c.in-ArrayMeasure.is c.requires)

pub put_flag-requires : goal.put_flag-requires
put_flag-requires c =
    let a = c.args in
    P.room-flag a.text.now a.row.now _ a.at _ c.number_in-in-Flag.ensures (P.ready-as a.text.now a.row.now a.field f.Flag a.at _ c.in-Flag.is c.requires)

pub put_wide-requires : goal.put_wide-requires
put_wide-requires c =
    let a = c.args in
    P.room-number a.text.now a.row.now 8 _ _ a.at _ (P.ready-as a.text.now a.row.now a.field f.Wide a.at _ c.in-Wide.is c.requires)

pub put_wide-requires-in-Double : goal.put_wide-requires-in-Double
put_wide-requires-in-Double c =
    let a = c.args in
    P.room-number a.text.now a.row.now 8 _ _ a.at _ (P.ready-as a.text.now a.row.now a.field f.Double a.at _ c.in-Double.is c.requires)

pub put_part-requires : goal.put_part-requires
put_part-requires c =
    let a = c.args in
    P.room-id a.text.now a.row.now _ _ _ a.at _ (c.id_length.ensures.0 ∙ ap id_length c.number_in-in-Id.ensures) refl (P.ready-as a.text.now a.row.now a.field (f.Id _) a.at _ c.in-Id.is c.requires)

pub put_part-requires-in-Text : goal.put_part-requires-in-Text
put_part-requires-in-Text c =
    let a = c.args in
    P.room-text a.text.now a.row.now _ _ _ a.at _ (ap (λ (z : ℕ). 2 * z) c.number_in-in-Text.ensures) refl (P.ready-as a.text.now a.row.now a.field (f.Text _) a.at _ c.in-Text.is c.requires)

pub put_part-requires-in-Run : goal.put_part-requires-in-Run
put_part-requires-in-Run c =
    let a = c.args in
    P.room-run a.text.now a.row.now _ _ _ a.at _ c.number_in-in-Run.ensures refl (P.ready-as a.text.now a.row.now a.field (f.Run _) a.at _ c.in-Run.is c.requires)

pub put_part-requires-in-Doubles : goal.put_part-requires-in-Doubles
put_part-requires-in-Doubles c =
    let a = c.args in
    P.room-doubles a.text.now a.row.now _ _ _ a.at _ (ap (λ (z : ℕ). 8 * z) c.number_in-in-Doubles.ensures) refl (P.ready-as a.text.now a.row.now a.field (f.Doubles _) a.at _ c.in-Doubles.is c.requires)

pub returns-in-Nothing : goal.returns-in-Nothing
returns-in-Nothing c =
    let a = c.args in
    P.stored-as a.text.now a.row.now a.field f.Nothing a.out.now a.at _ _ c.in-Nothing.is (P.stored-none a.text.now a.out.now a.at)

pub returns-in-Word : goal.returns-in-Word
returns-in-Word c =
    let a = c.args in
    P.stored-as a.text.now a.row.now a.field (f.Word _) a.out.now a.at _ _ c.in-Word.is (P.stored-word a.text.now a.row.now a.out.now a.at _ _ 4 _ _ _ c.number_in.ensures c.put_word.ensures.0 c.put_word.ensures.1)

pub returns-in-Measure : goal.returns-in-Measure
returns-in-Measure c =
    let a = c.args in
    P.stored-as a.text.now a.row.now a.field f.Measure a.out.now a.at _ _ c.in-Measure.is (P.stored-word a.text.now a.row.now a.out.now a.at _ _ 4 _ _ _ c.number_in-in-Measure.ensures c.put_word-in-Measure.ensures.0 c.put_word-in-Measure.ensures.1)

pub returns-in-ArrayMeasure : goal.returns-in-ArrayMeasure
returns-in-ArrayMeasure c =
    let a = c.args in
    P.stored-as a.text.now a.row.now a.field f.ArrayMeasure a.out.now a.at _ _ c.in-ArrayMeasure.is (P.stored-word a.text.now a.row.now a.out.now a.at _ _ 4 _ _ _ c.number_in-in-ArrayMeasure.ensures c.put_word-in-ArrayMeasure.ensures.0 c.put_word-in-ArrayMeasure.ensures.1)

pub returns-in-Flag : goal.returns-in-Flag
returns-in-Flag c =
    let a = c.args in
    P.stored-as a.text.now a.row.now a.field f.Flag a.out.now a.at _ _ c.in-Flag.is (P.stored-word a.text.now a.row.now a.out.now a.at _ _ 1 _ _ _ c.number_in-in-Flag.ensures c.put_flag.ensures.0 c.put_flag.ensures.1)

pub returns-in-Wide : goal.returns-in-Wide
returns-in-Wide c =
    let a = c.args in
    P.stored-as a.text.now a.row.now a.field f.Wide a.out.now a.at _ _ c.in-Wide.is (P.stored-wide a.text.now a.row.now a.out.now a.at _ _ _ _ _ c.number_in-in-Wide.ensures c.number_in-in-Wide-2.ensures c.put_wide.ensures.0 c.put_wide.ensures.1)

pub returns-in-Double : goal.returns-in-Double
returns-in-Double c =
    let a = c.args in
    P.stored-as a.text.now a.row.now a.field f.Double a.out.now a.at _ _ c.in-Double.is (P.stored-wide a.text.now a.row.now a.out.now a.at _ _ _ _ _ c.number_in-in-Double.ensures c.number_in-in-Double-2.ensures c.put_wide-in-Double.ensures.0 c.put_wide-in-Double.ensures.1)

pub returns-in-Id : goal.returns-in-Id
returns-in-Id c =
    let a = c.args in
    P.stored-as a.text.now a.row.now a.field (f.Id _) a.out.now a.at _ _ c.in-Id.is (P.stored-id a.text.now a.row.now a.out.now a.at _ _ _ _ _ _ refl (c.id_length.ensures.0 ∙ ap id_length c.number_in-in-Id.ensures) refl c.put_part.ensures.0 c.put_part.ensures.1)

pub returns-in-Text : goal.returns-in-Text
returns-in-Text c =
    let a = c.args in
    P.stored-as a.text.now a.row.now a.field (f.Text _) a.out.now a.at _ _ c.in-Text.is (P.stored-text a.text.now a.row.now a.out.now a.at _ _ _ _ _ _ refl (ap (λ (z : ℕ). 2 * z) c.number_in-in-Text.ensures) refl c.put_part-in-Text.ensures.0 c.put_part-in-Text.ensures.1)

pub returns-in-Run : goal.returns-in-Run
returns-in-Run c =
    let a = c.args in
    P.stored-as a.text.now a.row.now a.field (f.Run _) a.out.now a.at _ _ c.in-Run.is (P.stored-run a.text.now a.row.now a.out.now a.at _ _ _ _ _ _ refl c.number_in-in-Run.ensures refl c.put_part-in-Run.ensures.0 c.put_part-in-Run.ensures.1)

pub returns-in-Doubles : goal.returns-in-Doubles
returns-in-Doubles c =
    let a = c.args in
    P.stored-as a.text.now a.row.now a.field (f.Doubles _) a.out.now a.at _ _ c.in-Doubles.is (P.stored-doubles a.text.now a.row.now a.out.now a.at _ _ _ _ _ _ refl (ap (λ (z : ℕ). 8 * z) c.number_in-in-Doubles.ensures) refl c.put_part-in-Doubles.ensures.0 c.put_part-in-Doubles.ensures.1)
