use mathlib.Core.Path.{refl}
use native.Mathlib.Omega.{arith}
use Rattle.descriptor_entry_judge.proofs.Judging as J
use Rattle.descriptor_entry.specs.declared.Field.TheVariants as f
use Rattle.descriptor_entry_judge.proofs.some_size.Goals as goal

pub returns-in-Nothing : goal.returns-in-Nothing
returns-in-Nothing c =
    let a = c.args in
    J.sized a.row.now a.field f.Nothing c.in-Nothing.is 0 (J.size_none a.row.now) (omega arith)

pub returns-in-Word : goal.returns-in-Word
returns-in-Word c =
    let a = c.args in
    J.sized a.row.now a.field (f.Word _) c.in-Word.is 4 (J.size_number 4 _ 0) (omega arith)

pub returns-in-Measure : goal.returns-in-Measure
returns-in-Measure c =
    let a = c.args in
    J.sized a.row.now a.field f.Measure c.in-Measure.is 4 (J.size_number 4 _ _) (omega arith)

pub returns-in-ArrayMeasure : goal.returns-in-ArrayMeasure
returns-in-ArrayMeasure c =
    let a = c.args in
    J.sized a.row.now a.field f.ArrayMeasure c.in-ArrayMeasure.is 4 (J.size_number 4 _ _) (omega arith)

pub returns-in-Flag : goal.returns-in-Flag
returns-in-Flag c =
    let a = c.args in
    J.sized a.row.now a.field f.Flag c.in-Flag.is 1 (J.size_number 1 _ _) (omega arith)

pub returns-in-Wide : goal.returns-in-Wide
returns-in-Wide c =
    let a = c.args in
    J.sized a.row.now a.field f.Wide c.in-Wide.is 8 (J.size_number 8 _ _) (omega arith)

pub returns-in-Double : goal.returns-in-Double
returns-in-Double c =
    let a = c.args in
    J.sized a.row.now a.field f.Double c.in-Double.is 8 (J.size_number 8 _ _) (omega arith)

pub returns-in-Id : goal.returns-in-Id
returns-in-Id c =
    let a = c.args in
    J.sized a.row.now a.field (f.Id _) c.in-Id.is _ (J.size-id a.row.now _ _ _ _ c.number_in.ensures c.id_length.ensures.0 refl) (omega (arith, c.id_length.ensures.1))

pub returns-in-Text : goal.returns-in-Text
returns-in-Text c =
    let a = c.args in
    J.sized a.row.now a.field (f.Text _) c.in-Text.is _ (J.size-text a.row.now _ _ _ c.number_in-in-Text.ensures refl) (omega arith)

pub returns-in-Run : goal.returns-in-Run
returns-in-Run c =
    let a = c.args in
    J.sized a.row.now a.field (f.Run _) c.in-Run.is _ (J.size-run a.row.now _ _ _ c.number_in-in-Run.ensures refl) (omega arith)

pub returns-in-Doubles : goal.returns-in-Doubles
returns-in-Doubles c =
    let a = c.args in
    J.sized a.row.now a.field (f.Doubles _) c.in-Doubles.is _ (J.size-doubles a.row.now _ _ _ c.number_in-in-Doubles.ensures refl) (omega arith)
