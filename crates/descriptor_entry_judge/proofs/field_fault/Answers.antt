use Rattle.descriptor_entry_judge.proofs.Judging as J
use Rattle.descriptor_entry.specs.declared.Field.TheVariants as f
use Rattle.descriptor_entry_judge.proofs.field_fault.Goals as goal

pub returns-in-Nothing : goal.returns-in-Nothing
returns-in-Nothing c =
    let a = c.args in
    J.faulty a.text.now a.objects a.row.now a.field f.Nothing c.in-Nothing.is _ (J.fault-none a.text.now a.objects a.row.now)

pub returns-in-Word : goal.returns-in-Word
returns-in-Word c =
    let a = c.args in
    J.faulty a.text.now a.objects a.row.now a.field (f.Word _) c.in-Word.is _ (J.word-fault a.text.now a.objects a.row.now _)

pub returns-in-Measure : goal.returns-in-Measure
returns-in-Measure c =
    let a = c.args in
    J.faulty a.text.now a.objects a.row.now a.field f.Measure c.in-Measure.is _ (J.measure-fault a.text.now a.objects a.row.now _ _ c.number_in.ensures c.unit_fault.ensures)

pub returns-in-ArrayMeasure : goal.returns-in-ArrayMeasure
returns-in-ArrayMeasure c =
    let a = c.args in
    J.faulty a.text.now a.objects a.row.now a.field f.ArrayMeasure c.in-ArrayMeasure.is _ (J.array-measure-fault a.text.now a.objects a.row.now _ _ c.number_in-in-ArrayMeasure.ensures c.array_unit_fault.ensures)

pub returns-in-Flag : goal.returns-in-Flag
returns-in-Flag c =
    let a = c.args in
    J.faulty a.text.now a.objects a.row.now a.field f.Flag c.in-Flag.is _ (J.flag-fault a.text.now a.objects a.row.now _ _ c.number_in-in-Flag.ensures c.flag_fault.ensures)

pub returns-in-Wide : goal.returns-in-Wide
returns-in-Wide c =
    let a = c.args in
    J.faulty a.text.now a.objects a.row.now a.field f.Wide c.in-Wide.is _ (J.wide-fault a.text.now a.objects a.row.now)

pub returns-in-Double : goal.returns-in-Double
returns-in-Double c =
    let a = c.args in
    J.faulty a.text.now a.objects a.row.now a.field f.Double c.in-Double.is _ (J.double-fault a.text.now a.objects a.row.now _ _ _ c.number_in-in-Double.ensures c.number_in-in-Double-2.ensures c.double_fault.ensures)

pub returns-in-Id : goal.returns-in-Id
returns-in-Id c =
    let a = c.args in
    J.faulty a.text.now a.objects a.row.now a.field (f.Id _) c.in-Id.is _ (J.id-fault a.text.now a.objects a.row.now _ _ _ _ _ c.number_in-in-Id.ensures c.place_in.ensures.0 c.id_length.ensures.0 c.run_fault.ensures)

pub returns-in-Text : goal.returns-in-Text
returns-in-Text c =
    let a = c.args in
    J.faulty a.text.now a.objects a.row.now a.field (f.Text _) c.in-Text.is _ (J.text-fault a.text.now a.objects a.row.now _ _ _ _ c.number_in-in-Text.ensures c.place_in-in-Text.ensures.0 c.units_fault.ensures)

pub returns-in-Run : goal.returns-in-Run
returns-in-Run c =
    let a = c.args in
    J.faulty a.text.now a.objects a.row.now a.field (f.Run _) c.in-Run.is _ (J.run-fault a.text.now a.objects a.row.now _ _ _ _ c.number_in-in-Run.ensures c.place_in-in-Run.ensures.0 c.run_fault-in-Run.ensures)

pub returns-in-Doubles : goal.returns-in-Doubles
returns-in-Doubles c =
    let a = c.args in
    J.faulty a.text.now a.objects a.row.now a.field (f.Doubles _) c.in-Doubles.is _ (J.doubles-fault a.text.now a.objects a.row.now _ _ _ _ c.number_in-in-Doubles.ensures c.place_in-in-Doubles.ensures.0 c.column_fault.ensures)
