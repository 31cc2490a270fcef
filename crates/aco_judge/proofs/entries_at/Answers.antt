use mathlib.Core.Path.{sym, ◌∙◌}
use native.Mathlib.Omega.{arith}
use lib.ListN.{get_or}
use Rattle.aco.specs.Reading.{repeated_field, zero_colour}
use Rattle.aco.specs.scaffold.Raw.{raw_colours}
use Rattle.fault.proofs.Exit.{short}
use Rattle.aco_judge.proofs.Judging.{entry_of, repeat-refused, repeat-differs, repeat-same}
use Rattle.aco_judge.proofs.Repeating.{named, entry-start, entry_named, entry-refused, repeats-same, raw-field}
use Rattle.aco.proofs.Raw.{fields-raw}
use Rattle.algebra.proofs.Laws.{turn-start, turn_end, inner-ok, inner-no, inner-end}
use Rattle.aco_judge.proofs.entries_at.Goals as goal
use Rattle.aco_judge.proofs.entries_at.Goals.{else-records-test, then-records-test+then-loop-f-test+in-Ok+then-v-number_or_zero, then-is_same, else-is_same}

pub records-init : goal.records-init
records-init c = (omega arith, turn-start (entry_of (raw_colours c.args.n c.args.file.now 4)) _ _ _)

pub overflow_add-p : goal.overflow_add-p
overflow_add-p c = let h = (c.is_same.ensures c.if-is_same.true).0 in omega arith

pub loop-f-init : goal.loop-f-init
loop-f-init c =
    let a = c.args in
    let s = a.file.now in
    let cs = raw_colours a.n s 4 in
    let col = get_or cs c.records.i zero_colour in
    let start = entry-start s cs _ a.n c.records.i c.records.p c.records.invariant.1 c.records-test.true in
    elim c.if-is_same.branch [
      | then-is_same w ↦
          let same = c.is_same.ensures w.if-is_same.true in
          rw (w.f-is, w.p-is) (
            omega arith,
            repeats-same s col c.records.i c.records.p _ (named cs a.n s c.records.i) same.0
                (λ f h. same.1 f h ∙ sym (fields-raw a.n s 4 c.records.i f c.records-test.true h)) start,
          )
      | else-is_same w ↦ rw (w.f-is, w.p-is) (omega arith, start)
    ]

pub returns-in_default : goal.returns-in_default
returns-in_default c =
    let l = c.loop-f in
    let a = c.args in
    let cs = raw_colours a.n a.file.now 4 in
    let tw = repeated_field c.records.i (get_or cs c.records.i zero_colour) in
    sym (inner-no tw a.file.now _ (named cs a.n a.file.now c.records.i) 5 l.f l.p l.invariant.1 (omega (arith, c.loop-f-test.true))
    (repeat-refused a.file.now (get_or cs c.records.i zero_colour) c.records.i l.f l.p (short 2 a.file.now l.p c.in_default.ensures)))

pub loop-f-preserved : goal.loop-f-preserved
loop-f-preserved c =
    let l = c.loop-f in
    let a = c.args in
    let cs = raw_colours a.n a.file.now 4 in
    let tw = repeated_field c.records.i (get_or cs c.records.i zero_colour) in
    let same = raw-field a.n a.file.now c.records.i l.f _ (omega arith) (omega arith) (omega arith) c.number_or_zero.ensures in (
      omega arith,
      inner-ok tw a.file.now _ (named cs a.n a.file.now c.records.i) 5 l.f l.p l.invariant.1 (omega (arith, c.loop-f-test.true)) _
          (repeat-same a.file.now (get_or cs c.records.i zero_colour) c.records.i l.f l.p _ _ c.in-Ok.ensures (c.if-v-number_or_zero.false ∙ same)),
    )

pub returns-in-Err : goal.returns-in-Err
returns-in-Err c =
    let a = c.args in
    let l = c.loop-f in
    sym (entry-refused _ (raw_colours a.n a.file.now 4) _ _ _ _ (inner-end _ _ _ _ 5 l.f l.p l.invariant.1 c.loop-f-test.false) (sym c.in-Err.ensures))

pub records-preserved : goal.records-preserved
records-preserved c =
    let a = c.args in
    let l = c.loop-f in
    (omega arith, entry_named _ (raw_colours a.n a.file.now 4) _ _ _ _ (inner-end _ _ _ _ 5 l.f l.p l.invariant.1 c.loop-f-test.false) (sym c.in-Ok-name_at.ensures))

pub returns-then-i-count : goal.returns-then-i-count
returns-then-i-count c =
    let a = c.args in
    let cs = raw_colours a.n a.file.now 4 in
    let tw = repeated_field c.records.i (get_or cs c.records.i zero_colour) in
    elim c.records-test.branch [
      | else-records-test w ↦ absurd (omega arith)
      | then-records-test+then-loop-f-test+in-Ok+then-v-number_or_zero w ↦
          rw (w.f-is, w.p-is) (sym (inner-no tw a.file.now _ (named cs a.n a.file.now c.records.i) 5 w.loop-f.f w.loop-f.p w.loop-f.invariant.1 w.loop-f-test.true
          (repeat-differs a.file.now (get_or cs c.records.i zero_colour) c.records.i w.loop-f.f w.loop-f.p _ _ w.in-Ok.ensures
          (λ e. w.if-v-number_or_zero.true (e ∙ sym (raw-field a.n a.file.now c.records.i w.loop-f.f _ (omega arith) (omega arith) (omega (arith, w.loop-f-test.true)) w.number_or_zero.ensures))))))
    ]

pub returns : goal.returns
returns c =
    let a = c.args in
    let cs = raw_colours a.n a.file.now 4 in
    let tw = repeated_field c.records.i (get_or cs c.records.i zero_colour) in
    elim c.records-test.branch [
      | else-records-test w ↦ rw w.p-is (sym (turn_end (entry_of cs) a.file.now _ a.n c.records.i c.records.p c.records.invariant.1 w.records-test.false))
      | then-records-test+then-loop-f-test+in-Ok+then-v-number_or_zero w ↦ absurd (omega arith)
    ]
