use Rattle.descriptor_replace.proofs.Rows as R
use Rattle.algebra.proofs.Storing.{length-kept}
use native.Mathlib.Omega.{arith}
use mathlib.Core.Path.{refl, sym, ap, ◌∙◌}
use Rattle.algebra.specs.Writing.{Outcome}
use Rattle.fault.proofs.Exit.{written-exit}
use Rattle.descriptor_replace.proofs.Values.{numbered}
use Rattle.descriptor_replace.proofs.replace_row.Goals as goal

pub returns-then-rows-row : goal.returns-then-rows-row
returns-then-rows-row c =
    let a = c.args in
    let t = c.requires in
    R.no_row a.file.now a.first.now a.size.now a.kind.now a.rows t a.row a.value a.out.now c.if-rows-row.true

pub offset_bounds-kind-row : goal.offset_bounds-kind-row
offset_bounds-kind-row c =
    let a = c.args in
    let t = c.requires in
    let l = c.if-rows-row.false in
    let m = R.room a.file.now a.first.now a.size.now a.kind.now a.rows t a.row a.value a.out.now in
    omega (arith, l, m.3)

pub bounds-kind-row : goal.bounds-kind-row
bounds-kind-row c =
    let a = c.args in
    let t = c.requires in
    let l = c.if-rows-row.false in
    let m = R.room a.file.now a.first.now a.size.now a.kind.now a.rows t a.row a.value a.out.now in
    omega (arith, l, m.2)

pub returns-then-not-is_kind : goal.returns-then-not-is_kind
returns-then-not-is_kind c =
    let a = c.args in
    let t = c.requires in
    let l = c.if-rows-row.false in
    let m = R.room a.file.now a.first.now a.size.now a.kind.now a.rows t a.row a.value a.out.now in
    R.other-kind a.file.now a.first.now a.size.now a.kind.now a.rows t a.row a.value a.out.now l (sym c.if-not-is_kind.true ∙ c.is_kind.ensures)

pub returns-in_err-judge : goal.returns-in_err-judge
returns-in_err-judge c =
    let a = c.args in
    let t = c.requires in
    let l = c.if-rows-row.false in
    let h = sym c.if-not-is_kind.false ∙ c.is_kind.ensures in
    ap (λ (o : Outcome). (o, a.out.now)) (written-exit _ _ c.from_residual.ensures.1 refl)
    ∙ R.faulty a.file.now a.first.now a.size.now a.kind.now a.rows t a.row a.value a.out.now l h _ c.in_err-judge.ensures (numbered _)

pub returns-then-out-n : goal.returns-then-out-n
returns-then-out-n c =
    let a = c.args in
    let t = c.requires in
    let l = c.if-rows-row.false in
    let m = R.room a.file.now a.first.now a.size.now a.kind.now a.rows t a.row a.value a.out.now in
    let h = sym c.if-not-is_kind.false ∙ c.is_kind.ensures in
    let f = sym c.in_ok-judge.ensures in
    R.short a.file.now a.first.now a.size.now a.kind.now a.rows t a.row a.value a.out.now l h f c.if-out-n.true

pub offset_bounds-first-row : goal.offset_bounds-first-row
offset_bounds-first-row c =
    let a = c.args in
    let t = c.requires in
    let l = c.if-rows-row.false in
    let m = R.room a.file.now a.first.now a.size.now a.kind.now a.rows t a.row a.value a.out.now in
    omega (arith, l, m.3)

pub bounds-first-row : goal.bounds-first-row
bounds-first-row c =
    let a = c.args in
    let t = c.requires in
    let l = c.if-rows-row.false in
    let m = R.room a.file.now a.first.now a.size.now a.kind.now a.rows t a.row a.value a.out.now in
    omega (arith, l, m.0)

pub offset_bounds-size-row : goal.offset_bounds-size-row
offset_bounds-size-row c =
    let a = c.args in
    let t = c.requires in
    let l = c.if-rows-row.false in
    let m = R.room a.file.now a.first.now a.size.now a.kind.now a.rows t a.row a.value a.out.now in
    omega (arith, l, m.3)

pub bounds-size-row : goal.bounds-size-row
bounds-size-row c =
    let a = c.args in
    let t = c.requires in
    let l = c.if-rows-row.false in
    let m = R.room a.file.now a.first.now a.size.now a.kind.now a.rows t a.row a.value a.out.now in
    omega (arith, l, m.1)

pub overflow_sub-at : goal.overflow_sub-at
overflow_sub-at c =
    let a = c.args in
    let t = c.requires in
    let l = c.if-rows-row.false in
    let m = R.room a.file.now a.first.now a.size.now a.kind.now a.rows t a.row a.value a.out.now in
    let h = sym c.if-not-is_kind.false ∙ c.is_kind.ensures in
    let f = sym c.in_ok-judge.ensures in
    let p = R.place a.file.now a.first.now a.size.now a.kind.now a.rows t a.row a.value a.out.now l h f in
    let z = c.size_of.ensures in
    omega (arith, p.0, z.0)

pub put_value-requires : goal.put_value-requires
put_value-requires c =
    let a = c.args in
    let t = c.requires in
    let l = c.if-rows-row.false in
    let m = R.room a.file.now a.first.now a.size.now a.kind.now a.rows t a.row a.value a.out.now in
    let h = sym c.if-not-is_kind.false ∙ c.is_kind.ensures in
    let f = sym c.in_ok-judge.ensures in
    let p = R.place a.file.now a.first.now a.size.now a.kind.now a.rows t a.row a.value a.out.now l h f in
    let z = c.size_of.ensures in
    let k = length-kept _ _ _ _ c.put_run.ensures in
    let w = c.if-out-n.false in
    (omega (arith, p.0, p.1, z.0, k, w), sym f)

pub returns : goal.returns
returns c =
    let a = c.args in
    let t = c.requires in
    let l = c.if-rows-row.false in
    let m = R.room a.file.now a.first.now a.size.now a.kind.now a.rows t a.row a.value a.out.now in
    let h = sym c.if-not-is_kind.false ∙ c.is_kind.ensures in
    let f = sym c.in_ok-judge.ensures in
    let p = R.place a.file.now a.first.now a.size.now a.kind.now a.rows t a.row a.value a.out.now l h f in
    let z = c.size_of.ensures in
    let w = c.if-out-n.false in
    R.replaced a.file.now a.first.now a.size.now a.kind.now a.rows t a.row a.value a.out.now l h f w _ (omega (arith, p.0, z.0)) c.put_run.ensures c.put_value.ensures
