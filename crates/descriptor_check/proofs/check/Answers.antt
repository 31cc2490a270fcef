use Rattle.descriptor_check.proofs.Checking as K
use Rattle.descriptor_columns.proofs.Room as M
use Rattle.descriptor_columns.proofs.Reading as R
use Rattle.descriptor_judge.proofs.Whole.{handed}
use Rattle.descriptor_check.specs.Check.{told}
use mathlib.Core.List.{[], ◌∷◌}
use mathlib.Core.Path.{sym, ◌∙◌}
use Rattle.descriptor_check.proofs.check.Goals as goal

pub compare_all-requires : goal.compare_all-requires
compare_all-requires c =
    let a = c.args in
    let v = c.in_ok-rows.ensures in
    let f = sym c.if-not-is_room.false ∙ c.is_room.ensures in
    let f1 = M.room-inv _ a.first.now (a.size.now ∷ a.next.now ∷ a.depth.now ∷ a.kind.now ∷ []) f in
    let f2 = M.room-inv _ a.size.now (a.next.now ∷ a.depth.now ∷ a.kind.now ∷ []) f1.1 in
    let f3 = M.room-inv _ a.next.now (a.depth.now ∷ a.kind.now ∷ []) f2.1 in
    let f4 = M.room-inv _ a.depth.now (a.kind.now ∷ []) f3.1 in
    let f5 = M.room-inv _ a.kind.now [] f4.1 in
    (R.accepts a.file.now _ v, f1.0, f2.0, f3.0, f4.0, f5.0)

pub returns-then-compare_all : goal.returns-then-compare_all
returns-then-compare_all c =
    let a = c.args in
    let v = c.in_ok-rows.ensures in
    let f = sym c.if-not-is_room.false ∙ c.is_room.ensures in
    let f1 = M.room-inv _ a.first.now (a.size.now ∷ a.next.now ∷ a.depth.now ∷ a.kind.now ∷ []) f in
    let f2 = M.room-inv _ a.size.now (a.next.now ∷ a.depth.now ∷ a.kind.now ∷ []) f1.1 in
    let f3 = M.room-inv _ a.next.now (a.depth.now ∷ a.kind.now ∷ []) f2.1 in
    let f4 = M.room-inv _ a.depth.now (a.kind.now ∷ []) f3.1 in
    let f5 = M.room-inv _ a.kind.now [] f4.1 in
    K.stays a.file.now a.first.now a.size.now a.next.now a.depth.now a.kind.now _ v f f1.0 f2.0 f3.0 f4.0 f5.0 (c.compare_all.ensures.yes c.if-compare_all.true)

pub returns : goal.returns
returns c =
    let a = c.args in
    let v = c.in_ok-rows.ensures in
    let f = sym c.if-not-is_room.false ∙ c.is_room.ensures in
    let f1 = M.room-inv _ a.first.now (a.size.now ∷ a.next.now ∷ a.depth.now ∷ a.kind.now ∷ []) f in
    let f2 = M.room-inv _ a.size.now (a.next.now ∷ a.depth.now ∷ a.kind.now ∷ []) f1.1 in
    let f3 = M.room-inv _ a.next.now (a.depth.now ∷ a.kind.now ∷ []) f2.1 in
    let f4 = M.room-inv _ a.depth.now (a.kind.now ∷ []) f3.1 in
    let f5 = M.room-inv _ a.kind.now [] f4.1 in
    K.changes a.file.now a.first.now a.size.now a.next.now a.depth.now a.kind.now _ v f f1.0 f2.0 f3.0 f4.0 f5.0 (c.compare_all.ensures.no c.if-compare_all.false)

pub returns-in_err-rows : goal.returns-in_err-rows
returns-in_err-rows c =
    let a = c.args in
    handed told _ _ c.from_residual.ensures.1 (K.refuses a.file.now a.first.now a.size.now a.next.now a.depth.now a.kind.now _ _ c.in_err-rows.ensures)

pub returns-then-not-is_room : goal.returns-then-not-is_room
returns-then-not-is_room c =
    let a = c.args in
    let v = c.in_ok-rows.ensures in
    K.short a.file.now a.first.now a.size.now a.next.now a.depth.now a.kind.now _ v (sym c.if-not-is_room.true ∙ c.is_room.ensures)
