use Rattle.std.proofs.Common.{true, false, refl, sym, ap, ◌∙◌, arith}
use Rattle.algebra.proofs.Laws.{field_next}
use Rattle.fault.proofs.Exit.{told-exit, field-exit, short}
use Rattle.descriptor.specs.Reading.{list as list_sort, object as object_sort, reference as reference_sort, array as array_sort}
use Rattle.descriptor.proofs.Ends.{accepted}
use Rattle.descriptor.proofs.Tiling.{reach}
use Rattle.descriptor_judge.specs.scaffold.Cycle.{member_of}
use Rattle.descriptor_judge.specs.scaffold.Counting.{walked}
use Rattle.descriptor_judge.proofs.Alike.{alike-member}
use Rattle.descriptor_judge.proofs.Counting.{walked-no, holder-small, held_small, going_start, turn, turn-no, turn-reach, all_read}
use Rattle.descriptor_judge.proofs.Items.{item-holds, item-ends, item-stops, item-unknown, holder-short, holder-counts, begun-some, begun-none, under}
use Rattle.descriptor_judge.proofs.Steps as S
use Rattle.descriptor_judge.proofs.+item_list_object_pair.Goals as goal

pub item-returns-then-left-eq0 : goal.item-returns-then-left-eq0
item-returns-then-left-eq0 t c =
    let a = c.args in
    walked-no (S.item-deep 0 0 a.first a.file.now a.at a.left c.if-left-eq0.true)

pub item-returns-in_err-kind : goal.item-returns-in_err-kind
item-returns-in_err-kind t c =
    let a = c.args in
    field-exit 4 _ _ _ _ _ c.from_residual.ensures.1 c.in_err-kind.ensures (walked-no (S.item-short 0 0 a.first a.file.now a.at a.left c.if-left-eq0.false (short 4 _ _ c.in_err-kind.ensures)))

pub item-returns-in_err-sort : goal.item-returns-in_err-sort
item-returns-in_err-sort t c =
    let a = c.args in
    told-exit _ _ _ c.from_residual-in_err-sort.ensures.1 (item-stops a.first a.file.now a.at a.left c.if-left-eq0.false c.in_ok-kind.ensures c.in_err-sort.ensures)

pub item-returns-in_default : goal.item-returns-in_default
item-returns-in_default t c =
    let a = c.args in
    item-unknown a.first a.file.now a.at a.left c.if-left-eq0.false c.in_ok-kind.ensures (begun-none c.in_ok-sort.ensures c.in_default.is)

pub item-unkeyed-requires : goal.item-unkeyed-requires
item-unkeyed-requires t c =
    let a = c.args in
    let h = field_next 4 a.file.now a.at _ _ c.in_ok-kind.ensures in
    let p = c.requires in
    omega (arith, c.decreases, c.if-left-eq0.false, p.size, p.levels, p.inside)

pub item-object-requires : goal.item-object-requires
item-object-requires t c =
    let a = c.args in
    let h = field_next 4 a.file.now a.at _ _ c.in_ok-kind.ensures in
    let p = c.requires in
    omega (arith, c.decreases, c.if-left-eq0.false, p.size, p.levels, p.inside)

pub item-referred-requires : goal.item-referred-requires
item-referred-requires t c =
    let a = c.args in
    under c.requires c.if-left-eq0.false c.in_ok-kind.ensures

pub item-columns-requires : goal.item-columns-requires
item-columns-requires t c =
    let a = c.args in
    under c.requires c.if-left-eq0.false c.in_ok-kind.ensures

pub item-with_own-requires : goal.item-with_own-requires
item-with_own-requires t c =
    let a = c.args in
    holder-small (under c.requires c.if-left-eq0.false c.in_ok-kind.ensures) false c.unkeyed.ensures

pub item-with_own-requires-in-Object : goal.item-with_own-requires-in-Object
item-with_own-requires-in-Object t c =
    let a = c.args in
    holder-small (under c.requires c.if-left-eq0.false c.in_ok-kind.ensures) true c.object.ensures

pub item-with_own-requires-in-Reference : goal.item-with_own-requires-in-Reference
item-with_own-requires-in-Reference t c =
    let a = c.args in
    held_small (under c.requires c.if-left-eq0.false c.in_ok-kind.ensures) false c.referred.ensures

pub item-with_own-requires-in-Array : goal.item-with_own-requires-in-Array
item-with_own-requires-in-Array t c =
    let a = c.args in
    held_small (under c.requires c.if-left-eq0.false c.in_ok-kind.ensures) true c.columns.ensures

pub item-returns-in-Ends : goal.item-returns-in-Ends
item-returns-in-Ends t c =
    let a = c.args in
    item-ends a.first a.file.now a.at a.left c.if-left-eq0.false c.in_ok-kind.ensures (begun-some c.in_ok-sort.ensures c.in-Some.is c.in-Ends.is)

pub item-returns-in-List : goal.item-returns-in-List
item-returns-in-List t c =
    let a = c.args in
    c.with_own.ensures ∙ item-holds a.first a.file.now a.at a.left c.if-left-eq0.false c.in_ok-kind.ensures list_sort (S.begun-list a.file.now _ _ (begun-some c.in_ok-sort.ensures c.in-Some.is c.in-List.is)) c.unkeyed.ensures

pub item-returns-in-Object : goal.item-returns-in-Object
item-returns-in-Object t c =
    let a = c.args in
    c.with_own-in-Object.ensures ∙ item-holds a.first a.file.now a.at a.left c.if-left-eq0.false c.in_ok-kind.ensures object_sort (S.begun-object a.file.now _ _ (begun-some c.in_ok-sort.ensures c.in-Some.is c.in-Object.is)) c.object.ensures

pub item-returns-in-Reference : goal.item-returns-in-Reference
item-returns-in-Reference t c =
    let a = c.args in
    c.with_own-in-Reference.ensures ∙ item-holds a.first a.file.now a.at a.left c.if-left-eq0.false c.in_ok-kind.ensures reference_sort (S.begun-reference a.file.now _ _ (begun-some c.in_ok-sort.ensures c.in-Some.is c.in-Reference.is)) c.referred.ensures

pub item-returns-in-Array : goal.item-returns-in-Array
item-returns-in-Array t c =
    let a = c.args in
    c.with_own-in-Array.ensures ∙ item-holds a.first a.file.now a.at a.left c.if-left-eq0.false c.in_ok-kind.ensures array_sort (S.begun-array a.file.now _ _ (begun-some c.in_ok-sort.ensures c.in-Some.is c.in-Array.is)) c.columns.ensures

pub list-returns-in_err-count : goal.list-returns-in_err-count
list-returns-in_err-count t c =
    let a = c.args in
    told-exit _ _ _ c.from_residual.ensures.1 (walked-no (S.holder-no a.left 0 a.file.now a.at a.keyed (sym c.in_err-count.ensures)))

pub list-returns-in_err-n : goal.list-returns-in_err-n
list-returns-in_err-n t c =
    let a = c.args in
    field-exit 4 _ _ _ _ _ c.from_residual-in_err-n.ensures.1 c.in_err-n.ensures (holder-short a.keyed a.left a.file.now a.at (sym c.in_ok-count.ensures) (short 4 _ _ c.in_err-n.ensures))

pub list-loop-i-init : goal.list-loop-i-init
list-loop-i-init t c =
    let a = c.args in
    let w = accepted (S.holder-past a.left 0 a.file.now a.at a.keyed c.requires.inside) _ _ (sym c.in_ok-count.ensures) in
    let h = field_next 4 a.file.now _ _ _ c.in_ok-n.ensures in
    going_start (member_of a.keyed a.left 0) a.file.now _ _ (omega (arith, w.high))

pub list-pair-requires : goal.list-pair-requires
list-pair-requires t c =
    let a = c.args in
    let w = accepted (S.holder-past a.left 0 a.file.now a.at a.keyed c.requires.inside) _ _ (sym c.in_ok-count.ensures) in
    let h = field_next 4 a.file.now _ _ _ c.in_ok-n.ensures in
    let g = c.loop-i.invariant in
    let p = c.requires in
    omega (arith, c.decreases, w.low, w.high, g.reach, g.inside, p.size, p.levels, p.inside)

pub list-returns-in_err-more : goal.list-returns-in_err-more
list-returns-in_err-more t c =
    let a = c.args in
    told-exit _ _ _ c.from_residual-in_err-more.ensures.1 (holder-counts a.keyed a.left a.file.now a.at (sym c.in_ok-count.ensures) c.in_ok-n.ensures (turn-no (member_of a.keyed a.left 0) a.file.now _ _ c.loop-i.invariant (alike-member a.file.now a.keyed a.left 0) c.loop-i-test.true c.in_err-more.ensures _ _ refl))

pub list-overflow_add-rows : goal.list-overflow_add-rows
list-overflow_add-rows t c =
    let a = c.args in
    let g = c.loop-i.invariant in
    let w = turn-reach (member_of a.keyed a.left 0) a.file.now _ _ g (alike-member a.file.now a.keyed a.left 0) c.loop-i-test.true c.in_ok-more.ensures (reach a.file.now (S.member-rows a.left 0 a.file.now a.at a.keyed (omega (arith, c.requires.levels)) 0 _ c.loop-i.invariant.inside)) _ _ refl in
    omega (arith, w.0, w.1, g.reach, c.requires.size)

pub list-loop-i-preserved : goal.list-loop-i-preserved
list-loop-i-preserved t c =
    let a = c.args in
    turn (member_of a.keyed a.left 0) a.file.now _ _ c.loop-i.invariant (alike-member a.file.now a.keyed a.left 0) c.loop-i-test.true c.in_ok-more.ensures (reach a.file.now (S.member-rows a.left 0 a.file.now a.at a.keyed (omega (arith, c.requires.levels)) 0 _ c.loop-i.invariant.inside)) _ _ refl

pub list-returns : goal.list-returns
list-returns t c =
    let a = c.args in
    holder-counts a.keyed a.left a.file.now a.at (sym c.in_ok-count.ensures) c.in_ok-n.ensures (all_read (member_of a.keyed a.left 0) a.file.now _ _ c.loop-i.invariant c.loop-i-test.false)

pub pair-returns-then-left-eq0 : goal.pair-returns-then-left-eq0
pair-returns-then-left-eq0 t c =
    let a = c.args in
    walked-no (S.member-deep a.left 0 0 a.file.now a.at a.keyed c.if-left-eq0.true)

pub pair-item-requires : goal.pair-item-requires
pair-item-requires t c =
    let a = c.args in
    let p = c.requires in
    let w = accepted (S.key-past a.file.now a.at a.keyed p.inside) _ _ (sym c.in_ok-next.ensures) in
    omega (arith, c.decreases, w.low, w.high, p.size, p.levels, p.inside)

pub pair-returns-in_err-next : goal.pair-returns-in_err-next
pair-returns-in_err-next t c =
    let a = c.args in
    told-exit _ _ _ c.from_residual.ensures.1 (walked-no (S.member-no a.left 0 0 a.file.now a.at a.keyed c.if-left-eq0.false (sym c.in_err-next.ensures)))

pub pair-returns : goal.pair-returns
pair-returns t c =
    let a = c.args in
    c.item.ensures ∙ sym (ap walked (S.member-item a.left 0 0 a.file.now a.at a.keyed _ c.if-left-eq0.false (sym c.in_ok-next.ensures)))
