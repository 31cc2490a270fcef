use Prim.Native.Nat.{◌*◌}
use mathlib.Core.Path.{sym, ◌∙◌}
use native.Mathlib.Omega.{arith}
use Rattle.fault.proofs.Exit.{short}
use Rattle.aco_chunks.specs.Chunks.{loaded, entry_head}
use Rattle.aco_items.proofs.Fields.{cut-exit, entry_head-is, field_cut, field-differs, field-same, count_cut, count_none, count-some, loaded-is}
use Rattle.aco_items.proofs.entry_of.Goals as goal

pub loop-f-init : goal.loop-f-init
loop-f-init c = (omega arith, omega arith, entry_head-is _ _ _)

pub returns-in_err-v : goal.returns-in_err-v
returns-in_err-v c =
    let l = c.loop-f in
    let a = c.args in
    let col = loaded a.store.now (10 * a.index) in
    let all = entry_head a.index (loaded a.store.now (10 * a.index)) a.bytes.now 0 in
    cut-exit 2 a.bytes.now l.p _ _ c.from_residual.ensures.1 c.in_err-v.ensures (sym (field_cut all a.index col l.f a.bytes.now l.p l.invariant.2 c.loop-f-test.true (short 2 a.bytes.now l.p c.in_err-v.ensures)))

pub returns-then-v-number_or_zero : goal.returns-then-v-number_or_zero
returns-then-v-number_or_zero c =
    let l = c.loop-f in
    let a = c.args in
    let col = loaded a.store.now (10 * a.index) in
    let all = entry_head a.index (loaded a.store.now (10 * a.index)) a.bytes.now 0 in
    let t = c.loop-f-test.true in
    let r = loaded-is a.store.now _ _ l.f _ l.invariant.1 t c.number_or_zero.ensures in
    sym (field-differs all a.index col l.f a.bytes.now l.p l.invariant.2 t c.in_ok-v.ensures (λ z. c.if-v-number_or_zero.true (z ∙ sym r)))

pub loop-f-preserved : goal.loop-f-preserved
loop-f-preserved c =
    let l = c.loop-f in
    let a = c.args in
    let col = loaded a.store.now (10 * a.index) in
    let all = entry_head a.index (loaded a.store.now (10 * a.index)) a.bytes.now 0 in
    let t = c.loop-f-test.true in
    let r = loaded-is a.store.now _ _ l.f _ l.invariant.1 t c.number_or_zero.ensures in
    (omega arith, l.invariant.1, field-same all a.index col l.f a.bytes.now l.p l.invariant.2 t c.in_ok-v.ensures (c.if-v-number_or_zero.false ∙ r))

pub returns-in_err-n : goal.returns-in_err-n
returns-in_err-n c =
    let l = c.loop-f in
    let a = c.args in
    let col = loaded a.store.now (10 * a.index) in
    let all = entry_head a.index (loaded a.store.now (10 * a.index)) a.bytes.now 0 in
    cut-exit 4 a.bytes.now l.p _ _ c.from_residual-in_err-n.ensures.1 c.in_err-n.ensures (sym (count_cut all a.index col l.f a.bytes.now l.p l.invariant.2 c.loop-f-test.false (short 4 a.bytes.now l.p c.in_err-n.ensures)))

pub returns-then-n-eq0 : goal.returns-then-n-eq0
returns-then-n-eq0 c =
    let l = c.loop-f in
    let a = c.args in
    let col = loaded a.store.now (10 * a.index) in
    let all = entry_head a.index (loaded a.store.now (10 * a.index)) a.bytes.now 0 in
    sym (count_none all a.index col l.f a.bytes.now l.p l.invariant.2 c.loop-f-test.false c.in_ok-n.ensures c.if-n-eq0.true)

pub returns : goal.returns
returns c =
    let l = c.loop-f in
    let a = c.args in
    let col = loaded a.store.now (10 * a.index) in
    let all = entry_head a.index (loaded a.store.now (10 * a.index)) a.bytes.now 0 in
    sym (count-some all a.index col l.f a.bytes.now l.p l.invariant.2 c.loop-f-test.false c.in_ok-n.ensures c.if-n-eq0.false)
