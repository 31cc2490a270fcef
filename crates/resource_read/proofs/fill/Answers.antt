use native.Mathlib.Omega.{arith}
use mathlib.Core.Path.{refl, ap, ◌∙◌}
use lib.ListN.{length}
use Rattle.resource_read.proofs.Going.{some-left, turned, fill_end, fill-room, fill-kept, fill-next}
use Rattle.resource_read.proofs.fill.Goals as goal

pub loop-i-init : goal.loop-i-init
loop-i-init c =
    let p = c.requires in
    (record { sound = p.0; room = omega (arith, p.1, p.2); is = refl }, refl, omega arith, omega (arith, p.1))

pub given_at-next-requires : goal.given_at-next-requires
given_at-next-requires c =
    let l = c.loop-i in
    let v = l.invariant in
    (v.0.sound, some-left c.args.file.now l.at v.0.sound (omega (arith, v.3, c.loop-i-test.true)))

pub overflow_mul-i : goal.overflow_mul-i
overflow_mul-i c =
    let v = c.loop-i.invariant in
    omega (arith, v.2, v.0.sound.inside, v.0.sound.short)

pub put_row-requires : goal.put_row-requires
put_row-requires c =
    let l = c.loop-i in
    let v = l.invariant in
    let s = c.args.file.now in
    let more = some-left s l.at v.0.sound (omega (arith, v.3, c.loop-i-test.true)) in
    let x = turned s l.at v.0.sound more c.given_at-next.ensures in
    (fill-room s l.at l.i _ _ v.0 more x, x.small)

pub loop-i-preserved : goal.loop-i-preserved
loop-i-preserved c =
    let l = c.loop-i in
    let v = l.invariant in
    let s = c.args.file.now in
    let more = some-left s l.at v.0.sound (omega (arith, v.3, c.loop-i-test.true)) in
    let x = turned s l.at v.0.sound more c.given_at-next.ensures in
    let e = c.put_row.ensures in
    (fill-next s l.at l.i _ _ v.0 more x _ e, fill-kept s l.at l.i _ _ v.0 more x _ e ∙ v.1, omega (arith, v.2, x.moved), omega (arith, v.3, ap length x.all))

pub shape_of-table : goal.shape_of-table
shape_of-table c = c.loop-i.invariant.1

pub returns : goal.returns
returns c =
    let l = c.loop-i in
    let v = l.invariant in
    fill_end c.args.file.now l.at l.i _ _ v.0 (omega (arith, v.3, c.loop-i-test.false))
