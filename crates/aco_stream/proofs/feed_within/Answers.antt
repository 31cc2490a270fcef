use Prim.Native.Nat.{ℕ, ◌+◌, ◌≤◌, ◌<◌}
use mathlib.Core.Path.{◌≡◌, refl, sym, ap, ◌∙◌, subst}
use native.Mathlib.Omega.{arith}
use lib.ListN.{length, take, set, get_or, length-set}
use lib.Seq.{length-take-le}
use native.Mathlib.Nat.{add-zero}
use Rattle.aco_chunks.specs.Chunks.{size, chunk}
use Rattle.aco_stream.specs.declared.Stream.{Stream}
use Rattle.aco_stream.specs.Answer.{progress}
use Rattle.aco_pass.specs.scaffold.Parts.{Rest}
use Rattle.aco_pass.proofs.Turns.{G}
use Rattle.aco_stream.proofs.Feeds.{size-some, size-most, length-kept, rest_over, room_after, stood, push-turn, full-turn}
use borrow.Author.Rules.{rules}
use Rattle.aco_stream.proofs.feed_within.Goals as goal

pub loop-at-init : goal.loop-at-init
loop-at-init c =
    let n : length c.args.state.carry ≡ 16 = search rules in
    (omega arith, refl, c.requires.1, c.requires.0, refl, n, ap (λ (k : ℕ). Rest c.args.state.stage k (take c.args.state.got c.args.state.carry) c.args.store.now 0 c.args.bytes.now) (sym (add-zero c.args.state.total)))

pub pass-next-requires : goal.pass-next-requires
pass-next-requires c = let i = c.loop-at.invariant in (omega (arith, i.1, c.loop-at-test.true), i.2, i.3)

pub loop-at-smaller-then-at-next : goal.loop-at-smaller-then-at-next
loop-at-smaller-then-at-next c =
    let l = c.loop-at in
    let a = c.args in
    let i = l.invariant in
    let t = c.loop-at-test.true in
    let y = c.pass-next in
    let p = y.ensures in
    let r = room_after l.stage y.result.stage l.got i.3 p.stays in
    let m = size-most y.result.stage in
    let q : y.result.at ≤ length a.bytes.now = p.inside in
    omega (arith, c.if-at-next.true, q, i.1, t)

pub loop-at-preserved-then-at-next : goal.loop-at-preserved-then-at-next
loop-at-preserved-then-at-next c =
    let l = c.loop-at in
    let a = c.args in
    let i = l.invariant in
    let t = c.loop-at-test.true in
    let y = c.pass-next in
    let p = y.ensures in
    let r = room_after l.stage y.result.stage l.got i.3 p.stays in
    let m = size-most y.result.stage in
    let q : y.result.at ≤ length a.bytes.now = p.inside in (
      omega (arith, q, i.1),
      i.1,
      i.2,
      r,
      p.keeps ∙ i.4,
      i.5,
      i.6 ∙ p.comes (take l.got l.carry) (length-take-le l.got l.carry (omega (arith, i.5, i.3, size-most l.stage))),
    )

pub bounds-carry-got : goal.bounds-carry-got
bounds-carry-got c =
    let l = c.loop-at in
    let a = c.args in
    let i = l.invariant in
    let t = c.loop-at-test.true in
    let y = c.pass-next in
    let p = y.ensures in
    let r = room_after l.stage y.result.stage l.got i.3 p.stays in
    let m = size-most y.result.stage in
    omega (arith, i.5, r, m)

pub overflow_add-got : goal.overflow_add-got
overflow_add-got c =
    let l = c.loop-at in
    let a = c.args in
    let i = l.invariant in
    let t = c.loop-at-test.true in
    let y = c.pass-next in
    let p = y.ensures in
    let r = room_after l.stage y.result.stage l.got i.3 p.stays in
    let m = size-most y.result.stage in
    omega (arith, r, m)

pub slice_bounds-carry-end : goal.slice_bounds-carry-end
slice_bounds-carry-end c =
    let l = c.loop-at in
    let a = c.args in
    let i = l.invariant in
    let t = c.loop-at-test.true in
    let y = c.pass-next in
    let p = y.ensures in
    let r = room_after l.stage y.result.stage l.got i.3 p.stays in
    let m = size-most y.result.stage in
    omega (arith, length-set l.carry l.got (get_or a.bytes.now l.at 0), i.5, r, m)

pub slice_bounds-settle-end : goal.slice_bounds-settle-end
slice_bounds-settle-end c =
    let l = c.loop-at in
    let a = c.args in
    let i = l.invariant in
    let t = c.loop-at-test.true in
    let y = c.pass-next in
    let p = y.ensures in
    let r = room_after l.stage y.result.stage l.got i.3 p.stays in
    let m = size-most y.result.stage in
    let n : length (take (l.got + 1) (set l.carry l.got (get_or a.bytes.now l.at 0))) ≡ l.got + 1 = length-take-le (l.got + 1) (set l.carry l.got (get_or a.bytes.now l.at 0)) (omega (arith, length-set l.carry l.got (get_or a.bytes.now l.at 0), i.5, r, m)) in
    sym n

pub settle-stage-requires : goal.settle-stage-requires
settle-stage-requires c =
    let l = c.loop-at in
    let a = c.args in
    let i = l.invariant in
    let t = c.loop-at-test.true in
    let y = c.pass-next in
    let p = y.ensures in
    let r = room_after l.stage y.result.stage l.got i.3 p.stays in
    let m = size-most y.result.stage in
    let n : length (take (l.got + 1) (set l.carry l.got (get_or a.bytes.now l.at 0))) ≡ l.got + 1 = length-take-le (l.got + 1) (set l.carry l.got (get_or a.bytes.now l.at 0)) (omega (arith, length-set l.carry l.got (get_or a.bytes.now l.at 0), i.5, r, m)) in
    (omega (arith, c.saturating_sub-from.ensures, i.2, t, i.1), omega (arith, n, r, m))

pub loop-at-preserved-then-got-size_of : goal.loop-at-preserved-then-got-size_of
loop-at-preserved-then-got-size_of c =
    let l = c.loop-at in
    let a = c.args in
    let i = l.invariant in
    let t = c.loop-at-test.true in
    let y = c.pass-next in
    let p = y.ensures in
    let r = room_after l.stage y.result.stage l.got i.3 p.stays in
    let m = size-most y.result.stage in
    let g = length-take-le l.got l.carry (omega (arith, i.5, r, m)) in
    let w : y.result.at ≤ l.at = omega (arith, c.if-at-next.false) in
    let q = stood (chunk (G a.state.stage a.state.total (take a.state.got a.state.carry) a.store.now) a.bytes.now) (take l.got l.carry) i.6 g p w in
    let s = c.settle-stage in
    let f = full-turn (chunk (G a.state.stage a.state.total (take a.state.got a.state.carry) a.store.now) a.bytes.now) y.result.stage a.state.total l.got l.carry y.new.store l.at a.bytes.now q i.2 (omega (arith, t, i.1)) (p.sound w) (omega (arith, i.5, r, m)) (omega (arith, c.if-got-size_of.true, c.size_of.ensures)) (omega (arith, c.saturating_sub-from.ensures)) s.ensures.0 s.ensures.1 in (
      omega (arith, i.1, t),
      i.1,
      i.2,
      size-some s.result,
      ap length s.ensures.1 ∙ length-kept y.result.stage _ (take (l.got + 1) (set l.carry l.got (get_or a.bytes.now l.at 0))) _ ∙ p.keeps ∙ i.4,
      simp length-set i.5,
      f,
    )

pub loop-at-preserved : goal.loop-at-preserved
loop-at-preserved c =
    let l = c.loop-at in
    let a = c.args in
    let i = l.invariant in
    let t = c.loop-at-test.true in
    let y = c.pass-next in
    let p = y.ensures in
    let r = room_after l.stage y.result.stage l.got i.3 p.stays in
    let m = size-most y.result.stage in
    let g = length-take-le l.got l.carry (omega (arith, i.5, r, m)) in
    let w : y.result.at ≤ l.at = omega (arith, c.if-at-next.false) in
    let q = stood (chunk (G a.state.stage a.state.total (take a.state.got a.state.carry) a.store.now) a.bytes.now) (take l.got l.carry) i.6 g p w in (
      omega (arith, i.1, t),
      i.1,
      i.2,
      omega (arith, r, c.if-got-size_of.false, c.size_of.ensures),
      p.keeps ∙ i.4,
      simp length-set i.5,
      push-turn (chunk (G a.state.stage a.state.total (take a.state.got a.state.carry) a.store.now) a.bytes.now) y.result.stage a.state.total l.got l.carry y.new.store l.at a.bytes.now q i.2 (omega (arith, t, i.1)) (p.sound w) (omega (arith, i.5, r, m)) (omega (arith, r, c.if-got-size_of.false, c.size_of.ensures)),
    )

pub returns : goal.returns
returns c =
    let l = c.loop-at in
    let a = c.args in
    let i = l.invariant in
    let e = c.opened.ensures in
    let o : Stream = c.opened.result in (
      ap (λ (x : Stream). progress x l.store) e ∙ sym (i.6 ∙ rest_over _ _ _ _ _ _ (omega (arith, i.0, i.1, c.loop-at-test.false))),
      subst (λ (x : Stream). x.got < size x.stage) (sym e) i.3,
      ap (λ (x : Stream). x.ended) e,
      i.4,
    )
