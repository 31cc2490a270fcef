use Prim.Native.Nat.{ℕ, ◌-◌}
use mathlib.Core.Path.{refl, sym, ap, ◌∙◌}
use native.Mathlib.Omega.{arith}
use lib.ListN.{take}
use lib.Seq.{length-take-le, take-length}
use Rattle.algebra.specs.Reader.{limit}
use Rattle.aco_chunks.specs.Chunks.{chunk}
use Rattle.aco_stream.specs.Answer.{progress}
use Rattle.aco_stream.proofs.Feeds.{chunk-none, chunk-past, chunk-over}
use Rattle.aco_stream.proofs.Calls.{is_usable, open_of, least-of}
use Rattle.aco_stream.proofs.feed_usable.Goals as goal

pub returns-then-bytes-eq0 : goal.returns-then-bytes-eq0
returns-then-bytes-eq0 c = (c.requires, sym (chunk-none _ c.args.bytes.now c.if-bytes-eq0.true), refl)

pub returns-then-total-gt-LIMIT : goal.returns-then-total-gt-LIMIT
returns-then-total-gt-LIMIT c =
    let a = c.args in
    (c.requires, sym (chunk-past a.bytes.now (progress a.state a.store.now) (omega (arith, c.if-total-gt-LIMIT.true)) (omega (arith, c.if-bytes-eq0.false))), refl)

pub slice_bounds-feed_within-end : goal.slice_bounds-feed_within-end
slice_bounds-feed_within-end c = let m = least-of _ _ _ c.min-n.ensures in sym (length-take-le c.min-n.result c.args.bytes.now m.1)

pub feed_within-next-requires : goal.feed_within-next-requires
feed_within-next-requires c =
    let a = c.args in
    let m = least-of _ _ _ c.min-n.ensures in
    let n = length-take-le c.min-n.result a.bytes.now m.1 in
    ((open_of a.state a.store.now c.requires).1, omega (arith, c.if-total-gt-LIMIT.false, m.0))

pub returns-then-room-bytes : goal.returns-then-room-bytes
returns-then-room-bytes c =
    let a = c.args in
    let r = c.feed_within-next in
    let m = least-of _ _ _ c.min-n.ensures in
    let e = r.ensures.0 ∙ ap (λ (k : ℕ). chunk (progress a.state a.store.now) (take k a.bytes.now)) (m.2 c.if-room-bytes.true) in (
      is_usable r.result r.ensures.2 r.ensures.1,
      chunk-over (progress a.state a.store.now) a.bytes.now (limit - a.state.total) (omega (arith, c.if-total-gt-LIMIT.false)) c.if-room-bytes.true (progress r.result r.new.store) e,
      r.ensures.3,
    )

pub returns : goal.returns
returns c =
    let a = c.args in
    let r = c.feed_within-next in
    let m = least-of _ _ _ c.min-n.ensures in
    let e = r.ensures.0 ∙ ap (λ (k : ℕ). chunk (progress a.state a.store.now) (take k a.bytes.now)) (m.3 c.if-room-bytes.false) ∙ ap (chunk (progress a.state a.store.now)) (take-length a.bytes.now) in
    (is_usable r.result r.ensures.2 r.ensures.1, e, r.ensures.3)
