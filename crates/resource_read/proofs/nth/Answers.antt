use Prim.Native.Nat.{ℕ, ◌+◌, ◌-◌}
use lib.ListN.{length}
use native.Mathlib.Omega.{arith}
use mathlib.Core.Path.{◌≡◌, ap, ◌∙◌}
use Rattle.algebra.specs.Reader.{ok}
use Rattle.resource_read.specs.Table.{record_in}
use Rattle.resource_read.specs.scaffold.Parts.{rest}
use Rattle.resource_read.proofs.Going.{some-left, turned, nth_here, nth-next}
use Rattle.resource_read.proofs.nth.Goals as goal

pub loop-k-init : goal.loop-k-init
loop-k-init c =
    let i = c.args.i in
    let e : i ≡ i - 0 = omega arith in
    (c.requires.0, omega arith, ap (λ (n : ℕ). record_in n (ok (rest c.args.file.now 0) 0)) e)

pub given_at-next-requires : goal.given_at-next-requires
given_at-next-requires c =
    let l = c.loop-k in
    (l.invariant.0, some-left c.args.file.now l.at l.invariant.0 (omega (arith, l.invariant.1, c.requires.1, c.loop-k-test.true)))

pub loop-k-preserved : goal.loop-k-preserved
loop-k-preserved c =
    let l = c.loop-k in
    let s = c.args.file.now in
    let k = c.args.i - l._k in
    let more = some-left s l.at l.invariant.0 (omega (arith, l.invariant.1, c.requires.1, c.loop-k-test.true)) in
    let x = turned s l.at l.invariant.0 more c.given_at-next.ensures in
    let e : k - 1 ≡ c.args.i - (l._k + 1) = omega arith in
    (x.sound, omega (arith, l.invariant.1, ap length x.all), nth-next s l.at k l.invariant.0 _ l.invariant.2 more x (λ z. omega (arith, z, c.loop-k-test.true)) ∙ ap (λ (n : ℕ). record_in n (ok (rest s c.given_at-next.result.1) 0)) e)

pub given_at-requires : goal.given_at-requires
given_at-requires c =
    let l = c.loop-k in
    (l.invariant.0, some-left c.args.file.now l.at l.invariant.0 (omega (arith, l.invariant.1, c.requires.1, l.auto._k-end)))

pub returns : goal.returns
returns c =
    let l = c.loop-k in
    let s = c.args.file.now in
    let more = some-left s l.at l.invariant.0 (omega (arith, l.invariant.1, c.requires.1, l.auto._k-end)) in
    let x = turned s l.at l.invariant.0 more c.given_at.ensures in
    nth_here s l.at (c.args.i - l._k) l.invariant.0 _ l.invariant.2 more x (omega (arith, c.loop-k-test.false))
