use borrow.Author.Rules.{rules}
use mathlib.Core.Path.{◌≡◌, sym, ap, ◌∙◌}
use native.Mathlib.Omega.{arith}
use lib.ListN.{length, take}
use lib.Seq.{length-take-le}
use Rattle.aco_stream.specs.Answer.{progress, known}
use Rattle.aco_stream.proofs.Feeds.{answer-long, answer-within, size-most}
use Rattle.aco_stream.proofs.Calls.{open_of}
use Rattle.aco_stream.proofs.end_of.Goals as goal

pub returns-then-total-gt-LIMIT : goal.returns-then-total-gt-LIMIT
returns-then-total-gt-LIMIT c = ap known (answer-long (progress c.args.state c.args.store.now) c.if-total-gt-LIMIT.true)

pub slice_bounds-carry-end : goal.slice_bounds-carry-end
slice_bounds-carry-end c =
    let a = c.args in
    let n : length a.state.carry ≡ 16 = search rules in
    let m = (open_of a.state a.store.now c.requires).1 in
    let k = size-most a.state.stage in
    let t : length (take a.state.got a.state.carry) ≡ a.state.got = length-take-le a.state.got a.state.carry (omega arith) in
    omega arith

pub slice_bounds-ending_of-end : goal.slice_bounds-ending_of-end
slice_bounds-ending_of-end c =
    let a = c.args in
    let n : length a.state.carry ≡ 16 = search rules in
    let m = (open_of a.state a.store.now c.requires).1 in
    let k = size-most a.state.stage in
    let t : length (take a.state.got a.state.carry) ≡ a.state.got = length-take-le a.state.got a.state.carry (omega arith) in
    sym t

pub ending_of-requires : goal.ending_of-requires
ending_of-requires c =
    let a = c.args in
    let n : length a.state.carry ≡ 16 = search rules in
    let m = (open_of a.state a.store.now c.requires).1 in
    let k = size-most a.state.stage in
    let t : length (take a.state.got a.state.carry) ≡ a.state.got = length-take-le a.state.got a.state.carry (omega arith) in
    (omega (arith, c.saturating_sub-from.ensures, c.if-total-gt-LIMIT.false), omega arith)

pub returns : goal.returns
returns c =
    let a = c.args in
    let n : length a.state.carry ≡ 16 = search rules in
    let m = (open_of a.state a.store.now c.requires).1 in
    let k = size-most a.state.stage in
    let t : length (take a.state.got a.state.carry) ≡ a.state.got = length-take-le a.state.got a.state.carry (omega arith) in
    c.ending_of.ensures ∙ ap known (answer-within (progress a.state a.store.now) c.if-total-gt-LIMIT.false c.saturating_sub-from.result (omega (arith, c.saturating_sub-from.ensures)))
