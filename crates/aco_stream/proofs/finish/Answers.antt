use mathlib.Core.Path.{sym}
use lib.Seq.{length-take-le}
use Rattle.aco_stream.specs.Answer.{told}
use Rattle.aco_stream.proofs.Calls.{finishes-short, finishes-long}
use Rattle.aco_stream.proofs.finish.Goals as goal

-- src/lib.rt:875:9
pub returns-then-store-lt-STORE : goal.returns-then-store-lt-STORE
returns-then-store-lt-STORE c =
    let a = c.args in
    let f = c.finish_in in
    finishes-short a.state a.store.now f.result.state (told f.result.answer) c.if-store-lt-STORE.true f.ensures

-- src/lib.rt:877:22
pub slice_bounds-finish_in-end : goal.slice_bounds-finish_in-end
slice_bounds-finish_in-end c =
    let a = c.args in
    sym (length-take-le 40960 a.store.now c.if-store-lt-STORE.false)

-- src/lib.rt:871:1
pub returns : goal.returns
returns c =
    let a = c.args in
    let f = c.finish_in-2 in
    finishes-long a.state a.store.now f.result.state (told f.result.answer) c.if-store-lt-STORE.false f.ensures
