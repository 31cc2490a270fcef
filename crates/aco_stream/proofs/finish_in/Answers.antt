use Rattle.aco_stream.proofs.Calls.{admitted, finishes-not, finishes-0, some-number}
use Rattle.aco_stream.proofs.finish_in.Goals as goal

pub returns-in-Err : goal.returns-in-Err
returns-in-Err c = let a = c.args in finishes-not a.state a.store.now _ c.in-Err.ensures (some-number _)

pub end_of-answer-requires : goal.end_of-answer-requires
end_of-answer-requires c = (admitted c.args.state c.args.store.now c.in-Ok.ensures).0

pub returns-in-Ok : goal.returns-in-Ok
returns-in-Ok c = let a = c.args in finishes-0 a.state a.store.now c.in-Ok.ensures _ c.end_of-answer.ensures
