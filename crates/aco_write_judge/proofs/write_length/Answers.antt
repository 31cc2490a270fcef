use Rattle.algebra.proofs.Counted.{length-counted}
use Prim.Native.Nat.{◌/◌}
use native.Mathlib.Omega.{arith}
use lib.ListN.{length}
use Rattle.algebra.specs.Table.{rows}
use Rattle.aco.specs.Row.{width, taken}
use Rattle.aco_writing.specs.Writing.{size}
use Rattle.aco_write_judge.proofs.Judging.{given_at}
use Rattle.aco_write_judge.proofs.Outcomes.{long-exit, too_many, colour-exit, name-exit, ink-exit, all-fine}
use Rattle.algebra.proofs.Writing.{size_is}
use Rattle.aco_write_judge.proofs.write_length.Goals as goal

pub returns-in_err-size : goal.returns-in_err-size
returns-in_err-size c =
    let a = c.args in
    long-exit a.text.now (rows width taken a.records.now (length a.records.now / width) 0) _ _ c.from_residual.ensures.1 c.in_err-size.ensures

pub returns-then-n : goal.returns-then-n
returns-then-n c =
    let a = c.args in
    let n = length a.records.now / width in
    let gs = rows width taken a.records.now n 0 in
    let len = length-counted (given_at a.records.now) n 0 in
    too_many a.text.now gs (size_is (size gs) _ c.in_ok-size.ensures).0 (omega (arith, len, c.if-n.true))

pub returns-in_err-judge_colours : goal.returns-in_err-judge_colours
returns-in_err-judge_colours c =
    let a = c.args in
    let n = length a.records.now / width in
    let gs = rows width taken a.records.now n 0 in
    let len = length-counted (given_at a.records.now) n 0 in
    colour-exit a.text.now gs (size_is (size gs) _ c.in_ok-size.ensures).0 (omega (arith, len, c.if-n.false)) _ _ c.from_residual-in_err-judge_colours.ensures.1 c.in_err-judge_colours.ensures

pub returns-in_err-judge_names : goal.returns-in_err-judge_names
returns-in_err-judge_names c =
    let a = c.args in
    let n = length a.records.now / width in
    let gs = rows width taken a.records.now n 0 in
    let len = length-counted (given_at a.records.now) n 0 in
    name-exit a.text.now gs (size_is (size gs) _ c.in_ok-size.ensures).0 (omega (arith, len, c.if-n.false)) c.in_ok-judge_colours.ensures _ _ c.from_residual-in_err-judge_names.ensures.1 c.in_err-judge_names.ensures

pub returns-in_err-judge_inks : goal.returns-in_err-judge_inks
returns-in_err-judge_inks c =
    let a = c.args in
    let n = length a.records.now / width in
    let gs = rows width taken a.records.now n 0 in
    let len = length-counted (given_at a.records.now) n 0 in
    ink-exit a.text.now gs (size_is (size gs) _ c.in_ok-size.ensures).0 (omega (arith, len, c.if-n.false)) c.in_ok-judge_colours.ensures c.in_ok-judge_names.ensures _ _ c.from_residual-in_err-judge_inks.ensures.1 c.in_err-judge_inks.ensures

pub returns : goal.returns
returns c =
    let a = c.args in
    let n = length a.records.now / width in
    let gs = rows width taken a.records.now n 0 in
    let len = length-counted (given_at a.records.now) n 0 in
    let s = size_is (size gs) _ c.in_ok-size.ensures in
    all-fine a.text.now gs s.0 (omega (arith, len, c.if-n.false)) c.in_ok-judge_colours.ensures c.in_ok-judge_names.ensures c.in_ok-judge_inks.ensures _ s.1
