use mathlib.Core.Path.{refl}
use native.Mathlib.Omega.{arith}
use Rattle.aco_chunks.specs.declared.Stage.TheVariants as v
use Rattle.aco_pass.proofs.Turns.{passes_none}
use Rattle.aco_pass.proofs.Passing.{recorded-none, recorded_more, passes-records, passes-head, passes-all}
use Rattle.aco_pass.proofs.pass_records.Goals as goal

pub returns-then-count-index : goal.returns-then-count-index
returns-then-count-index c = let a = c.args in passes_none a.start a.bytes.now (v.Entry a.count a.index) a.at a.store.now c.requires.0 refl

pub loop-i-init : goal.loop-i-init
loop-i-init c = let a = c.args in recorded-none a.start a.bytes.now a.count a.index a.at a.store.now (omega (arith, c.if-count-index.false)) c.requires.0

pub head_of-requires : goal.head_of-requires
head_of-requires c = c.loop-i.invariant.inside

pub returns-in_default : goal.returns-in_default
returns-in_default c = passes-records c.requires.1 c.loop-i.invariant c.loop-i-test.true

pub overflow_add-body : goal.overflow_add-body
overflow_add-body c = omega (arith, c.loop-i.invariant.inside, c.requires.1)

pub name_end-requires : goal.name_end-requires
name_end-requires c = let h = c.in-Some.ensures in (omega (arith, h.1.0), omega (arith, c.requires.1))

pub overflow_add-stage : goal.overflow_add-stage
overflow_add-stage c = omega (arith, c.loop-i.invariant.inside, c.requires.1)

pub overflow_add-stage-in_default-name_end : goal.overflow_add-stage-in_default-name_end
overflow_add-stage-in_default-name_end c = omega (arith, c.loop-i.invariant.inside, c.requires.1)

pub overflow_cast-stage : goal.overflow_cast-stage
overflow_cast-stage c = omega (arith, c.loop-i.invariant.inside, c.requires.1)

pub returns-in_default-name_end : goal.returns-in_default-name_end
returns-in_default-name_end c = passes-head c.requires.1 c.loop-i.invariant _ _ _ c.loop-i-test.true c.in-Some.ensures.1 refl refl

pub loop-i-preserved : goal.loop-i-preserved
loop-i-preserved c = recorded_more c.requires.1 c.loop-i.invariant _ _ c.loop-i-test.true c.in-Some.ensures.1 c.in-Some-name_end.ensures

pub returns : goal.returns
returns c = passes-all c.requires.1 c.loop-i.invariant (omega (arith, c.loop-i-test.false))
