use mathlib.Core.Path.{refl}
use native.Mathlib.Omega.{arith}
use Rattle.aco_pass.proofs.Turns.{passes-as, passes_none, passes-fault}
use Rattle.aco_pass.proofs.pass_within.Goals as goal

pub returns-in-Colour : goal.returns-in-Colour
returns-in-Colour c = passes-as c.in-Colour.is (c.pass_colours.ensures c.args.start c.requires.1)

pub returns-in-Entry : goal.returns-in-Entry
returns-in-Entry c = passes-as c.in-Entry.is c.pass_records.ensures

pub returns-in-Unit : goal.returns-in-Unit
returns-in-Unit c = passes-as c.in-Unit.is (c.pass_units.ensures c.args.start c.args.store.now c.requires.1)

pub returns-in-Fault : goal.returns-in-Fault
returns-in-Fault c = passes-as c.in-Fault.is (passes-fault _ _ _ _ _ _ _ _ c.requires.0 c.requires.1)

pub returns-in-First : goal.returns-in-First
returns-in-First c = passes-as c.in-First.is (passes_none _ _ _ _ _ (omega (arith, c.requires.0)) refl)

pub returns-in-Second : goal.returns-in-Second
returns-in-Second c = passes-as c.in-Second.is (passes_none _ _ _ _ _ (omega (arith, c.requires.0)) refl)

pub returns-in-End : goal.returns-in-End
returns-in-End c = passes-as c.in-End.is (passes_none _ _ _ _ _ (omega (arith, c.requires.0)) refl)
