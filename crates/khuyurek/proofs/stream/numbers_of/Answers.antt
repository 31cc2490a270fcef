use Rattle.khuyurek.proofs.Streams.{first_back, colour-back, second_back, entry-back, unit-back, end_back, fault-back}
use Rattle.khuyurek.proofs.stream.numbers_of.Goals as goal

pub returns-in-First : goal.returns-in-First
returns-in-First c = first_back _ _ c.plain.ensures c.in-First.is

pub returns-in-Colour : goal.returns-in-Colour
returns-in-Colour c = colour-back _ _ _ _ c.plain-in-Colour.ensures c.in-Colour.is

pub returns-in-Second : goal.returns-in-Second
returns-in-Second c = second_back _ _ _ c.plain-in-Second.ensures c.in-Second.is

pub returns-in-Entry : goal.returns-in-Entry
returns-in-Entry c = entry-back _ _ _ _ c.plain-in-Entry.ensures c.in-Entry.is

pub returns-in-Unit : goal.returns-in-Unit
returns-in-Unit c = unit-back _ _ _ _ _ _ _ _ c.plain-x.ensures c.flag.ensures c.in-Unit.is

pub returns-in-End : goal.returns-in-End
returns-in-End c = end_back _ _ _ c.plain-in-End.ensures c.in-End.is

pub returns-in-Fault : goal.returns-in-Fault
returns-in-Fault c = fault-back _ _ _ _ _ _ c.plain-x-in-Fault.ensures c.in-Fault.is
