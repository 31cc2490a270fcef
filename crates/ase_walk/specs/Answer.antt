-- What each answer of the code says.
use Rattle.std.specs.Prelude.{ℕ, Result, Ok, Err, Option, Some, None}
use Rattle.fault.specs.Fault.{number_of}
use Rattle.fault.specs.declared.Refusal.{Refusal}
use Rattle.ase.specs.Reading.{Entry}
use Rattle.ase.specs.Row.{RecordRow, given_of}
use Rattle.ase_read.specs.Answer.{shown_colour, shown}
use Rattle.ase_read.specs.declared.NamedColour.{NamedColour}
use Rattle.ase_read.specs.declared.Record.{Record}
use Rattle.walk.specs.Walk.{Call, gives, over, refused}
use Rattle.ase_walk.specs.Walking.{Started, starts, refusal, called, following}
use Rattle.ase_walk.specs.declared.BlockStep.{BlockStep}
use Rattle.ase_walk.specs.declared.ColourStep.{ColourStep}
use Rattle.ase_walk.specs.declared.Walker.{Walker}
use Rattle.ase_walk.specs.declared.WalkerStep.{WalkerStep}

-- a block with its name by place and number of units; done; or a refusal's number and place
abbrev pub told_block : Result (Option Record) Refusal → Call RecordRow
told_block (Ok (Some r)) = gives (shown r)
told_block (Ok None) = over
told_block (Err e) = refused (number_of e.0) e.1

abbrev pub told_block_step : BlockStep → Call RecordRow × ℕ
told_block_step r = (told_block r.block, r.next)

-- the same of a colour
abbrev pub told_next_colour : Result (Option NamedColour) Refusal → Call RecordRow
told_next_colour (Ok (Some c)) = gives (shown_colour c)
told_next_colour (Ok None) = over
told_next_colour (Err e) = refused (number_of e.0) e.1

abbrev pub told_colour_step : ColourStep → Call RecordRow × ℕ
told_colour_step r = (told_next_colour r.given, r.next)

-- a record as it is handed out
abbrev pub record_call : Call Entry → Call RecordRow
record_call (gives e) = gives (given_of e)
record_call over = over
record_call (refused x p) = refused x p

-- and the place that is left
abbrev pub call_and_place : Call Entry × ℕ → Call RecordRow × ℕ
call_and_place w = (record_call w.0, w.1)

-- what a call of a walker hands back: what its step says, and the whole walker
abbrev pub told_turn : WalkerStep → (Call RecordRow × ℕ) × Walker
told_turn t = (told_colour_step t.step, t.walker)

-- the record as it is handed out, and the walker that follows
abbrev pub walker_call : Walker → (Call RecordRow × ℕ) × Walker
walker_call w = (call_and_place (called w), following w)

abbrev pub told_start : Result ℕ Refusal → Started
told_start (Ok p) = starts p
told_start (Err e) = refusal (number_of e.0) e.1
