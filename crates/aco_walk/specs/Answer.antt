-- What each answer of the code says.
use Rattle.std.specs.Prelude.{ℕ, Result, Ok, Err, Option, Some, None, length}
use Rattle.colour.specs.declared.space.Colour.{Colour}
use Rattle.colour.specs.Inks.{ink_number}
use Rattle.aco.specs.Reading.{Entry, zero_colour}
use Rattle.aco.specs.Row.{given_of}
use Rattle.walk.specs.Walk.{Call, gives, over, refused}
use Rattle.aco_walk.specs.Walking.{Started, starts, refusal, called, following}
use Rattle.fault.specs.Fault.{number_of}
use Rattle.fault.specs.declared.Refusal.{Refusal}
use Rattle.aco_judge.specs.declared.Rejection.{Rejection}
use Rattle.aco_judge.specs.declared.Rejection.TheVariants as rejection
use Rattle.aco_read.specs.declared.SwatchRecord.{SwatchRecord}
use Rattle.aco_walk.specs.declared.ColourStep.{ColourStep}
use Rattle.aco_walk.specs.declared.Walker.{Walker}
use Rattle.aco_walk.specs.declared.WalkerStep.{WalkerStep}

-- a colour, all zeros where there is none, and a name's place and number of units, and the ink; done; or a refusal's number and place
abbrev pub told_given : Result (Option SwatchRecord) Refusal → Colour × Call (ℕ × ℕ × ℕ)
told_given (Ok (Some w)) = (w.colour, gives (w.name.first, w.name.units, ink_number w.ink))
told_given (Ok None) = (zero_colour, over)
told_given (Err e) = (zero_colour, refused (number_of e.0) e.1)

-- the colour, the answer and the place that is left
abbrev pub told_colour_step : ColourStep → Colour × Call (ℕ × ℕ × ℕ) × ℕ
told_colour_step r = ((told_given r.given).0, (told_given r.given).1, r.next)

-- a record as it is handed out: its colour by value, where its name lies, and its ink; where there is none, the colour is all zeros
abbrev pub record_call : Call Entry → Colour × Call (ℕ × ℕ × ℕ)
record_call (gives e) = (e.colour, gives (e.name.first, length e.name.units, (given_of e).ink))
record_call over = (zero_colour, over)
record_call (refused x p) = (zero_colour, refused x p)

-- and the place that is left
abbrev pub call_and_place : Call Entry × ℕ → Colour × Call (ℕ × ℕ × ℕ) × ℕ
call_and_place w = ((record_call w.0).0, (record_call w.0).1, w.1)

-- what a call of a walker hands back: what its step says, and the whole walker
abbrev pub told_turn : WalkerStep → (Colour × Call (ℕ × ℕ × ℕ) × ℕ) × Walker
told_turn t = (told_colour_step t.step, t.walker)

-- the record as it is handed out, and the walker that follows
abbrev pub walker_call : Walker → (Colour × Call (ℕ × ℕ × ℕ) × ℕ) × Walker
walker_call w = (call_and_place (called w), following w)

abbrev pub told_start : Result ℕ Rejection → Started
told_start (Ok p) = starts p
told_start (Err (rejection.Refused e)) = refusal (number_of e.0) e.1 0 0
told_start (Err (rejection.Differ p r f)) = refusal 7 p r f
