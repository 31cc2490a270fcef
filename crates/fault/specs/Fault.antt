-- The refusal table: each fault's number.
use Rattle.std.specs.Prelude.{ℕ}
use Rattle.fault.specs.declared.Fault.{Fault}
use Rattle.fault.specs.declared.Fault.TheVariants as fault

abbrev pub number_of : Fault → ℕ
number_of fault.TooLong = 1
number_of fault.Short = 2
number_of fault.WrongTag = 3
number_of fault.Unknown = 4
number_of fault.OutOfRange = 5
number_of fault.LeftOver = 6
number_of fault.ListsDiffer = 7
number_of fault.BadlyClosed = 8
number_of fault.Unbalanced = 9
number_of fault.TooDeep = 10
number_of fault.NoRoom = 11
number_of fault.NoRecord = 12
number_of fault.WrongLength = 13
number_of fault.NoCounterpart = 14
