-- What a record of a run is taken for. Assumes nothing.
use Prim.Native.Nat.{ℕ, ◌+◌, ◌<◌}
use mathlib.Core.Path.{◌≡◌, ap, ◌∙◌}
use mathlib.Core.List.{List, ◌++◌}
use lib.ListN.{length, take}
use lib.Seq.{take_at}
use borrow.Author.Tests.{lt-leb}
use native.Mathlib.Omega.{arith}
use Rattle.colour.specs.Models.{channels_of}
use Rattle.ase.specs.Row.{RecordRow}
use Rattle.ase_writing.specs.Writing.{channels_in, found_in}

-- its channels are as many as its model has; those behind them are no part of it, whatever they hold
pub spare-left-out : (g : RecordRow) (own spare : List ℕ) → g.channels ≡ own ++ spare → length own ≡ channels_of g.model → channels_in g ≡ own
spare-left-out g own spare e h = ap (take (channels_of g.model)) e ∙ take_at own spare (channels_of g.model) h

-- a name of so many units that its count, with the closing zero, passes 16 bits is 5, wherever it lies
pub long-count-refused : (names : List ℕ) (g : RecordRow) → 65534 < g.units → found_in names g ≡ 5
long-count-refused names g h = rw (lt-leb (g.units + 1) 65535 (omega arith))
