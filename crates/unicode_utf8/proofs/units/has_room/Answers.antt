use mathlib.Core.Path.{sym, ap}
use Prim.Native.Nat.{ℕ}
use native.Mathlib.Omega.{arith}
use lib.Dec.{leb}
use lib.ListN.{length}
use Rattle.unicode_text.specs.Reading.{utf8}
use borrow.Author.Tests.{le-leb}
use Rattle.unicode_text.proofs.Short.{short}
use Rattle.unicode_utf8.proofs.units.has_room.Goals as goal

pub returns-then-many-room : goal.returns-then-many-room
returns-then-many-room g c = let a = c.args in let us = g.U.Units.units a.units in sym (le-leb (length (utf8 us)) a.room (omega (arith, c.many.ensures.0, short us c.many.ensures.1)))

pub returns : goal.returns
returns g c = ap (λ (n : ℕ). leb n c.args.room) c.count.ensures
