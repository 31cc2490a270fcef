use mathlib.Core.Path.{sym}
use Prim.Native.Nat.{◌+◌}
use native.Mathlib.Omega.{arith}
use borrow.Author.Tests.{lt-leb}
use Rattle.algebra.proofs.Stores.{room-left}
use Rattle.fields.proofs.store.has_room.Goals as goal

pub returns-then-n-w : goal.returns-then-n-w
returns-then-n-w c = let a = c.args in sym (lt-leb (a.at + (a.w + a.k)) a.n (omega arith))

pub returns-then-n-w-2 : goal.returns-then-n-w-2
returns-then-n-w-2 c = let a = c.args in sym (lt-leb (a.at + (a.w + a.k)) a.n (omega arith))

pub returns : goal.returns
returns c = let a = c.args in room-left a.n a.at a.w a.k (omega arith)
