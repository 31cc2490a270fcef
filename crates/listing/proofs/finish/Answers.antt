use mathlib.Core.Path.{sym}
use native.Mathlib.Omega.{arith}
use lib.ListN.{length}
use lib.Seq.{length-take-le}
use borrow.Author.Tests.{le-leb, lt-leb}
use Rattle.listing.proofs.finish.Goals as goal

pub returns-then-out-full : goal.returns-then-out-full
returns-then-out-full c = rw (lt-leb c.args.full (length c.args.out.now) (omega arith))

pub slice_bounds-write_all-end : goal.slice_bounds-write_all-end
slice_bounds-write_all-end c = sym (length-take-le c.args.full c.args.out.now (omega arith))

pub returns : goal.returns
returns c = rw (le-leb c.args.full (length c.args.out.now) (omega arith))
