use mathlib.Core.Path.{sym}
use lib.Seq.{set_out}
use native.Mathlib.Omega.{arith}
use Rattle.descriptor_entries_read.proofs.put_at.Goals as goal

pub returns-else-i-lt-WIDTH : goal.returns-else-i-lt-WIDTH
returns-else-i-lt-WIDTH c =
    let a = c.args in
    sym (set_out a.entry.now a.i a.v (omega (arith, c.if-i-lt-WIDTH.false, c.requires)))
