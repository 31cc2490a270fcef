use Prim.Native.Nat.{◌+◌, ◌-◌}
use mathlib.Core.Path.{◌≡◌}
use lib.ListN.{length}
use native.Mathlib.Omega.{arith}
use borrow.Author.Rules.{rules}
use Rattle.descriptor_entries_read.proofs.Stored.{part-stored}
use Rattle.descriptor_entries_read.proofs.put_row.Goals as goal

pub returns : goal.returns
returns c =
    let a = c.args in
    let sixteen : length a.row ≡ 16 = search rules in
    part-stored a.run.now a.row a.to (a.to + 16 - a.to) _ c.copy_from_slice.ensures.after (omega (arith, sixteen)) (omega (arith, sixteen, c.requires))
