use lib.ListN.{length}
use mathlib.Core.Path.{◌≡◌}
use Rattle.std.proofs.Common.{rules}
use Rattle.algebra.specs.Table.{accepted, verdict}
use Rattle.algebra.proofs.Table.{accepted-of}
use Rattle.palette.specs.Palette.{colours}
use Rattle.palette_compare.proofs.compare.Goals as goal

pub fill-requires : goal.fill-requires
fill-requires c =
    let a = c.args in
    let n : accepted c.in_ok-n.n ≡ verdict length (colours a.one a.first.now) = search rules in
    let m : accepted c.in_ok-m.m ≡ verdict length (colours a.other a.second.now) = search rules in
    (accepted-of length (colours a.one a.first.now) n, accepted-of length (colours a.other a.second.now) m)
