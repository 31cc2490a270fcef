use Rattle.std.proofs.Common.{◌≡◌, ◌+◌}
use Rattle.acb_order.specs.Names.{compare_names}
use Rattle.acb_order.specs.Places.{name_at}
use Rattle.acb_names.specs.scaffold.Units.{rest}
use Rattle.acb_names.proofs.against.Given as goal

abbrev pub invariant-loop-k : goal.invariant-loop-k
invariant-loop-k l = compare_names l.name (name_at l.file l.p) ≡ rest l.file l.name (l.p + 4) l.units.count l.k
