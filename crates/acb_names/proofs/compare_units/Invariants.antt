use Rattle.std.proofs.Common.{◌≡◌, ◌*◌}
use Rattle.algebra.specs.Numbers.{nums}
use Rattle.acb_order.specs.Names.{compare_names}
use Rattle.acb_names.specs.scaffold.Units.{left}
use Rattle.acb_names.proofs.compare_units.Given as goal

abbrev pub invariant-loop-k : goal.invariant-loop-k
invariant-loop-k l = compare_names (nums 2 l.a.count l.file l.a.first) (nums 2 l.b.count l.file l.b.first) ≡ left l.file l.a.first l.a.count l.b.first l.b.count (4 * l.k)
