use Rattle.std.proofs.Common.{◌≡◌, ◌≤◌}
use Rattle.acb_names.specs.scaffold.Units.{left}
use Rattle.acb_names.proofs.compare_rest.Given as goal

abbrev pub invariant-loop-k : goal.invariant-loop-k
invariant-loop-k l = (l.from ≤ l.k) × (left l.file l.a.first l.a.count l.b.first l.b.count l.from ≡ left l.file l.a.first l.a.count l.b.first l.b.count l.k)
