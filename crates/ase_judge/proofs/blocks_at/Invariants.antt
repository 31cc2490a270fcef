use mathlib.Core.Path.{◌≡◌}
use Prim.Native.Nat.{◌-◌, ◌≤◌}
use Rattle.algebra.specs.Reader.{map_res}
use Rattle.ase_judge.specs.scaffold.Answer.{tally}
use Rattle.ase_judge.proofs.Judging.{rest, plus}
use Rattle.ase_judge.proofs.blocks_at.Given as goal

abbrev pub invariant-loop-i : goal.invariant-loop-i
invariant-loop-i l = (l._i ≤ l.n) × (l.colours ≤ l._i) × (map_res (tally 0) (rest l.n 0 l.file l.at) ≡ map_res (plus l.colours l.depth) (rest (l.n - l._i) l.depth l.file l.p))
