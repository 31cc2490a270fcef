use Prim.Native.Nat.{◌-◌, ◌≤◌}
use mathlib.Core.Path.{◌≡◌}
use lib.ListN.{length}
use Rattle.ase_walk.specs.Walking.{first_place}
use Rattle.walk.specs.scaffold.Walk.{answers}
use Rattle.listing.specs.Buffer.{put_all}
use Rattle.listing.specs.Text.{lines}
use Rattle.ase_list.specs.scaffold.Listing.{answer_line, shown_walk}
use Rattle.ase_list.proofs.put_blocks.Given as goal

abbrev pub invariant-loop-i : goal.invariant-loop-i
invariant-loop-i l = (l.i ≤ l.blocks) × (length l.out ≡ length l.initial.out) × (put_all (l.initial.out, l.n) (lines (answer_line l.file) 0 (answers (shown_walk l.file) l.blocks (first_place l.file))) ≡ put_all (l.out, l.at) (lines (answer_line l.file) l.i (answers (shown_walk l.file) (l.blocks - l.i) l.p)))
