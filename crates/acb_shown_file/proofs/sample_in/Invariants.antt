use Prim.Native.Nat.{◌-◌}
use mathlib.Core.Path.{◌≡◌}
use mathlib.Core.List.{map}
use Rattle.acb_shown_values.specs.Pages.{sample_from, non_dummies}
use Rattle.acb_shown_values.specs.Answer.{told_page, page_of}
use Rattle.acb_shown_values.proofs.Sampling.{or_last}
use Rattle.acb_shown_file.specs.View.{unnamed}
use Rattle.algebra.specs.Table.{rows}
use Rattle.acb.specs.Row.{width, taken}
use Rattle.acb_shown_file.proofs.sample_in.Given as goal

abbrev pub invariant-loop-i : goal.invariant-loop-i
invariant-loop-i l =
    page_of (sample_from l.first l.offset (map unnamed (rows width taken l.table (l.end - l.first) l.first))) ≡ or_last (told_page l.found) l.left (non_dummies l.i (map unnamed (rows width taken l.table (l.end - l.i) l.i)))
