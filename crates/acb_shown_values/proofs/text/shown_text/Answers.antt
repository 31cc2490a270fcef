use native.Mathlib.Omega.{arith}
use Rattle.acb_shown_values.proofs.Texts.{shown-inside}
use Rattle.acb_shown_values.proofs.text.shown_text.Goals as goal

pub slice_bounds-result-count : goal.slice_bounds-result-count
slice_bounds-result-count c = omega (arith, shown-inside c.args.string.now, c.shown_start.ensures)

pub slice_bounds-result-start : goal.slice_bounds-result-start
slice_bounds-result-start c = omega (arith, shown-inside c.args.string.now, c.shown_start.ensures)
