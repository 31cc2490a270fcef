use mathlib.Core.Path.{sym, ap, ◌∙◌}
use Rattle.descriptor_judge.proofs.Whole.{handed}
use Rattle.descriptor_read.specs.scaffold.Values.{told_extent, extent_of}
use Rattle.descriptor_read.proofs.Values.{row-refused}
use Rattle.descriptor_read.proofs.Extents.{judged, extents-are}
use Rattle.descriptor_read.proofs.extent_at.Goals as goal

pub returns-in_err-_rows : goal.returns-in_err-_rows
returns-in_err-_rows c = handed told_extent _ _ c.from_residual.ensures.1 (sym (ap extent_of (row-refused c.args.file.now c.args.row _ _ c.in_err-_rows.ensures)))

pub extent_in-requires : goal.extent_in-requires
extent_in-requires c = judged c.args.file.now _ c.in_ok-_rows.ensures

pub returns : goal.returns
returns c = let a = c.args in c.extent_in.ensures ∙ extents-are a.file.now (judged a.file.now _ c.in_ok-_rows.ensures) a.row
