use lib.Dec.{eqb}
use mathlib.Core.Path.{◌≡◌, ap, ap₂, ◌∙◌}
use mathlib.Core.Bool.{Bool, ◌&&◌}
use Rattle.palette.specs.PaletteStep.{told_numbers}
use Rattle.palette_compare.specs.Compare.{same_numbers, kind_by}
use Rattle.palette_compare.proofs.Same.{same-pairs}
use Rattle.palette_compare.proofs.kind_at.Goals as goal

pub returns : goal.returns
unfolding same_numbers
returns c =
    let x = c.args.x.numbers in
    let y = c.args.y.numbers in
    let e : c.eq-value.result ≡ same_numbers (told_numbers x) (told_numbers y) = c.eq-value.ensures ∙ ap (λ (b : Bool). eqb x.tag y.tag && b) (same-pairs x.numbers y.numbers) in
    c.kind_by.ensures ∙ ap₂ kind_by e (c.same_bytes.ensures ∙ ap₂ same_numbers c.name_part-name.ensures c.name_part-beside.ensures)
