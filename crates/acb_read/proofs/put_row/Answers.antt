use mathlib.Core.Path.{ap, ◌∙◌}
use mathlib.Core.List.{◌∷◌, []}
use lib.Seq.{sets}
use Rattle.acb_read.proofs.put_row.Goals as goal

pub returns : goal.returns
returns c =
    let a = c.args in
    let g = a.given in
    c.put_numbers.ensures
    ∙ ap (sets a.table.now a.to) (λ i. g.name.first ∷ g.name.units ∷ c.from.ensures i ∷ c.from-2.ensures i ∷ c.from-3.ensures i ∷ c.from-4.ensures i ∷ c.from-5.ensures i ∷ c.from-6.ensures i ∷ c.from-7.ensures i ∷ c.from-8.ensures i ∷ c.from-9.ensures i ∷ c.from-10.ensures i ∷ c.number.ensures i ∷ [])
