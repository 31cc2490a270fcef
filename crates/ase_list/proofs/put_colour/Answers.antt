use mathlib.Core.Path.{◌≡◌, sym, ap, ◌∙◌}
use lib.ListN.{length}
use lib.Seq.{length-take-le}
use native.Mathlib.Omega.{arith}
use Rattle.colour.specs.Inks.{ink_number}
use Rattle.walk.specs.Names.{name_part}
use Rattle.ase_list.proofs.Listed.{few, four-bits, put-colour-content}
use Rattle.ase_list.proofs.put_colour.Goals as goal

pub slice_bounds-channels-end : goal.slice_bounds-channels-end
slice_bounds-channels-end c =
    let four : length c.bits-bits.result ≡ 4 = ap length c.bits-bits.ensures ∙ four-bits c.args.given.colour in
    sym (length-take-le _ _ (omega (arith, four, few c.traits.result c.model-model.result c.traits.ensures)))

pub returns : goal.returns
returns c =
    let a = c.args in
    let g = a.given in
    put-colour-content (a.out.now, a.n) c.model-model.result c.traits.result c.bits-bits.result g.colour (ink_number g.ink) (name_part a.file.now g.place g.units) _
    c.model-model.ensures c.traits.ensures c.bits-bits.ensures c.name_part.ensures c.put_model-at.ensures c.put_channels-at.ensures c.put_ink-at.ensures c.put_name.ensures
