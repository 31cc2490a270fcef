use Rattle.khuyurek.proofs.walks.ase_colour.Goals as goal

pub returns : goal.returns
returns c = rw (c.number.ensures, c.bits.ensures, c.traits.ensures, c.model.ensures)
