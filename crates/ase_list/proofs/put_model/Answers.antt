use mathlib.Core.Path.{sym, ap, ◌∙◌}
use Rattle.colour.specs.declared.model.Model.{Model}
use Rattle.listing.specs.Buffer.{put_all}
use Rattle.ase_list.specs.Listing.{model}
use Rattle.ase_list.proofs.put_model.Goals as goal

pub returns-in-Rgb : goal.returns-in-Rgb
returns-in-Rgb c = let a = c.args in c.put_text.ensures ∙ ap (λ (m : Model). put_all (a.out.now, a.n) (model m)) (sym c.in-Rgb.is)

pub returns-in-Cmyk : goal.returns-in-Cmyk
returns-in-Cmyk c = let a = c.args in c.put_text-in-Cmyk.ensures ∙ ap (λ (m : Model). put_all (a.out.now, a.n) (model m)) (sym c.in-Cmyk.is)

pub returns-in-Lab : goal.returns-in-Lab
returns-in-Lab c = let a = c.args in c.put_text-in-Lab.ensures ∙ ap (λ (m : Model). put_all (a.out.now, a.n) (model m)) (sym c.in-Lab.is)

pub returns-in-Gray : goal.returns-in-Gray
returns-in-Gray c = let a = c.args in c.put_text-in-Gray.ensures ∙ ap (λ (m : Model). put_all (a.out.now, a.n) (model m)) (sym c.in-Gray.is)
