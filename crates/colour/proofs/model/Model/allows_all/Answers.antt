use Rattle.colour.specs.declared.model.Model.TheVariants.{Rgb, Cmyk, Lab, Gray}
use Rattle.colour.proofs.Kept.{all-by}
use Rattle.colour.proofs.model.Model.allows_all.Goals as goal

pub returns-in-Rgb : goal.returns-in-Rgb
returns-in-Rgb c = all-by _ Rgb _ _ _ _ c.in-Rgb.is _ _ _ _ c.allows-x.ensures c.allows-y.ensures c.allows-z.ensures c.allows-w.ensures

pub returns-in-Cmyk : goal.returns-in-Cmyk
returns-in-Cmyk c = all-by _ Cmyk _ _ _ _ c.in-Cmyk.is _ _ _ _ c.allows-x.ensures c.allows-y.ensures c.allows-z.ensures c.allows-w.ensures

pub returns-in-Lab : goal.returns-in-Lab
returns-in-Lab c = all-by _ Lab _ _ _ _ c.in-Lab.is _ _ _ _ c.allows-x.ensures c.allows-y.ensures c.allows-z.ensures c.allows-w.ensures

pub returns-in-Gray : goal.returns-in-Gray
returns-in-Gray c = all-by _ Gray _ _ _ _ c.in-Gray.is _ _ _ _ c.allows-x.ensures c.allows-y.ensures c.allows-z.ensures c.allows-w.ensures
