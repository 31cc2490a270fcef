use mathlib.Core.Path.{sym, ap}
use Rattle.colour.specs.Models.{traits_of}
use Rattle.colour.proofs.model.Model.traits.Goals as goal

pub returns-in-Rgb : goal.returns-in-Rgb
returns-in-Rgb c = ap traits_of (sym c.in-Rgb.is)

pub returns-in-Cmyk : goal.returns-in-Cmyk
returns-in-Cmyk c = ap traits_of (sym c.in-Cmyk.is)

pub returns-in-Lab : goal.returns-in-Lab
returns-in-Lab c = ap traits_of (sym c.in-Lab.is)

pub returns-in-Gray : goal.returns-in-Gray
returns-in-Gray c = ap traits_of (sym c.in-Gray.is)
