use mathlib.Core.Path.{refl, sym, ap, ◌∙◌}
use Rattle.colour.specs.Channels.{bits_of}
use Rattle.colour.proofs.Kept.{same-four}
use Rattle.colour.proofs.channel.Channels.bits.Goals as goal

pub returns-in-Rgb : goal.returns-in-Rgb
returns-in-Rgb c = same-four c.bits_of.ensures c.bits_of-in-Rgb.ensures c.bits_of-in-Rgb-2.ensures refl ∙ ap bits_of (sym c.in-Rgb.is)

pub returns-in-Cmyk : goal.returns-in-Cmyk
returns-in-Cmyk c = same-four c.bits_of-in-Cmyk.ensures c.bits_of-in-Cmyk-2.ensures c.bits_of-in-Cmyk-3.ensures c.bits_of-in-Cmyk-4.ensures ∙ ap bits_of (sym c.in-Cmyk.is)

pub returns-in-Lab : goal.returns-in-Lab
returns-in-Lab c = same-four c.bits_of-in-Lab.ensures c.bits_of-in-Lab-2.ensures c.bits_of-in-Lab-3.ensures refl ∙ ap bits_of (sym c.in-Lab.is)

pub returns-in-Gray : goal.returns-in-Gray
returns-in-Gray c = same-four c.bits_of-in-Gray.ensures refl refl refl ∙ ap bits_of (sym c.in-Gray.is)
