use mathlib.Core.Path.{sym, ◌∙◌}
use lib.Ieee.{binary32}
use Rattle.algebra.proofs.Floats.{no_nan}
use Rattle.colour.proofs.Kept.{all-finite, made-is, made-not}
use Rattle.colour.specs.declared.model.Model.TheVariants.{Rgb, Cmyk, Lab, Gray}
use Rattle.colour.proofs.channel.Channels.from_bits.Goals as goal

pub float_from_bits-result : goal.float_from_bits-result
float_from_bits-result c = no_nan binary32 _ (all-finite _ Rgb _ _ _ _ c.in-Rgb.is (sym c.allows_all.ensures ∙ c.if-not-allows_all.false)).0

pub float_from_bits-result-in-Rgb : goal.float_from_bits-result-in-Rgb
float_from_bits-result-in-Rgb c = no_nan binary32 _ (all-finite _ Rgb _ _ _ _ c.in-Rgb.is (sym c.allows_all.ensures ∙ c.if-not-allows_all.false)).1

pub float_from_bits-result-in-Rgb-2 : goal.float_from_bits-result-in-Rgb-2
float_from_bits-result-in-Rgb-2 c = no_nan binary32 _ (all-finite _ Rgb _ _ _ _ c.in-Rgb.is (sym c.allows_all.ensures ∙ c.if-not-allows_all.false)).2

pub float_from_bits-result-in-Cmyk : goal.float_from_bits-result-in-Cmyk
float_from_bits-result-in-Cmyk c = no_nan binary32 _ (all-finite _ Cmyk _ _ _ _ c.in-Cmyk.is (sym c.allows_all.ensures ∙ c.if-not-allows_all.false)).0

pub float_from_bits-result-in-Cmyk-2 : goal.float_from_bits-result-in-Cmyk-2
float_from_bits-result-in-Cmyk-2 c = no_nan binary32 _ (all-finite _ Cmyk _ _ _ _ c.in-Cmyk.is (sym c.allows_all.ensures ∙ c.if-not-allows_all.false)).1

pub float_from_bits-result-in-Cmyk-3 : goal.float_from_bits-result-in-Cmyk-3
float_from_bits-result-in-Cmyk-3 c = no_nan binary32 _ (all-finite _ Cmyk _ _ _ _ c.in-Cmyk.is (sym c.allows_all.ensures ∙ c.if-not-allows_all.false)).2

pub float_from_bits-result-in-Cmyk-4 : goal.float_from_bits-result-in-Cmyk-4
float_from_bits-result-in-Cmyk-4 c = no_nan binary32 _ (all-finite _ Cmyk _ _ _ _ c.in-Cmyk.is (sym c.allows_all.ensures ∙ c.if-not-allows_all.false)).3

pub float_from_bits-result-in-Lab : goal.float_from_bits-result-in-Lab
float_from_bits-result-in-Lab c = no_nan binary32 _ (all-finite _ Lab _ _ _ _ c.in-Lab.is (sym c.allows_all.ensures ∙ c.if-not-allows_all.false)).0

pub float_from_bits-result-in-Lab-2 : goal.float_from_bits-result-in-Lab-2
float_from_bits-result-in-Lab-2 c = no_nan binary32 _ (all-finite _ Lab _ _ _ _ c.in-Lab.is (sym c.allows_all.ensures ∙ c.if-not-allows_all.false)).1

pub float_from_bits-result-in-Lab-3 : goal.float_from_bits-result-in-Lab-3
float_from_bits-result-in-Lab-3 c = no_nan binary32 _ (all-finite _ Lab _ _ _ _ c.in-Lab.is (sym c.allows_all.ensures ∙ c.if-not-allows_all.false)).2

pub float_from_bits-result-in-Gray : goal.float_from_bits-result-in-Gray
float_from_bits-result-in-Gray c = no_nan binary32 _ (all-finite _ Gray _ _ _ _ c.in-Gray.is (sym c.allows_all.ensures ∙ c.if-not-allows_all.false))

pub returns-then-not-allows_all : goal.returns-then-not-allows_all
returns-then-not-allows_all c = let a = c.args in made-not a.model a.a a.b a.c a.d (sym c.allows_all.ensures ∙ c.if-not-allows_all.true)

pub returns-in-Rgb : goal.returns-in-Rgb
returns-in-Rgb c = made-is _ Rgb _ _ _ _ c.in-Rgb.is (sym c.allows_all.ensures ∙ c.if-not-allows_all.false)

pub returns-in-Cmyk : goal.returns-in-Cmyk
returns-in-Cmyk c = made-is _ Cmyk _ _ _ _ c.in-Cmyk.is (sym c.allows_all.ensures ∙ c.if-not-allows_all.false)

pub returns-in-Lab : goal.returns-in-Lab
returns-in-Lab c = made-is _ Lab _ _ _ _ c.in-Lab.is (sym c.allows_all.ensures ∙ c.if-not-allows_all.false)

pub returns-in-Gray : goal.returns-in-Gray
returns-in-Gray c = made-is _ Gray _ _ _ _ c.in-Gray.is (sym c.allows_all.ensures ∙ c.if-not-allows_all.false)
