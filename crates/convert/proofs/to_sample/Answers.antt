use Rattle.algebra.specs.Chars.{chars}
use Rattle.colour.specs.Models.{model_of}
use Rattle.convert.proofs.Converting.{same_tag, no_tag}
use Rattle.convert.proofs.to_sample.Goals as goal

pub returns-then-tag : goal.returns-then-tag
unfolding model_of
returns-then-tag c = same_tag c.args.tag (chars "RGB ") c.args.bits _ c.if-tag.true c.rgb_in.ensures

pub returns-then-tag-2 : goal.returns-then-tag-2
unfolding model_of
returns-then-tag-2 c = same_tag c.args.tag (chars "CMYK") c.args.bits _ c.if-tag-2.true c.cmyk_in.ensures

pub returns-then-tag-3 : goal.returns-then-tag-3
unfolding model_of
returns-then-tag-3 c = same_tag c.args.tag (chars "LAB ") c.args.bits _ c.if-tag-3.true c.lab_in.ensures

pub returns-then-tag-4 : goal.returns-then-tag-4
unfolding model_of
returns-then-tag-4 c = same_tag c.args.tag (chars "Gray") c.args.bits _ c.if-tag-4.true c.gray_in.ensures

pub returns : goal.returns
returns c = no_tag c.args.tag c.args.bits c.if-tag.false c.if-tag-2.false c.if-tag-3.false c.if-tag-4.false
