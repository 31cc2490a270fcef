use Rattle.convert.proofs.Converting.{same-space, other-channel}
use Rattle.conversion.proofs.Whole.{whole-refused, whole-rgb, whole-cmyk, whole-gray}
use Rattle.convert.proofs.to_channels.Goals as goal

pub returns-in-0 : goal.returns-in-0
returns-in-0 c =
    let k = c.in-0.is in
    whole-rgb _ _ _ _ k (same-space _ _ _ _ k c.rgb_channel.ensures) (same-space _ _ _ _ k c.rgb_channel-in-0.ensures) (same-space _ _ _ _ k c.rgb_channel-in-0-2.ensures)

pub returns-in-2 : goal.returns-in-2
returns-in-2 c =
    let k = c.in-2.is in
    whole-cmyk _ _ _ _ _ k (same-space _ _ _ _ k c.cmyk_channel.ensures) (same-space _ _ _ _ k c.cmyk_channel-in-2.ensures) (same-space _ _ _ _ k c.cmyk_channel-in-2-2.ensures)
    (same-space _ _ _ _ k c.cmyk_channel-in-2-3.ensures)

pub returns-in-8 : goal.returns-in-8
returns-in-8 c = whole-gray _ _ c.in-8.is c.gray_of.ensures

pub returns-in_default : goal.returns-in_default
returns-in_default c = let r = c.in_default.in_default-own.rest in whole-refused _ _ (other-channel _ _ _ r.0.0.1 r.0.1 r.1 c.unmatched.ensures)
