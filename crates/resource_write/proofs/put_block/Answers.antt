use mathlib.Core.Path.{refl, ◌∙◌}
use native.Mathlib.Omega.{arith}
use Rattle.resource_write.proofs.Puts.{sound-id, sound-name, sound-payload, lent-lengths, name-fits, payload-fits, block-ends, block-put}
use Rattle.resource_write.proofs.put_block.Goals as goal

pub put_head-requires : goal.put_head-requires
put_head-requires c =
    let a = c.args in
    let t = a.text.now in
    let r = a.given in
    let x = sound-id t r c.requires.sound in
    (omega (arith, c.requires.inside), x.0, x.1)

pub part_of-requires : goal.part_of-requires
part_of-requires c =
    let a = c.args in
    let t = a.text.now in
    let r = a.given in
    sound-name t r c.requires.sound

pub put_padded-p-requires : goal.put_padded-p-requires
put_padded-p-requires c =
    let a = c.args in
    let t = a.text.now in
    let r = a.given in
    let us = c.part_of.ensures in
    let l = lent-lengths t r c.requires.sound _ _ us refl in
    (omega (arith, name-fits t r c.requires.sound _ _ us refl a.at _ c.requires.inside, c.put_head.auto.out), omega arith, omega (arith, l.0, (sound-id t r c.requires.sound).1))

pub part_of-requires-2 : goal.part_of-requires-2
part_of-requires-2 c =
    let a = c.args in
    let t = a.text.now in
    let r = a.given in
    sound-payload t r c.requires.sound

pub put_padded-requires : goal.put_padded-requires
put_padded-requires c =
    let a = c.args in
    let t = a.text.now in
    let r = a.given in
    let us = c.part_of.ensures in
    let ds = c.part_of-2.ensures in
    let l = lent-lengths t r c.requires.sound _ _ us ds in
    (omega (arith, payload-fits t r c.requires.sound _ _ us ds a.at _ _ c.requires.inside c.put_padded-p.ensures.1, c.put_head.auto.out, c.put_padded-p.auto.out, c.put_number.auto.out), omega arith, omega (arith, l.1, c.requires.short))

pub returns : goal.returns
returns c =
    let a = c.args in
    let t = a.text.now in
    let r = a.given in
    let us = c.part_of.ensures in
    let ds = c.part_of-2.ensures in
    let one = c.put_padded-p in
    let two = c.put_padded in
    let h = c.put_head in
    let kept = one.auto.out ∙ h.auto.out in
    (block-put t r c.requires.sound _ _ us ds a.out.now _ _ _ _ a.at _ c.requires.inside one.ensures.1 kept h.ensures one.ensures.0 c.put_number.ensures two.ensures.0, block-ends t r c.requires.sound _ _ us ds a.at _ _ one.ensures.1 two.ensures.1)
