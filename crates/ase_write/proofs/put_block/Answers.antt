use Rattle.ase_write_judge.proofs.Judging.{size-least, size-colour, sound}
use Rattle.ase_write.proofs.Puts.{type-small, size-name, sound-name, sound-colour, put-stop, put-start, put-colour}
use mathlib.Core.Path.{refl}
use native.Mathlib.Omega.{arith}
use Rattle.ase.specs.Row.{given_in}
use Rattle.ase_write.proofs.put_block.Goals as goal

pub overflow_cast-given : goal.overflow_cast-given
overflow_cast-given c =
    let a = c.args in
    let g = given_in a.given in
    let f = sound a.text.now 1 g c.requires.0.sound in
    omega (arith, type-small a.text.now g f)

pub overflow_sub-size : goal.overflow_sub-size
overflow_sub-size c = omega (arith, size-least (given_in c.args.given), c.requires.1)

pub returns-then-given-eq-STOP : goal.returns-then-given-eq-STOP
returns-then-given-eq-STOP c =
    let a = c.args in
    let g = given_in a.given in
    let f = sound a.text.now 1 g c.requires.0.sound in
    put-stop a.text.now g refl f a.out.now _ _ a.at a.size c.requires.1 c.requires.0.inside c.put_number.ensures c.put_number-2.ensures c.if-given-eq-STOP.true

pub put_name-requires : goal.put_name-requires
put_name-requires c =
    let a = c.args in
    let g = given_in a.given in
    let f = sound a.text.now 1 g c.requires.0.sound in
    (omega (arith, size-name a.text.now g f c.if-given-eq-STOP.false, c.requires.0.inside, c.put_number.auto.out, c.put_number-2.auto.out), sound-name a.text.now g f c.if-given-eq-STOP.false)

pub returns-then-given-eq-START : goal.returns-then-given-eq-START
returns-then-given-eq-START c =
    let a = c.args in
    let g = given_in a.given in
    let f = sound a.text.now 1 g c.requires.0.sound in
    put-start a.text.now g refl f a.out.now _ _ a.at a.size c.requires.1 c.requires.0.inside c.put_number.ensures c.put_number-2.ensures _ c.put_name.ensures c.if-given-eq-START.true

pub put_after_name-requires : goal.put_after_name-requires
put_after_name-requires c =
    let a = c.args in
    let g = given_in a.given in
    let f = sound a.text.now 1 g c.requires.0.sound in
    let x = c.if-given-eq-STOP.false in
    let y = c.if-given-eq-START.false in
    let k = sound-colour a.text.now g f x y in
    let h = size-colour g k.0 in
    (omega (arith, h, c.requires.0.inside, c.put_number.auto.out, c.put_number-2.auto.out, c.put_name.auto.out), k.1)

pub returns : goal.returns
returns c =
    let a = c.args in
    let g = given_in a.given in
    let f = sound a.text.now 1 g c.requires.0.sound in
    put-colour a.text.now g refl f a.out.now _ _ a.at a.size c.requires.1 c.requires.0.inside c.put_number.ensures c.put_number-2.ensures _ c.put_name.ensures c.if-given-eq-STOP.false c.if-given-eq-START.false _ c.put_after_name.ensures
