use mathlib.Core.Path.{sym, ap₂, ◌∙◌}
use mathlib.Core.Bool.{Bool, ◌&&◌}
use lib.Dec.{leb, eqb}
use native.Mathlib.Omega.{arith}
use Rattle.colour.proofs.Laws.{sound-whole, sound-lab, sound-gray, sound-unknown}
use Rattle.colour.proofs.space.is_sound.Goals as goal

pub returns-then-space-le-CMYK : goal.returns-then-space-le-CMYK
returns-then-space-le-CMYK c = sym (sound-whole _ _ _ _ _ c.if-space-le-CMYK.true (omega arith) (omega arith) (omega arith) (omega arith))

pub returns-then-space-eq-GRAY : goal.returns-then-space-eq-GRAY
returns-then-space-eq-GRAY c = sym (sound-gray _ _ _ _ _ c.if-space-eq-GRAY.true)

pub returns-then-space-eq-LAB : goal.returns-then-space-eq-LAB
returns-then-space-eq-LAB c =
    let a = c.args in
    ap₂ (λ (x y : Bool). leb a.a 10000 && x && y && eqb a.d 0) c.is_chrominance.ensures c.is_chrominance-then-space-eq-LAB.ensures ∙ sym (sound-lab _ a.a a.b a.c a.d c.if-space-eq-LAB.true)

pub returns : goal.returns
returns c = sym (sound-unknown _ _ _ _ _ c.if-space-le-CMYK.false c.if-space-eq-LAB.false c.if-space-eq-GRAY.false)
