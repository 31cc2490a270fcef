use Prim.Native.Nat.{ℕ}
use mathlib.Core.Path.{sym, ap, ◌∙◌}
use lib.Dec.{leb}
use Rattle.colour.proofs.Laws.{ranged-full, ranged-light, ranged-chrominance}
use Rattle.colour.proofs.space.is_ranged.Goals as goal

pub returns-then-space-ne-LAB : goal.returns-then-space-ne-LAB
returns-then-space-ne-LAB c =
    let a = c.args in
    ap (λ (n : ℕ). leb a.sample n) c.full_sample.ensures ∙ sym (ranged-full a.space a.position a.sample c.if-space-ne-LAB.true)

pub returns-then-position-eq0 : goal.returns-then-position-eq0
returns-then-position-eq0 c =
    let a = c.args in
    ap (λ (n : ℕ). leb a.sample n) c.full_sample-then-position-eq0.ensures ∙ sym (ranged-light a.space a.position a.sample c.if-position-eq0.true)

pub returns : goal.returns
returns c =
    let a = c.args in
    c.is_chrominance.ensures ∙ sym (ranged-chrominance a.space a.position a.sample c.if-space-ne-LAB.false c.if-position-eq0.false)
