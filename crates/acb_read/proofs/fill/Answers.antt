use Prim.Native.Nat.{ℕ, ◌+◌, ◌-◌, ◌*◌}
use mathlib.Core.Path.{◌≡◌, sym, ap, ◌∙◌}
use mathlib.Core.List.{List, map}
use lib.Seq.{sets}
use native.Mathlib.Omega.{arith}
use Rattle.algebra.specs.Numbers.{joined}
use Rattle.colour.specs.Inks.{ink_number}
use Rattle.acb.specs.Row.{RecordRow, width, numbers, tag_ink, stated}
use Rattle.acb_judge.specs.Answer.{told_tag}
use Rattle.acb_read.specs.Walked.{step, given_in, walked}
use Rattle.acb_read.proofs.Walking.{walked-turn, walked_end, row-stored, rows-stored}
use Rattle.acb_read.proofs.fill.Goals as goal

pub put_at-at-requires : goal.put_at-at-requires
put_at-at-requires c =
    let l = c.loop-i in
    (c.requires.0, omega (arith, c.loop-i-test.true, c.requires.1, l.invariant.2))

pub loop-i-preserved : goal.loop-i-preserved
loop-i-preserved c =
    let put = c.put_at-at in
    let t = c.loop-i-test.true in
    let l = c.loop-i in
    let a = c.args in
    let b = a.book in
    let s = a.file.now in
    let k = ink_number (tag_ink (told_tag b.tag)) in
    let n = put.ensures.next in
    let z : width * (l.i + 1) ≡ width * l.i + width = omega arith in (
      omega arith,
      row-stored _ l.table _ (width * l.i) (width * (l.i + 1)) _ _
          (l.invariant.1 ∙ ap (λ (gs : List RecordRow). sets l.table (width * l.i) (joined numbers (map (stated k) gs))) (walked-turn b.header.space s l.at b.count l.i t))
          (put.ensures.table ∙ ap (λ (j : ℕ). sets l.table (width * l.i) (numbers (stated j (given_in (step b.header.space s l.at).0)))) (ap ink_number c.ink_of-ink.ensures)) z
          ∙ ap (λ (q : ℕ). sets put.new.table (width * (l.i + 1)) (joined numbers (map (stated k) (walked b.header.space s q (b.count - (l.i + 1)))))) (sym n),
      put.auto.table ∙ l.invariant.2,
    )

pub returns : goal.returns
returns c =
    let l = c.loop-i in
    let b = c.args.book in
    sym (rows-stored _ l.table (width * l.i) _ l.invariant.1 (ap (map (stated (ink_number (tag_ink (told_tag b.tag))))) (walked_end b.header.space c.args.file.now l.at b.count l.i c.loop-i-test.false)))
