use Rattle.algebra.proofs.Counted.{length-counted}
use Rattle.acb_write.proofs.Puts.{put-file}
use Rattle.acb_write_judge.proofs.Outcomes.{no-fault, records-fit}
use mathlib.Core.Path.{◌≡◌, subst, ap}
use native.Mathlib.Omega.{arith}
use Prim.Native.Nat.{ℕ}
use Rattle.acb_judge.specs.Answer.{told_header}
use Rattle.acb_write_judge.specs.Answer.{told_ending}
use Rattle.acb_writing.specs.Writing.{sizes, size_within, head_fault}
use Rattle.algebra.specs.Table.{rows}
use Rattle.acb.specs.Row.{width, taken}
use Rattle.acb_write_judge.specs.scaffold.Parts.{given_at}
use Rattle.acb_write.proofs.put_file.Goals as goal

pub put_head-first-requires : goal.put_head-first-requires
put_head-first-requires c = let a = c.args in
    let h = told_header a.header in
    let t = told_ending a.ending in
    let gs = rows width taken a.run.now a.n 0 in
    (omega (arith, c.requires.1), subst (λ (k : ℕ). head_fault a.text.now h k ≡ 0) (length-counted (given_at a.run.now) a.n 0) (no-fault a.text.now h t gs c.requires.2).0)

pub put_colours-end-requires : goal.put_colours-end-requires
put_colours-end-requires c = let a = c.args in
    let h = told_header a.header in
    let t = told_ending a.ending in
    let gs = rows width taken a.run.now a.n 0 in
    let p = c.put_head-first in
    (c.requires.0, records-fit a.text.now h t gs c.requires.2 _ _ _ c.components_of.ensures p.ensures.0 (omega (arith, c.requires.1, p.auto.out)))

pub put_ending-requires : goal.put_ending-requires
put_ending-requires c = let a = c.args in
    let h = told_header a.header in
    let t = told_ending a.ending in
    let gs = rows width taken a.run.now a.n 0 in
    let p = c.put_head-first in
    let q = c.put_colours-end in
    (omega (arith, c.requires.1, p.ensures.0, p.auto.out, q.ensures.0, q.auto.out, ap (λ (j : ℕ). sizes (size_within j) gs) c.components_of.ensures), omega (arith, (no-fault a.text.now h t gs c.requires.2).2))

pub returns : goal.returns
returns c = let a = c.args in
    let h = told_header a.header in
    let t = told_ending a.ending in
    let gs = rows width taken a.run.now a.n 0 in
    let p = c.put_head-first in
    let q = c.put_colours-end in
    put-file a.run.now a.text.now h t a.n _ c.components_of.ensures a.out.now _ _ _ _ _ p.ensures.1 p.ensures.0 q.ensures.1 q.ensures.0 c.put_ending.ensures
