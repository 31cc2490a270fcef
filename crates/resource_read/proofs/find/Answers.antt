use mathlib.Core.Path.{ap, ◌∙◌}
use Prim.Native.Nat.{ℕ}
use Rattle.algebra.specs.Reader.{ok}
use Rattle.resource_judge.proofs.Judging.{told-no}
use Rattle.resource_read.specs.Table.{found_in}
use Rattle.resource_read.specs.scaffold.Parts.{rest}
use Rattle.resource_read.proofs.Answers.{accepted-of, found-refused, found-is}
use Rattle.resource_read.proofs.find.Goals as goal

pub returns-in_err-blocks : goal.returns-in_err-blocks
returns-in_err-blocks c = told-no _ _ c.from_residual.ensures.1 (found-refused c.args.file.now c.args.id c.in_err-blocks.ensures)

pub index_of-requires : goal.index_of-requires
index_of-requires c = let a = accepted-of c.args.file.now c.in_ok-blocks.ensures in (a.sound, a.count)

pub returns : goal.returns
returns c =
    let s = c.args.file.now in
    found-is s c.in_ok-blocks.ensures c.args.id (c.index_of.ensures ∙ ap (λ (i : ℕ). found_in i (ok (rest s 0) 0)) c.from.ensures)
