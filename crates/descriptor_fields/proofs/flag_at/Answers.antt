use Rattle.descriptor_fields.proofs.Exits.{tested-exit}
use mathlib.Core.Path.{refl, ◌∙◌}
use lib.Dec.{leb}
use borrow.Author.Tests.{le-leb, lt-leb}
use Rattle.algebra.specs.Reader.{ok}
use Rattle.descriptor.proofs.Fields.{flag-tested, tested-bad, tested-to}
use Rattle.descriptor_fields.proofs.flag_at.Goals as goal

pub returns-in_err-v : goal.returns-in_err-v
returns-in_err-v c =
    let a = c.args in
    tested-exit 1 a.file.now a.at (λ v. leb v 1) 5 (λ v q. ok tt q) _ _ _ c.from_residual.ensures.1 c.in_err-v.ensures ∙ flag-tested a.file.now a.at

pub returns-then-v-gt1 : goal.returns-then-v-gt1
returns-then-v-gt1 c =
    let a = c.args in
    tested-bad 1 a.file.now a.at (λ v. leb v 1) 5 (λ v q. ok tt q) c.in_ok-v.ensures (lt-leb _ 1 c.if-v-gt1.true) ∙ flag-tested a.file.now a.at

pub returns : goal.returns
returns c =
    let a = c.args in
    tested-to 1 a.file.now a.at (λ v. leb v 1) 5 (λ v q. ok tt q) c.in_ok-v.ensures (le-leb _ 1 c.if-v-gt1.false) refl ∙ flag-tested a.file.now a.at
