use Rattle.descriptor_fields.proofs.Exits.{tested-exit}
use lib.Dec.{eqb}
use borrow.Author.Tests.{eq-eqb, ne_eqb}
use Rattle.descriptor_fields.specs.scaffold.Answer.{counted}
use Rattle.descriptor.proofs.Fields.{tested-bad, tested-to}
use Rattle.descriptor_fields.proofs.counted_at.Goals as goal

pub returns-in_err-n : goal.returns-in_err-n
unfolding counted
returns-in_err-n c =
    let a = c.args in
    tested-exit 4 a.file.now a.at (λ n. eqb n a.objects) 5 _ _ _ _ c.from_residual.ensures.1 c.in_err-n.ensures

pub returns-then-n-objects : goal.returns-then-n-objects
unfolding counted
returns-then-n-objects c =
    let a = c.args in
    tested-to 4 a.file.now a.at (λ n. eqb n a.objects) 5 _ c.in_ok-n.ensures (eq-eqb _ a.objects c.if-n-objects.true) c.doubles_at.ensures

pub returns : goal.returns
unfolding counted
returns c =
    let a = c.args in
    tested-bad 4 a.file.now a.at (λ n. eqb n a.objects) 5 _ c.in_ok-n.ensures (ne_eqb _ a.objects c.if-n-objects.false)
