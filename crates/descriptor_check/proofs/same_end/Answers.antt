use Rattle.descriptor_check.proofs.Decided.{deny, grant}
use Rattle.descriptor_check.proofs.same_end.Goals as goal

pub returns-then-size-row : goal.returns-then-size-row
returns-then-size-row c =
    deny (λ p. c.if-size-row.true p.0)

pub returns-then-next-row : goal.returns-then-next-row
returns-then-next-row c =
    deny (λ p. c.if-next-row.true p.1)

pub returns : goal.returns
returns c =
    grant (c.if-size-row.false, c.if-next-row.false)
