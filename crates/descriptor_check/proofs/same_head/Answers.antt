use Rattle.descriptor_check.proofs.Decided.{deny, grant}
use Rattle.descriptor_check.proofs.same_head.Goals as goal

pub returns-then-first-row : goal.returns-then-first-row
returns-then-first-row c =
    deny (λ p. c.if-first-row.true p.0)

pub returns-then-depth-row : goal.returns-then-depth-row
returns-then-depth-row c =
    deny (λ p. c.if-depth-row.true p.1)

pub returns-then-kind-row : goal.returns-then-kind-row
returns-then-kind-row c =
    deny (λ p. c.if-kind-row.true p.2)

pub returns : goal.returns
returns c =
    grant (c.if-first-row.false, c.if-depth-row.false, c.if-kind-row.false)
