use mathlib.Core.Path.{sym, ◌∙◌}
use native.Mathlib.Omega.{arith}
use Rattle.fields.proofs.Loads.{missing, there}
use Rattle.fields.proofs.number.U32Number.load.Goals as goal

pub returns-then-not-has_bytes : goal.returns-then-not-has_bytes
returns-then-not-has_bytes c =
    let a = c.args in
    missing 4 a.s.now a.at (omega arith) (sym c.has_bytes.ensures ∙ c.if-not-has_bytes.true)

pub returns : goal.returns
returns c =
    let a = c.args in
    there 4 a.s.now a.at (sym c.has_bytes.ensures ∙ c.if-not-has_bytes.false) c.u32_in.ensures
