use Rattle.descriptor_fields.proofs.Exits.{tested-exit}
use mathlib.Core.Path.{refl, sym, ◌∙◌}
use lib.Ieee.{binary64, of_bits}
use lib.Ieee.Scale.{finite}
use Rattle.algebra.specs.Reader.{ok}
use Rattle.descriptor.proofs.Fields.{double-tested, tested-bad, tested-to}
use Rattle.descriptor_fields.proofs.double_at.Goals as goal

pub returns-in_err-bits : goal.returns-in_err-bits
returns-in_err-bits c =
    let a = c.args in
    tested-exit 8 a.file.now a.at (λ v. finite (of_bits binary64 v)) 5 (λ v q. ok tt q) _ _ _ c.from_residual.ensures.1 c.in_err-bits.ensures ∙ double-tested a.file.now a.at

pub returns-then-is_finite : goal.returns-then-is_finite
returns-then-is_finite c =
    let a = c.args in
    tested-to 8 a.file.now a.at (λ v. finite (of_bits binary64 v)) 5 (λ v q. ok tt q) c.in_ok-bits.ensures (sym c.is_finite.ensures ∙ c.if-is_finite.true) refl ∙ double-tested a.file.now a.at

pub returns : goal.returns
returns c =
    let a = c.args in
    tested-bad 8 a.file.now a.at (λ v. finite (of_bits binary64 v)) 5 (λ v q. ok tt q) c.in_ok-bits.ensures (sym c.is_finite.ensures ∙ c.if-is_finite.false) ∙ double-tested a.file.now a.at
