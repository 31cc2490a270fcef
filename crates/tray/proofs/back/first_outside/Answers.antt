use Rattle.std.proofs.Common.{rules, tests}
use Rattle.std.specs.Prelude.{◌≡◌, true, false}
use Rattle.std.proofs.lemmas.Iterator.{YieldsList-from_slice, IsFirst-from_position}
use Rattle.tray.proofs.Laws.{first-found}
use Rattle.tray.specs.scaffold.Parts.{unit}
use Rattle.tray.proofs.back.first_outside.Goals as goal

pub returns-then-all_unit : goal.returns-then-all_unit
returns-then-all_unit c = c.all_unit.ensures c.if-all_unit.true

pub returns : goal.returns
returns c =
    first-found unit c.args.bits.now c.position.result
    (IsFirst-from_position _ _ c.position.result (λ v. unit v ≡ false) (λ v. unit v ≡ true) c.position.ensures.ran (YieldsList-from_slice c.args.bits.now cc) (λ x q k. search (rules, tests)) (λ x q k. (search (rules, tests), search (rules, tests))))
