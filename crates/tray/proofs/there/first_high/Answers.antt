use Rattle.std.proofs.Common.{rules, tests}
use Rattle.std.specs.Prelude.{◌≡◌, true, false}
use Rattle.std.proofs.lemmas.Iterator.{YieldsList-from_slice, IsFirst-from_position}
use Rattle.tray.proofs.Laws.{above-low, below-low, first-found}
use Rattle.tray.specs.scaffold.Parts.{low}
use Rattle.tray.proofs.there.first_high.Goals as goal

pub returns-then-all_low : goal.returns-then-all_low
returns-then-all_low c = c.all_low.ensures c.if-all_low.true

pub returns : goal.returns
returns c =
    first-found low c.args.samples.now c.position.result
    (IsFirst-from_position _ _ c.position.result (λ v. low v ≡ false) (λ v. low v ≡ true) c.position.ensures.ran (YieldsList-from_slice c.args.samples.now cc) (λ x q k. above-low x.now (search (rules, tests))) (λ x q k. (search (rules, tests), below-low x.now (search (rules, tests)))))
