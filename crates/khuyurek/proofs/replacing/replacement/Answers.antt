use mathlib.Core.Path.{◌≡◌}
use mathlib.Core.Bool.{true, false}
use lib.Dec.{eqb}
use borrow.Author.Tests.{eq-eqb, ne_eqb}
use Rattle.algebra.specs.Chars.{chars}
use Rattle.khuyurek.proofs.replacing.replacement.Goals as goal

-- src/replacing.rt:19:9
pub returns-then-kind-eq-BOOL : goal.returns-then-kind-eq-BOOL
returns-then-kind-eq-BOOL c =
    let h1 : eqb c.args.kind (chars "bool") ≡ true = eq-eqb c.args.kind (chars "bool") c.if-kind-eq-BOOL.true in
    rw (h1)

-- src/replacing.rt:22:9
pub returns-then-kind-eq-LONG : goal.returns-then-kind-eq-LONG
returns-then-kind-eq-LONG c =
    let h1 : eqb c.args.kind (chars "bool") ≡ false = ne_eqb c.args.kind (chars "bool") c.if-kind-eq-BOOL.false in
    let h2 : eqb c.args.kind (chars "long") ≡ true = eq-eqb c.args.kind (chars "long") c.if-kind-eq-LONG.true in
    rw (h1, h2)

-- src/replacing.rt:25:9
pub returns-then-kind-eq-COMP : goal.returns-then-kind-eq-COMP
returns-then-kind-eq-COMP c =
    let h1 : eqb c.args.kind (chars "bool") ≡ false = ne_eqb c.args.kind (chars "bool") c.if-kind-eq-BOOL.false in
    let h2 : eqb c.args.kind (chars "long") ≡ false = ne_eqb c.args.kind (chars "long") c.if-kind-eq-LONG.false in
    let h3 : eqb c.args.kind (chars "comp") ≡ true = eq-eqb c.args.kind (chars "comp") c.if-kind-eq-COMP.true in
    rw (h1, h2, h3)

-- src/replacing.rt:28:9
pub returns-then-kind-eq-DOUBLE : goal.returns-then-kind-eq-DOUBLE
returns-then-kind-eq-DOUBLE c =
    let h1 : eqb c.args.kind (chars "bool") ≡ false = ne_eqb c.args.kind (chars "bool") c.if-kind-eq-BOOL.false in
    let h2 : eqb c.args.kind (chars "long") ≡ false = ne_eqb c.args.kind (chars "long") c.if-kind-eq-LONG.false in
    let h3 : eqb c.args.kind (chars "comp") ≡ false = ne_eqb c.args.kind (chars "comp") c.if-kind-eq-COMP.false in
    let h4 : eqb c.args.kind (chars "doub") ≡ true = eq-eqb c.args.kind (chars "doub") c.if-kind-eq-DOUBLE.true in
    rw (h1, h2, h3, h4)

-- src/replacing.rt:31:9
pub returns-then-kind-eq-UNIT_DOUBLE : goal.returns-then-kind-eq-UNIT_DOUBLE
returns-then-kind-eq-UNIT_DOUBLE c =
    let h1 : eqb c.args.kind (chars "bool") ≡ false = ne_eqb c.args.kind (chars "bool") c.if-kind-eq-BOOL.false in
    let h2 : eqb c.args.kind (chars "long") ≡ false = ne_eqb c.args.kind (chars "long") c.if-kind-eq-LONG.false in
    let h3 : eqb c.args.kind (chars "comp") ≡ false = ne_eqb c.args.kind (chars "comp") c.if-kind-eq-COMP.false in
    let h4 : eqb c.args.kind (chars "doub") ≡ false = ne_eqb c.args.kind (chars "doub") c.if-kind-eq-DOUBLE.false in
    let h5 : eqb c.args.kind (chars "UntF") ≡ true = eq-eqb c.args.kind (chars "UntF") c.if-kind-eq-UNIT_DOUBLE.true in
    rw (h1, h2, h3, h4, h5)

-- src/replacing.rt:15:1
pub returns : goal.returns
returns c =
    let h1 : eqb c.args.kind (chars "bool") ≡ false = ne_eqb c.args.kind (chars "bool") c.if-kind-eq-BOOL.false in
    let h2 : eqb c.args.kind (chars "long") ≡ false = ne_eqb c.args.kind (chars "long") c.if-kind-eq-LONG.false in
    let h3 : eqb c.args.kind (chars "comp") ≡ false = ne_eqb c.args.kind (chars "comp") c.if-kind-eq-COMP.false in
    let h4 : eqb c.args.kind (chars "doub") ≡ false = ne_eqb c.args.kind (chars "doub") c.if-kind-eq-DOUBLE.false in
    let h5 : eqb c.args.kind (chars "UntF") ≡ false = ne_eqb c.args.kind (chars "UntF") c.if-kind-eq-UNIT_DOUBLE.false in
    rw (h1, h2, h3, h4, h5)
