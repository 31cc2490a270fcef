use mathlib.Core.Path.{refl, sym}
use Rattle.ase.specs.Row.{given_in}
use Rattle.ase_write_judge.proofs.Judging.{name-large, name-is}
use Rattle.ase_write_judge.proofs.name_fault.Goals as goal

pub returns-then-given-gt65534 : goal.returns-then-given-gt65534
returns-then-given-gt65534 c = let a = c.args in sym (name-large a.text.now (given_in a.given) c.if-given-gt65534.true)

pub returns-in-Ok : goal.returns-in-Ok
returns-in-Ok c = let a = c.args in name-is a.text.now (given_in a.given) c.if-given-gt65534.false _ _ refl c.in-Ok.ensures

pub returns-in-Err : goal.returns-in-Err
returns-in-Err c = let a = c.args in name-is a.text.now (given_in a.given) c.if-given-gt65534.false _ _ refl c.in-Err.ensures
