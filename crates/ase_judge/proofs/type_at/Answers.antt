use native.Mathlib.Omega.{arith}
use mathlib.Core.Path.{sym, ap}
use borrow.Author.Tests.{le-leb, lt-leb}
use Rattle.algebra.specs.Reader.{done}
use Rattle.algebra.proofs.Laws.{judged-short, judged-bad, judged-ok}
use Rattle.fault.proofs.Exit.{field-exit, short}
use Rattle.ase.specs.Reading.{type}
use Rattle.ase_judge.proofs.type_at.Goals as goal

pub returns-in_err-kind : goal.returns-in_err-kind
returns-in_err-kind c =
    let a = c.args in
    field-exit 2 a.file.now a.at _ _ _ c.from_residual.ensures.1 c.in_err-kind.ensures (sym (ap done (judged-short 2 _ _ type (short 2 a.file.now a.at c.in_err-kind.ensures))))

pub returns-then-kind-gt2 : goal.returns-then-kind-gt2
returns-then-kind-gt2 c = sym (ap done (judged-bad 2 _ _ type 5 0 0 c.in_ok-kind.ensures (rw (lt-leb c.in_ok-kind.kind 2 (omega (arith, c.if-kind-gt2.true))))))

pub returns : goal.returns
returns c = sym (ap done (judged-ok 2 _ _ type c.in_ok-kind.ensures (rw (le-leb _ 2 c.if-kind-gt2.false))))
