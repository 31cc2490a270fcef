use native.Mathlib.Omega.{arith}
use Prim.Native.Nat.{◌+◌}
use Rattle.descriptor_raw.proofs.Laws as L
use Rattle.descriptor_raw.proofs.form_end.Goals as goal

pub returns-in-Nothing : goal.returns-in-Nothing
returns-in-Nothing c =
    let a = c.args in
    L.form-eq a.file.now a.at c.in-Nothing.is (L.nothing_ends a.file.now a.at)

pub returns-in-Enumerated : goal.returns-in-Enumerated
returns-in-Enumerated c =
    let a = c.args in
    L.form-eq a.file.now a.at c.in-Enumerated.is c.enumerated_end.ensures

pub returns-in-Id : goal.returns-in-Id
returns-in-Id c =
    let a = c.args in
    L.form-eq a.file.now a.at c.in-Id.is (L.further _ (a.at + 34359738368) (omega arith) c.id_end.ensures)

pub returns-in-Text : goal.returns-in-Text
returns-in-Text c =
    let a = c.args in
    L.form-eq a.file.now a.at c.in-Text.is (L.further _ (a.at + 34359738368) (omega arith) c.text_end.ensures)

pub returns-in-Long : goal.returns-in-Long
returns-in-Long c =
    let a = c.args in
    L.form-eq a.file.now a.at c.in-Long.is (L.long-ends a.file.now a.at)
