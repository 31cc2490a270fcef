use Prim.Native.Nat.{ℕ}
use mathlib.Core.Path.{sym, ap, ◌∙◌}
use lib.Seq.{sets}
use native.Mathlib.Omega.{arith}
use Rattle.acb.proofs.Laws.{components-some}
use Rattle.colour.specs.Inks.{ink_number}
use Rattle.acb.specs.Row.{numbers, stated}
use Rattle.acb_read.specs.Answer.{RecordPlaces}
use Rattle.acb_read.specs.Walked.{given_in}
use Rattle.acb_read.specs.scaffold.Parts.{whole_at}
use Rattle.acb_read.proofs.Walking.{name-small}
use Rattle.acb_read.proofs.put_at.Goals as goal

pub whole_at-next-requires : goal.whole_at-next-requires
whole_at-next-requires c =
    let n = c.components_of-n.ensures in
    (omega (arith, n, (components-some c.args.space).0), omega (arith, n, c.in-Some.ensures.1))

pub put_row-requires : goal.put_row-requires
put_row-requires c =
    let a = c.args in
    let e = c.whole_at-next.ensures ∙ ap (λ (k : ℕ). whole_at k a.file.now c.in-Some.name.first c.in-Some.name.units) c.components_of-n.ensures ∙ sym c.in-Some.ensures.0 in
    let f = ap (λ (w : RecordPlaces × ℕ). (given_in w.0).name.0) e in
    (c.requires.1, omega (arith, f, name-small a.space a.file.now a.at c.requires.0))

pub returns-in-Some : goal.returns-in-Some
returns-in-Some c =
    let a = c.args in
    let e = c.whole_at-next.ensures ∙ ap (λ (k : ℕ). whole_at k a.file.now c.in-Some.name.first c.in-Some.name.units) c.components_of-n.ensures ∙ sym c.in-Some.ensures.0 in
    record {
      table = c.put_row.ensures ∙ ap (λ (w : RecordPlaces × ℕ). sets a.table.now a.to (numbers (stated (ink_number a.ink) (given_in w.0)))) e;
      next = ap (λ (w : RecordPlaces × ℕ). w.1) e;
    }

pub returns-in-None : goal.returns-in-None
returns-in-None c =
    let a = c.args in
    let e = sym c.in-None.ensures in
    record {
      table = c.put_row-in-None.ensures ∙ ap (λ (w : RecordPlaces × ℕ). sets a.table.now a.to (numbers (stated (ink_number a.ink) (given_in w.0)))) e;
      next = ap (λ (w : RecordPlaces × ℕ). w.1) e;
    }
