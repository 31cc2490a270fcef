use Prim.Native.Nat.{ℕ, ◌+◌, ◌-◌, ◌*◌}
use mathlib.Core.Path.{◌≡◌, refl, sym, ap, ◌∙◌}
use mathlib.Core.List.{[], map}
use lib.Seq.{sets}
use native.Mathlib.Omega.{arith}
use native.Mathlib.Nat.{add-zero}
use Rattle.algebra.specs.Numbers.{joined}
use Rattle.algebra.specs.Table.{rows}
use Rattle.algebra.proofs.Table.{whole_in}
use Rattle.aco.specs.Grammar.{colour_bytes}
use Rattle.aco.specs.Row.{width, taken, empty_record}
use Rattle.aco.proofs.Whole.{length-colour}
use Rattle.aco_writing.specs.Writing.{swatch_in}
use Rattle.aco_write_judge.specs.scaffold.Parts.{colour_in, plain}
use Rattle.aco_write_judge.proofs.Judging.{given_at}
use Rattle.aco_write.proofs.Puts.{puts-start, puts-turn, puts-end, colour-bytes}
use Rattle.aco_write.proofs.put_colours.Goals as goal

pub loop-i-init : goal.loop-i-init
loop-i-init c =
    let a = c.args in
    let start = puts-start a.run.now (swatch_in []) colour_bytes _ a.out.now a.n 0 a.at refl in
    (omega arith, start ∙ ap (λ (p : ℕ). sets a.out.now p (joined colour_bytes (map (swatch_in []) (rows width taken a.run.now (a.n - 0) 0)))) (sym (add-zero a.at)), refl)

pub loop-i-preserved : goal.loop-i-preserved
loop-i-preserved c =
    let l = c.loop-i in
    let a = c.args in
    let g = given_at a.run.now l.i in
    let p = a.at + 10 * l.i in
    let k = c.colour_of.ensures ∙ ap colour_in (c.record_at.ensures ∙ whole_in width taken a.run.now empty_record l.i (omega (arith, c.requires.1, c.loop-i-test.true))) in
    let e = c.put_colour.ensures ∙ ap (λ k. sets l.out p (colour_bytes (plain k))) k ∙ ap (sets l.out p) (colour-bytes [] g) in
    let q : p + 10 ≡ a.at + 10 * (l.i + 1) = omega arith in (
      omega arith,
      puts-turn a.run.now (swatch_in []) colour_bytes _ l.out a.n l.i p l.invariant.1 c.loop-i-test.true _ 10 (length-colour (swatch_in [] g) refl) e
          ∙ ap (λ (p : ℕ). sets c.put_colour.new.out p (joined colour_bytes (map (swatch_in []) (rows width taken a.run.now (a.n - (l.i + 1)) (l.i + 1))))) q,
      c.put_colour.auto.out ∙ l.invariant.2,
    )

pub shape_of-out : goal.shape_of-out
shape_of-out c = c.loop-i.invariant.2

pub returns : goal.returns
returns c =
    let l = c.loop-i in
    let a = c.args in
    puts-end a.run.now (swatch_in []) colour_bytes _ l.out a.n l.i (a.at + 10 * l.i) l.invariant.1 c.loop-i-test.false
