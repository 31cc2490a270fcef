use mathlib.Core.Path.{ap, ◌∙◌, subst}
use native.Mathlib.Omega.{arith}
use Prim.Native.Nat.{ℕ, ◌+◌, ◌-◌}
use Rattle.colour.specs.declared.space.Colour.{Colour}
use Rattle.aco.specs.Reading.{aco}
use Rattle.algebra.specs.Table.{accepted}
use Rattle.algebra.specs.Filling.{Accepted}
use Rattle.aco_judge.specs.Answer.{report}
use Rattle.aco_read.proofs.Filling.{count_small, plain-is, counted-in, counted}
use Rattle.aco_read.proofs.Answers.{not-one, colour-in, found-is}
use Rattle.aco_read.proofs.found.Goals as goal

pub overflow_mul-i : goal.overflow_mul-i
overflow_mul-i c = let few = count_small c.args.file.now _ _ c.requires.0 in omega (arith, c.requires.1)

pub overflow_add-i : goal.overflow_add-i
overflow_add-i c = let few = count_small c.args.file.now _ _ c.requires.0 in omega (arith, c.requires.1)

pub colour_in-colour-requires : goal.colour_in-colour-requires
colour_in-colour-requires c = colour-in c.args.file.now _ _ c.requires.0 c.args.i c.requires.1

pub returns-then-counts-eq1 : goal.returns-then-counts-eq1
returns-then-counts-eq1 c =
    let s = c.args.file.now in
    let i = c.args.i in
    ap (λ (b : Colour). (b, accepted (0, 0), 4)) c.colour_in-colour.ensures ∙ found-is s _ _ c.requires.0 i c.requires.1 _ (plain-is s _ _ c.requires.0 c.if-counts-eq1.true i c.requires.1)

pub entry_place-p-requires : goal.entry_place-p-requires
entry_place-p-requires c =
    let s = c.args.file.now in
    (subst (λ (l : ℕ). Accepted report (aco s) (c.args.counts.colours, l)) (not-one s _ _ c.requires.0 c.if-counts-eq1.false) c.requires.0, c.requires.1)

pub overflow_add-p : goal.overflow_add-p
overflow_add-p c =
    let s = c.args.file.now in
    let k = counted-in s _ _ c.requires.0 (not-one s _ _ c.requires.0 c.if-counts-eq1.false) c.args.i c.requires.1 _ c.entry_place-p.ensures in
    omega arith

pub overflow_add-name : goal.overflow_add-name
overflow_add-name c = omega (arith, counted c.args.file.now _ _ c.requires.0 (not-one c.args.file.now _ _ c.requires.0 c.if-counts-eq1.false) c.args.i c.requires.1 _ c.entry_place-p.ensures _ c.number_or_zero-count.ensures)

pub overflow_sub-name : goal.overflow_sub-name
overflow_sub-name c = omega (arith, counted c.args.file.now _ _ c.requires.0 (not-one c.args.file.now _ _ c.requires.0 c.if-counts-eq1.false) c.args.i c.requires.1 _ c.entry_place-p.ensures _ c.number_or_zero-count.ensures)

pub returns : goal.returns
returns c =
    ap (λ (b : Colour). (b, accepted (c.entry_place-p.result + 14, c.number_or_zero-count.result - 1), 4)) c.colour_in-colour.ensures
    ∙ found-is c.args.file.now _ _ c.requires.0 c.args.i c.requires.1 _ (counted c.args.file.now _ _ c.requires.0 (not-one c.args.file.now _ _ c.requires.0 c.if-counts-eq1.false) c.args.i c.requires.1 _ c.entry_place-p.ensures _ c.number_or_zero-count.ensures).is
