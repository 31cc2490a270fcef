use mathlib.Core.Path.{◌≡◌, refl, sym, ap, ◌∙◌}
use native.Mathlib.Omega.{arith}
use Rattle.aco.specs.Places.{entry_place}
use Rattle.aco_read.proofs.Filling.{count_small, entry_first, counted-in, counted}
use Rattle.aco_read.proofs.entry_place.Goals as goal

pub overflow_mul-place : goal.overflow_mul-place
overflow_mul-place c = let few = count_small c.args.file.now c.args.n 2 c.requires.0 in omega arith

pub overflow_add-place : goal.overflow_add-place
overflow_add-place c = let few = count_small c.args.file.now c.args.n 2 c.requires.0 in omega arith

pub loop-k-init : goal.loop-k-init
loop-k-init c = (omega arith, sym (entry_first _ _))

pub overflow_add-place-in-loop-k : goal.overflow_add-place-in-loop-k
overflow_add-place-in-loop-k c = omega (arith, counted-in c.args.file.now c.args.n 2 c.requires.0 refl c.loop-k._k (omega (arith, c.loop-k-test.true, c.requires.1)) c.loop-k.place c.loop-k.invariant.1)

pub overflow_cast-place : goal.overflow_cast-place
overflow_cast-place c = omega (arith, counted c.args.file.now c.args.n 2 c.requires.0 refl c.loop-k._k (omega (arith, c.loop-k-test.true, c.requires.1)) c.loop-k.place c.loop-k.invariant.1 _ c.number_or_zero-count.ensures)

pub overflow_mul-place-in-loop-k : goal.overflow_mul-place-in-loop-k
overflow_mul-place-in-loop-k c = omega (arith, counted c.args.file.now c.args.n 2 c.requires.0 refl c.loop-k._k (omega (arith, c.loop-k-test.true, c.requires.1)) c.loop-k.place c.loop-k.invariant.1 _ c.number_or_zero-count.ensures)

pub overflow_add-place-in-loop-k-2 : goal.overflow_add-place-in-loop-k-2
overflow_add-place-in-loop-k-2 c = omega (arith, counted c.args.file.now c.args.n 2 c.requires.0 refl c.loop-k._k (omega (arith, c.loop-k-test.true, c.requires.1)) c.loop-k.place c.loop-k.invariant.1 _ c.number_or_zero-count.ensures)

pub overflow_add-place-in-loop-k-3 : goal.overflow_add-place-in-loop-k-3
overflow_add-place-in-loop-k-3 c = omega (arith, counted c.args.file.now c.args.n 2 c.requires.0 refl c.loop-k._k (omega (arith, c.loop-k-test.true, c.requires.1)) c.loop-k.place c.loop-k.invariant.1 _ c.number_or_zero-count.ensures)

pub loop-k-preserved : goal.loop-k-preserved
loop-k-preserved c = let k = counted c.args.file.now c.args.n 2 c.requires.0 refl c.loop-k._k (omega (arith, c.loop-k-test.true, c.requires.1)) c.loop-k.place c.loop-k.invariant.1 _ c.number_or_zero-count.ensures in (omega arith, omega (arith, k.next))

pub returns : goal.returns
returns c = let l = c.loop-k in let e : l._k ≡ c.args.i = omega arith in l.invariant.1 ∙ ap (entry_place _ _) e
