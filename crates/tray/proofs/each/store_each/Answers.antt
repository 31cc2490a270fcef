use mathlib.Core.Path.{refl, sym}
use Rattle.tray.proofs.Laws.{fill-turn, fill_end}
use Rattle.tray.proofs.each.store_each.Goals as goal

pub loop-i-init : goal.loop-i-init
loop-i-init g c = λ f h. refl

pub loop-i-preserved : goal.loop-i-preserved
loop-i-preserved g c = let l = c.loop-i in let x = c.index-from-i in λ f h. fill-turn f c.args.from.now _ l.out l.i (l.invariant f h) x.result c.becomes.result c.loop-i-test.true x.is (h l.i x.result c.becomes.result c.loop-i-test.true x.is c.becomes.ensures)

pub returns : goal.returns
returns g c = let l = c.loop-i in λ f h. sym (fill_end f c.args.from.now _ l.out l.i (l.invariant f h) c.loop-i-test.false)
