use Rattle.algebra.proofs.Counted.{length-counted}
use native.Mathlib.Omega.{arith}
use Rattle.aco_write_judge.proofs.Judging.{given_at, sizes-all}
use Rattle.aco_write.proofs.Puts.{put-file}
use Rattle.aco_write.proofs.put_lists.Goals as goal

pub put_colours-requires : goal.put_colours-requires
put_colours-requires c = let h = sizes-all c.args.run.now c.args.n 0 in let m = length-counted (given_at c.args.run.now) c.args.n 0 in (omega (arith, h, m, c.requires.2.inside), omega (arith, c.requires.0))

pub returns : goal.returns
returns c =
    let a = c.args in
    put-file a.run.now a.text.now a.n a.out.now _ _ _ _ _ _ (omega (arith, sizes-all a.run.now a.n 0, length-counted (given_at a.run.now) a.n 0, c.requires.2.inside)) c.put_number.ensures c.put_number-2.ensures c.put_colours.ensures c.put_colours.auto.out
    c.put_number-3.ensures c.put_number-4.ensures c.put_entries.ensures
