use Rattle.algebra.proofs.Counted.{length-counted}
use Rattle.ase_write_judge.proofs.Judging.{sizes-all}
use Rattle.ase_write.proofs.Puts.{put-file}
use native.Mathlib.Omega.{arith}
use Rattle.algebra.specs.Table.{row_at, rows}
use Rattle.ase.specs.Row.{width, taken}
use Rattle.ase_write.proofs.put_file.Goals as goal

pub returns : goal.returns
returns c =
    let a = c.args in
    put-file a.run.now a.text.now a.n a.out.now _ _ _ _ _ (omega (arith, c.requires.1.inside)) c.put_number.ensures c.put_number-2.ensures c.put_number-3.ensures c.put_number-4.ensures c.put_blocks.ensures

pub overflow_cast-n : goal.overflow_cast-n
overflow_cast-n c =
    let a = c.args in
    omega (arith, sizes-all (rows width taken a.run.now a.n 0), length-counted (λ i. taken (row_at width a.run.now i)) a.n 0, c.requires.1.short)
