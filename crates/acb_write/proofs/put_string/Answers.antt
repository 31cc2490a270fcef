use Rattle.acb_write_judge.proofs.Judging.{text-inside}
use Rattle.acb_write.proofs.Puts.{put-string}
use native.Mathlib.Omega.{arith}
use Rattle.acb_judge.specs.Answer.{told_text}
use Rattle.acb_write.proofs.put_string.Goals as goal

pub overflow_add-end : goal.overflow_add-end
overflow_add-end c = omega (arith, text-inside c.args.text.now (told_text c.args.string) c.requires.sound, c.start_of-first.ensures, c.well_formed)

pub slice_bounds-put_run-end : goal.slice_bounds-put_run-end
slice_bounds-put_run-end c = omega (arith, text-inside c.args.text.now (told_text c.args.string) c.requires.sound, c.start_of-first.ensures)

pub returns : goal.returns
returns c = let a = c.args in
    (omega arith, put-string a.text.now (λ i. omega (arith, c.type_inv.text i)) (told_text a.string) c.requires.sound _ _ c.start_of-first.ensures (omega arith) a.out.now _ _ a.at c.requires.inside c.put_number.ensures c.put_run.ensures)
