use Rattle.acb_write_judge.proofs.Judging.{head-fine}
use Rattle.acb_write.proofs.Puts.{put-head}
use native.Mathlib.Omega.{arith}
use Rattle.acb_judge.specs.Answer.{told_header}
use Rattle.acb_write.proofs.put_head.Goals as goal

pub put_texts-p-requires : goal.put_texts-p-requires
put_texts-p-requires c = let a = c.args in
    let f = head-fine a.text.now (told_header a.header) a.count c.requires.1 in
    record { inside = omega (arith, c.requires.0, c.put_number.auto.out, c.put_number-2.auto.out, c.put_number-3.auto.out); sound = f.0 }

pub overflow_cast-count : goal.overflow_cast-count
overflow_cast-count c = let f = head-fine c.args.text.now (told_header c.args.header) c.args.count c.requires.1 in
    omega (arith, f.1)

pub returns : goal.returns
returns c = let a = c.args in
    let t = c.put_texts-p in
    (omega (arith, t.ensures.0), put-head (told_header a.header) a.count a.text.now a.out.now _ _ _ _ _ _ c.requires.0 c.put_number.ensures c.put_number-2.ensures c.put_number-3.ensures t.ensures.1 t.ensures.0 c.put_numbers.ensures)
