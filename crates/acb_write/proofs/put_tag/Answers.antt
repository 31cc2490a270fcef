use Rattle.acb_write.proofs.Puts.{put-spot, put-process}
use lib.Seq.{sets}
use mathlib.Core.Path.{sym, ap, ◌∙◌}
use native.Mathlib.Omega.{arith}
use Rattle.acb.specs.Grammar.{tag_bytes}
use Rattle.acb_judge.specs.Answer.{told_tag}
use Rattle.acb_writing.specs.Writing.{tag_size}
use Rattle.acb_write.proofs.put_tag.Goals as goal

pub returns-in-Spot : goal.returns-in-Spot
returns-in-Spot c = let a = c.args in
    let e = c.in-Spot.is in
    put-spot a.out.now _ _ a.at (omega (arith, c.requires, ap (λ t. tag_size (told_tag t)) e)) c.put_number.ensures c.put_number-in-Spot.ensures ∙ ap (λ t. sets a.out.now a.at (tag_bytes (told_tag t))) (sym e)

pub returns-in-Process : goal.returns-in-Process
returns-in-Process c = let a = c.args in
    let e = c.in-Process.is in
    put-process a.out.now _ _ a.at (omega (arith, c.requires, ap (λ t. tag_size (told_tag t)) e)) c.put_number-in-Process.ensures c.put_number-in-Process-2.ensures ∙ ap (λ t. sets a.out.now a.at (tag_bytes (told_tag t))) (sym e)
