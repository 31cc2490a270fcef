use Rattle.acb_write.proofs.Puts.{put-numbers}
use Rattle.acb_judge.specs.Answer.{told_header}
use Rattle.acb_write.proofs.put_numbers.Goals as goal

pub returns : goal.returns
returns c = put-numbers (told_header c.args.header) c.args.count c.args.out.now _ _ _ _ c.args.at c.requires c.put_number.ensures c.put_number-2.ensures c.put_number-3.ensures c.put_number-4.ensures
