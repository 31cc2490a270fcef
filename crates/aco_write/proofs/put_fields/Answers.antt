use native.Mathlib.Omega.{arith}
use Rattle.aco_write.proofs.Puts.{put_five}
use Rattle.aco_write.proofs.put_fields.Goals as goal

pub returns : goal.returns
returns c =
    put_five _ _ _ _ _ _ c.args.at c.args.colour (omega arith) c.requires c.put_number.ensures c.put_number-2.ensures c.put_number-3.ensures c.put_number-4.ensures c.put_number-5.ensures
