use Rattle.algebra.proofs.Stores.{put-closing}
use Rattle.fields.proofs.store.put_closed.Goals as goal

pub returns : goal.returns
returns c =
    put-closing c.args.out.now c.args.at c.args.units.now _ _ c.requires c.put_run.ensures c.put_number.ensures
