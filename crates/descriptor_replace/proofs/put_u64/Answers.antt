use Rattle.descriptor_replace.proofs.Values as Q
use Rattle.descriptor_replace.proofs.put_u64.Goals as goal

pub returns : goal.returns
returns c =
    Q.put-8 c.args.v c.args.out.now _ _ c.args.at c.requires c.put_number.ensures c.put_number-2.ensures
