-- The records of an accepted file.
use Rattle.algebra.specs.Numbers.{Bytes}
use Rattle.acb_order.specs.scaffold.Places.{Opened}
use Rattle.acb_names.specs.declared.Records.{Records}

pub record Judged (b : Records) : Type 0 where
  pub bytes : Bytes b.file.now
  pub opened : Opened b.file.now b.count b.first b.components
