use Rattle.convert.specs.scaffold.Parts.{long, short}
use borrow.Author.Rules.{rules}
use Rattle.convert.proofs.scale.gray_sample.Goals as goal

pub nearest-requires : goal.nearest-requires
nearest-requires c = search (rules, long, short)
