-- A book and its marks.
use Rattle.acb_names.specs.scaffold.Judged.{Judged}
use Rattle.acb_find.specs.scaffold.Marks.{Spaced, Marked}
use Rattle.acb_find.specs.declared.Guide.{Guide}

pub record Surveyed (g : Guide) : Type 0 where
  pub judged : Judged g.book
  pub spaced : Spaced g.book.count g.d
  pub marked : Marked g.book.file.now g.book.components g.book.first g.d g.book.count g.marks.now
