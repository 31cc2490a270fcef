use mathlib.Core.Path.{ap, ap₂, ◌∙◌}
use Rattle.acb.specs.Grammar.{Ending}
use Rattle.acb_judge.specs.Answer.{HeaderPlaces}
use Rattle.algebra.specs.Table.{whole}
use Rattle.acb.specs.Row.{width, taken}
use Rattle.acb_writing.specs.Writing.{needed}
use Rattle.khuyurek.specs.Written.{written_of}
use Rattle.khuyurek.proofs.books.khuyurek_acb_length.Goals as goal

pub returns : goal.returns
returns c =
    c.exported_length.ensures
    ∙ ap written_of c.write_length.ensures
    ∙ ap₂ (λ (h : HeaderPlaces) (t : Ending). written_of (needed c.args.text.now h t (whole width taken c.args.records.now))) c.header_given.ensures c.tag_given.ensures
