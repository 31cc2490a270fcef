use mathlib.Core.Path.{ap, ap₂, ◌∙◌}
use Rattle.acb.specs.Grammar.{Ending}
use Rattle.acb_judge.specs.Answer.{HeaderPlaces}
use Rattle.algebra.specs.Table.{whole}
use Rattle.acb.specs.Row.{width, taken}
use Rattle.acb_writing.specs.Writing.{written}
use Rattle.khuyurek.specs.Written.{wrote_of as sizedOf}
use Rattle.khuyurek.proofs.books.khuyurek_acb_write.Goals as goal

pub returns : goal.returns
returns c =
    let wrote = ap sizedOf c.write.ensures
    ∙ ap₂ (λ (h : HeaderPlaces) (t : Ending). sizedOf (written c.args.text.now h t (whole width taken c.args.records.now) c.args.out.now)) c.header_given.ensures c.tag_given.ensures
    in
    rw c.exported_length.ensures wrote
