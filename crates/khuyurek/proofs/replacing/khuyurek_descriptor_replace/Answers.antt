use mathlib.Core.Path.{ap, ◌∙◌}
use lib.ListN.{length}
use Rattle.algebra.specs.Writing.{writes}
use Rattle.descriptor.specs.Reading.{descriptor}
use Rattle.descriptor_read.specs.Values.{row_in}
use Rattle.descriptor_replace.specs.Replace.{fault, new_file}
use Rattle.descriptor_replace.specs.declared.Replacement.{Replacement}
use Rattle.khuyurek.specs.Written.{wrote_of}
use Rattle.khuyurek.proofs.replacing.khuyurek_descriptor_replace.Goals as goal

pub returns : goal.returns
returns c =
    let a = c.args in
    rw c.exported_length.ensures
    (ap wrote_of
    (
    c.replace.ensures
    ∙ ap (λ (v : Replacement). writes (fault (descriptor a.file.now) a.first.now a.length.now a.next.now a.depth.now a.kind.now a.row v) (length a.file.now) (new_file a.file.now (row_in a.row (descriptor a.file.now)) v) a.out.now)
    c.replacement-value.ensures
    ))
