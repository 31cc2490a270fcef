use mathlib.Core.Path.{sym, ◌∙◌}
use Rattle.khuyurek.specs.Seasons.{palette_kind}
use Rattle.khuyurek.proofs.Comparing.{first-unknown, second-unknown, both-known}
use Rattle.khuyurek.proofs.seasons.khuyurek_compare.Goals as goal

pub returns-in-None : goal.returns-in-None
returns-in-None c =
    let a = c.args in
    first-unknown (palette_kind a.first_kind) (palette_kind a.second_kind) a.first.now a.second.now a.table.now c.unknown.ensures (sym c.palette_kind.ensures ∙ c.in-None.is)

pub returns-in-None-palette_kind : goal.returns-in-None-palette_kind
returns-in-None-palette_kind c =
    let a = c.args in
    second-unknown (palette_kind a.first_kind) (palette_kind a.second_kind) a.first.now a.second.now a.table.now c.unknown-in-None-palette_kind.ensures (sym c.palette_kind.ensures ∙ c.in-Some.is) (sym c.palette_kind-in-Some.ensures ∙ c.in-None-palette_kind.is)

pub returns-in-Some-palette_kind : goal.returns-in-Some-palette_kind
returns-in-Some-palette_kind c =
    let a = c.args in
    both-known (palette_kind a.first_kind) (palette_kind a.second_kind) a.first.now a.second.now a.table.now c.exported_comparison.ensures (sym c.palette_kind.ensures ∙ c.in-Some.is) (sym c.palette_kind-in-Some.ensures ∙ c.in-Some-palette_kind.is) c.compare.ensures.0
