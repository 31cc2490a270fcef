use mathlib.Core.Path.{sym, ap, ◌∙◌}
use Rattle.acb_judge.specs.Answer.{told_tag}
use Rattle.acb_judge.specs.declared.Tag.{Tag}
use Rattle.listing.specs.Buffer.{put_all}
use Rattle.acb_list.specs.Listing.{ending}
use Rattle.acb_list.proofs.put_tag.Goals as goal

pub returns-in-None : goal.returns-in-None
returns-in-None c = let a = c.args in c.put_text.ensures ∙ ap (λ (t : Tag). put_all (a.out.now, a.n) (ending (told_tag t))) (sym c.in-None.is)

pub returns-in-Spot : goal.returns-in-Spot
returns-in-Spot c = let a = c.args in c.put_text-in-Spot.ensures ∙ ap (λ (t : Tag). put_all (a.out.now, a.n) (ending (told_tag t))) (sym c.in-Spot.is)

pub returns-in-Process : goal.returns-in-Process
returns-in-Process c = let a = c.args in c.put_text-in-Process.ensures ∙ ap (λ (t : Tag). put_all (a.out.now, a.n) (ending (told_tag t))) (sym c.in-Process.is)
