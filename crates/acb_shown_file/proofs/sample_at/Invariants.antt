use Prim.Native.Nat.{◌-◌}
use mathlib.Core.Path.{◌≡◌}
use mathlib.Core.List.{map}
use Rattle.acb_shown_values.specs.Pages.{sample_from, non_dummies}
use Rattle.acb_shown_values.specs.Answer.{told_page, page_of}
use Rattle.acb_shown_values.proofs.Sampling.{or_last}
use Rattle.acb_shown_file.specs.View.{unnamed}
use Rattle.acb_read.specs.Walked.{walked}
use Rattle.acb_shown_file.proofs.sample_at.Given as goal

abbrev pub invariant-loop-k : goal.invariant-loop-k
invariant-loop-k l =
    page_of (sample_from l.i l.offset (map unnamed (walked l.space l.file l.at (l.end - l.i)))) ≡ or_last (told_page l.found) l.left (non_dummies l.k (map unnamed (walked l.space l.file l.p (l.end - l.k))))
