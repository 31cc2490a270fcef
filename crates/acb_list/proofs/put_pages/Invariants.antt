use Prim.Native.Nat.{ℕ, ◌+◌, ◌-◌, ◌≤◌}
use lib.ListN.{length}
use mathlib.Core.Path.{◌≡◌}
use Rattle.listing.specs.Buffer.{put_all}
use Rattle.acb_list.specs.Listing.{page, pages_from}
use mathlib.Core.List.{List}
use Rattle.acb_shown_values.specs.Answer.{page_of}
use Rattle.acb_shown_values.specs.Pages.{sample_of}
use Rattle.acb_shown_file.specs.View.{dummies_in}
use Rattle.acb_list.proofs.put_pages.Given as goal

-- the line of a page
abbrev pub shows : List ℕ → ℕ → ℕ → ℕ → ℕ → List ℕ
shows table count size offset p = page p (page_of (sample_of size offset p (dummies_in table count)))

abbrev pub invariant-loop-left : goal.invariant-loop-left
invariant-loop-left l = (l.page + l.left ≤ l.count) × (length l.out ≡ length l.initial.out) × (put_all (l.initial.out, l.n) (pages_from (shows l.table l.count l.size l.offset) l.size l.count 0 l.count) ≡ put_all (l.out, l.at) (pages_from (shows l.table l.count l.size l.offset) l.size (l.count - l.page) l.page l.left))

abbrev pub decreases-loop-left : goal.decreases-loop-left
decreases-loop-left l = l.left
