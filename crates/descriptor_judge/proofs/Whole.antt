-- The verdict on a file by the reading of its root. Assumes nothing.
use Prim.Native.Nat.{ℕ, ◌≤◌, ◌<◌}
use mathlib.Core.Path.{◌≡◌, refl, ap, ◌∙◌}
use mathlib.Core.List.{List}
use mathlib.Core.Bool.{Bool, true, false}
use lib.Dec.{eqb}
use lib.ListN.{length}
use borrow.Author.Tests.{le-leb, lt-leb}
use Rattle.std.specs.Prelude.{Result, Err}
use Rattle.std.specs.Result.{IsErrAnd}
use Rattle.std.proofs.lemmas.Result.{err_from_is_err_and}
use Rattle.algebra.specs.Reader.{Res, ok, refuse, then, pick, ended, limit}
use Rattle.descriptor.specs.Reading.{Row, root, whole, descriptor}
use Rattle.descriptor_judge.specs.scaffold.Counting.{walked}
use Rattle.descriptor_judge.specs.Answer.{accepted, refused, verdict}
use Rattle.descriptor_judge.specs.scaffold.Answer.{closing}

-- what is said of a refusal that a `?` hands on
pub handed : {A B E : Type 0} (says : Result A E → B) (r : Result A E) (e : E) {m : B} → IsErrAnd r (λ y. y ≡ e) → says (Err e) ≡ m → says r ≡ m
handed says r e h rest = let p = err_from_is_err_and r h in ap says (p.1 ∙ ap Err p.2) ∙ rest

pub too_long : (s : List ℕ) → limit < length s → descriptor s ≡ refuse 1 0 0 0
unfolding descriptor
too_long s h = rw (lt-leb _ _ h)

closing-whole : (s : List ℕ) (m : Res (List Row)) → closing (length s) (walked m) ≡ verdict (then m (λ rs q. ended rs s q))
unfolding ended
closing-whole s (ok rs q) = go (eqb q (length s))
  where
    go : (b : Bool) → pick b (accepted (length rs)) (refused 6 q) ≡ verdict (pick b (ok rs q) (refuse 6 q 0 0))
    go true = refl
    go false = refl
closing-whole s (refuse x p r f) = refl

pub of-walk : (s : List ℕ) (w : Res ℕ) → length s ≤ limit → w ≡ walked (root s 0) → closing (length s) w ≡ verdict (descriptor s)
unfolding descriptor whole
of-walk s w h e = ap (closing (length s)) e ∙ closing-whole s (root s 0) ∙ rw (le-leb _ _ h)
