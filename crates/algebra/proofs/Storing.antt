-- Stores one after the other, on plain values. Assumes nothing.
use Prim.Native.Nat.{ℕ, ◌+◌, ◌≤◌}
use mathlib.Core.Path.{◌≡◌, sym, ap, ◌∙◌}
use mathlib.Core.List.{List, ◌++◌}
use lib.ListN.{length}
use lib.Seq.{sets}
use native.Mathlib.Omega.{arith}
use Rattle.algebra.specs.Numbers.{be}
use Rattle.algebra.specs.Store.{stored}
use Rattle.algebra.proofs.Places.{length-be}
use Rattle.algebra.proofs.Stores.{stored-in, sets-append, length-stored}

-- a store that has room
pub as-sets : (o out : List ℕ) (at : ℕ) (l : List ℕ) (k : ℕ) → o ≡ stored out at l → length l ≡ k → at + k ≤ length out → o ≡ sets out at l
as-sets o out at l k e f h = e ∙ stored-in out at l (omega arith)

-- a store that was made, taken off the front of a longer one
pub peel : (out o a b : List ℕ) (at k next : ℕ) → length a ≡ k → at + k ≡ next → o ≡ sets out at a → sets out at (a ++ b) ≡ sets o next b
peel out o a b at k next e f g =
    sets-append a b out at ∙ ap (λ (n : ℕ). sets (sets out at a) n b) (ap (λ (x : ℕ). at + x) e ∙ f) ∙ ap (λ (l : List ℕ). sets l next b) (sym g)

-- the same of a number of w bytes
pub peel-be : (w v : ℕ) (out o b : List ℕ) (at next : ℕ) → at + w ≡ next → next ≤ length out → o ≡ stored out at (be w v) → sets out at (be w v ++ b) ≡ sets o next b
peel-be w v out o b at next f h e = peel out o (be w v) b at w next (length-be w v) f (as-sets o out at (be w v) w e (length-be w v) (omega arith))

pub length-kept : (o out : List ℕ) (at : ℕ) (l : List ℕ) → o ≡ stored out at l → length o ≡ length out
length-kept o out at l e = ap length e ∙ length-stored out at l
