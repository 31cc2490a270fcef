-- What reading answers in single turns, whatever stands behind them: a number and a place. Assumes nothing.
-- Few imports, and first by its name: a turn that is changed in the reading is refused here, and by nothing before it.
use Prim.Native.Nat.{ℕ, ◌+◌, ◌*◌, ◌^◌, ◌<◌}
use mathlib.Core.Path.{◌≡◌, sym, ap}
use mathlib.Core.List.{List, [], ◌∷◌, ◌++◌}
use lib.ListN.{length}
use native.Mathlib.Omega.{arith}
use Rattle.algebra.specs.Numbers.{be, Bytes}
use Rattle.algebra.specs.Reader.{ok, refuse}
use Rattle.algebra.specs.Cut.{not_whole, Stub}
use Rattle.algebra.proofs.Laws.{body-short, ended-left}
use Rattle.algebra.proofs.Cuts.{whole_here, field-then-cut}
use Rattle.descriptor.specs.Reading.{unicode, Row, root, whole}

-- a Unicode string of n units that is cut: 2 at its count, or at its units, whose bytes are b
pub unicode-cut : (s : List ℕ) → Bytes s → (at n : ℕ) (b : List ℕ) → n < 256 ^ 4 → length b ≡ n * 2 → Stub s at (be 4 n ++ b) → unicode s at ≡ refuse 2 (not_whole (4 ∷ length b ∷ []) at (length s)) 0 0
unfolding unicode
unicode-cut s bytes at n b small size h =
    field-then-cut s bytes 4 _ at n b (length b ∷ []) small (λ g.
    let p : ℕ = at + length (be 4 n) in
    rw (body-short 2 s p n (omega (arith, g.short, g.inside))) (ap (λ (k : ℕ). refuse 2 k 0 0) (sym (whole_here (length b) [] p (length s) g.short)))) h

-- bytes behind the root, which ends at q: 6 where they begin
pub left-over-last : (s : List ℕ) (at : ℕ) (rs : List Row) (q : ℕ) → root s at ≡ ok rs q → q < length s → whole s at ≡ refuse 6 q 0 0
unfolding whole
left-over-last s at rs q e more = rw e (ended-left rs s q more)
