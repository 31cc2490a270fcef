-- What reading answers in single turns of a block, whatever stands behind them: a number and a place. Assumes nothing.
-- Few imports, and first by its name: a turn that is changed in the reading is refused here, and by nothing before it.
use Prim.Native.Nat.{ℕ, ◌+◌, ◌-◌, ◌^◌, ◌<◌}
use mathlib.Core.Path.{◌≡◌, sym, ap}
use mathlib.Core.List.{List, [], ◌∷◌, ◌++◌}
use mathlib.Core.Bool.{true}
use lib.ListN.{length}
use borrow.Author.Tests.{lt-leb}
use native.Mathlib.Omega.{arith}
use Rattle.algebra.specs.Numbers.{be, Bytes}
use Rattle.algebra.specs.Reader.{refuse}
use Rattle.algebra.specs.Cut.{not_whole, Stub}
use Rattle.algebra.proofs.Places.{length-be}
use Rattle.algebra.proofs.Cuts.{whole_here, field-then-cut}
use Rattle.algebra.proofs.Tails.{Tail, tail-left, tail-after, field-there, field_cut}
use Rattle.ase.specs.Reading.{is_block_type, block}

module _ (s : List ℕ) (d at : ℕ) where
  -- a length that is cut: 2 there, whatever the type is
  pub length-cut-first : (t : ℕ) (l : List ℕ) → t < 256 ^ 2 → length l < 4 → Tail s at (be 2 t ++ l) → block d s at ≡ refuse 2 (at + 2) 0 0
  unfolding block
  length-cut-first t l small few h =
      let r : Tail s (at + 2) l = tail-after s at (be 2 t) l (at + 2) (ap (λ (k : ℕ). at + k) (length-be 2 t)) h in
      rw (field-there s 2 at t small (tail-left s at (be 2 t) l h)) (rw (field_cut s 4 (at + 2) few r))

  -- a block that is cut: 2 at its type, at its length, or at its payload l
  pub block_cut : Bytes s → (t : ℕ) (l : List ℕ) → t < 256 ^ 2 → is_block_type t ≡ true → length l < 256 ^ 4 → Stub s at (be 2 t ++ (be 4 (length l) ++ l)) → block d s at ≡ refuse 2 (not_whole (2 ∷ 4 ∷ length l ∷ []) at (length s)) 0 0
  unfolding block
  block_cut bytes t l known is small h =
      let n : ℕ = length l in
      field-then-cut s bytes 2 _ at t (be 4 n ++ l) (4 ∷ n ∷ []) known (field-then-cut s bytes 4 _ (at + length (be 2 t)) n l (n ∷ []) small (λ w.
      let p : ℕ = at + length (be 2 t) + length (be 4 n) in
      let k : length s - p < n = omega (arith, w.short, w.inside) in
      rw is (rw (lt-leb n (length s - p) k) (ap (λ (q : ℕ). refuse 2 q 0 0) (sym (whole_here n [] p (length s) (omega (arith, w.short)))))))) h
