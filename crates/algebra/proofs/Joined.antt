-- Values of one length each, one after the other in a run: value i by its number. Assumes nothing.
use Prim.Native.Nat.{ℕ, zero, suc, ◌+◌, ◌*◌, ◌<◌}
use mathlib.Core.Path.{◌≡◌, sym, ap, ◌∙◌}
use mathlib.Core.List.{List, [], ◌∷◌, ◌++◌, append_assoc}
use lib.ListN.{length, get_or, take, drop}
use lib.Seq.{drop-drop, take-append_seam, drop-append_seam}
use native.Mathlib.Omega.{arith}
use native.Mathlib.Nat.{mul-zero, mul-suc}
use Rattle.algebra.specs.Numbers.{joined}
use Rattle.algebra.specs.Store.{part}

module _ {A : Type 0} (ser : A → List ℕ) (w : ℕ) (each : (a : A) → length (ser a) ≡ w) where
  -- value i stands at w * i
  pub part-joined : (d : A) (xs : List A) (rest : List ℕ) (i : ℕ) → i < length xs → part (joined ser xs ++ rest) (w * i) w ≡ ser (get_or xs i d)
  unfolding joined
  part-joined d [] rest i h = absurd (omega arith)
  part-joined d (a ∷ xs) rest zero h =
      ap (λ (k : ℕ). take w (drop k ((ser a ++ joined ser xs) ++ rest))) (mul-zero w)
      ∙ ap (take w) (append_assoc (ser a) (joined ser xs) rest)
      ∙ ap (λ (k : ℕ). take k (ser a ++ (joined ser xs ++ rest))) (sym (each a)) ∙ take-append_seam (ser a) (joined ser xs ++ rest)
  part-joined d (a ∷ xs) rest (suc i) h =
      let e : w * suc i ≡ length (ser a) + w * i = omega (arith, mul-suc w i, each a) in
      ap (λ (k : ℕ). take w (drop k ((ser a ++ joined ser xs) ++ rest))) e
      ∙ ap (λ (l : List ℕ). take w (drop (length (ser a) + w * i) l)) (append_assoc (ser a) (joined ser xs) rest)
      ∙ ap (take w) (sym (drop-drop (w * i) (length (ser a)) (ser a ++ (joined ser xs ++ rest))) ∙ ap (drop (w * i)) (drop-append_seam (ser a) (joined ser xs ++ rest)))
      ∙ part-joined d xs rest i (omega arith)
