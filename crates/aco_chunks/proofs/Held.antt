-- The store while colours are put into it, and what list 2 is compared with. Assumes nothing.
use Prim.Native.Nat.{ℕ, ◌+◌, ◌*◌, ◌≤◌, ◌<◌}
use mathlib.Core.Path.{◌≡◌, sym, ap, ap₂, ◌∙◌}
use mathlib.Core.List.{List, [], ◌∷◌, ◌++◌}
use lib.ListN.{length, get_or, take, drop, length-append, length-drop, get_or-append}
use lib.Seq.{sets-eq, take_at, drop-append-add, drop-drop, take-add, ext_get_or, get_or-take, get_or-drop}
use native.Mathlib.Omega.{arith}
use Rattle.algebra.specs.Numbers.{num, nums}
use Rattle.algebra.specs.Reader.{or_zero, field}
use Rattle.algebra.proofs.Laws.{field_in}
use Rattle.algebra.specs.Store.{stored, part}
use Rattle.algebra.proofs.Places.{length_part, num-cong, num-part}
use Rattle.algebra.proofs.Stores.{stored-in}
use Rattle.aco.specs.Reading.{zero_colour}
use Rattle.aco.specs.scaffold.Raw.{raw_colours}
use Rattle.aco.proofs.Raw.{get_d-raw}
use Rattle.aco_chunks.specs.Chunks.{loaded}
use Rattle.aco_chunks.specs.Promise.{held}

module _ (s st : List ℕ) where
  pub length-held : (k : ℕ) → 4 + 10 * k ≤ length s → 10 * k ≤ length st → length (held k s st) ≡ length st
  length-held k h r = length-append (part s 4 (10 * k)) (drop (10 * k) st) ∙ omega (arith, length_part s 4 (10 * k) h, length-drop (10 * k) st)

  -- ten bytes of the file are those of a colour
  pub ten : (from : ℕ) (b : List ℕ) → length b ≡ 10 → from + 10 ≤ length s → ((k : ℕ) → k < length b → get_or b k 0 ≡ get_or s (from + k) 0) → b ≡ part s from 10
  ten from b l h same =
      ext_get_or 0 b (part s from 10) (l ∙ sym (length_part s from 10 h)) (λ k g. same k g ∙ sym (get_or-take 10 (drop from s) k 0 (omega arith) ∙ get_or-drop from s k 0))

  pub held_more : (i from : ℕ) (b : List ℕ) → from ≡ 4 + 10 * i → from + 10 ≤ length s → 10 * i + 10 ≤ length st → length b ≡ 10 → ((k : ℕ) → k < length b → get_or b k 0 ≡ get_or s (from + k) 0)
      → stored (held i s st) (10 * i) b ≡ held (i + 1) s st
  held_more i from b e h r l same =
      stored-in (held i s st) (10 * i) b (omega (arith, len)) ∙ sets-eq b (held i s st) (10 * i) (omega (arith, len))
      ∙ ap₂ (λ (x y : List ℕ). x ++ b ++ y) front back
      ∙ ap (λ (x : List ℕ). x ++ drop (10 * (i + 1)) st) mid
    where
      len : length (held i s st) ≡ length st
      len = length-held i (omega arith) (omega arith)

      pl : length (part s 4 (10 * i)) ≡ 10 * i
      pl = length_part s 4 (10 * i) (omega arith)

      front : take (10 * i) (held i s st) ≡ part s 4 (10 * i)
      front = take_at (part s 4 (10 * i)) (drop (10 * i) st) (10 * i) pl

      back : drop (10 * i + length b) (held i s st) ≡ drop (10 * (i + 1)) st
      back =
          let p : 10 * i + length b ≡ length (part s 4 (10 * i)) + 10 = omega (arith, pl) in
          let q : 10 * i + 10 ≡ 10 * (i + 1) = omega arith in
          ap (λ (k : ℕ). drop k (held i s st)) p ∙ drop-append-add (part s 4 (10 * i)) (drop (10 * i) st) 10 ∙ drop-drop 10 (10 * i) st ∙ ap (λ (k : ℕ). drop k st) q

      mid : part s 4 (10 * i) ++ b ≡ part s 4 (10 * (i + 1))
      mid =
          let q : 10 * i + 10 ≡ 10 * (i + 1) = omega arith in
          ap (λ (x : List ℕ). part s 4 (10 * i) ++ x) (ten from b l h same ∙ ap (λ (k : ℕ). part s k 10) e ∙ ap (λ (x : List ℕ). take 10 x) (sym (drop-drop (10 * i) 4 s)))
          ∙ sym (take-add (10 * i) 10 (drop 4 s)) ∙ ap (λ (k : ℕ). part s 4 k) q

  module _ (n : ℕ) (h : 4 + 10 * n ≤ length s) (room : 10 * n ≤ length st) where
    num-held : (p : ℕ) → p + 2 ≤ 10 * n → num 2 (held n s st) p ≡ num 2 s (4 + p)
    num-held p l =
        num-cong (part s 4 (10 * n)) (held n s st) 2 p (λ k g. get_or-append (part s 4 (10 * n)) (drop (10 * n) st) 0 (p + k) (omega (arith, length_part s 4 (10 * n) h)))
        ∙ num-part s 4 (10 * n) 2 p l

    loaded-held : (p : ℕ) → p + 2 ≤ 10 * n → or_zero (field 2 (held n s st) p) ≡ num 2 s (4 + p)
    loaded-held p l = ap or_zero (field_in 2 (held n s st) p (omega (arith, length-held n h room))) ∙ num-held p l

    pub colour-held : (i : ℕ) → i < n → loaded (held n s st) (10 * i) ≡ get_or (raw_colours n s 4) i zero_colour
    unfolding nums
    colour-held i l =
        ap₂ (λ (x : ℕ) (y : List ℕ). record { space = x; samples = y }) (loaded-held (10 * i) (omega arith))
        (ap₂ (λ (x : ℕ) (y : List ℕ). x ∷ y) (one 2 (4 + 10 * i + 2) (omega arith) (omega arith))
        (ap₂ (λ (x : ℕ) (y : List ℕ). x ∷ y) (one 4 (4 + 10 * i + 2 + 2) (omega arith) (omega arith))
        (ap₂ (λ (x : ℕ) (y : List ℕ). x ∷ y) (one 6 (4 + 10 * i + 2 + 2 + 2) (omega arith) (omega arith)) (ap (λ (x : ℕ). x ∷ []) (one 8 (4 + 10 * i + 2 + 2 + 2 + 2) (omega arith) (omega arith))))))
        ∙ sym (get_d-raw n s 4 i l)
      where
        one : (d p : ℕ) → d ≤ 8 → 4 + (10 * i + d) ≡ p → or_zero (field 2 (held n s st) (10 * i + d)) ≡ num 2 s p
        one d p g e = loaded-held (10 * i + d) (omega arith) ∙ ap (num 2 s) e
