-- A byte string by what it begins with: a number, numbers, so many bytes, parts of one kind; and units that are closed or not. Nothing here reads. Assumes nothing.
use Prim.Native.Nat.{ℕ, zero, suc, ◌+◌, ◌*◌, ◌^◌, ◌<◌}
use mathlib.Core.Path.{◌≡◌, refl, sym, ap, subst}
use mathlib.Core.List.{List, [], ◌∷◌, ◌++◌, append_assoc}
use mathlib.Core.Logic.{◌⊎◌, inl, inr}
use lib.ListN.{length, drop}
use lib.Seq.{get_or-drop}
use native.Mathlib.Omega.{arith}
use native.Mathlib.Nat.{lt_of_not-le}
use native.Mathlib.Decide.{ℕ_discrete, dec_le}
use Rattle.algebra.specs.Numbers.{num, nums, be, joined, At, Bytes, All}
use Rattle.algebra.specs.Store.{part}
use Rattle.algebra.specs.Closing.{BadlyClosed, last, early}
use Rattle.algebra.proofs.Places.{length-nums, at_drop, at_part, length_part, num-lt, be-num, nums-lt, bes-nums}
use Rattle.algebra.proofs.Exact.{all_from}
use Rattle.algebra.proofs.Cuts.{bytes_take}

bytes_drop : (n : ℕ) (l : List ℕ) → Bytes l → Bytes (drop n l)
bytes_drop n l b k = subst (λ (x : ℕ). x < 256) (sym (get_or-drop n l k 0)) (b (n + k))

-- what follows the bytes a that stand first
abbrev rest : List ℕ → List ℕ → List ℕ
rest l a = drop (0 + length a) l

follows : (l a : List ℕ) → At l 0 a → l ≡ a ++ rest l a
follows l a h = at_drop l 0 a h

-- a number of w bytes is first, or there are fewer bytes
pub data First (w : ℕ) : List ℕ → Type 0 where
  fewer : (l : List ℕ) → length l < w → First w l
  number : (v : ℕ) (l : List ℕ) → v < 256 ^ w → Bytes l → First w (be w v ++ l)

pub first : (w : ℕ) (l : List ℕ) → Bytes l → First w l
first w l b = elim (dec_le w (length l)) [
  | yes h ↦ subst (First w) (sym (follows l (be w (num w l 0)) (be-num l b w 0 (omega arith)))) (number (num w l 0) (rest l (be w (num w l 0))) (num-lt l b w 0) (bytes_drop (0 + length (be w (num w l 0))) l b))
  | no h ↦ fewer l (lt_of_not-le h)
]

-- n numbers of w bytes are first, or there are fewer bytes
pub data Row (w n : ℕ) : List ℕ → Type 0 where
  shorter : (l : List ℕ) → length l < n * w → Row w n l
  numbers : (vs l : List ℕ) → length vs ≡ n → All (λ k v. v < 256 ^ w) 0 vs → Bytes l → Row w n (joined (be w) vs ++ l)

pub row : (w n : ℕ) (l : List ℕ) → Bytes l → Row w n l
row w n l b = elim (dec_le (n * w) (length l)) [
  | yes h ↦ subst (Row w n) (sym (follows l (joined (be w) (nums w n l 0)) (bes-nums w l b n 0 (omega arith)))) (numbers (nums w n l 0) (rest l (joined (be w) (nums w n l 0))) (length-nums w n l 0) (nums-lt w l b n 0 0) (bytes_drop (0 + length (joined (be w) (nums w n l 0))) l b))
  | no h ↦ shorter l (lt_of_not-le h)
]

-- m bytes are first, or there are fewer
pub data Split (m : ℕ) : List ℕ → Type 0 where
  short : (l : List ℕ) → length l < m → Split m l
  split : (a l : List ℕ) → length a ≡ m → Bytes a → Bytes l → Split m (a ++ l)

pub part-first : (m : ℕ) (l : List ℕ) → Bytes l → Split m l
part-first m l b = elim (dec_le m (length l)) [
  | yes h ↦ subst (Split m) (sym (follows l (part l 0 m) (at_part l 0 m (omega arith)))) (split (part l 0 m) (rest l (part l 0 m)) (length_part l 0 m (omega arith)) (bytes_take m l b) (bytes_drop (0 + length (part l 0 m)) l b))
  | no h ↦ short l (lt_of_not-le h)
]

-- ---- closed units

-- units of which none is zero, and a closing zero
pub data Closed : List ℕ → Type 0 where
  closes : (us : List ℕ) → All (λ k u. 0 < u) 0 us → Closed (us ++ (0 ∷ []))

open_more : (u : ℕ) {us : List ℕ} → BadlyClosed us → BadlyClosed (u ∷ us)
open_more u (last us v h) = last (u ∷ us) v h
open_more u (early us vs v) = early (u ∷ us) vs v

closed-more : (u : ℕ) {us : List ℕ} → 0 < u → Closed us → Closed (u ∷ us)
closed-more u h (closes us a) = closes (u ∷ us) (h, all_from (λ u. 0 < u) 0 1 us a)

-- units, at least one, are closed or not
pub closed-or-open : (u : ℕ) (us : List ℕ) → Closed (u ∷ us) ⊎ BadlyClosed (u ∷ us)
closed-or-open u [] = elim (ℕ_discrete u 0) [
  | yes e ↦ inl (subst (λ (x : ℕ). Closed (x ∷ [])) (sym e) (closes [] tt))
  | no e ↦ inr (last [] u (omega arith))
]
closed-or-open u (v ∷ us) = elim (ℕ_discrete u 0) [
  | yes e ↦ inr (subst (λ (x : ℕ). BadlyClosed (x ∷ v ∷ us)) (sym e) (early [] us v))
  | no e ↦ elim (closed-or-open v us) [
    | inl c ↦ inl (closed-more u (omega arith) c)
    | inr o ↦ inr (open_more u o)
  ]
]

-- ---- n parts of one kind, or some of them and then a bad one, of which y is told

pub data PartOr {A Y : Type 0} (Ok : A → Type 0) (ser : A → List ℕ) (Bad : List ℕ → Y → Type 0) : List ℕ → Type 0 where
  bad_part : (l : List ℕ) (y : Y) → Bad l y → PartOr Ok ser Bad l
  good_part : (a : A) (l : List ℕ) → Ok a → Bytes l → PartOr Ok ser Bad (ser a ++ l)

pub data PartsOr {A Y : Type 0} (Ok : A → Type 0) (ser : A → List ℕ) (Bad : List ℕ → Y → Type 0) (n : ℕ) : List ℕ → Type 0 where
  bad_parts : (before : List A) (l : List ℕ) (y : Y) → length before < n → All (λ k a. Ok a) 0 before → Bad l y → PartsOr Ok ser Bad n (joined ser before ++ l)
  good_parts : (xs : List A) (l : List ℕ) → length xs ≡ n → All (λ k a. Ok a) 0 xs → Bytes l → PartsOr Ok ser Bad n (joined ser xs ++ l)

module _ {A Y : Type 0} (Ok : A → Type 0) (ser : A → List ℕ) (Bad : List ℕ → Y → Type 0) where
  part-more : (n : ℕ) (a : A) → Ok a → {l : List ℕ} → PartsOr Ok ser Bad n l → PartsOr Ok ser Bad (suc n) (ser a ++ l)
  unfolding joined
  part-more n a h (bad_parts before l y few ok d) = subst (PartsOr Ok ser Bad (suc n)) (append_assoc (ser a) (joined ser before) l) (bad_parts (a ∷ before) l y (omega arith) (h, all_from Ok 0 1 before ok) d)
  part-more n a h (good_parts xs l all ok b) = subst (PartsOr Ok ser Bad (suc n)) (append_assoc (ser a) (joined ser xs) l) (good_parts (a ∷ xs) l (ap suc all) (h, all_from Ok 0 1 xs ok) b)

  pub parts-or : ((l : List ℕ) → Bytes l → PartOr Ok ser Bad l) → (n : ℕ) (l : List ℕ) → Bytes l → PartsOr Ok ser Bad n l
  unfolding joined
  parts-or one zero l b = good_parts [] l refl tt b
  parts-or one (suc n) l b = go (λ k x. parts-or one n k x) (one l b)
    where
      go : ((l : List ℕ) → Bytes l → PartsOr Ok ser Bad n l) → {l : List ℕ} → PartOr Ok ser Bad l → PartsOr Ok ser Bad (suc n) l
      go more (bad_part l y d) = bad_parts [] l y (omega arith) tt d
      go more (good_part a l h x) = part-more n a h (more l x)
