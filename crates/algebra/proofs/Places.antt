-- Bytes that stand at a place of a file, and the numbers that they spell. Assumes nothing.
use Prim.Native.Nat.{ℕ, zero, suc, ◌+◌, ◌*◌, ◌/◌, ◌%◌, ◌^◌, ◌≤◌, ◌<◌}
use mathlib.Core.Path.{◌≡◌, refl, sym, ap, ap₂, ◌∙◌, subst}
use mathlib.Core.List.{List, [], ◌∷◌, ◌++◌, map, append_assoc, append-nil}
use lib.ListN.{length, get_or, take, drop, length-append, length-take, length-drop}
use lib.Seq.{drop-cons, drop-length, take-length, take-append_seam, get_or-take, get_or-drop}
use lib.Arith.{digits_div, digits_mod, digits_lt}
use native.Mathlib.Numerals.{add-one}
use native.Mathlib.Nat.{add-zero, zero-add, suc-mul, zero-mul, mul-suc, mul-zero, div-add-mod', div-lt_iff_lt-mul, pow-zero, pow-suc}
use native.Mathlib.Omega.{arith}
use native.Mathlib.Decide.{ℕ_discrete}
use Rattle.algebra.specs.Numbers.{num, nums, be, joined, At, Bytes, All}
use Rattle.algebra.specs.Reader.{field, or_zero}
use Rattle.algebra.specs.Store.{part}
use Rattle.algebra.proofs.Laws.{field_in}

-- ---- lengths

pub length-be : (w v : ℕ) → length (be w v) ≡ w
unfolding be
length-be zero v = refl
length-be (suc w) v = simp length-append (rw (length-be w (v / 256)) (add-one w))

pub length-nums : (w n : ℕ) (s : List ℕ) (at : ℕ) → length (nums w n s at) ≡ n
unfolding nums
length-nums w zero s at = refl
length-nums w (suc n) s at = ap suc (length-nums w n s (at + w))

pub joined-append : {A : Type 0} (ser : A → List ℕ) (xs ys : List A) → joined ser (xs ++ ys) ≡ joined ser xs ++ joined ser ys
unfolding joined
joined-append ser [] ys = refl
joined-append ser (x ∷ xs) ys = ap (λ (r : List ℕ). ser x ++ r) (joined-append ser xs ys) ∙ sym (append_assoc (ser x) (joined ser xs) (joined ser ys))

pub joined-map : {A B : Type 0} (ser : B → List ℕ) (f : A → B) (xs : List A) → joined ser (map f xs) ≡ joined (λ a. ser (f a)) xs
unfolding joined
joined-map ser f [] = refl
joined-map ser f (x ∷ xs) = ap (λ (r : List ℕ). ser (f x) ++ r) (joined-map ser f xs)

-- some values of one length each
pub length-joined : {A : Type 0} (ser : A → List ℕ) (w : ℕ) → ((a : A) → length (ser a) ≡ w) → (xs : List A) → length (joined ser xs) ≡ length xs * w
unfolding joined
length-joined ser w each [] = sym (zero-mul w)
length-joined ser w each (a ∷ xs) = length-append (ser a) (joined ser xs) ∙ omega (arith, each a, length-joined ser w each xs, suc-mul (length xs) w)

pub length-bes : (w : ℕ) (vs : List ℕ) → length (joined (be w) vs) ≡ length vs * w
length-bes w vs = length-joined (be w) w (length-be w) vs

-- ---- bytes that stand at a place

pub at_in : (s : List ℕ) (at : ℕ) (l : List ℕ) → At s at l → at + length l ≤ length s
unfolding At
at_in s at [] h = omega arith
at_in s at (x ∷ l) h = omega (arith, at_in s (at + 1) l h.2)

pub at_join : (s : List ℕ) (at : ℕ) (a b : List ℕ) → At s at a → At s (at + length a) b → At s at (a ++ b)
unfolding At
at_join s at [] b h k = subst (λ (n : ℕ). At s n b) (add-zero at) k
at_join s at (x ∷ a) b h k =
    (h.0, h.1, at_join s (at + 1) a b h.2 (subst (λ (n : ℕ). At s n b) (omega arith) k))

-- the same, where the second's place is known by another name
pub at_next : (s : List ℕ) (at : ℕ) (a b : List ℕ) (next : ℕ) → at + length a ≡ next → At s at a → At s next b → At s at (a ++ b)
at_next s at a b next e h k = at_join s at a b h (subst (λ (n : ℕ). At s n b) (sym e) k)

pub at_left : (s : List ℕ) (at : ℕ) (a b : List ℕ) → At s at (a ++ b) → At s at a
unfolding At
at_left s at [] b h = omega (arith, at_in s at b h)
at_left s at (x ∷ a) b h = (h.0, h.1, at_left s (at + 1) a b h.2)

pub at_right : (s : List ℕ) (at : ℕ) (a b : List ℕ) → At s at (a ++ b) → At s (at + length a) b
unfolding At
at_right s at [] b h = subst (λ (n : ℕ). At s n b) (sym (add-zero at)) h
at_right s at (x ∷ a) b h = subst (λ (n : ℕ). At s n b) (omega arith) (at_right s (at + 1) a b h.2)

-- the same, where the first's length is known
pub at_after : (s : List ℕ) (at : ℕ) (a b : List ℕ) (next : ℕ) → at + length a ≡ next → At s at (a ++ b) → At s next b
at_after s at a b next e h = subst (λ (n : ℕ). At s n b) e (at_right s at a b h)

pub at_drop : (s : List ℕ) (at : ℕ) (l : List ℕ) → At s at l → drop at s ≡ l ++ drop (at + length l) s
unfolding At
at_drop s at [] h = ap (λ (n : ℕ). drop n s) (sym (add-zero at))
at_drop s at (x ∷ l) h =
    let e : at + 1 + length l ≡ at + suc (length l) = omega arith in
    drop-cons s at 0 h.0
    ∙ ap₂ (λ (y : ℕ) (r : List ℕ). y ∷ r) h.1
    (ap (λ (n : ℕ). drop n s) (sym (add-one at)) ∙ at_drop s (at + 1) l h.2 ∙ ap (λ (n : ℕ). l ++ drop n s) e)

-- what stands at a place is the part of the file there
pub at_take : (s : List ℕ) (at : ℕ) (l : List ℕ) → At s at l → part s at (length l) ≡ l
at_take s at l h = ap (λ (x : List ℕ). take (length l) x) (at_drop s at l h) ∙ take-append_seam l (drop (at + length l) s)

-- a part of a file stands where it was taken
pub at_part : (s : List ℕ) (at k : ℕ) → at + k ≤ length s → At s at (part s at k)
unfolding At
at_part s at zero h = omega arith
at_part s at (suc k) h =
    rw (drop-cons s at 0 (omega arith))
    (omega arith, refl, subst (λ (n : ℕ). At s (at + 1) (take k (drop n s))) (add-one at) (at_part s (at + 1) k (omega arith)))

pub length_part : (s : List ℕ) (at k : ℕ) → at + k ≤ length s → length (part s at k) ≡ k
length_part s at k h = simp (length-take, length-drop) (omega arith)

-- two lists of one length that stand at one place are the same
pub at_same : (s : List ℕ) (at : ℕ) (a b : List ℕ) → At s at a → At s at b → length a ≡ length b → a ≡ b
at_same s at a b h k e = sym (at_take s at a h) ∙ ap (λ (n : ℕ). part s at n) e ∙ at_take s at b k

-- what stands at 0 and is as long as the file is the file
pub at_all : (s l : List ℕ) → At s 0 l → length l ≡ length s → s ≡ l
at_all s l h e = at_drop s 0 l h ∙ ap (λ (n : ℕ). l ++ drop n s) (zero-add (length l) ∙ e) ∙ ap (λ (r : List ℕ). l ++ r) (drop-length s) ∙ append-nil l

-- a file stands at 0 of itself
pub at-whole : (s : List ℕ) → At s 0 s
at-whole s = subst (λ (l : List ℕ). At s 0 l) (take-length s) (at_part s 0 (length s) (omega arith))

-- ---- numbers

-- a number of w bytes fits w bytes
pub num-lt : (s : List ℕ) → Bytes s → (w at : ℕ) → num w s at < 256 ^ w
unfolding num
num-lt s h zero at = rw pow-zero (omega arith)
num-lt s h (suc w) at = rw pow-suc (digits_lt (num-lt s h w at) (h (at + w)))

-- what is written reads back
pub num-be : (s : List ℕ) (w at v : ℕ) → v < 256 ^ w → At s at (be w v) → num w s at ≡ v
unfolding num be At
num-be s zero at v h k = let h1 : v < 1 = rw pow-zero at h in omega arith
num-be s (suc w) at v h k =
    let q : v / 256 < 256 ^ w = (div-lt_iff_lt-mul {k = 256} {x = v} {y = 256 ^ w} (omega arith)).1 (rw pow-suc at h) in
    let hi : num w s at ≡ v / 256 = num-be s w at (v / 256) q (at_left s at (be w (v / 256)) (v % 256 ∷ []) k) in
    let lo : get_or s (at + w) 0 ≡ v % 256 = subst (λ (n : ℕ). get_or s (at + n) 0 ≡ v % 256) (length-be w (v / 256)) (at_right s at (be w (v / 256)) (v % 256 ∷ []) k).1 in
    rw (hi, lo) (div-add-mod' v 256)

-- numbers whose bytes are the same
pub be-same : (w v u : ℕ) → v < 256 ^ w → u < 256 ^ w → be w v ≡ be w u → v ≡ u
be-same w v u small few e = sym (num-be (be w v) w 0 v small (at-whole (be w v))) ∙ num-be (be w v) w 0 u few (subst (λ (l : List ℕ). At (be w v) 0 l) e (at-whole (be w v)))

-- what is read is written back
pub be-num : (s : List ℕ) → Bytes s → (w at : ℕ) → at + w ≤ length s → At s at (be w (num w s at))
unfolding num be At
be-num s h zero at k = omega arith
be-num s h (suc w) at k =
    let b : ℕ = get_or s (at + w) 0 in
    let n : ℕ = num w s at in
    let hi : (n * 256 + b) / 256 ≡ n = digits_div n (h (at + w)) in
    let lo : (n * 256 + b) % 256 ≡ b = digits_mod n (h (at + w)) in
    at_join s at (be w ((n * 256 + b) / 256)) ((n * 256 + b) % 256 ∷ [])
    (subst (λ (x : ℕ). At s at (be w x)) (sym hi) (be-num s h w at (omega arith)))
    (subst (λ (x : ℕ). At s (at + x) ((n * 256 + b) % 256 ∷ [])) (sym (length-be w ((n * 256 + b) / 256))) (omega arith, sym lo, omega arith))

-- two files that have the same bytes there have the same number there
pub num-cong : (s t : List ℕ) (w at : ℕ) → ((k : ℕ) → k < w → get_or t (at + k) 0 ≡ get_or s (at + k) 0) → num w t at ≡ num w s at
unfolding num
num-cong s t zero at h = refl
num-cong s t (suc w) at h = ap₂ (λ (x y : ℕ). x * 256 + y) (num-cong s t w at (λ k l. h k (omega arith))) (h w (omega arith))

-- the bytes of a small number
pub be-1 : (v : ℕ) → v < 256 → be 1 v ≡ v ∷ []
unfolding be
be-1 v h = let e : v % 256 ≡ v = omega arith in ap (λ (x : ℕ). x ∷ []) e

pub be-2 : (v : ℕ) → v < 65536 → be 2 v ≡ v / 256 ∷ v % 256 ∷ []
unfolding be
be-2 v h = let e : v / 256 % 256 ≡ v / 256 = omega arith in ap (λ (x : ℕ). x ∷ v % 256 ∷ []) e

-- ---- what is written is bytes

pub bytes-nil : Bytes []
bytes-nil k = omega arith

pub bytes-append : (a b : List ℕ) → Bytes a → Bytes b → Bytes (a ++ b)
bytes-append [] b h g k = g k
bytes-append (x ∷ a) b h g zero = h 0
bytes-append (x ∷ a) b h g (suc k) = bytes-append a b (λ i. h (suc i)) g k

pub bytes-be : (w v : ℕ) → Bytes (be w v)
unfolding be
bytes-be zero v = bytes-nil
bytes-be (suc w) v = bytes-append (be w (v / 256)) (v % 256 ∷ []) (bytes-be w (v / 256)) one
  where
    one : (k : ℕ) → get_or (v % 256 ∷ []) k 0 < 256
    one zero = omega arith
    one (suc k) = omega arith

pub bytes-joined : {A : Type 0} (ser : A → List ℕ) → ((a : A) → Bytes (ser a)) → (xs : List A) → Bytes (joined ser xs)
unfolding joined
bytes-joined ser each [] = bytes-nil
bytes-joined ser each (x ∷ xs) = bytes-append (ser x) (joined ser xs) (each x) (bytes-joined ser each xs)

-- ---- numbers in a row

module _ (w : ℕ) where
  -- every number of a row fits
  pub nums-lt : (s : List ℕ) → Bytes s → (n at i : ℕ) → All (λ k v. v < 256 ^ w) i (nums w n s at)
  unfolding nums
  nums-lt s b zero at i = tt
  nums-lt s b (suc n) at i = (num-lt s b w at, nums-lt s b n (at + w) (i + 1))

  -- what is written reads back
  pub nums-bes : (s : List ℕ) (vs : List ℕ) (at i : ℕ) → All (λ k v. v < 256 ^ w) i vs → At s at (joined (be w) vs) → nums w (length vs) s at ≡ vs
  unfolding nums joined
  nums-bes s [] at i a h = refl
  nums-bes s (v ∷ vs) at i a h =
      let e : at + length (be w v) ≡ at + w = ap (λ (n : ℕ). at + n) (length-be w v) in
      ap₂ (λ (x : ℕ) (r : List ℕ). x ∷ r) (num-be s w at v a.0 (at_left s at (be w v) (joined (be w) vs) h))
      (nums-bes s vs (at + w) (i + 1) a.1 (at_after s at (be w v) (joined (be w) vs) (at + w) e h))

  -- what is read is written back
  pub bes-nums : (s : List ℕ) → Bytes s → (n at : ℕ) → at + n * w ≤ length s → At s at (joined (be w) (nums w n s at))
  unfolding nums joined At
  bes-nums s b zero at h = omega (arith, zero-mul w)
  bes-nums s b (suc n) at h =
      let l : length (be w (num w s at)) ≡ w = length-be w (num w s at) in
      let m : at + w + n * w ≤ length s = omega (arith, suc-mul n w) in
      at_next s at (be w (num w s at)) (joined (be w) (nums w n s (at + w))) (at + w) (omega arith) (be-num s b w at (omega arith)) (bes-nums s b n (at + w) m)

  -- the part of a file that numbers in a row take is their bytes
  pub part-nums : (s : List ℕ) → Bytes s → (n at k : ℕ) → k ≡ n * w → at + n * w ≤ length s → part s at k ≡ joined (be w) (nums w n s at)
  part-nums s b n at k e h =
      let l : k ≡ length (joined (be w) (nums w n s at)) = e ∙ sym (length-bes w (nums w n s at) ∙ ap (λ (x : ℕ). x * w) (length-nums w n s at)) in
      ap (λ (x : ℕ). part s at x) l ∙ at_take s at (joined (be w) (nums w n s at)) (bes-nums s b n at h)

  pub nums-cong : (s t : List ℕ) (n at : ℕ) → ((k : ℕ) → k < n * w → get_or t (at + k) 0 ≡ get_or s (at + k) 0) → nums w n t at ≡ nums w n s at
  unfolding nums
  nums-cong s t zero at h = refl
  nums-cong s t (suc n) at h =
      let m : suc n * w ≡ n * w + w = suc-mul n w in
      ap₂ (λ (x : ℕ) (r : List ℕ). x ∷ r) (num-cong s t w at (λ k l. h k (omega (arith, m))))
      (nums-cong s t n (at + w) (λ k l. let e : at + w + k ≡ at + (w + k) = omega arith in ap (λ (z : ℕ). get_or t z 0) e ∙ h (w + k) (omega (arith, m)) ∙ ap (λ (z : ℕ). get_or s z 0) (sym e)))

  -- number i of a row stands w * i bytes behind the first
  pub getD-nums : (s : List ℕ) (n at i : ℕ) → i < n → get_or (nums w n s at) i 0 ≡ num w s (at + w * i)
  unfolding nums
  getD-nums s zero at i h = absurd (omega arith)
  getD-nums s (suc n) at zero h = ap (λ (z : ℕ). num w s z) (omega (arith, mul-zero w))
  getD-nums s (suc n) at (suc i) h =
      let e : at + w + w * i ≡ at + w * suc i = omega (arith, mul-suc w i) in
      getD-nums s n (at + w) i (omega arith) ∙ ap (λ (z : ℕ). num w s z) e

-- ---- numbers in a part of a file

pub num-part : (s : List ℕ) (from k w at : ℕ) → at + w ≤ k → num w (part s from k) at ≡ num w s (from + at)
unfolding num
num-part s from k zero at h = refl
num-part s from k (suc w) at h =
    let p : from + (at + w) ≡ from + at + w = omega arith in
    ap₂ (λ (x y : ℕ). x * 256 + y) (num-part s from k w at (omega arith)) (get_or-take k (drop from s) (at + w) 0 (omega arith) ∙ get_or-drop from s (at + w) 0 ∙ ap (λ (i : ℕ). get_or s i 0) p)

-- a number that is loaded from a part that has it
pub load_part : (w : ℕ) (s : List ℕ) (from k at v : ℕ) → from + k ≤ length s → at + w ≤ k → v ≡ or_zero (field w (part s from k) at) → v ≡ num w s (from + at)
load_part w s from k at v h l e =
    let n : length (part s from k) ≡ k = length_part s from k h in
    e ∙ ap or_zero (field_in w (part s from k) at (omega arith)) ∙ num-part s from k w at l

-- ---- the same number at two places

-- its bytes are the same
pub num-bytes : (s : List ℕ) → Bytes s → (w p q : ℕ) → num w s p ≡ num w s q → (k : ℕ) → k < w → get_or s (p + k) 0 ≡ get_or s (q + k) 0
unfolding num
num-bytes s b zero p q e k h = absurd (omega arith)
num-bytes s b (suc w) p q e k h =
    let x : num w s p ≡ num w s q = omega (arith, e, b (p + w), b (q + w)) in
    let y : get_or s (p + w) 0 ≡ get_or s (q + w) 0 = omega (arith, e, b (p + w), b (q + w)) in
    elim (ℕ_discrete k w) [
      | yes z ↦ rw z y
      | no z ↦ num-bytes s b w p q x k (omega arith)
    ]

pub num-same : (s : List ℕ) (w p q : ℕ) → ((k : ℕ) → k < w → get_or s (p + k) 0 ≡ get_or s (q + k) 0) → num w s p ≡ num w s q
unfolding num
num-same s zero p q h = refl
num-same s (suc w) p q h = ap₂ (λ (x y : ℕ). x * 256 + y) (num-same s w p q (λ k l. h k (omega arith))) (h w (omega arith))

-- ten bytes are the same as ten others: the first eight as one number, and the last two
pub ten-same : (s : List ℕ) → Bytes s → (p q : ℕ) → num 8 s p ≡ num 8 s q → num 2 s (p + 8) ≡ num 2 s (q + 8) → (f : ℕ) → f < 5 → num 2 s (p + 2 * f) ≡ num 2 s (q + 2 * f)
ten-same s b p q e g f h = elim (ℕ_discrete f 4) [
  | yes z ↦ rw z g
  | no z ↦ num-same s 2 (p + 2 * f) (q + 2 * f) (λ k l.
      let x : p + (2 * f + k) ≡ p + 2 * f + k = omega arith in
      let y : q + (2 * f + k) ≡ q + 2 * f + k = omega arith in
      sym (ap (λ (i : ℕ). get_or s i 0) x) ∙ num-bytes s b 8 p q e (2 * f + k) (omega arith) ∙ ap (λ (i : ℕ). get_or s i 0) y)
]
