-- Bytes put into a buffer one after the other. Assumes nothing.
use Prim.Native.Nat.{ℕ, suc, ◌+◌, ◌≤◌, ◌<◌}
use mathlib.Core.Path.{◌≡◌, refl, sym, ap, ap₂, ◌∙◌}
use mathlib.Core.List.{List, [], ◌∷◌, ◌++◌}
use mathlib.Core.Bool.{Bool, true, false}
use lib.ListN.{length, get_or, drop, set, length-set, drop_of_length-le}
use lib.Seq.{drop-cons, sets}
use lib.Dec.{leb, ltb}
use borrow.Author.Tests.{lt-ltb, le-ltb, le-leb, ltb-true}
use native.Mathlib.Omega.{arith}
use native.Mathlib.Numerals.{add-one}
use Rattle.algebra.specs.Reader.{pick}
use Rattle.algebra.specs.Numbers.{joined}
use Rattle.listing.specs.Buffer.{Buffer, put_byte, put_all}
use Rattle.listing.specs.Text.{lines}

-- ---- one byte

module _ (out : List ℕ) (n b : ℕ) where
  pub put-behind : n < length out → put_byte (out, n) b ≡ (set out n b, n + 1)
  unfolding put_byte
  put-behind h = rw (lt-ltb _ _ h)

  pub put-anew : length out ≤ n → 0 < length out → put_byte (out, n) b ≡ (set out 0 b, 1)
  unfolding put_byte
  put-anew h room = rw (le-ltb _ _ h, lt-ltb _ _ room)

  pub put-nowhere : length out ≤ n → length out ≤ 0 → put_byte (out, n) b ≡ (out, 0)
  unfolding put_byte
  put-nowhere h room = rw (le-ltb _ _ h, le-ltb _ _ room)

-- what is handed over of a buffer that is full to its end is all of it
pub handed-all : (full n : ℕ) {r : ℕ} → r ≡ pick (leb full n) full 0 → full ≡ n → r ≡ n
handed-all full n e same = e ∙ rw (le-leb full n (omega arith)) same

-- ---- bytes one after the other

pub put-append : (o : Buffer) (xs ys : List ℕ) → put_all o (xs ++ ys) ≡ put_all (put_all o xs) ys
unfolding put_all
put-append o [] ys = refl
put-append o (x ∷ xs) ys = put-append (put_byte o x) xs ys

pub put_one : (o : Buffer) (b : ℕ) {p : Buffer} → p ≡ put_byte o b → p ≡ put_all o (b ∷ [])
unfolding put_all
put_one o b e = e

-- a text, and then another
pub put_both : (o : Buffer) (xs ys : List ℕ) {p q : Buffer} → p ≡ put_all o xs → q ≡ put_all p ys → q ≡ put_all o (xs ++ ys)
put_both o xs ys e f = f ∙ ap (λ (b : Buffer). put_all b ys) e ∙ sym (put-append o xs ys)

-- a text, and then a byte
pub put_last : (o : Buffer) (xs : List ℕ) (b : ℕ) {p q : Buffer} → p ≡ put_all o xs → q ≡ put_byte p b → q ≡ put_all o (xs ++ (b ∷ []))
put_last o xs b {p = p} e f = put_both o xs (b ∷ []) e (put_one p b f)

-- ---- a loop that puts: what is left to put, put after what was, is the whole

module _ (all : Buffer) (text : List ℕ) (o : Buffer) (i : ℕ) where
  pub text-turn : {p : Buffer} → all ≡ put_all o (drop i text) → i < length text → p ≡ put_byte o (get_or text i 0) → all ≡ put_all p (drop (i + 1) text)
  unfolding put_all
  text-turn e h f = e ∙ ap (λ (l : List ℕ). put_all o l) (drop-cons text i 0 h) ∙ ap₂ (λ (b : Buffer) (k : ℕ). put_all b (drop k text)) (sym f) (sym (add-one i))

  pub text-end : all ≡ put_all o (drop i text) → length text ≤ i → all ≡ o
  unfolding put_all
  text-end e h = e ∙ ap (λ (l : List ℕ). put_all o l) (drop_of_length-le text h)

-- the same of items, each put as a text
module _ (word : ℕ → List ℕ) (all : Buffer) (items : List ℕ) (o : Buffer) (i : ℕ) where
  pub items-turn : {p : Buffer} → all ≡ put_all o (joined word (drop i items)) → i < length items → p ≡ put_all o (word (get_or items i 0)) → all ≡ put_all p (joined word (drop (i + 1) items))
  unfolding joined
  items-turn e h f =
      e ∙ ap (λ (l : List ℕ). put_all o (joined word l)) (drop-cons items i 0 h) ∙ put-append o (word (get_or items i 0)) (joined word (drop (suc i) items))
      ∙ ap₂ (λ (b : Buffer) (k : ℕ). put_all b (joined word (drop k items))) (sym f) (sym (add-one i))

  pub items-end : all ≡ put_all o (joined word (drop i items)) → length items ≤ i → all ≡ o
  unfolding joined put_all
  items-end e h = e ∙ ap (λ (l : List ℕ). put_all o (joined word l)) (drop_of_length-le items h)

-- the same of numbered lines
module _ {A : Type 0} (line : ℕ → A → List ℕ) (all o : Buffer) (i : ℕ) where
  pub lines-turn : (a : A) (more : List A) {p : Buffer} → all ≡ put_all o (lines line i (a ∷ more)) → p ≡ put_all o (line i a) → all ≡ put_all p (lines line (i + 1) more)
  unfolding lines
  lines-turn a more e f = e ∙ put-append o (line i a) (lines line (i + 1) more) ∙ ap (λ (b : Buffer). put_all b (lines line (i + 1) more)) (sym f)

  pub lines_none : all ≡ put_all o (lines line i []) → all ≡ o
  unfolding lines put_all
  lines_none e = e

-- ---- a buffer that has room holds the text behind what was full

pub put-room : (out : List ℕ) (n : ℕ) (text : List ℕ) → n + length text ≤ length out → put_all (out, n) text ≡ (sets out n text, n + length text)
unfolding put_all
put-room out n [] h = let e : n ≡ n + 0 = omega arith in ap (λ (k : ℕ). (out, k)) e
put-room out n (x ∷ xs) h =
    let l : length (set out n x) ≡ length out = length-set out n x in
    let e : suc n + length xs ≡ n + suc (length xs) = omega arith in
    ap (λ (b : Buffer). put_all b xs) (put-behind out n x (omega arith) ∙ ap (λ (k : ℕ). (set out n x, k)) (add-one n))
    ∙ put-room (set out n x) (suc n) xs (omega arith) ∙ ap (λ (k : ℕ). (sets (set out n x) (suc n) xs, k)) e

-- ---- the buffer keeps its length, and no more than that is full

one-length : (out : List ℕ) (n b : ℕ) → length (put_byte (out, n) b).0 ≡ length out
unfolding put_byte
one-length out n b = go (ltb n (length out)) (ltb 0 (length out))
  where
    go : (x y : Bool) → length (pick {A = Buffer} x (set out n b, n + 1) (pick y (set out 0 b, 1) (out, 0))).0 ≡ length out
    go true y = length-set out n b
    go false true = length-set out 0 b
    go false false = refl

one-full : (out : List ℕ) (n b : ℕ) → (put_byte (out, n) b).1 ≤ length out
unfolding put_byte
one-full out n b = go (ltb n (length out)) refl (ltb 0 (length out)) refl
  where
    go : (x : Bool) → ltb n (length out) ≡ x → (y : Bool) → ltb 0 (length out) ≡ y → (pick {A = Buffer} x (set out n b, n + 1) (pick y (set out 0 b, 1) (out, 0))).1 ≤ length out
    go true e y f = omega (arith, ltb-true n (length out) e)
    go false e true f = omega (arith, ltb-true 0 (length out) f)
    go false e false f = omega arith

pub put-length : (o : Buffer) (xs : List ℕ) → length (put_all o xs).0 ≡ length o.0
unfolding put_all
put-length o [] = refl
put-length o (x ∷ xs) = put-length (put_byte o x) xs ∙ one-length o.0 o.1 x

pub put_full : (o : Buffer) (xs : List ℕ) → o.1 ≤ length o.0 → (put_all o xs).1 ≤ length o.0
unfolding put_all
put_full o [] h = h
put_full o (x ∷ xs) h =
    let e : length (put_byte o x).0 ≡ length o.0 = one-length o.0 o.1 x in
    omega (arith, put_full (put_byte o x) xs (omega (arith, one-full o.0 o.1 x)))
