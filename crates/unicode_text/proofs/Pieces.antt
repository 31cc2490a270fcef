-- The reading of units and the grammar of pieces; the bytes of scalar values and the table of well-formed sequences. Assumes nothing.
use Prim.Native.Nat.{ℕ, ◌+◌, ◌-◌, ◌*◌, ◌/◌, ◌%◌, ◌≤◌, ◌<◌}
use mathlib.Core.Path.{◌≡◌, refl, sym, ap, ap₂, subst, ◌∙◌}
use mathlib.Core.List.{List, [], ◌∷◌, ◌++◌}
use mathlib.Core.Bool.{Bool, true, false, ◌&&◌}
use lib.ListN.{get_or, drop}
use lib.Dec.{leb, ltb}
use borrow.Author.Tests.{lt-ltb, le-ltb, ltb-true, ltb-false}
use native.Mathlib.Omega.{arith}
use native.Mathlib.Nat.{div-div-eq-div-mul}
use Rattle.algebra.specs.Reader.{pick}
use Rattle.algebra.specs.Numbers.{joined}
use Rattle.unicode_text.specs.Grammar.{Scalar, below, above, utf16, Piece, scalar, high, low, text_units, NoLow, Text}
use Rattle.unicode_text.specs.Reading.{is_high, is_low, paired, single, scalars, scalar_bytes}
use Rattle.unicode_text.specs.Bytes.{From, Tail, Sequence, ascii, two, lowest_three, three, before_surrogates, highest_three, lowest_four, four, highest_four, decoded_from, decoded}
use Rattle.unicode_text.specs.scaffold.Steps.{is_pair, scalar_at, taken}
use Rattle.unicode_text.proofs.Laws as laws
use Rattle.unicode_text.proofs.Laws.{and_no, within, past, bounds, front-step, ascii-bytes, bytes-two, bytes-three, bytes-four}

-- ---- units one after the other

single-front : (u : ℕ) (us : List ℕ) → is_pair u (get_or us 0 0) ≡ false → scalars (u ∷ us) ≡ single u ∷ scalars us
unfolding scalar_at taken
single-front u us e =
    front-step u us ∙ ap (λ (b : Bool). pick b (paired u (get_or us 0 0)) (single u) ∷ scalars (drop (pick b 2 1 - 1) us)) e

pub not-high : (u : ℕ) (us : List ℕ) → is_high u ≡ false → scalars (u ∷ us) ≡ single u ∷ scalars us
not-high u us e = single-front u us (ap (λ (b : Bool). b && is_low (get_or us 0 0)) e)

pub before-low : (u : ℕ) (us : List ℕ) → is_low (get_or us 0 0) ≡ false → scalars (u ∷ us) ≡ single u ∷ scalars us
before-low u us e = single-front u us (ap (λ (b : Bool). is_high u && b) e ∙ and_no (is_high u))

pub as-pair : (u v : ℕ) (us : List ℕ) → is_high u ≡ true → is_low v ≡ true → scalars (u ∷ v ∷ us) ≡ paired u v ∷ scalars us
unfolding scalars
as-pair u v us e f = let p : is_pair u v ≡ true = ap₂ ◌&&◌ e f in ap (λ (b : Bool). pick b (paired u v ∷ scalars us) (single u ∷ scalars (v ∷ us))) p

-- ---- a scalar value's units

pub basic : (c : ℕ) → c < 0x10000 → utf16 c ≡ c ∷ []
unfolding utf16
basic c h = simp (lt-ltb c 0x10000 h)

pub beyond : (c : ℕ) → 0x10000 ≤ c → utf16 c ≡ (0xD800 + (c - 0x10000) / 0x400) ∷ (0xDC00 + (c - 0x10000) % 0x400) ∷ []
unfolding utf16
beyond c h = simp (le-ltb c 0x10000 h)

pub no_surrogate : (c from to : ℕ) → Scalar c → 0xD800 ≤ from → to ≤ 0xDFFF → (leb from c && leb c to) ≡ false
no_surrogate c from to (below h) a b = laws.below from to c (omega arith)
no_surrogate c from to (above h k) a b = past from to c (omega arith)

pub scalar-lt : {c : ℕ} → Scalar c → c < 0x110000
scalar-lt (below h) = omega arith
scalar-lt (above h k) = k

-- a scalar value's first unit is no low surrogate
first-basic : (c : ℕ) → Scalar c → (rest : List ℕ) → is_low (get_or (utf16 c ++ rest) 0 0) ≡ false
first-basic c s rest = go (ltb c 0x10000) refl
  where
    go : (b : Bool) → ltb c 0x10000 ≡ b → is_low (get_or (utf16 c ++ rest) 0 0) ≡ false
    go true e = ap (λ (us : List ℕ). is_low (get_or (us ++ rest) 0 0)) (basic c (ltb-true c 0x10000 e)) ∙ no_surrogate c 0xDC00 0xDFFF s (omega arith) (omega arith)
    go false e =
        let l = scalar-lt s in
        let k = ltb-false c 0x10000 e in
        ap (λ (us : List ℕ). is_low (get_or (us ++ rest) 0 0)) (beyond c k) ∙ laws.below 0xDC00 0xDFFF (0xD800 + (c - 0x10000) / 0x400) (omega arith)

scalar-basic : (c : ℕ) → Scalar c → c < 0x10000 → (rest : List ℕ) → scalars (utf16 c ++ rest) ≡ c ∷ scalars rest
scalar-basic c s h rest =
    ap (λ (us : List ℕ). scalars (us ++ rest)) (basic c h)
    ∙ not-high c rest (no_surrogate c 0xD800 0xDBFF s (omega arith) (omega arith))
    ∙ ap (λ (b : Bool). pick b 0xFFFD c ∷ scalars rest) (no_surrogate c 0xD800 0xDFFF s (omega arith) (omega arith))

scalar-beyond : (c : ℕ) → 0x10000 ≤ c → c < 0x110000 → (rest : List ℕ) → scalars (utf16 c ++ rest) ≡ c ∷ scalars rest
scalar-beyond c h k rest =
    let u : ℕ = 0xD800 + (c - 0x10000) / 0x400 in
    let v : ℕ = 0xDC00 + (c - 0x10000) % 0x400 in
    let e : paired u v ≡ c = omega arith in
    ap (λ (us : List ℕ). scalars (us ++ rest)) (beyond c h)
    ∙ as-pair u v rest (within 0xD800 0xDBFF u (omega arith) (omega arith)) (within 0xDC00 0xDFFF v (omega arith) (omega arith))
    ∙ ap (λ (x : ℕ). x ∷ scalars rest) e

pub scalar-first : (c : ℕ) → Scalar c → (rest : List ℕ) → scalars (utf16 c ++ rest) ≡ c ∷ scalars rest
scalar-first c s rest = go (ltb c 0x10000) refl
  where
    go : (b : Bool) → ltb c 0x10000 ≡ b → scalars (utf16 c ++ rest) ≡ c ∷ scalars rest
    go true e = scalar-basic c s (ltb-true c 0x10000 e) rest
    go false e = scalar-beyond c (ltb-false c 0x10000 e) (scalar-lt s) rest

-- ---- a text's first unit

pub first-not-low : (ps : List Piece) → Text ps → NoLow ps → is_low (get_or (text_units ps) 0 0) ≡ false
unfolding joined
first-not-low [] t n = refl
first-not-low (scalar c ∷ ps) t n = first-basic c t.0 (text_units ps)
first-not-low (high h ∷ ps) t n = let k = t.0 in laws.below 0xDC00 0xDFFF (0xD800 + h) (omega arith)
first-not-low (low l ∷ ps) t n = absurd n

pub no-low : (ps : List Piece) (v : ℕ) (us : List ℕ) → Text ps → text_units ps ≡ v ∷ us → is_low v ≡ false → NoLow ps
unfolding joined
no-low [] v us t e f = tt
no-low (scalar c ∷ ps) v us t e f = tt
no-low (high h ∷ ps) v us t e f = tt
no-low (low l ∷ ps) v us t e f =
    let h : 0xDC00 + l ≡ v = cc in
    let k = t.0 in
    let w : is_low v ≡ true = within 0xDC00 0xDFFF v (omega arith) (omega arith) in
    let z : ◌≡◌ {A = ℕ} 0 1 = cc in
    absurd (omega arith)

-- ---- the bytes of a scalar value

tail_of : (n : ℕ) → Tail (0x80 + n % 64)
tail_of n = (omega arith, omega arith)

pub by-64 : (c : ℕ) → c / 64 / 64 ≡ c / 4096
by-64 c = div-div-eq-div-mul c 64 64

pub by-4096 : (c : ℕ) → c / 4096 / 64 ≡ c / 262144
by-4096 c = div-div-eq-div-mul c 4096 64

pub sequence-of : (c : ℕ) → Scalar c → Sequence (scalar_bytes c)
sequence-of c s = go (ltb c 0x80) (ltb c 0x800) (ltb c 0x10000) refl refl refl s
  where
    threes : 0x800 ≤ c → c < 0x10000 → Scalar c → Sequence ((0xE0 + c / 4096) ∷ (0x80 + c / 64 % 64) ∷ (0x80 + c % 64) ∷ [])
    threes h k (below d) = part (ltb c 0x1000) (ltb c 0xD000) refl refl
      where
        part : (x y : Bool) → ltb c 0x1000 ≡ x → ltb c 0xD000 ≡ y → Sequence ((0xE0 + c / 4096) ∷ (0x80 + c / 64 % 64) ∷ (0x80 + c % 64) ∷ [])
        part true y e f =
            let l = ltb-true c 0x1000 e in
            let z : 0xE0 ≡ 0xE0 + c / 4096 = omega arith in
            let q : From 0xA0 0xBF (0x80 + c / 64 % 64) = (omega (arith, by-64 c), omega (arith, by-64 c)) in
            subst (λ (a : ℕ). Sequence (a ∷ (0x80 + c / 64 % 64) ∷ (0x80 + c % 64) ∷ [])) z (lowest_three q (tail_of c))
        part false true e f = let l = ltb-false c 0x1000 e in let m = ltb-true c 0xD000 f in let q : From 0xE1 0xEC (0xE0 + c / 4096) = (omega arith, omega arith) in three q (tail_of (c / 64)) (tail_of c)
        part false false e f =
            let l = ltb-false c 0xD000 f in
            let z : 0xED ≡ 0xE0 + c / 4096 = omega arith in
            let q : From 0x80 0x9F (0x80 + c / 64 % 64) = (omega (arith, by-64 c), omega (arith, by-64 c)) in
            subst (λ (a : ℕ). Sequence (a ∷ (0x80 + c / 64 % 64) ∷ (0x80 + c % 64) ∷ [])) z (before_surrogates q (tail_of c))
    threes h k (above d g) = let q : From 0xEE 0xEF (0xE0 + c / 4096) = (omega arith, omega arith) in highest_three q (tail_of (c / 64)) (tail_of c)

    fours : 0x10000 ≤ c → c < 0x110000 → (x y : Bool) → ltb c 0x40000 ≡ x → ltb c 0x100000 ≡ y → Sequence ((0xF0 + c / 262144) ∷ (0x80 + c / 4096 % 64) ∷ (0x80 + c / 64 % 64) ∷ (0x80 + c % 64) ∷ [])
    fours h k true y e f =
        let l = ltb-true c 0x40000 e in
        let z : 0xF0 ≡ 0xF0 + c / 262144 = omega arith in
        let q : From 0x90 0xBF (0x80 + c / 4096 % 64) = (omega (arith, by-4096 c), omega (arith, by-4096 c)) in
        subst (λ (a : ℕ). Sequence (a ∷ (0x80 + c / 4096 % 64) ∷ (0x80 + c / 64 % 64) ∷ (0x80 + c % 64) ∷ [])) z (lowest_four q (tail_of (c / 64)) (tail_of c))
    fours h k false true e f = let l = ltb-false c 0x40000 e in let m = ltb-true c 0x100000 f in let q : From 0xF1 0xF3 (0xF0 + c / 262144) = (omega arith, omega arith) in four q (tail_of (c / 4096)) (tail_of (c / 64)) (tail_of c)
    fours h k false false e f =
        let l = ltb-false c 0x100000 f in
        let z : 0xF4 ≡ 0xF0 + c / 262144 = omega arith in
        let q : From 0x80 0x8F (0x80 + c / 4096 % 64) = (omega (arith, by-4096 c), omega (arith, by-4096 c)) in
        subst (λ (a : ℕ). Sequence (a ∷ (0x80 + c / 4096 % 64) ∷ (0x80 + c / 64 % 64) ∷ (0x80 + c % 64) ∷ [])) z (highest_four q (tail_of (c / 64)) (tail_of c))

    go : (x y z : Bool) → ltb c 0x80 ≡ x → ltb c 0x800 ≡ y → ltb c 0x10000 ≡ z → Scalar c → Sequence (scalar_bytes c)
    go true y z e f g s = let h = ltb-true c 0x80 e in subst Sequence (sym (ascii-bytes c h)) (let q : From 0x00 0x7F c = (omega arith, omega arith) in ascii q)
    go false true z e f g s = let h = ltb-false c 0x80 e in let k = ltb-true c 0x800 f in subst Sequence (sym (bytes-two c h k)) (two {a = 0xC0 + c / 64} {b = 0x80 + c % 64} (omega arith, omega arith) (tail_of c))
    go false false true e f g s = let h = ltb-false c 0x800 f in let k = ltb-true c 0x10000 g in subst Sequence (sym (bytes-three c h k)) (threes h k s)
    go false false false e f g s = let h = ltb-false c 0x10000 g in subst Sequence (sym (bytes-four c h)) (fours h (scalar-lt s) (ltb c 0x40000) (ltb c 0x100000) refl refl)

-- ---- bytes decoded

decoded-ascii : (c : ℕ) (rest : List ℕ) → c < 0x80 → decoded (c ∷ rest) ≡ c ∷ decoded rest
unfolding decoded_from
decoded-ascii c rest h = simp (lt-ltb c 0x80 h)

decoded-two : (x y c : ℕ) (rest : List ℕ) → 0xC0 ≤ x → x < 0xE0 → (x - 0xC0) * 64 + (y - 0x80) ≡ c → decoded (x ∷ y ∷ rest) ≡ c ∷ decoded rest
unfolding decoded_from
decoded-two x y c rest h k e = let a : ltb x 0x80 ≡ false = le-ltb x 0x80 (omega arith) in simp (a, lt-ltb x 0xE0 k) (ap (λ (n : ℕ). n ∷ decoded_from 0 0 rest) e)

decoded-three : (x y z c : ℕ) (rest : List ℕ) → 0xE0 ≤ x → x < 0xF0 → ((x - 0xE0) * 64 + (y - 0x80)) * 64 + (z - 0x80) ≡ c → decoded (x ∷ y ∷ z ∷ rest) ≡ c ∷ decoded rest
unfolding decoded_from
decoded-three x y z c rest h k e =
    let a : ltb x 0x80 ≡ false = le-ltb x 0x80 (omega arith) in
    simp (a, le-ltb x 0xE0 h, lt-ltb x 0xF0 k) (ap (λ (n : ℕ). n ∷ decoded_from 0 0 rest) e)

decoded-four : (x y z w c : ℕ) (rest : List ℕ) → 0xF0 ≤ x → (((x - 0xF0) * 64 + (y - 0x80)) * 64 + (z - 0x80)) * 64 + (w - 0x80) ≡ c → decoded (x ∷ y ∷ z ∷ w ∷ rest) ≡ c ∷ decoded rest
unfolding decoded_from
decoded-four x y z w c rest h e =
    let a : ltb x 0x80 ≡ false = le-ltb x 0x80 (omega arith) in
    let b : ltb x 0xE0 ≡ false = le-ltb x 0xE0 (omega arith) in
    simp (a, b, le-ltb x 0xF0 h) (ap (λ (n : ℕ). n ∷ decoded_from 0 0 rest) e)

pub decoded-first : (c : ℕ) → c < 0x110000 → (rest : List ℕ) → decoded (scalar_bytes c ++ rest) ≡ c ∷ decoded rest
decoded-first c s rest = go (ltb c 0x80) (ltb c 0x800) (ltb c 0x10000) refl refl refl
  where
    go : (x y z : Bool) → ltb c 0x80 ≡ x → ltb c 0x800 ≡ y → ltb c 0x10000 ≡ z → decoded (scalar_bytes c ++ rest) ≡ c ∷ decoded rest
    go true y z e f g = let h = ltb-true c 0x80 e in ap (λ (b : List ℕ). decoded (b ++ rest)) (ascii-bytes c h) ∙ decoded-ascii c rest h
    go false true z e f g =
        let h = ltb-false c 0x80 e in
        let k = ltb-true c 0x800 f in
        ap (λ (b : List ℕ). decoded (b ++ rest)) (bytes-two c h k) ∙ decoded-two (0xC0 + c / 64) (0x80 + c % 64) c rest (omega arith) (omega arith) (omega arith)
    go false false true e f g =
        let h = ltb-false c 0x800 f in
        let k = ltb-true c 0x10000 g in
        ap (λ (b : List ℕ). decoded (b ++ rest)) (bytes-three c h k) ∙ decoded-three (0xE0 + c / 4096) (0x80 + c / 64 % 64) (0x80 + c % 64) c rest (omega arith) (omega arith) (omega (arith, by-64 c))
    go false false false e f g =
        let h = ltb-false c 0x10000 g in
        ap (λ (b : List ℕ). decoded (b ++ rest)) (bytes-four c h) ∙ decoded-four (0xF0 + c / 262144) (0x80 + c / 4096 % 64) (0x80 + c / 64 % 64) (0x80 + c % 64) c rest (omega arith) (omega (arith, by-64 c, by-4096 c))
