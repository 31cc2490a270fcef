-- Units one after the other, and the bytes of a scalar value. Assumes nothing.
use Prim.Native.Nat.{ℕ, suc, ◌+◌, ◌-◌, ◌/◌, ◌%◌, ◌≤◌, ◌<◌}
use mathlib.Core.Path.{◌≡◌, refl, sym, ap, ap₂, ◌∙◌}
use mathlib.Core.List.{List, [], ◌∷◌, ◌++◌}
use mathlib.Core.Bool.{Bool, true, false, ◌&&◌}
use lib.ListN.{length, get_or, drop, drop_of_length-le}
use lib.Seq.{drop-cons, drop-drop, get_or-drop}
use lib.Dec.{leb, ltb}
use borrow.Author.Tests.{le-leb, lt-leb, leb-true, lt-ltb, le-ltb}
use native.Mathlib.Omega.{arith}
use Rattle.algebra.specs.Reader.{pick}
use Rattle.algebra.specs.Numbers.{joined}
use Rattle.unicode_text.specs.Reading.{is_high, is_low, paired, single, scalars, scalar_bytes, utf8}
use Rattle.unicode_text.specs.scaffold.Steps.{is_pair, scalar_at, taken}

-- ---- tests

pub and_no : (b : Bool) → (b && false) ≡ false
and_no true = refl
and_no false = refl

pub and_both : (a b : Bool) → a ≡ true → b ≡ true → (a && b) ≡ true
and_both a b e f = ap₂ ◌&&◌ e f

pub and-true : (a b : Bool) → (a && b) ≡ true → (a ≡ true) × (b ≡ true)
and-true true b e = (refl, e)
and-true false b e = let z : ◌≡◌ {A = ℕ} 0 1 = cc in absurd (omega arith)

-- whether a number is from low to high
pub within : (low high u : ℕ) → low ≤ u → u ≤ high → (leb low u && leb u high) ≡ true
within low high u a b = and_both _ _ (le-leb low u a) (le-leb u high b)

pub below : (low high u : ℕ) → u < low → (leb low u && leb u high) ≡ false
below low high u a = ap (λ (b : Bool). b && leb u high) (lt-leb low u a)

pub past : (low high u : ℕ) → high < u → (leb low u && leb u high) ≡ false
past low high u a = ap (λ (b : Bool). leb low u && b) (lt-leb u high a) ∙ and_no (leb low u)

pub bounds : (low high u : ℕ) → (leb low u && leb u high) ≡ true → (low ≤ u) × (u ≤ high)
bounds low high u e = let t = and-true (leb low u) (leb u high) e in (leb-true low u t.0, leb-true u high t.1)

-- ---- the scalar value at the front

pub front-step : (u : ℕ) (us : List ℕ) → scalars (u ∷ us) ≡ scalar_at u (get_or us 0 0) ∷ scalars (drop (taken u (get_or us 0 0) - 1) us)
unfolding scalars scalar_at taken
front-step u [] = let e : is_pair u 0 ≡ false = and_no (is_high u) in simp e
front-step u (v ∷ us) = go (is_pair u v)
  where
    go : (b : Bool) → pick b (paired u v ∷ scalars us) (single u ∷ scalars (v ∷ us)) ≡ pick b (paired u v) (single u) ∷ scalars (drop (pick b 2 1 - 1) (v ∷ us))
    go true = refl
    go false = refl

pub taken-some : (u v : ℕ) → (0 < taken u v) × (taken u v ≤ 2)
unfolding taken
taken-some u v = go (is_pair u v)
  where
    go : (b : Bool) → (0 < pick b 2 1) × (pick b 2 1 ≤ 2)
    go true = (omega arith, omega arith)
    go false = (omega arith, omega arith)

module _ (us : List ℕ) (i : ℕ) (h : i < length us) where
  pub scalars-next : (u v : ℕ) → u ≡ get_or us i 0 → v ≡ get_or us (i + 1) 0 → scalars (drop i us) ≡ scalar_at u v ∷ scalars (drop (i + taken u v) us)
  scalars-next u v e f =
      let a : drop i us ≡ u ∷ drop (suc i) us = drop-cons us i 0 h ∙ ap (λ (x : ℕ). x ∷ drop (suc i) us) (sym e) in
      let k : suc i + 0 ≡ i + 1 = omega arith in
      let w : get_or (drop (suc i) us) 0 0 ≡ v = get_or-drop (suc i) us 0 0 ∙ ap (λ (n : ℕ). get_or us n 0) k ∙ sym f in
      let t = taken-some u v in
      let q : suc i + (taken u v - 1) ≡ i + taken u v = omega arith in
      ap scalars a ∙ front-step u (drop (suc i) us)
      ∙ ap (λ (x : ℕ). scalar_at u x ∷ scalars (drop (taken u x - 1) (drop (suc i) us))) w
      ∙ ap (λ (l : List ℕ). scalar_at u v ∷ scalars l) (drop-drop (taken u v - 1) (suc i) us ∙ ap (λ (n : ℕ). drop n us) q)

  pub utf8-next : (u v : ℕ) → u ≡ get_or us i 0 → v ≡ get_or us (i + 1) 0 → utf8 (drop i us) ≡ scalar_bytes (scalar_at u v) ++ utf8 (drop (i + taken u v) us)
  unfolding joined
  utf8-next u v e f = ap (joined scalar_bytes) (scalars-next u v e f)

pub utf8-past : (us : List ℕ) (i : ℕ) → length us ≤ i → utf8 (drop i us) ≡ []
unfolding joined scalars
utf8-past us i h = ap utf8 (drop_of_length-le us h)

-- ---- a unit of one byte

pub ascii-pair : (u v : ℕ) → u < 0x80 → is_pair u v ≡ false
ascii-pair u v h = ap (λ (b : Bool). b && is_low v) (below 0xD800 0xDBFF u (omega arith))

pub ascii-scalar : (u v : ℕ) → u < 0x80 → scalar_at u v ≡ u
unfolding scalar_at
ascii-scalar u v h = let e = ascii-pair u v h in let f = below 0xD800 0xDFFF u (omega arith) in simp (e, f)

pub ascii-taken : (u v : ℕ) → u < 0x80 → taken u v ≡ 1
unfolding taken
ascii-taken u v h = ap (λ (b : Bool). pick b 2 1) (ascii-pair u v h)

pub ascii-bytes : (u : ℕ) → u < 0x80 → scalar_bytes u ≡ u ∷ []
unfolding scalar_bytes
ascii-bytes u h = simp (lt-ltb u 0x80 h)

pub utf8-ascii : (us : List ℕ) (i : ℕ) → i < length us → (u : ℕ) → u ≡ get_or us i 0 → u < 0x80 → utf8 (drop i us) ≡ u ∷ utf8 (drop (i + 1) us)
utf8-ascii us i h u e l =
    let v : ℕ = get_or us (i + 1) 0 in
    utf8-next us i h u v e refl
    ∙ ap₂ (λ (c n : ℕ). scalar_bytes c ++ utf8 (drop (i + n) us)) (ascii-scalar u v l) (ascii-taken u v l)
    ∙ ap (λ (b : List ℕ). b ++ utf8 (drop (i + 1) us)) (ascii-bytes u l)

-- ---- the bytes of a scalar value

pub bytes-three : (c : ℕ) → 0x800 ≤ c → c < 0x10000 → scalar_bytes c ≡ (0xE0 + c / 4096) ∷ (0x80 + c / 64 % 64) ∷ (0x80 + c % 64) ∷ []
unfolding scalar_bytes
bytes-three c a b = let e : ltb c 0x80 ≡ false = le-ltb c 0x80 (omega arith) in simp (e, le-ltb c 0x800 a, lt-ltb c 0x10000 b)

pub bytes-two : (c : ℕ) → 0x80 ≤ c → c < 0x800 → scalar_bytes c ≡ (0xC0 + c / 64) ∷ (0x80 + c % 64) ∷ []
unfolding scalar_bytes
bytes-two c a b = simp (le-ltb c 0x80 a, lt-ltb c 0x800 b)

pub bytes-four : (c : ℕ) → 0x10000 ≤ c → scalar_bytes c ≡ (0xF0 + c / 262144) ∷ (0x80 + c / 4096 % 64) ∷ (0x80 + c / 64 % 64) ∷ (0x80 + c % 64) ∷ []
unfolding scalar_bytes
bytes-four c a = let e : ltb c 0x80 ≡ false = le-ltb c 0x80 (omega arith) in let f : ltb c 0x800 ≡ false = le-ltb c 0x800 (omega arith) in simp (e, f, le-ltb c 0x10000 a)
