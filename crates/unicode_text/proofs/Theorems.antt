-- What a user cares about: the reading of units is that of the grammar, and the bytes are well-formed and spell what was read. Assumes nothing.
use Prim.Native.Nat.{ℕ, suc, ◌+◌, ◌-◌, ◌*◌, ◌/◌, ◌%◌, ◌≤◌, ◌<◌}
use mathlib.Core.Path.{◌≡◌, refl, sym, ap, ap₂, subst, ◌∙◌}
use mathlib.Core.List.{List, [], ◌∷◌, ◌++◌, map}
use mathlib.Core.Bool.{Bool, true, false, ◌&&◌}
use lib.ListN.{length, get_or}
use lib.Dec.{leb, ltb}
use borrow.Author.Tests.{leb-false, ltb-true, ltb-false}
use native.Mathlib.Omega.{arith}
use Rattle.algebra.specs.Reader.{pick}
use Rattle.algebra.specs.Numbers.{joined}
use Rattle.unicode_text.specs.Grammar.{Scalar, below, above, utf16, Scalars, Paired, Units, Piece, scalar, high, low, text_units, shown_as, NoLow, Text}
use Rattle.unicode_text.specs.Reading.{is_high, is_low, paired, single, scalars, scalar_bytes, utf8}
use Rattle.unicode_text.specs.Bytes.{Sequence, ascii, two, lowest_three, three, before_surrogates, highest_three, lowest_four, four, highest_four, WellFormed, none, more, decoded_from, decoded}
use Rattle.unicode_text.specs.scaffold.Steps.{is_pair}
use Rattle.unicode_text.proofs.Laws as laws
use Rattle.unicode_text.proofs.Laws.{and-true, within, past, bounds, ascii-bytes, bytes-two, bytes-three, bytes-four}
use Rattle.unicode_text.proofs.Pieces.{not-high, before-low, basic, beyond, scalar-lt, scalar-first, first-not-low, no-low, sequence-of, decoded-first, by-64, by-4096}
use Rattle.unicode_text.proofs.Short as shorter

-- ---- units and the grammar

-- the scalar values that are read are what the pieces of a text are shown as
pub text-reads : (ps : List Piece) → Text ps → scalars (text_units ps) ≡ map shown_as ps
unfolding joined scalars
text-reads [] t = refl
text-reads (scalar c ∷ ps) t = scalar-first c t.0 (text_units ps) ∙ ap (λ (cs : List ℕ). c ∷ cs) (text-reads ps t.2)
text-reads (high h ∷ ps) t =
    let k = t.0 in
    before-low (0xD800 + h) (text_units ps) (first-not-low ps t.2 t.1)
    ∙ ap₂ (λ (b : Bool) (cs : List ℕ). pick b 0xFFFD (0xD800 + h) ∷ cs) (within 0xD800 0xDFFF (0xD800 + h) (omega arith) (omega arith)) (text-reads ps t.2)
text-reads (low l ∷ ps) t =
    let k = t.0 in
    not-high (0xDC00 + l) (text_units ps) (past 0xD800 0xDBFF (0xDC00 + l) (omega arith))
    ∙ ap₂ (λ (b : Bool) (cs : List ℕ). pick b 0xFFFD (0xDC00 + l) ∷ cs) (within 0xD800 0xDFFF (0xDC00 + l) (omega arith) (omega arith)) (text-reads ps t.2)

-- a text whose units are these
pub record Spelt (us : List ℕ) : Type 0 where
  pub pieces : List Piece
  pub text : Text pieces
  pub units : text_units pieces ≡ us

pair-spelt : (u v : ℕ) (us : List ℕ) → is_high u ≡ true → is_low v ≡ true → Spelt us → Spelt (u ∷ v ∷ us)
unfolding joined
pair-spelt u v us e f s =
    let a = bounds 0xD800 0xDBFF u e in
    let b = bounds 0xDC00 0xDFFF v f in
    let i : 0xD800 ≤ u = a.0 in
    let j : u ≤ 0xDBFF = a.1 in
    let k : 0xDC00 ≤ v = b.0 in
    let l : v ≤ 0xDFFF = b.1 in
    let x : 0xD800 + (paired u v - 0x10000) / 0x400 ≡ u = omega arith in
    let y : 0xDC00 + (paired u v - 0x10000) % 0x400 ≡ v = omega arith in
    record {
      pieces = scalar (paired u v) ∷ s.pieces;
      text = (above {c = paired u v} (omega arith) (omega arith), tt, s.text);
      units = ap₂ (λ (m r : List ℕ). m ++ r) (beyond (paired u v) (omega arith) ∙ ap₂ (λ (p q : ℕ). p ∷ q ∷ []) x y) s.units;
    }

lone-high : (u : ℕ) (us : List ℕ) → is_high u ≡ true → (s : Spelt us) → NoLow s.pieces → Spelt (u ∷ us)
unfolding joined
lone-high u us e s n =
    let a = bounds 0xD800 0xDBFF u e in
    let i : 0xD800 ≤ u = a.0 in
    let j : u ≤ 0xDBFF = a.1 in
    let x : 0xD800 + (u - 0xD800) ≡ u = omega arith in
    record { pieces = high (u - 0xD800) ∷ s.pieces; text = (omega arith, n, s.text); units = ap₂ (λ (p : ℕ) (r : List ℕ). p ∷ r) x s.units }

other : (u : ℕ) (us : List ℕ) → u < 0x10000 → is_high u ≡ false → Spelt us → Spelt (u ∷ us)
unfolding joined
other u us h e s = go (ltb u 0xD800) (ltb u 0xE000) refl refl
  where
    own : Scalar u → Spelt (u ∷ us)
    own c = record { pieces = scalar u ∷ s.pieces; text = (c, tt, s.text); units = ap₂ (λ (m r : List ℕ). m ++ r) (basic u h) s.units }

    go : (a b : Bool) → ltb u 0xD800 ≡ a → ltb u 0xE000 ≡ b → Spelt (u ∷ us)
    go true b f g = own (below (ltb-true u 0xD800 f))
    go false true f g =
        let k = ltb-false u 0xD800 f in
        let l = ltb-true u 0xE000 g in
        part (ltb u 0xDC00) refl
      where
        part : (d : Bool) → ltb u 0xDC00 ≡ d → Spelt (u ∷ us)
        part true d =
            let k = ltb-false u 0xD800 f in
            let m = ltb-true u 0xDC00 d in
            let w : is_high u ≡ true = within 0xD800 0xDBFF u (omega arith) (omega arith) in
            let z : ◌≡◌ {A = ℕ} 0 1 = cc in
            absurd (omega arith)
        part false d =
            let m = ltb-false u 0xDC00 d in
            let l = ltb-true u 0xE000 g in
            let x : 0xDC00 + (u - 0xDC00) ≡ u = omega arith in
            record { pieces = low (u - 0xDC00) ∷ s.pieces; text = (omega arith, tt, s.text); units = ap₂ (λ (p : ℕ) (r : List ℕ). p ∷ r) x s.units }
    go false false f g = let k = ltb-false u 0xE000 g in own (above {c = u} (omega arith) (omega arith))

empty : Spelt []
unfolding joined
empty = record { pieces = []; text = tt; units = refl }

spelt-step : (u v : ℕ) (us : List ℕ) → u < 0x10000 → Spelt us → Spelt (v ∷ us) → Spelt (u ∷ v ∷ us)
spelt-step u v us h after next = go (is_high u) (is_low v) refl refl
  where
    go : (a b : Bool) → is_high u ≡ a → is_low v ≡ b → Spelt (u ∷ v ∷ us)
    go true true e f = pair-spelt u v us e f after
    go true false e f = lone-high u (v ∷ us) e next (no-low next.pieces v us next.text next.units f)
    go false b e f = other u (v ∷ us) h e next

last-unit : (u : ℕ) → u < 0x10000 → Spelt (u ∷ [])
unfolding empty
last-unit u h = go (is_high u) refl
  where
    go : (a : Bool) → is_high u ≡ a → Spelt (u ∷ [])
    go true e = lone-high u [] e empty tt
    go false e = other u [] h e empty

-- any units are those of a text
pub units-text : (us : List ℕ) → Units us → Spelt us
units-text [] h = empty
units-text (u ∷ []) h = last-unit u (h 0)
units-text (u ∷ v ∷ us) h = spelt-step u v us (h 0) (units-text us (λ k. h (suc (suc k)))) (units-text (v ∷ us) (λ k. h (suc k)))

-- ---- bytes

single-scalar : (u : ℕ) → u < 0x10000 → Scalar (single u)
single-scalar u h = go (leb 0xD800 u) (leb u 0xDFFF) refl refl
  where
    go : (a b : Bool) → leb 0xD800 u ≡ a → leb u 0xDFFF ≡ b → Scalar (pick (a && b) 0xFFFD u)
    go true true e f = above {c = 0xFFFD} (omega arith) (omega arith)
    go true false e f = let k = leb-false u 0xDFFF f in above {c = u} (omega arith) (omega arith)
    go false b e f = let k = leb-false 0xD800 u e in below k

sound-step : (u v : ℕ) (us : List ℕ) → u < 0x10000 → Scalars (scalars us) → Scalars (scalars (v ∷ us)) → Scalars (scalars (u ∷ v ∷ us))
unfolding scalars
sound-step u v us h after next = go (is_pair u v) refl
  where
    go : (b : Bool) → is_pair u v ≡ b → Scalars (pick b (paired u v ∷ scalars us) (single u ∷ scalars (v ∷ us)))
    go true e =
        let t = and-true (is_high u) (is_low v) e in
        let a = bounds 0xD800 0xDBFF u t.0 in
        let c = bounds 0xDC00 0xDFFF v t.1 in
        let i : 0xD800 ≤ u = a.0 in
        let j : u ≤ 0xDBFF = a.1 in
        let k : 0xDC00 ≤ v = c.0 in
        let l : v ≤ 0xDFFF = c.1 in
        (above {c = paired u v} (omega arith) (omega arith), after)
    go false e = (single-scalar u h, next)

-- what is read are scalar values
pub scalars-sound : (us : List ℕ) → Units us → Scalars (scalars us)
unfolding scalars
scalars-sound [] h = tt
scalars-sound (u ∷ []) h = (single-scalar u (h 0), tt)
scalars-sound (u ∷ v ∷ us) h = sound-step u v us (h 0) (scalars-sound us (λ k. h (suc (suc k)))) (scalars-sound (v ∷ us) (λ k. h (suc k)))

all-formed : (cs : List ℕ) → Scalars cs → WellFormed (joined scalar_bytes cs)
unfolding joined
all-formed [] s = none
all-formed (c ∷ cs) s = more (sequence-of c s.0) (all-formed cs s.1)

all-decoded : (cs : List ℕ) → Scalars cs → decoded (joined scalar_bytes cs) ≡ cs
unfolding joined decoded_from
all-decoded [] s = refl
all-decoded (c ∷ cs) s = decoded-first c (scalar-lt s.0) (joined scalar_bytes cs) ∙ ap (λ (l : List ℕ). c ∷ l) (all-decoded cs s.1)

-- the bytes of any units are well-formed UTF-8
pub well-formed : (us : List ℕ) → Units us → WellFormed (utf8 us)
well-formed us h = all-formed (scalars us) (scalars-sound us h)

-- and spell the scalar values that were read
pub decoded-back : (us : List ℕ) → Units us → decoded (utf8 us) ≡ scalars us
decoded-back us h = all-decoded (scalars us) (scalars-sound us h)

-- ---- ASCII, lengths, units back

-- units of ASCII are their own bytes
pub ascii-same : (us : List ℕ) → ((k : ℕ) → get_or us k 0 < 0x80) → utf8 us ≡ us
unfolding joined scalars
ascii-same [] h = refl
ascii-same (u ∷ us) h =
    let k : u < 0x80 = h 0 in
    ap (joined scalar_bytes) (not-high u us (laws.below 0xD800 0xDBFF u (omega arith)))
    ∙ ap (λ (b : Bool). scalar_bytes (pick b 0xFFFD u) ++ utf8 us) (laws.below 0xD800 0xDFFF u (omega arith))
    ∙ ap₂ (λ (b r : List ℕ). b ++ r) (ascii-bytes u k) (ascii-same us (λ j. h (suc j)))

-- at most three bytes a unit
pub at-most-three : (us : List ℕ) → Units us → length (utf8 us) ≤ 3 * length us
at-most-three us h = shorter.short us h

all_read : (cs : List ℕ) → Scalars cs → scalars (joined utf16 cs) ≡ cs
unfolding joined scalars
all_read [] s = refl
all_read (c ∷ cs) s = scalar-first c s.0 (joined utf16 cs) ∙ ap (λ (l : List ℕ). c ∷ l) (all_read cs s.1)

-- units in which every surrogate has its partner come back from their bytes
pub units-back : (us : List ℕ) → Paired us → joined utf16 (decoded (utf8 us)) ≡ us
units-back us (cs, s, e) =
    let r : scalars us ≡ cs = ap scalars (sym e) ∙ all_read cs s in
    ap (λ (l : List ℕ). joined utf16 (decoded (joined scalar_bytes l))) r ∙ ap (joined utf16) (all-decoded cs s) ∙ e

-- ---- every well-formed sequence

-- bytes that are those of a scalar value
pub record Spells (a : List ℕ) : Type 0 where
  pub value : ℕ
  pub sound : Scalar value
  pub bytes : scalar_bytes value ≡ a

of_two : (x y c : ℕ) → Scalar c → 0x80 ≤ c → c < 0x800 → 0xC0 + c / 64 ≡ x → 0x80 + c % 64 ≡ y → Spells (x ∷ y ∷ [])
of_two x y c s h k e f = record { value = c; sound = s; bytes = bytes-two c h k ∙ ap₂ (λ (p q : ℕ). p ∷ q ∷ []) e f }

of_three : (x y z c : ℕ) → Scalar c → 0x800 ≤ c → c < 0x10000 → 0xE0 + c / 4096 ≡ x → 0x80 + c / 64 % 64 ≡ y → 0x80 + c % 64 ≡ z → Spells (x ∷ y ∷ z ∷ [])
of_three x y z c s h k e f g = record { value = c; sound = s; bytes = bytes-three c h k ∙ ap₂ (λ (p : ℕ) (r : List ℕ). p ∷ r) e (ap₂ (λ (p q : ℕ). p ∷ q ∷ []) f g) }

of_four : (x y z w c : ℕ) → Scalar c → 0x10000 ≤ c → 0xF0 + c / 262144 ≡ x → 0x80 + c / 4096 % 64 ≡ y → 0x80 + c / 64 % 64 ≡ z → 0x80 + c % 64 ≡ w → Spells (x ∷ y ∷ z ∷ w ∷ [])
of_four x y z w c s h e f g i = record { value = c; sound = s; bytes = bytes-four c h ∙ ap₂ (λ (p : ℕ) (r : List ℕ). p ∷ r) e (ap₂ (λ (p : ℕ) (r : List ℕ). p ∷ r) f (ap₂ (λ (p q : ℕ). p ∷ q ∷ []) g i)) }

-- the bytes of a value by its parts

three-spells : (p q r : ℕ) → q < 64 → r < 64 → Scalar ((p * 64 + q) * 64 + r) → 0x800 ≤ (p * 64 + q) * 64 + r → (p * 64 + q) * 64 + r < 0x10000 → (x y z : ℕ) → 0xE0 + p ≡ x → 0x80 + q ≡ y → 0x80 + r ≡ z → Spells (x ∷ y ∷ z ∷ [])
three-spells p q r k l s a b x y z e f g =
    let c : ℕ = (p * 64 + q) * 64 + r in
    let d : c / 64 ≡ p * 64 + q = omega arith in
    let h : c / 4096 ≡ p = sym (by-64 c) ∙ ap (λ (n : ℕ). n / 64) d ∙ (let w : (p * 64 + q) / 64 ≡ p = omega arith in w) in
    of_three x y z c s a b (omega (arith, h)) (omega (arith, d)) (omega arith)

four-spells : (o p q r : ℕ) → p < 64 → q < 64 → r < 64 → Scalar (((o * 64 + p) * 64 + q) * 64 + r) → 0x10000 ≤ ((o * 64 + p) * 64 + q) * 64 + r → (x y z w : ℕ) → 0xF0 + o ≡ x → 0x80 + p ≡ y → 0x80 + q ≡ z → 0x80 + r ≡ w → Spells (x ∷ y ∷ z ∷ w ∷ [])
four-spells o p q r j k l s a x y z w e f g i =
    let c : ℕ = ((o * 64 + p) * 64 + q) * 64 + r in
    let d : c / 64 ≡ (o * 64 + p) * 64 + q = omega arith in
    let h : c / 4096 ≡ o * 64 + p = sym (by-64 c) ∙ ap (λ (n : ℕ). n / 64) d ∙ (let t : ((o * 64 + p) * 64 + q) / 64 ≡ o * 64 + p = omega arith in t) in
    let m : c / 262144 ≡ o = sym (by-4096 c) ∙ ap (λ (n : ℕ). n / 64) h ∙ (let t : (o * 64 + p) / 64 ≡ o = omega arith in t) in
    of_four x y z w c s a (omega (arith, m)) (omega (arith, h)) (omega (arith, d)) (omega arith)

-- every row of the table is the bytes of a scalar value
pub sequence-spells : (a : List ℕ) → Sequence a → Spells a
sequence-spells l (ascii {a} h) = let k : a < 0x80 = omega (arith, h.1) in record { value = a; sound = below {c = a} (omega arith); bytes = ascii-bytes a k }
sequence-spells l (two {a} {b} (h, k) (m, n)) = of_two a b ((a - 0xC0) * 64 + (b - 0x80)) (below {c = (a - 0xC0) * 64 + (b - 0x80)} (omega arith)) (omega arith) (omega arith) (omega arith) (omega arith)
sequence-spells l (lowest_three {b} {c} (h, k) (m, n)) = three-spells 0 (b - 0x80) (c - 0x80) (omega arith) (omega arith) (below {c = (0 * 64 + (b - 0x80)) * 64 + (c - 0x80)} (omega arith)) (omega arith) (omega arith) 0xE0 b c (omega arith) (omega arith) (omega arith)
sequence-spells l (three {a} {b} {c} (h, k) (m, n) (i, j)) = three-spells (a - 0xE0) (b - 0x80) (c - 0x80) (omega arith) (omega arith) (below {c = ((a - 0xE0) * 64 + (b - 0x80)) * 64 + (c - 0x80)} (omega arith)) (omega arith) (omega arith) a b c (omega arith) (omega arith) (omega arith)
sequence-spells l (before_surrogates {b} {c} (h, k) (m, n)) = three-spells 13 (b - 0x80) (c - 0x80) (omega arith) (omega arith) (below {c = (13 * 64 + (b - 0x80)) * 64 + (c - 0x80)} (omega arith)) (omega arith) (omega arith) 0xED b c (omega arith) (omega arith) (omega arith)
sequence-spells l (highest_three {a} {b} {c} (h, k) (m, n) (i, j)) = three-spells (a - 0xE0) (b - 0x80) (c - 0x80) (omega arith) (omega arith) (above {c = ((a - 0xE0) * 64 + (b - 0x80)) * 64 + (c - 0x80)} (omega arith) (omega arith)) (omega arith) (omega arith) a b c (omega arith) (omega arith) (omega arith)
sequence-spells l (lowest_four {b} {c} {d} (h, k) (m, n) (i, j)) = four-spells 0 (b - 0x80) (c - 0x80) (d - 0x80) (omega arith) (omega arith) (omega arith) (above {c = ((0 * 64 + (b - 0x80)) * 64 + (c - 0x80)) * 64 + (d - 0x80)} (omega arith) (omega arith)) (omega arith) 0xF0 b c d (omega arith) (omega arith) (omega arith) (omega arith)
sequence-spells l (four {a} {b} {c} {d} (h, k) (m, n) (i, j) (u, v)) = four-spells (a - 0xF0) (b - 0x80) (c - 0x80) (d - 0x80) (omega arith) (omega arith) (omega arith) (above {c = (((a - 0xF0) * 64 + (b - 0x80)) * 64 + (c - 0x80)) * 64 + (d - 0x80)} (omega arith) (omega arith)) (omega arith) a b c d (omega arith) (omega arith) (omega arith) (omega arith)
sequence-spells l (highest_four {b} {c} {d} (h, k) (m, n) (i, j)) = four-spells 4 (b - 0x80) (c - 0x80) (d - 0x80) (omega arith) (omega arith) (omega arith) (above {c = ((4 * 64 + (b - 0x80)) * 64 + (c - 0x80)) * 64 + (d - 0x80)} (omega arith) (omega arith)) (omega arith) 0xF4 b c d (omega arith) (omega arith) (omega arith) (omega arith)

-- well-formed bytes are the bytes of the scalar values that they spell
pub well-formed-only : (bs : List ℕ) → WellFormed bs → Scalars (decoded bs) × (joined scalar_bytes (decoded bs) ≡ bs)
unfolding joined decoded_from
well-formed-only bs none = (tt, refl)
well-formed-only bs (more {a} {b} s w) = step (sequence-spells a s) (well-formed-only b w)
  where
    step : Spells a → Scalars (decoded b) × (joined scalar_bytes (decoded b) ≡ b) → Scalars (decoded (a ++ b)) × (joined scalar_bytes (decoded (a ++ b)) ≡ a ++ b)
    step p r =
        let e : decoded (a ++ b) ≡ p.value ∷ decoded b = ap (λ (l : List ℕ). decoded (l ++ b)) (sym p.bytes) ∙ decoded-first p.value (scalar-lt p.sound) b in
        (subst Scalars (sym e) (p.sound, r.0), ap (joined scalar_bytes) e ∙ ap₂ (λ (l m : List ℕ). l ++ m) p.bytes r.1)
