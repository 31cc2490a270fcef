-- A designer asked: might changing one number shift what the press reads elsewhere? It can't. Assumes nothing.
use Prim.Native.Nat.{ℕ, zero, suc, ◌+◌, ◌≤◌, ◌<◌}
use mathlib.Core.Path.{◌≡◌, refl, sym, ap, ap₂, ◌∙◌, subst}
use mathlib.Core.List.{List, [], ◌∷◌}
use mathlib.Core.Bool.{Bool, true, false}
use mathlib.Core.Logic.{◌⊎◌, inl, inr, ⊎_elim}
use lib.Dec.{eqb, leb}
use lib.ListN.{length, get_or, set, drop, length-take, length-drop}
use lib.Seq.{ext_get_or, get_or-take, get_or-drop, get_or-set_other}
use lib.Ieee.{binary64, of_bits}
use borrow.Author.Tests.{eqb-true, leb-true, leb-false}
use native.Mathlib.Omega.{arith}
use Rattle.algebra.specs.Chars.{chars}
use Rattle.algebra.specs.Numbers.{num, nums}
use Rattle.algebra.specs.Reader.{Res, ok, pick, field, body, ended}
use Rattle.algebra.specs.Refusal.{one_of, Of, among}
use Rattle.algebra.specs.Store.{part}
use Rattle.algebra.proofs.Places.{num-cong}
use Rattle.algebra.proofs.Placed.{of-all}
use Rattle.descriptor.specs.Reading.{id, shut, unicode, class, flag, enumerated, sort_of, Row, siblings, children, keyed, object_of, item, root, whole, descriptor}
use Rattle.descriptor.proofs.Rows.{rows-laid}
use Rattle.descriptor_heads.specs.Changed.{scalars, OneOf, here, later, Changed}
use Rattle.descriptor_heads.proofs.Lockstep.{same_rows}
use Rattle.descriptor_columns.specs.Columns.{columns_of, values_of, rows_of}
use Rattle.descriptor_columns.specs.Filled.{answered, filled}
use Rattle.descriptor_read.specs.Values.{RowAnswer, found, missing, row_at, row_in, value_size, place_of, value_in}
use Rattle.descriptor_read.specs.Typed.{typed_in, typed_of}
use Rattle.descriptor_read.specs.declared.Typed.TheVariants as vt
use Rattle.descriptor_changed.specs.Promise.{numbers, OneNumber, Holds, Elsewhere, Undisturbed}
use Rattle.descriptor_changed.proofs.Nested.{each-one, found-one, Within, within, Nested, Behind, nested}
use Rattle.descriptor_changed.proofs.Singles.{width_of, begins, Singles, singles}

-- ---- rows that do not hold a row of such a kind lie before it or behind it

from_next : (e : ℕ) (rs : List Row) {q : Row} → Nested rs → OneOf q rs → begins e rs ≤ q.first
from_next e (x ∷ rs) n (here h) = omega (arith, ap (λ (y : Row). y.first) h)
from_next e (x ∷ rs) n (later h) = (each-one (Behind x) n.0 h).0
from_next e [] {q = q} n x'' = elim x'' [ ]

apart : (e : ℕ) (rs : List Row) {r : Row} → Nested rs → Singles e rs → OneOf r rs → Of scalars r.kind → (j : ℕ) {q : Row} → row_at j rs ≡ found q → (Holds q r → ⊥)
    → (q.first + q.size ≤ r.first) ⊎ (r.first + r.size ≤ q.first)
apart e [] {r = r} n g x6 k j {q = q} f other = elim x6 [ ]
apart e (x ∷ rs) {r} n g (here h) k zero {q} f other = absurd (own (same f))
  where
    same : found x ≡ found q → q ≡ r
    same f = cc

    own : q ≡ r → ⊥
    own y = other (omega (arith, ap (λ (z : Row). z.first) y), omega (arith, ap (λ (z : Row). z.first + z.size) y))
apart e (x ∷ rs) {r} n g (here h) k (suc j) f other =
    let i = g.0 (subst (Of scalars) (sym (ap (λ (z : Row). z.kind) h)) k) in
    inr (omega (arith, i.1, from_next e rs n.1 (found-one rs j f), ap (λ (z : Row). z.first + z.size) h))
apart e (x ∷ rs) {r} n g (later h) k zero {q} f other = go (same f) (each-one (Behind x) n.0 h)
  where
    same : found x ≡ found q → x ≡ q
    same f = cc

    go : x ≡ q → Behind x r → (q.first + q.size ≤ r.first) ⊎ (r.first + r.size ≤ q.first)
    go y (l, inl a) = inl (omega (arith, a, ap (λ (z : Row). z.first + z.size) y))
    go y (l, inr b) = absurd (other (omega (arith, l, ap (λ (z : Row). z.first) y), omega (arith, b, ap (λ (z : Row). z.first + z.size) y)))
apart e (x ∷ rs) n g (later h) k (suc j) f other = apart e rs n.1 g.1 h k j f other

-- what a row's value is, of a row that was found
single : (e : ℕ) (rs : List Row) → Singles e rs → (j : ℕ) {q : Row} → row_at j rs ≡ found q → Of scalars q.kind → q.value + width_of q.kind ≡ q.first + q.size
single e [] g j f k = let z : ◌≡◌ {A = ℕ} 0 1 = cc in absurd (omega arith)
single e (x ∷ rs) g zero {q} f k = go (same f)
  where
    same : found x ≡ found q → x ≡ q
    same f = cc

    go : x ≡ q → q.value + width_of q.kind ≡ q.first + q.size
    go y = subst (λ (z : Row). z.value + width_of z.kind ≡ z.first + z.size) y (g.0 (subst (Of scalars) (ap (λ (z : Row). z.kind) (sym y)) k)).0
single e (x ∷ rs) g (suc j) f k = single e rs g.1 j f k

-- ---- the same bytes, the same value

part_same : (s u : List ℕ) (at n : ℕ) → length u ≡ length s → ((k : ℕ) → at ≤ k → k < at + n → get_or u k 0 ≡ get_or s k 0) → part u at n ≡ part s at n
part_same s u at n e h = ext_get_or 0 (part u at n) (part s at n) sizes each
  where
    sizes : length (part u at n) ≡ length (part s at n)
    sizes = simp (length-take, length-drop, e)

    each : (i : ℕ) → i < length (part u at n) → get_or (part u at n) i 0 ≡ get_or (part s at n) i 0
    each i l =
        let w : i < n = omega (arith, simp (length-take, length-drop) at l) in
        get_or-take n (drop at u) i 0 w ∙ get_or-drop at u i 0 ∙ h (at + i) (omega arith) (omega arith) ∙ sym (get_or-take n (drop at s) i 0 w ∙ get_or-drop at s i 0)

pick_same : {A : Type 0} (b : Bool) {x x' y y' : A} → (b ≡ true → x ≡ x') → (b ≡ false → y ≡ y') → pick b x y ≡ pick b x' y'
pick_same true f g = f refl
pick_same false f g = g refl

typed-same : (s u : List ℕ) (t v : ℕ) → (Of scalars t → (k : ℕ) → v ≤ k → k < v + width_of t → get_or u k 0 ≡ get_or s k 0) → typed_in u t v ≡ typed_in s t v
unfolding typed_in
typed-same s u t v f =
    pick_same (eqb t (chars "bool")) (λ h. ap (λ (n : ℕ). vt.Bool (eqb n 1)) (number (chars "bool") 1 v (eqb-true t (chars "bool") h) refl (omega arith) (omega arith)))
    (λ a. pick_same (eqb t (chars "long")) (λ h. ap vt.Long (number (chars "long") 4 v (eqb-true t (chars "long") h) refl (omega arith) (omega arith)))
    (λ b. pick_same (eqb t (chars "comp")) (λ h. ap vt.Comp (number (chars "comp") 8 v (eqb-true t (chars "comp") h) refl (omega arith) (omega arith)))
    (λ c. pick_same (eqb t (chars "doub")) (λ h. ap (λ (n : ℕ). vt.Double (of_bits binary64 n)) (number (chars "doub") 8 v (eqb-true t (chars "doub") h) refl (omega arith) (omega arith)))
    (λ d. pick_same (eqb t (chars "UntF")) (λ h.
    let e = eqb-true t (chars "UntF") h in
    ap₂ (λ (x n : ℕ). vt.UnitDouble x (of_bits binary64 n)) (number (chars "UntF") 4 v e refl (omega arith) (omega arith)) (number (chars "UntF") 8 (v + 4) e refl (omega arith) (omega arith)))
    (λ e. refl)))))
  where
    -- w bytes among the value's
    number : (kind w at : ℕ) → t ≡ kind → one_of scalars kind ≡ true → v ≤ at → at + w ≤ v + width_of kind → num w u at ≡ num w s at
    number kind w at e is a b =
        let of : Of scalars t = subst (Of scalars) (sym e) (among is) in
        let x : width_of t ≡ width_of kind = ap width_of e in
        num-cong s u w at (λ k m. f of (at + k) (omega arith) (omega (arith, x, b, m)))

-- ---- the theorem

module _ {s u : List ℕ} {rs us : List Row} {r : Row} (c : OneNumber s u rs us r) where
  scalar-kind : Of scalars r.kind
  scalar-kind = among (of-all numbers scalars refl c.kind)

  -- up to the value, key and type included, nothing changed
  up_to : (k : ℕ) → k < r.value → get_or u k 0 ≡ get_or s k 0
  up_to k l = go (leb r.first k) refl
    where
      go : (b : Bool) → leb r.first k ≡ b → get_or u k 0 ≡ get_or s k 0
      go true e = c.key k (leb-true r.first k e) l
      go false e = c.before k (leb-false r.first k e)

  changed : Changed s u r
  changed = record { kind = scalar-kind; size = c.size; before = up_to; behind = c.behind }

  same : us ≡ rs
  same = same_rows s u rs us (length s) (length u) c.first c.second r c.row changed

  again : descriptor u ≡ descriptor s
  again = c.second ∙ ap₂ (λ (x : List Row) (n : ℕ). ok x n) same c.size ∙ sym c.first

  -- bytes of a row that neither is nor holds r
  bytes_same : (j : ℕ) {q : Row} → row_at j rs ≡ found q → (Holds q r → ⊥) → (k : ℕ) → q.value ≤ k → k < q.first + q.size → get_or u k 0 ≡ get_or s k 0
  bytes_same j {q} f other k a b =
      let t = (rows-laid s rs (length s) c.first).tiled in
      let w = each-one (Within 0 (length s)) (within t) (found-one rs j f) in
      let v = each-one (Within 0 (length s)) (within t) c.row in
      ⊎_elim (λ x. up_to k (omega (arith, x, b, v.2))) (λ x. c.behind k (omega (arith, x, a, w.2))) (apart (length s) rs (nested t) (singles s rs (length s) c.first) c.row scalar-kind j f other)

  value_same : (j : ℕ) (a : RowAnswer) → row_at j rs ≡ a → Elsewhere r a → value_in u a ≡ value_in s a
  value_same j (found q) f other = part_same s u q.value (value_size q) c.size (λ k a b. bytes_same j f other k a (omega (arith, a, b)))
  value_same j (missing x p) f other = refl

  type-same : (j : ℕ) (a : RowAnswer) → row_at j rs ≡ a → Elsewhere r a → typed_of u a ≡ typed_of s a
  type-same j (found q) f other =
      ap (λ t. ok t 0) (typed-same s u q.kind q.value (λ h k a b. bytes_same j f other k a (omega (arith, b, single (length s) rs (singles s rs (length s) c.first) j f h))))
  type-same j (missing x p) f other = refl

  row-of : (j : ℕ) → row_in j (descriptor s) ≡ row_at j rs
  row-of j = ap (row_in j) c.first

  -- for every two files that differ in one number
  pub undisturbed : Undisturbed s u rs us r
  undisturbed = record {
    rows = same;
    columns = ap columns_of same;
    given = ap (λ (x : List Row). rows_of (columns_of x) (values_of x)) same;
    answers = λ runs. ap (λ (m : Res (List Row)). answered m runs) again;
    tables = λ column runs run. ap (λ (m : Res (List Row)). filled column m runs run) again;
    places = λ j. ap (λ (m : Res (List Row)). place_of (row_in j m)) again;
    value = λ j h. ap (λ (m : Res (List Row)). value_in u (row_in j m)) again ∙ value_same j (row_in j (descriptor s)) (sym (row-of j)) h;
    typed = λ j h. ap (λ (m : Res (List Row)). typed_of u (row_in j m)) again ∙ type-same j (row_in j (descriptor s)) (sym (row-of j)) h;
  }

-- ---- such files are there: the last `bool` of P12 turned

abbrev row : ℕ → ℕ → ℕ → ℕ → ℕ → ℕ → Row
row k p f n d v = record { kind = k; parent = p; first = f; size = n; depth = d; value = v }

abbrev p12 : List ℕ
p12 =
    0 ∷ 0 ∷ 0 ∷ 16 ∷ 0 ∷ 0 ∷ 0 ∷ 0 ∷ 0 ∷ 0 ∷ 0 ∷ 1 ∷ 0x61 ∷ 0 ∷ 0 ∷ 0 ∷ 1
    ∷ 0 ∷ 0 ∷ 0 ∷ 1 ∷ 0x61 ∷ 0x56 ∷ 0x6c ∷ 0x4c ∷ 0x73 ∷ 0 ∷ 0 ∷ 0 ∷ 2
    ∷ 0x62 ∷ 0x6f ∷ 0x6f ∷ 0x6c ∷ 1 ∷ 0x62 ∷ 0x6f ∷ 0x6f ∷ 0x6c ∷ 1 ∷ []

abbrev turned : List ℕ
turned = set p12 39 0

abbrev four : List Row
four = row (chars "Objc") 0 0 40 0 4 ∷ row (chars "VlLs") 0 17 23 1 26 ∷ row (chars "bool") 1 30 5 2 34 ∷ row (chars "bool") 1 35 5 2 39 ∷ []

p12-read : descriptor p12 ≡ ok four 40
unfolding descriptor whole root object_of children siblings keyed item id unicode class flag sort_of field body num nums shut ended
p12-read = refl

turned-read : descriptor turned ≡ ok four 40
unfolding descriptor whole root object_of children siblings keyed item id unicode class flag sort_of field body num nums shut ended
turned-read = refl

pub one-turned : OneNumber p12 turned four four (row (chars "bool") 1 35 5 2 39)
one-turned = record {
  first = p12-read;
  second = turned-read;
  size = refl;
  row = later (later (later (here refl)));
  kind = among refl;
  before = λ k l. get_or-set_other p12 39 k 0 0 (λ e. absurd (omega (arith, e, l)));
  key = λ k a l. get_or-set_other p12 39 k 0 0 (λ e. absurd (omega (arith, e, l)));
  behind = λ k l. get_or-set_other p12 39 k 0 0 (λ e. absurd (omega (arith, e, l)));
}

-- and so what is read of the other `bool` is the same
pub other-bool : typed_of turned (row_in 2 (descriptor turned)) ≡ typed_of p12 (row_in 2 (descriptor p12))
other-bool = (undisturbed one-turned).typed 2 (subst (Elsewhere (row (chars "bool") 1 35 5 2 39)) (sym (ap (row_in 2) p12-read)) (λ h. omega (arith, h.1)))

-- ---- the four kinds matter: the count of a `TEXT` made 0, and what were its units are the next row

abbrev text : List ℕ
text =
    0 ∷ 0 ∷ 0 ∷ 16 ∷ 0 ∷ 0 ∷ 0 ∷ 0 ∷ 0 ∷ 0 ∷ 0 ∷ 1 ∷ 0x61 ∷ 0 ∷ 0 ∷ 0 ∷ 2
    ∷ 0 ∷ 0 ∷ 0 ∷ 1 ∷ 0x61 ∷ 0x54 ∷ 0x45 ∷ 0x58 ∷ 0x54 ∷ 0 ∷ 0 ∷ 0 ∷ 6 ∷ 0 ∷ 0 ∷ 0 ∷ 2 ∷ 0x62 ∷ 0x62 ∷ 0x65 ∷ 0x6e ∷ 0x75 ∷ 0x6d ∷ 0 ∷ 0
    ∷ 0 ∷ 0 ∷ 0 ∷ 6 ∷ 0x78 ∷ 0x78 ∷ 0 ∷ 0 ∷ 0 ∷ 5 ∷ 0x62 ∷ 0x6f ∷ 0x6f ∷ 0x6c ∷ 1 ∷ []

pub text-read : descriptor text ≡ ok (row (chars "Objc") 0 0 57 0 4 ∷ row (chars "TEXT") 0 17 25 1 26 ∷ row (chars "bool") 0 42 15 1 56 ∷ []) 57
unfolding descriptor whole root object_of children siblings keyed item id unicode class flag enumerated sort_of field body num nums shut ended
text-read = refl

pub text-shifted : descriptor (set text 29 0) ≡ ok (row (chars "Objc") 0 0 57 0 4 ∷ row (chars "TEXT") 0 17 13 1 26 ∷ row (chars "enum") 0 30 27 1 40 ∷ []) 57
unfolding descriptor whole root object_of children siblings keyed item id unicode class flag enumerated sort_of field body num nums shut ended
text-shifted = refl

-- ---- the key matters: with another length, what was the end of the key is a list with the `bool` in it

abbrev keyed_bool : List ℕ
keyed_bool =
    0 ∷ 0 ∷ 0 ∷ 16 ∷ 0 ∷ 0 ∷ 0 ∷ 0 ∷ 0 ∷ 0 ∷ 0 ∷ 1 ∷ 0x61 ∷ 0 ∷ 0 ∷ 0 ∷ 1
    ∷ 0 ∷ 0 ∷ 0 ∷ 9 ∷ 0x61 ∷ 0x56 ∷ 0x6c ∷ 0x4c ∷ 0x73 ∷ 0 ∷ 0 ∷ 0 ∷ 1 ∷ 0x62 ∷ 0x6f ∷ 0x6f ∷ 0x6c ∷ 1 ∷ []

pub key-read : descriptor keyed_bool ≡ ok (row (chars "Objc") 0 0 35 0 4 ∷ row (chars "bool") 0 17 18 1 34 ∷ []) 35
unfolding descriptor whole root object_of children siblings keyed item id unicode class flag sort_of field body num nums shut ended
key-read = refl

pub key-shifted : descriptor (set keyed_bool 20 1) ≡ ok (row (chars "Objc") 0 0 35 0 4 ∷ row (chars "VlLs") 0 17 18 1 26 ∷ row (chars "bool") 1 30 5 2 34 ∷ []) 35
unfolding descriptor whole root object_of children siblings keyed item id unicode class flag sort_of field body num nums shut ended
key-shifted = refl
