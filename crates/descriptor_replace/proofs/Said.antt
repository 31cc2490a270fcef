-- A replaced row says what was given, and a row replaced by what it says keeps its bytes. Assumes nothing.
use Prim.Native.Nat.{ℕ, zero, suc, ◌+◌, ◌^◌, ◌≤◌, ◌<◌}
use mathlib.Core.Path.{◌≡◌, refl, sym, ap, ◌∙◌, subst}
use mathlib.Core.List.{List, [], ◌∷◌, ◌++◌}
use mathlib.Core.Bool.{Bool, true, false, true≢false, not}
use lib.Dec.{T, leb, eqb}
use lib.ListN.{length}
use lib.Ieee.{binary64, of_bits, to_bits}
use lib.Ieee.Bits.{nan_bits_is, to_bits-of_bits}
use lib.Ieee.Scale.{finite}
use borrow.Author.Tests.{eqb-true, leb-true, le-leb}
use native.Mathlib.Omega.{arith}
use Rattle.algebra.specs.Chars.{chars}
use Rattle.algebra.specs.Numbers.{num, be, At, Bytes}
use Rattle.algebra.specs.Reader.{Res, ok, refuse, pick, judged}
use Rattle.algebra.specs.Refusal.{Of, among, one_of}
use Rattle.algebra.specs.Store.{part}
use Rattle.algebra.proofs.Floats.{no_nan}
use Rattle.algebra.proofs.Inverse.{then-inv, judged-inv, done-inv, unless-fine}
use Rattle.algebra.proofs.Places.{length-be, be-1, num-lt, be-num, at_next, at_take}
use Rattle.descriptor.specs.Reading.{boolean, flag, skip, is_unit, unit, unit_double, sort_of, Row, descriptor}
use Rattle.descriptor.specs.Refusals.{refusals}
use Rattle.descriptor.specs.scaffold.Leaves.{Leafed}
use Rattle.descriptor.proofs.Leaves.{AllLeafed, rows-leafed}
use Rattle.descriptor.proofs.Placed.{refused-placed}
use Rattle.descriptor_heads.specs.Changed.{OneOf, here, later}
use Rattle.descriptor_read.specs.Values.{RowAnswer, found, missing, row_at, row_in, value_size, value_in}
use Rattle.descriptor_read.specs.Typed.{typed_in, typed_of}
use Rattle.descriptor_read.specs.Kinds.{Says, typed}
use Rattle.descriptor_read.specs.declared.Typed.{Typed}
use Rattle.descriptor_read.specs.declared.Typed.TheVariants as vt
use Rattle.descriptor_read.proofs.ByBytes.{typed-said}
use Rattle.descriptor_read.proofs.Typing as T'
use Rattle.descriptor_changed.proofs.Nested.{found-one}
use Rattle.descriptor_replace.specs.Replace.{is_kind, fault_of, bytes_of, new_file, row_fault}
use Rattle.descriptor_replace.specs.Promise.{Fits, typed_by, as_given}
use Rattle.descriptor_replace.specs.declared.Replacement.{Replacement}
use Rattle.descriptor_replace.specs.declared.Replacement.TheVariants as vr
use Rattle.descriptor_replace.proofs.Values.{most}
use Rattle.descriptor_replace.proofs.Replaced.{size, stands, itself, replaced-accepted}

-- ---- what a row's bytes say

flag-says : (b : ℕ) → b ≤ 1 → Says (chars "bool") (be 1 b) (vt.Bool (eqb b 1))
flag-says zero l = subst (λ (x : List ℕ). Says (chars "bool") x (vt.Bool false)) (sym (be-1 0 (omega arith))) Says.no
flag-says (suc zero) l = subst (λ (x : List ℕ). Says (chars "bool") x (vt.Bool true)) (sym (be-1 1 (omega arith))) Says.yes
flag-says (suc (suc n)) l = absurd (omega (arith, l))

-- the bytes of a replacement that a row takes say its value
says : (kind : ℕ) (v : Replacement) → is_kind kind v ≡ true → Fits v → fault_of v ≡ 0 → Says kind (bytes_of v) (typed_by v)
says kind (vr.Bool b) k f g = subst (λ (t : ℕ). Says t (be 1 b) (vt.Bool (eqb b 1))) (sym (eqb-true kind (chars "bool") k)) (flag-says b (most 1 b g))
says kind (vr.Long n) k f g = subst (λ (t : ℕ). Says t (be 4 n) (vt.Long n)) (sym (eqb-true kind (chars "long") k)) (Says.long n (omega (arith, most 4294967295 n g)))
says kind (vr.Comp n) k f g = subst (λ (t : ℕ). Says t (be 8 n) (vt.Comp n)) (sym (eqb-true kind (chars "comp") k)) (Says.comp n f)
says kind (vr.Double n) k f g = subst (λ (t : ℕ). Says t (be 8 n) (vt.Double (of_bits binary64 n))) (sym (eqb-true kind (chars "doub") k)) (Says.double n f)
says kind (vr.UnitDouble u n) k f g = subst (λ (t : ℕ). Says t (be 4 u ++ be 8 n) (vt.UnitDouble u (of_bits binary64 n))) (sym (eqb-true kind (chars "UntF") k)) (Says.unit_double u n f.0 f.1)
says kind vr.Other k f g = let z : ◌≡◌ {A = ℕ} 0 1 = cc in absurd (omega arith)

-- ---- a row by its number

record Row-of (i : ℕ) (m : Res (List Row)) (r : Row) : Type 0 where
  rs : List Row
  q : ℕ
  is : m ≡ ok rs q
  at : row_at i rs ≡ found r

row-of : (i : ℕ) (m : Res (List Row)) (r : Row) → row_in i m ≡ found r → Row-of i m r
row-of i (ok rs q) r e = record { rs = rs; q = q; is = refl; at = e }
row-of i (refuse x p y f) r e = let z : ◌≡◌ {A = ℕ} 0 1 = cc in absurd (omega arith)

-- where there is none, there is a number for it
none-at : (i : ℕ) (rs : List Row) (x p : ℕ) → row_at i rs ≡ missing x p → x ≡ 0 → ⊥
none-at i [] x p e z = let y : 12 ≡ x = same e in omega (arith, y, z)
  where
    same : missing 12 0 ≡ missing x p → 12 ≡ x
    same h = cc
none-at zero (r ∷ rs) x p e z = let y : ◌≡◌ {A = ℕ} 0 1 = cc in omega arith
none-at (suc i) (r ∷ rs) x p e z = none-at i rs x p e z

none_in : (s : List ℕ) (i : ℕ) (m : Res (List Row)) → descriptor s ≡ m → (x p : ℕ) → row_in i m ≡ missing x p → x ≡ 0 → ⊥
none_in s i (ok rs q) d x p e z = none-at i rs x p e z
none_in s i (refuse y w r f) d x p e z = free (subst (Of refusals) (same e ∙ z) (refused-placed s d).0)
  where
    same : missing y w ≡ missing x p → y ≡ x
    same h = cc

    free : Of refusals 0 → ⊥
    free (among e) = let z : ◌≡◌ {A = ℕ} 0 1 = cc in omega arith

taken : (b : Bool) (n : ℕ) → ◌≡◌ {A = ℕ} (pick b n 14) 0 → (b ≡ true) × (n ≡ 0)
taken true n e = (refl, e)
taken false n e = absurd (omega (arith, e))

-- ---- what was given

-- where nothing is refused, the row's value in the new file is the one given
pub typed-given : (s : List ℕ) (i : ℕ) (v : Replacement) → Fits v → row_fault (row_in i (descriptor s)) v ≡ 0
    → typed_of (new_file s (row_in i (descriptor s)) v) (row_in i (descriptor (new_file s (row_in i (descriptor s)) v))) ≡ ok (typed_by v) 0
typed-given s i v f h = go (row_in i (descriptor s)) refl h
  where
    go : (a : RowAnswer) → row_in i (descriptor s) ≡ a → row_fault a v ≡ 0 → typed_of (new_file s (row_in i (descriptor s)) v) (row_in i (descriptor (new_file s (row_in i (descriptor s)) v))) ≡ ok (typed_by v) 0
    go (found r) e h =
        let t = row-of i (descriptor s) r e in
        let k = taken (is_kind r.kind v) (fault_of v) h in
        let o = found-one t.rs i t.at in
        let new : List ℕ = new_file s (found r) v in
        let row : row_in i (descriptor new) ≡ found r = ap (row_in i) (replaced-accepted s t.rs t.q t.is r o v k.0 f k.1) ∙ t.at in
        ap (λ (a : RowAnswer). typed_of (new_file s a v) (row_in i (descriptor (new_file s a v)))) e ∙ ap (typed_of new) row
        ∙ ap (λ (y : Typed). ok y 0) (typed-said new r.value (says r.kind v k.0 f k.1) (stands s t.rs t.q t.is r o v k.0))
    go (missing x p) e h = absurd (none_in s i (descriptor s) refl x p e h)

-- ---- a row's own value

flag-back : (n : ℕ) → n ≤ 1 → ◌≡◌ {A = ℕ} (pick (eqb n 1) 1 0) n
flag-back zero l = refl
flag-back (suc zero) l = refl
flag-back (suc (suc n)) l = absurd (omega (arith, l))

flag-sound : (b : Bool) → fault_of (vr.Bool (pick b 1 0)) ≡ 0
flag-sound true = refl
flag-sound false = refl

sound : (b : Bool) → b ≡ true → ◌≡◌ {A = ℕ} (pick b 0 5) 0
sound b e = ap (λ (x : Bool). pick {A = ℕ} x 0 5) e

double-kept : (n : ℕ) → n < 256 ^ 8 → finite (of_bits binary64 n) ≡ true → to_bits binary64 (of_bits binary64 n) ≡ n
double-kept n l e = to_bits-of_bits binary64 n l (subst (λ (t : Bool). T (not t)) (nan_bits_is binary64 n) (no_nan binary64 n e))

module _ (s : List ℕ) (b : Bytes s) where
  -- what a value of this kind says, given back, is taken, and its bytes stand there
  abbrev Own : ℕ → Type 0
  Own t = (v : ℕ) → Leafed s t v → (is_kind t (as_given (ok (typed_in s t v) 0)) ≡ true) × (fault_of (as_given (ok (typed_in s t v) 0)) ≡ 0) × At s v (bytes_of (as_given (ok (typed_in s t v) 0)))

  bool-own : Own (chars "bool")
  unfolding typed_in sort_of flag
  bool-own v h =
      let r = h.reads flag refl in
      let i = done-inv (judged 1 boolean s v) r.1 in
      let j = judged-inv 1 s v boolean i.1 in
      let n = leb-true i.0 1 (unless-fine (leb i.0 1) _ j.3) in
      let m : num 1 s v ≤ 1 = omega (arith, n, j.1) in
      (refl, flag-sound (eqb (num 1 s v) 1), subst (λ (k : ℕ). At s v (be 1 k)) (sym (flag-back (num 1 s v) m)) (be-num s b 1 v (omega (arith, j.0))))

  long-own : Own (chars "long")
  unfolding typed_in sort_of
  long-own v h =
      let r = h.reads (skip 4) refl in
      let m : num 4 s v ≤ 4294967295 = omega (arith, num-lt s b 4 v) in
      (refl, sound (leb (num 4 s v) 4294967295) (le-leb (num 4 s v) 4294967295 m), be-num s b 4 v (omega (arith, T'.skip-room 4 s v r.0 r.1)))

  comp-own : Own (chars "comp")
  unfolding typed_in sort_of
  comp-own v h =
      let r = h.reads (skip 8) refl in
      (refl, refl, be-num s b 8 v (omega (arith, T'.skip-room 8 s v r.0 r.1)))

  double-own : Own (chars "doub")
  unfolding typed_in
  double-own v h =
      let r = T'.double-ready s (chars "doub") v h refl in
      let k = sym (double-kept (num 8 s v) (num-lt s b 8 v) r.1) in (
        refl,
        subst (λ (n : ℕ). fault_of (vr.Double n) ≡ 0) k (sound (finite (of_bits binary64 (num 8 s v))) r.1),
        subst (λ (n : ℕ). At s v (be 8 n)) k (be-num s b 8 v (omega (arith, r.0))),
      )

  unit-own : Own (chars "UntF")
  unfolding typed_in sort_of unit_double
  unit-own v h =
      let p = h.reads unit_double refl in
      let t = then-inv (judged 4 unit s v) _ p.1 in
      let j = judged-inv 4 s v unit t.2 in
      let u : is_unit (num 4 s v) ≡ true = ap is_unit j.1 ∙ unless-fine (is_unit t.0) _ j.3 in
      let r = T'.unit-ready s (chars "UntF") v h refl in
      let n : ℕ = num 8 s (v + 4) in
      let k = sym (double-kept n (num-lt s b 8 (v + 4)) r.2) in
      let c : v + length (be 4 (num 4 s v)) ≡ v + 4 = ap (λ (x : ℕ). v + x) (length-be 4 (num 4 s v)) in (
        refl,
        subst (λ (m : ℕ). fault_of (vr.UnitDouble (num 4 s v) m) ≡ 0) k (ap (λ (x : Bool). pick {A = ℕ} x (pick (finite (of_bits binary64 n)) 0 5) 4) u ∙ sound (finite (of_bits binary64 n)) r.2),
        subst (λ (m : ℕ). At s v (be 4 (num 4 s v) ++ be 8 m)) k (at_next s v (be 4 (num 4 s v)) (be 8 n) (v + 4) c (be-num s b 4 v (omega (arith, r.0))) (be-num s b 8 (v + 4) (omega (arith, r.1)))),
      )

  abbrev Every : (ℕ → Type 0) → List ℕ → Type 0
  Every P [] = Unit {0}
  Every P (k ∷ ks) = P k × Every P ks

  by_key : (ks : List ℕ) (x : ℕ) → Every Own ks → one_of ks x ≡ true → Own x
  by_key [] x e h = absurd (true≢false (sym h))
  by_key (k ∷ ks) x e h = go (eqb x k) refl (λ y. by_key ks x e.1 y) h
    where
      go : (c : Bool) → eqb x k ≡ c → (one_of ks x ≡ true → Own x) → pick c true (one_of ks x) ≡ true → Own x
      go true y rec h = subst Own (sym (eqb-true x k y)) e.0
      go false y rec h = rec h

  own : (t : ℕ) → one_of typed t ≡ true → Own t
  own t h = by_key typed t (bool-own, (long-own, (comp-own, (double-own, (unit-own, tt))))) h

  leafed : (rs : List Row) {r : Row} → AllLeafed s rs → OneOf r rs → Leafed s r.kind r.value
  leafed (q ∷ rs) a (here h) = subst (λ (x : Row). Leafed s x.kind x.value) h a.0
  leafed (q ∷ rs) a (later h) = leafed rs a.1 h
  leafed [] {r = r} a x'' = elim x'' [ ]

  -- a row of one of the five kinds, replaced by what it says, is taken, and the file stays as it is
  pub own_same : (i : ℕ) (r : Row) → row_in i (descriptor s) ≡ found r → one_of typed r.kind ≡ true
      → (row_fault (row_in i (descriptor s)) (as_given (typed_of s (row_in i (descriptor s)))) ≡ 0) × (new_file s (row_in i (descriptor s)) (as_given (typed_of s (row_in i (descriptor s)))) ≡ s)
  own_same i r e h =
      let t = row-of i (descriptor s) r e in
      let o = found-one t.rs i t.at in
      let v : Replacement = as_given (ok (typed_in s r.kind r.value) 0) in
      let k = own r.kind h r.value (leafed t.rs (rows-leafed s t.rs t.q t.is) o) in
      let n : value_size r ≡ length (bytes_of v) = omega (arith, size s t.rs t.q t.is r o v k.0) in
      let bytes : bytes_of v ≡ value_in s (found r) = sym (ap (λ (m : ℕ). part s r.value m) n ∙ at_take s r.value (bytes_of v) k.2) in (
        ap (λ (a : RowAnswer). row_fault a (as_given (typed_of s a))) e ∙ ap (λ (c : Bool). pick {A = ℕ} c (fault_of v) 14) k.0 ∙ k.1,
        ap (λ (a : RowAnswer). new_file s a (as_given (typed_of s a))) e ∙ itself s t.rs t.q t.is r o v k.0 bytes,
      )
