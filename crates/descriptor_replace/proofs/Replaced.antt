-- What is promised of a file with one value replaced. Assumes nothing.
use Prim.Native.Nat.{ℕ, zero, suc, ◌+◌, ◌-◌, ◌^◌, ◌≤◌, ◌<◌}
use mathlib.Core.Path.{◌≡◌, refl, sym, ap, ◌∙◌}
use mathlib.Core.List.{List, [], ◌∷◌, ◌++◌}
use mathlib.Core.Bool.{Bool, true, false}
use lib.Dec.{leb}
use lib.ListN.{length, get_or, take, drop, length-append, length-drop, take-append-drop}
use lib.Seq.{length-take-le, get_or-take, get_or-drop, get_or-append-add, drop-drop}
use lib.Ieee.{binary64, of_bits}
use lib.Ieee.Scale.{finite}
use borrow.Author.Tests.{eqb-true}
use native.Mathlib.Omega.{arith}
use Rattle.algebra.specs.Chars.{chars}
use Rattle.algebra.specs.Numbers.{num, be, At}
use Rattle.algebra.specs.Reader.{Res, ok, Reader, then, pick, Judged, fine, unless, judged, done}
use Rattle.algebra.specs.Store.{part}
use Rattle.algebra.proofs.Laws.{field_in, body-done, judged-ok}
use Rattle.algebra.proofs.Places.{length-be, at-whole, at_left, at_after, at_take, num-be}
use Rattle.descriptor.specs.Reading.{is, leaf, sort_of, boolean, flag, bits, double, is_unit, unit, unit_double, Row, descriptor}
use Rattle.descriptor.proofs.Rows.{rows-laid}
use Rattle.descriptor_heads.specs.Changed.{OneOf, Changed}
use Rattle.descriptor_read.specs.Values.{found, value_size, value_in}
use Rattle.descriptor_changed.proofs.Nested.{each-one, Within, within}
use Rattle.descriptor_changed.proofs.Singles.{width_of, singles}
use Rattle.descriptor_replace.specs.Replace.{is_kind, fault_of, bytes_of, new_file}
use Rattle.descriptor_replace.specs.Promise.{Fits}
use Rattle.descriptor_replace.specs.declared.Replacement.{Replacement}
use Rattle.descriptor_replace.specs.declared.Replacement.TheVariants as vr
use Rattle.descriptor_replace.proofs.Accepted.{again-rows}
use Rattle.descriptor_replace.proofs.Values.{kind-scalar, most, unit_size}
use Rattle.descriptor_replace.proofs.Rows.{one_single}

-- ---- values that are stored are read

module _ (u : List ℕ) (at : ℕ) where
  judged-fresh : (w n : ℕ) (j : ℕ → Judged) → at + w ≤ length u → n < 256 ^ w → At u at (be w n) → j n ≡ fine → judged w j u at ≡ ok (num w u at) (at + w)
  judged-fresh w n j l m h f = judged-ok w u at j (sym (field_in w u at (omega (arith, l)))) (ap j (num-be u w at n m h) ∙ f)

sound-5 : (b : Bool) → ◌≡◌ {A = ℕ} (pick b 0 5) 0 → unless b 5 ≡ fine
sound-5 true e = refl
sound-5 false e = absurd (omega (arith, e))

unit-sound : (a b : Bool) → ◌≡◌ {A = ℕ} (pick a (pick b 0 5) 4) 0 → (a ≡ true) × (◌≡◌ {A = ℕ} (pick b 0 5) 0)
unit-sound true b e = (refl, e)
unit-sound false b e = absurd (omega (arith, e))

is_leaf : {p q : Reader Unit} → is (leaf p) ≡ is (leaf q) → q ≡ p
is_leaf e = cc

-- a value of a kind is read to its end where its bytes stand
fresh-read : (kind at end : ℕ) (u : List ℕ) (p : Reader Unit) → sort_of kind ≡ is (leaf p) → (v : Replacement) → is_kind kind v ≡ true → Fits v → fault_of v ≡ 0 → At u at (bytes_of v) → end ≡ at + length (bytes_of v) → at + length (bytes_of v) ≤ length u → p u at ≡ ok tt end
unfolding sort_of flag double unit_double
fresh-read kind at end u p t (vr.Bool b) k f g h n l =
    let i = eqb-true kind (chars "bool") k in
    let m = length-be 1 b in
    let w = most 1 b g in
    ap (λ (x : Reader Unit). x u at) (is_leaf (sym (ap sort_of i) ∙ t)) ∙ ap done (judged-fresh u at 1 b boolean (omega (arith, l, m)) (omega (arith, w)) h (sound-5 (leb b 1) g)) ∙ ap (λ (x : ℕ). ok tt x) (upto 1 m)
  where
    upto : (w : ℕ) → length (be 1 b) ≡ w → at + w ≡ end
    upto w m = omega (arith, n, m)
fresh-read kind at end u p t (vr.Long x) k f g h n l =
    let i = eqb-true kind (chars "long") k in
    let m = length-be 4 x in
    ap (λ (y : Reader Unit). y u at) (is_leaf (sym (ap sort_of i) ∙ t)) ∙ body-done 1 u at 4 end (omega (arith, l, m)) (omega (arith, n, m))
fresh-read kind at end u p t (vr.Comp x) k f g h n l =
    let i = eqb-true kind (chars "comp") k in
    let m = length-be 8 x in
    ap (λ (y : Reader Unit). y u at) (is_leaf (sym (ap sort_of i) ∙ t)) ∙ body-done 1 u at 8 end (omega (arith, l, m)) (omega (arith, n, m))
fresh-read kind at end u p t (vr.Double x) k f g h n l =
    let i = eqb-true kind (chars "doub") k in
    let m = length-be 8 x in
    let y : at + 8 ≡ end = omega (arith, n, m) in
    ap (λ (z : Reader Unit). z u at) (is_leaf (sym (ap sort_of i) ∙ t)) ∙ ap done (judged-fresh u at 8 x bits (omega (arith, l, m)) f h (sound-5 (finite (of_bits binary64 x)) g)) ∙ ap (λ (z : ℕ). ok tt z) y
fresh-read kind at end u p t (vr.UnitDouble w x) k f g h n l =
    let i = eqb-true kind (chars "UntF") k in
    let m = unit_size w x in
    let j = unit-sound (is_unit w) (finite (of_bits binary64 x)) g in
    let a = judged-fresh u at 4 w unit (omega (arith, l, m)) f.0 (at_left u at (be 4 w) (be 8 x) h) (ap (λ (b : Bool). unless b 4) j.0) in
    let c : at + length (be 4 w) ≡ at + 4 = omega (arith, length-be 4 w) in
    let b = judged-fresh u (at + 4) 8 x bits (omega (arith, l, m)) f.1 (at_after u at (be 4 w) (be 8 x) (at + 4) c h) (sound-5 (finite (of_bits binary64 x)) j.1) in
    let y : at + 4 + 8 ≡ end = omega (arith, n, m) in
    ap (λ (z : Reader Unit). z u at) (is_leaf (sym (ap sort_of i) ∙ t)) ∙ ap (λ (z : Res ℕ). then z (λ d q. done (judged 8 bits u q))) a ∙ ap done b ∙ ap (λ (z : ℕ). ok tt z) y
fresh-read kind at end u p t vr.Other k f g h n l = let z : ◌≡◌ {A = ℕ} 0 1 = cc in absurd (omega arith)

-- ---- the file

module _ (s : List ℕ) (rs : List Row) (q : ℕ) (e : descriptor s ≡ ok rs q) (r : Row) (o : OneOf r rs) (v : Replacement) (k : is_kind r.kind v ≡ true) where
  pub size : r.value + length (bytes_of v) ≡ r.first + r.size
  size = let i = kind-scalar r.kind v k in one_single (length s) rs (singles s rs q e) o i.0 ∙' i.1
    where
      infixl 5 ◌∙'◌
      ◌∙'◌ : r.value + width_of r.kind ≡ r.first + r.size → width_of r.kind ≡ length (bytes_of v) → r.value + length (bytes_of v) ≡ r.first + r.size
      a ∙' b = omega (arith, a, b)

  inside : r.first + r.size ≤ length s
  inside = (each-one (Within 0 (length s)) (within (rows-laid s rs q e).tiled) o).1

  front : length (take r.value s) ≡ r.value
  front = length-take-le r.value s (omega (arith, size, inside))

  pub same_length : length (new_file s (found r) v) ≡ length s
  same_length =
      omega (arith, front, size, inside, length-append (take r.value s) (bytes_of v ++ drop (r.value + length (bytes_of v)) s), length-append (bytes_of v) (drop (r.value + length (bytes_of v)) s), length-drop (r.value + length (bytes_of v)) s)

  pub stands : At (new_file s (found r) v) r.value (bytes_of v)
  stands =
      let new : List ℕ = new_file s (found r) v in
      let z : 0 + length (take r.value s) ≡ r.value = omega (arith, front) in
      at_left new r.value (bytes_of v) (drop (r.value + length (bytes_of v)) s) (at_after new 0 (take r.value s) (bytes_of v ++ drop (r.value + length (bytes_of v)) s) r.value z (at-whole new))

  -- only the value's bytes differ
  pub only-value : Changed s (new_file s (found r) v) r
  only-value = record {
    kind = (kind-scalar r.kind v k).0;
    size = same_length;
    before = λ i l. left (take r.value s) (bytes_of v ++ drop (r.value + length (bytes_of v)) s) i (omega (arith, l, front)) ∙ get_or-take r.value s i 0 l;
    behind = λ i l.
        let m : ℕ = r.value + length (bytes_of v) in
        let a : i ≡ length (take r.value s) + (length (bytes_of v) + (i - m)) = omega (arith, l, front, size) in
        let b : m + (i - m) ≡ i = omega (arith, l, size) in
        ap (λ (j : ℕ). get_or (new_file s (found r) v) j 0) a
        ∙ get_or-append-add (take r.value s) (bytes_of v ++ drop m s) (length (bytes_of v) + (i - m)) 0
        ∙ get_or-append-add (bytes_of v) (drop m s) (i - m) 0
        ∙ get_or-drop m s (i - m) 0
        ∙ ap (λ (j : ℕ). get_or s j 0) b;
  }
    where
      left : (xs ys : List ℕ) (j : ℕ) → j < length xs → get_or (xs ++ ys) j 0 ≡ get_or xs j 0
      left [] ys j l = absurd (omega arith)
      left (x ∷ xs) ys zero l = refl
      left (x ∷ xs) ys (suc j) l = left xs ys j (omega arith)

  -- the row's bytes are those of the value given; what they say is descriptor_replace/Said
  pub value-given : value_in (new_file s (found r) v) (found r) ≡ bytes_of v
  value-given =
      let n : value_size r ≡ length (bytes_of v) = omega (arith, size) in
      ap (λ (m : ℕ). part (new_file s (found r) v) r.value m) n ∙ at_take (new_file s (found r) v) r.value (bytes_of v) stands

  -- a replacement whose bytes are the row's gives the same file
  pub itself : bytes_of v ≡ value_in s (found r) → new_file s (found r) v ≡ s
  itself h =
      let n : value_size r ≡ length (bytes_of v) = omega (arith, size) in
      let own : bytes_of v ≡ take (length (bytes_of v)) (drop r.value s) = h ∙ ap (λ (m : ℕ). part s r.value m) n in
      ap (λ (b : List ℕ). take r.value s ++ (b ++ drop (r.value + length (bytes_of v)) s)) own
      ∙ ap (λ (b : List ℕ). take r.value s ++ (take (length (bytes_of v)) (drop r.value s) ++ b)) (sym (drop-drop (length (bytes_of v)) r.value s))
      ∙ ap (λ (b : List ℕ). take r.value s ++ b) (take-append-drop (length (bytes_of v)) (drop r.value s))
      ∙ take-append-drop r.value s

  -- the new file is accepted, with the same rows
  module _ (f : Fits v) (g : fault_of v ≡ 0) where
    fresh : (p : Reader Unit) → sort_of r.kind ≡ is (leaf p) → p (new_file s (found r) v) r.value ≡ ok tt (r.first + r.size)
    fresh p t = fresh-read r.kind r.value (r.first + r.size) (new_file s (found r) v) p t v k f g stands (sym size) (omega (arith, size, inside, same_length))

    pub replaced-accepted : descriptor (new_file s (found r) v) ≡ ok rs (length (new_file s (found r) v))
    replaced-accepted = again-rows s (new_file s (found r) v) r only-value fresh rs q e o
