-- Sizes and faults of an entry's fields, as the code finds them. Assumes nothing.
use Prim.Native.Nat.{ℕ, zero, suc, ◌+◌, ◌-◌, ◌*◌, ◌%◌, ◌≤◌, ◌<◌}
use mathlib.Core.Path.{◌≡◌, refl, sym, ap, ap₂, ◌∙◌}
use mathlib.Core.List.{List, [], ◌∷◌, ◌++◌}
use mathlib.Core.Bool.{Bool, true, false}
use lib.Dec.{leb, eqb}
use lib.ListN.{length}
use lib.Ieee.{binary64, of_bits}
use lib.Ieee.Scale.{finite}
use borrow.Author.Tests.{eq-eqb, ne_eqb, leb-true, lt-ltb, le-ltb}
use native.Mathlib.Omega.{arith}
use Rattle.algebra.specs.Numbers.{nums, num}
use Rattle.algebra.specs.Reader.{Res, ok, refuse, pick, field, body, each, done, or_zero, number_of}
use Rattle.algebra.specs.Faults.{first_of, faults}
use Rattle.algebra.proofs.Floats.{finite-bits}
use Rattle.algebra.proofs.Laws.{field_in, body-in}
use Rattle.algebra.proofs.Tells.{first-none, first_some, first-zero}
use Rattle.std.specs.Prelude.{Result}
use Rattle.std.specs.Result.{IsErrAnd}
use Rattle.std.proofs.lemmas.Result.{err_from_is_err_and}
use Rattle.fault.specs.Fault as N
use Rattle.fault.specs.declared.Fault.{Fault}
use Rattle.fault.specs.declared.Fault.TheVariants as vf
use Rattle.descriptor.specs.Reading.{shut, double, is_unit, is_array_unit}
use Rattle.descriptor.proofs.Fields.{shut-nums}
use Rattle.descriptor_raw.specs.Raw.{due_of}
use Rattle.descriptor_entry.specs.declared.Field.{Field}
use Rattle.descriptor_entry.specs.declared.Field.TheVariants as f
use Rattle.descriptor_entry.specs.declared.Shape.{Shape}
use Rattle.descriptor_entry.specs.Pieces.{Piece, number, units, size, fault, fault_of}
use Rattle.descriptor_entry.specs.Shapes.{Entry, number_in, id_length, pieces_of}
use Rattle.descriptor_entry.specs.Entries.{keyed, key_pieces, field_pieces}
use Rattle.descriptor_entry.proofs.Laws.{size-append, faults-append}
use Rattle.descriptor_entry_fields.proofs.Tables.{key-pieces, no_key}
use Rattle.descriptor_entry_judge.specs.Judging.{told_fault}
use Rattle.descriptor_entry_judge.specs.scaffold.Parts.{Sized, FourSized}

-- ---- faults by their numbers

-- no fault has the number 0
pub numbered : (f : Fault) → N.number_of f ≡ 0 → ⊥
numbered vf.TooLong e = omega arith
numbered vf.Short e = omega arith
numbered vf.WrongTag e = omega arith
numbered vf.Unknown e = omega arith
numbered vf.OutOfRange e = omega arith
numbered vf.LeftOver e = omega arith
numbered vf.ListsDiffer e = omega arith
numbered vf.BadlyClosed e = omega arith
numbered vf.Unbalanced e = omega arith
numbered vf.TooDeep e = omega arith
numbered vf.NoRoom e = omega arith
numbered vf.NoRecord e = omega arith
numbered vf.WrongLength e = omega arith
numbered vf.NoCounterpart e = omega arith

-- what is told where a `?` hands a fault on
pub fault-exit : (r : Result Unit Fault) (f : Fault) {m : ℕ} → IsErrAnd r (λ y. y ≡ f) → N.number_of f ≡ m → told_fault r ≡ m
fault-exit r f h e = let p = err_from_is_err_and r h in rw (p.1, p.2) e

-- ---- sizes

pub sized : (row : Entry) (x y : Field) → x ≡ y → (r : ℕ) → r ≡ size (pieces_of 0 row y) → r < 68719476736 → Sized (size (pieces_of 0 row x)) r
sized row x y e r is small = record { is = is ∙ ap (λ (z : Field). size (pieces_of 0 row z)) (sym e); small = small }

pub size_none : (row : Entry) → 0 ≡ size (pieces_of 0 row f.Nothing)
unfolding size
size_none row = refl

-- one number of w bytes
pub size_number : (w v x : ℕ) → w ≡ size (number w v x ∷ [])
unfolding size
size_number w v x = omega arith

module _ (m : ℕ) (sh : Shape) (e : Entry) where
  pub four-sized : (a b c d : ℕ) → Sized (size (pieces_of m e sh.first)) a → Sized (size (pieces_of m e sh.second)) b → Sized (size (pieces_of m e sh.third)) c → Sized (size (pieces_of m e sh.fourth)) d
      → FourSized (size (field_pieces m sh e)) (a + b + c + d)
  unfolding field_pieces
  four-sized a b c d ha hb hc hd =
      let pa : List Piece = pieces_of m e sh.first in
      let pb : List Piece = pieces_of m e sh.second in
      let pc : List Piece = pieces_of m e sh.third in
      let pd : List Piece = pieces_of m e sh.fourth in
      record { is = omega (arith, ha.is, hb.is, hc.is, hd.is, size-append pa (pb ++ (pc ++ pd)), size-append pb (pc ++ pd), size-append pc pd); small = omega (arith, ha.small, hb.small, hc.small, hd.small) }

-- ---- faults of parts

pub done-number : {A : Type 0} (m : Res A) → number_of (done m) ≡ number_of m
done-number (ok a q) = refl
done-number (refuse x p r g) = refl

pub number-of : {A : Type 0} (m : Res A) {w : Res Unit} → done m ≡ w → number_of w ≡ number_of m
number-of m e = ap number_of (sym e) ∙ done-number m

-- a body of w bytes a number is as many bytes
body_bytes : (w n : ℕ) (s : List ℕ) (at k : ℕ) → k ≡ n * w → number_of (body 1 k s at) ≡ number_of (body w n s at)
unfolding body
body_bytes w n s at k e = go (leb (k * 1) (length s - at)) (leb (n * w) (length s - at)) (ap (λ (z : ℕ). leb z (length s - at)) (omega (arith, e))) _ _ _ _
  where
    go : (t u : Bool) → t ≡ u → (a b : List ℕ) (p q : ℕ) → number_of (pick t (ok a p) (refuse 2 at 0 0)) ≡ number_of (pick u (ok b q) (refuse 2 at 0 0))
    go true true h a b p q = refl
    go true false h a b p q = let z : ◌≡◌ {A = ℕ} 0 1 = cc in absurd (omega arith)
    go false true h a b p q = let z : ◌≡◌ {A = ℕ} 0 1 = cc in absurd (omega arith)
    go false false h a b p q = refl

body-there : (w n : ℕ) (s : List ℕ) (at : ℕ) → number_of (body w n s at) ≡ 0 → n * w ≤ length s - at
unfolding body
body-there w n s at e = go (leb (n * w) (length s - at)) refl _ _ e
  where
    go : (t : Bool) → leb (n * w) (length s - at) ≡ t → (l : List ℕ) (q : ℕ) → number_of (pick t (ok l q) (refuse 2 at 0 0)) ≡ 0 → n * w ≤ length s - at
    go true h l q z = leb-true _ _ h
    go false h l q z = absurd (omega arith)

module _ (text : List ℕ) (first : ℕ) where
  pub units-none : (n : ℕ) → n ≡ 0 → 0 ≡ fault_of text (units first n)
  unfolding nums shut
  units-none n e = sym (ap (λ (z : ℕ). fault_of text (units first z)) e ∙ first-none (number_of (body 2 0 text first)) 0 (ap number_of (body-in 2 text first 0 (omega arith))))

  module _ (n x : ℕ) (is : x ≡ number_of (body 1 (2 * n) text first)) where
    pub units-out : (x ≡ 0 → ⊥) → x ≡ fault_of text (units first n)
    units-out z =
        let e : x ≡ number_of (body 2 n text first) = is ∙ body_bytes 2 n text first (2 * n) (omega arith) in
        e ∙ sym (first_some (number_of (body 2 n text first)) _ (omega (arith, e, z)))

    -- by the last unit v
    pub units_in : (n ≡ 0 → ⊥) → x ≡ 0 → (v : ℕ) → v ≡ or_zero (field 2 text (first + 2 * n - 2)) → fault_of text (units first n) ≡ pick (eqb v 0) 0 8
    units_in nz z v e =
        let y : number_of (body 2 n text first) ≡ 0 = sym (is ∙ body_bytes 2 n text first (2 * n) (omega arith)) ∙ z in
        first-none (number_of (body 2 n text first)) (pick (shut (nums 2 n text first)) 0 8) y ∙ ap (λ (t : Bool). pick t 0 8) (last n nz (body-there 2 n text first y) v e)
      where
        last : (n : ℕ) → (n ≡ 0 → ⊥) → n * 2 ≤ length text - first → (v : ℕ) → v ≡ or_zero (field 2 text (first + 2 * n - 2)) → shut (nums 2 n text first) ≡ eqb v 0
        last zero nz l v e = absurd (nz refl)
        last (suc n) nz l v e =
            let p : first + n * 2 ≡ first + 2 * suc n - 2 = omega arith in
            let g : v ≡ num 2 text (first + 2 * suc n - 2) = e ∙ ap or_zero (field_in 2 text (first + 2 * suc n - 2) (omega arith)) in
            shut-nums n text first ∙ ap (λ (k : ℕ). eqb (num 2 text k) 0) p ∙ ap (λ (k : ℕ). eqb k 0) (sym g)

    pub units_open : (n ≡ 0 → ⊥) → x ≡ 0 → (v : ℕ) → v ≡ or_zero (field 2 text (first + 2 * n - 2)) → (v ≡ 0 → ⊥) → 8 ≡ fault_of text (units first n)
    units_open nz z v e h = sym (units_in nz z v e ∙ ap (λ (t : Bool). pick t 0 8) (ne_eqb v 0 h))

    pub units-shut : (n ≡ 0 → ⊥) → x ≡ 0 → (v : ℕ) → v ≡ or_zero (field 2 text (first + 2 * n - 2)) → v ≡ 0 → 0 ≡ fault_of text (units first n)
    units-shut nz z v e h = sym (units_in nz z v e ∙ ap (λ (t : Bool). pick t 0 8) (eq-eqb v 0 h))

-- ---- faults of fields

pub faulty : (text : List ℕ) (m : ℕ) (row : Entry) (x y : Field) → x ≡ y → (r : ℕ) → r ≡ fault text (pieces_of m row y) → r ≡ fault text (pieces_of m row x)
faulty text m row x y e r is = is ∙ ap (λ (z : Field). fault text (pieces_of m row z)) (sym e)

-- a number by itself
pub fault-number : (text : List ℕ) (w v x r : ℕ) → r ≡ x → r ≡ fault text (number w v x ∷ [])
unfolding faults
fault-number text w v x r e = e ∙ sym (first-zero x)

-- a number without a fault, and a body
pub fault-body : (text : List ℕ) (w v : ℕ) (p : Piece) (r : ℕ) → r ≡ fault_of text p → r ≡ fault text (number w v 0 ∷ p ∷ [])
unfolding faults
fault-body text w v p r e = e ∙ sym (first-zero (fault_of text p))

-- a number with one, and a body
pub fault-two : (text : List ℕ) (w v x : ℕ) (p : Piece) (r : ℕ) → r ≡ first_of x (fault_of text p) → r ≡ fault text (number w v x ∷ p ∷ [])
unfolding faults
fault-two text w v x p r e = e ∙ ap (λ (z : ℕ). first_of x z) (sym (first-zero (fault_of text p)))

pub fault-none : (text : List ℕ) (m : ℕ) (row : Entry) → 0 ≡ fault text (pieces_of m row f.Nothing)
unfolding faults
fault-none text m row = refl

-- four fields in turn
module _ (text : List ℕ) (m : ℕ) (sh : Shape) (e : Entry) where
  four : fault text (field_pieces m sh e) ≡ first_of (fault text (pieces_of m e sh.first)) (first_of (fault text (pieces_of m e sh.second)) (first_of (fault text (pieces_of m e sh.third)) (fault text (pieces_of m e sh.fourth))))
  unfolding field_pieces
  four =
      let pa : List Piece = pieces_of m e sh.first in
      let pb : List Piece = pieces_of m e sh.second in
      let pc : List Piece = pieces_of m e sh.third in
      let pd : List Piece = pieces_of m e sh.fourth in
      faults-append (fault_of text) pa (pb ++ (pc ++ pd))
      ∙ ap (λ (z : ℕ). first_of (fault text pa) z) (faults-append (fault_of text) pb (pc ++ pd) ∙ ap (λ (z : ℕ). first_of (fault text pb) z) (faults-append (fault_of text) pc pd))

  pub fault-first : (x : ℕ) → x ≡ fault text (pieces_of m e sh.first) → (x ≡ 0 → ⊥) → x ≡ fault text (field_pieces m sh e)
  fault-first x i z = i ∙ sym (four ∙ first_some _ _ (omega (arith, i, z)))

  module _ (x : ℕ) (i : x ≡ fault text (pieces_of m e sh.first)) (z : x ≡ 0) where
    after_first : fault text (field_pieces m sh e) ≡ first_of (fault text (pieces_of m e sh.second)) (first_of (fault text (pieces_of m e sh.third)) (fault text (pieces_of m e sh.fourth)))
    after_first = four ∙ first-none _ _ (sym i ∙ z)

    pub fault-second : (y : ℕ) → y ≡ fault text (pieces_of m e sh.second) → (y ≡ 0 → ⊥) → y ≡ fault text (field_pieces m sh e)
    fault-second y j w = j ∙ sym (after_first ∙ first_some _ _ (omega (arith, j, w)))

    module _ (y : ℕ) (j : y ≡ fault text (pieces_of m e sh.second)) (w : y ≡ 0) where
      after-second : fault text (field_pieces m sh e) ≡ first_of (fault text (pieces_of m e sh.third)) (fault text (pieces_of m e sh.fourth))
      after-second = after_first ∙ first-none _ _ (sym j ∙ w)

      pub fault-third : (u : ℕ) → u ≡ fault text (pieces_of m e sh.third) → (u ≡ 0 → ⊥) → u ≡ fault text (field_pieces m sh e)
      fault-third u k v = k ∙ sym (after-second ∙ first_some _ _ (omega (arith, k, v)))

      pub fault-fourth : (u v : ℕ) → u ≡ fault text (pieces_of m e sh.third) → u ≡ 0 → v ≡ fault text (pieces_of m e sh.fourth) → v ≡ fault text (field_pieces m sh e)
      fault-fourth u v k l n = n ∙ sym (after-second ∙ first-none _ _ (sym k ∙ l))

-- ---- doubles behind their count

pub count-right : (n m x : ℕ) → n ≡ m → first_of (pick (eqb n m) 0 5) x ≡ x
count-right n m x e = first-none (pick (eqb n m) 0 5) x (ap (λ (t : Bool). pick t 0 5) (eq-eqb n m e))

pub count-wrong : (n m x : ℕ) → (n ≡ m → ⊥) → 5 ≡ first_of (pick (eqb n m) 0 5) x
count-wrong n m x z = sym (ap (λ (t : Bool). first_of (pick t 0 5) x) (ne_eqb n m z))

-- ---- a double by its bits

pub finite-yes : (bits : ℕ) → bits % 9223372036854775808 < 9218868437227405312 → finite (of_bits binary64 bits) ≡ true
finite-yes bits h = finite-bits binary64 bits ∙ lt-ltb (bits % 9223372036854775808) 9218868437227405312 h

pub finite-not : (bits : ℕ) → 9218868437227405312 ≤ bits % 9223372036854775808 → finite (of_bits binary64 bits) ≡ false
finite-not bits h = finite-bits binary64 bits ∙ le-ltb (bits % 9223372036854775808) 9218868437227405312 h

pub double-right : (bits v : ℕ) → bits ≡ v → bits % 9223372036854775808 < 9218868437227405312 → ◌≡◌ {A = ℕ} 0 (pick (finite (of_bits binary64 v)) 0 5)
double-right bits v e h = sym (ap (λ (b : Bool). pick b 0 5) (ap (λ (z : ℕ). finite (of_bits binary64 z)) (sym e) ∙ finite-yes bits h))

pub double-wrong : (bits v : ℕ) → bits ≡ v → 9218868437227405312 ≤ bits % 9223372036854775808 → ◌≡◌ {A = ℕ} 5 (pick (finite (of_bits binary64 v)) 0 5)
double-wrong bits v e h = sym (ap (λ (b : Bool). pick b 0 5) (ap (λ (z : ℕ). finite (of_bits binary64 z)) (sym e) ∙ finite-not bits h))

-- ---- keys

pub key-sized : (what : ℕ) (e : Entry) (r : ℕ) → keyed (due_of what 0) ≡ true → r ≡ size (pieces_of 0 e (f.Id 1)) → r < 68719476736 → Sized (size (key_pieces (due_of what 0) e)) r
key-sized what e r h is small = record { is = is ∙ ap size (sym (key-pieces what e h)); small = small }

pub key-none : (what : ℕ) (e : Entry) → keyed (due_of what 0) ≡ false → Sized (size (key_pieces (due_of what 0) e)) 0
unfolding size
key-none what e h = record { is = ap size (sym (no_key what e h)); small = omega arith }

pub key-faulty : (text : List ℕ) (what : ℕ) (e : Entry) (r : ℕ) → keyed (due_of what 0) ≡ true → r ≡ fault text (pieces_of 0 e (f.Id 1)) → r ≡ fault text (key_pieces (due_of what 0) e)
key-faulty text what e r h is = is ∙ ap (fault text) (sym (key-pieces what e h))

pub key-sound : (text : List ℕ) (what : ℕ) (e : Entry) → keyed (due_of what 0) ≡ false → 0 ≡ fault text (key_pieces (due_of what 0) e)
unfolding faults
key-sound text what e h = ap (fault text) (sym (no_key what e h))

-- an ID's size
pub size-id : (e : Entry) (i n k r : ℕ) → n ≡ number_in e i → k ≡ id_length n → r ≡ 4 + k → r ≡ size (pieces_of 0 e (f.Id i))
unfolding size
size-id e i n k r a b c = let x : k ≡ id_length (number_in e i) = b ∙ ap id_length a in omega arith

pub size-text : (e : Entry) (i n r : ℕ) → n ≡ number_in e i → r ≡ 4 + 2 * n → r ≡ size (pieces_of 0 e (f.Text i))
unfolding size
size-text e i n r a c = omega arith

pub size-run : (e : Entry) (i n r : ℕ) → n ≡ number_in e i → r ≡ 4 + n → r ≡ size (pieces_of 0 e (f.Run i))
unfolding size
size-run e i n r a c = omega arith

pub size-doubles : (e : Entry) (i n r : ℕ) → n ≡ number_in e i → r ≡ 4 + 8 * n → r ≡ size (pieces_of 0 e (f.Doubles i))
unfolding size
size-doubles e i n r a c = omega arith

-- ---- each field, by the numbers that the code took from the entry

module _ (text : List ℕ) (m : ℕ) (e : Entry) where
  pub measure-fault : (u r : ℕ) → u ≡ number_in e 11 → r ≡ pick (is_unit u) 0 4 → r ≡ fault text (pieces_of m e f.Measure)
  measure-fault u r a b = fault-number text 4 _ _ r (b ∙ ap (λ (z : ℕ). pick (is_unit z) 0 4) a)

  pub array-measure-fault : (u r : ℕ) → u ≡ number_in e 11 → r ≡ pick (is_array_unit u) 0 4 → r ≡ fault text (pieces_of m e f.ArrayMeasure)
  array-measure-fault u r a b = fault-number text 4 _ _ r (b ∙ ap (λ (z : ℕ). pick (is_array_unit z) 0 4) a)

  pub flag-fault : (u r : ℕ) → u ≡ number_in e 13 → r ≡ pick (leb u 1) 0 5 → r ≡ fault text (pieces_of m e f.Flag)
  flag-fault u r a b = fault-number text 1 _ _ r (b ∙ ap (λ (z : ℕ). pick (leb z 1) 0 5) a)

  pub double-fault : (h l r : ℕ) → h ≡ number_in e 12 → l ≡ number_in e 13 → r ≡ pick (finite (of_bits binary64 (h * 4294967296 + l))) 0 5 → r ≡ fault text (pieces_of m e f.Double)
  double-fault h l r a b d = fault-number text 8 _ _ r (d ∙ ap₂ (λ (y z : ℕ). pick (finite (of_bits binary64 (y * 4294967296 + z))) 0 5) a b)

  pub id-fault : (i n q k r : ℕ) → n ≡ number_in e i → q ≡ number_in e (i + 1) → k ≡ id_length n → r ≡ number_of (body 1 k text q) → r ≡ fault text (pieces_of m e (f.Id i))
  id-fault i n q k r a b c d = fault-body text 4 _ _ r (d ∙ ap₂ (λ (y z : ℕ). number_of (body 1 y text z)) (c ∙ ap id_length a) b)

  pub text-fault : (i n q r : ℕ) → n ≡ number_in e i → q ≡ number_in e (i + 1) → r ≡ fault_of text (units q n) → r ≡ fault text (pieces_of m e (f.Text i))
  text-fault i n q r a b d = fault-body text 4 _ _ r (d ∙ ap₂ (λ (y z : ℕ). fault_of text (units z y)) a b)

  pub run-fault : (i n q r : ℕ) → n ≡ number_in e i → q ≡ number_in e (i + 1) → r ≡ number_of (body 1 n text q) → r ≡ fault text (pieces_of m e (f.Run i))
  run-fault i n q r a b d = fault-body text 4 _ _ r (d ∙ ap₂ (λ (y z : ℕ). number_of (body 1 y text z)) a b)

  pub doubles-fault : (i n q r : ℕ) → n ≡ number_in e i → q ≡ number_in e (i + 1) → r ≡ first_of (pick (eqb n m) 0 5) (number_of (each n 0 (λ j. double) text q)) → r ≡ fault text (pieces_of m e (f.Doubles i))
  doubles-fault i n q r a b d = fault-two text 4 _ _ _ r (d ∙ ap₂ (λ (y z : ℕ). first_of (pick (eqb y m) 0 5) (number_of (each y 0 (λ j. double) text z))) a b)

  pub word-fault : (i : ℕ) → 0 ≡ fault text (pieces_of m e (f.Word i))
  word-fault i = fault-number text 4 _ 0 0 refl

  pub wide-fault : 0 ≡ fault text (pieces_of m e f.Wide)
  wide-fault = fault-number text 8 _ 0 0 refl
