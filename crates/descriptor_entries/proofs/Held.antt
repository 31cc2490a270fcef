-- Entries that hold the numbers of fields as they stand in a file: where the fields end, and that the pieces made of them stand there. Assumes nothing.
use Prim.Native.Nat.{ℕ, ◌+◌, ◌*◌, ◌^◌, ◌≤◌, ◌<◌}
use mathlib.Core.Path.{◌≡◌, refl, sym, ap, ap₂, ◌∙◌, subst}
use mathlib.Core.List.{List, [], ◌∷◌, ◌++◌, append-nil}
use lib.ListN.{length, get_or}
use native.Mathlib.Omega.{arith}
use native.Mathlib.Nat.{add-zero}
use Rattle.algebra.specs.Numbers.{be, num, joined, At, Bytes}
use Rattle.algebra.specs.Store.{part}
use Rattle.algebra.proofs.Places.{at_join, at_part, length_part, num-lt, be-num}
use Rattle.descriptor_entry.specs.Pieces.{Piece, number, run, units, doubles, size, bytes, Fits}
use Rattle.descriptor_entry.specs.Shapes.{Entry, number_in, wide_of, id_length, pieces_of, fields_of}
use Rattle.descriptor_entry.specs.Entries.{field_pieces}
use Rattle.descriptor_entry.specs.declared.Field.{Field}
use Rattle.descriptor_entry.specs.declared.Field.TheVariants as f
use Rattle.descriptor_entry.specs.declared.Shape.{Shape}
use Rattle.descriptor_entry.proofs.Laws.{size-append, bytes-append, bytes-length, fits-join}
use Rattle.descriptor_entries.specs.Taken.{span}
use Rattle.descriptor_entries.specs.scaffold.Spans.{end_of}

-- ---- what an entry holds

abbrev pub Holds : (s : List ℕ) (at : ℕ) → Entry → Field → Type 0
Holds s at e f.Nothing = Unit {0}
Holds s at e (f.Word i) = number_in e i ≡ num 4 s at
Holds s at e f.Measure = number_in e 11 ≡ num 4 s at
Holds s at e f.ArrayMeasure = number_in e 11 ≡ num 4 s at
Holds s at e f.Flag = number_in e 13 ≡ num 1 s at
Holds s at e f.Wide = (number_in e 12 ≡ num 4 s at) × (number_in e 13 ≡ num 4 s (at + 4))
Holds s at e f.Double = (number_in e 12 ≡ num 4 s at) × (number_in e 13 ≡ num 4 s (at + 4))
Holds s at e (f.Id i) = (number_in e i ≡ num 4 s at) × (number_in e (i + 1) ≡ at + 4)
Holds s at e (f.Text i) = (number_in e i ≡ num 4 s at) × (number_in e (i + 1) ≡ at + 4)
Holds s at e (f.Run i) = (number_in e i ≡ num 4 s at) × (number_in e (i + 1) ≡ at + 4)
Holds s at e (f.Doubles i) = (number_in e i ≡ num 4 s at) × (number_in e (i + 1) ≡ at + 4)

abbrev pub HoldsAll : (s : List ℕ) (at : ℕ) → Entry → List Field → Type 0
HoldsAll s at e [] = Unit {0}
HoldsAll s at e (x ∷ xs) = Holds s at e x × HoldsAll s (at + span s at x) e xs

pub end_later : (s : List ℕ) (xs : List Field) (at : ℕ) → at ≤ end_of s at xs
end_later s [] at = omega arith
end_later s (x ∷ xs) at = omega (arith, end_later s xs (at + span s at x))

-- ---- pieces that stand in the file, which is also their text

pub record Stands (s : List ℕ) (at : ℕ) (ps : List Piece) : Type 0 where
  pub stands : At s at (bytes s ps)
  pub fits : Fits s ps

module _ (s : List ℕ) where
  pub stands-none : (at : ℕ) → at ≤ length s → Stands s at []
  unfolding joined At
  stands-none at l = record { stands = l; fits = tt }

  pub stands-append : (at : ℕ) (ps qs : List Piece) → Stands s at ps → Stands s (at + size ps) qs → Stands s at (ps ++ qs)
  stands-append at ps qs a b =
      let l : length (bytes s ps) ≡ size ps = bytes-length s ps a.fits in
      record {
        stands = subst (λ (x : List ℕ). At s at x) (sym (bytes-append s ps qs)) (at_join s at (bytes s ps) (bytes s qs) a.stands (subst (λ (n : ℕ). At s (at + n) (bytes s qs)) (sym l) b.stands));
        fits = fits-join s ps qs a.fits b.fits;
      }

  stands_one : (at : ℕ) (p : Piece) (l : List ℕ) → bytes s (p ∷ []) ≡ l ++ [] → At s at l → Fits s (p ∷ []) → Stands s at (p ∷ [])
  stands_one at p l e h g = record { stands = subst (λ (x : List ℕ). At s at x) (sym (e ∙ append-nil l)) h; fits = g }

  module _ (b : Bytes s) where
    pub number-stands : (at w v x : ℕ) → v ≡ num w s at → at + w ≤ length s → Stands s at (number w v x ∷ [])
    unfolding joined
    number-stands at w v x e l =
        stands_one at (number w v x) (be w v) refl (subst (λ (n : ℕ). At s at (be w n)) (sym e) (be-num s b w at l)) (subst (λ (n : ℕ). n < 256 ^ w) (sym e) (num-lt s b w at), tt)

  run-stands : (at first n : ℕ) → first ≡ at → at + n ≤ length s → Stands s at (run first n ∷ [])
  unfolding joined
  run-stands at first n e l =
      subst (λ (k : ℕ). Stands s at (run k n ∷ [])) (sym e) (stands_one at (run at n) (part s at n) refl (at_part s at n l) (length_part s at n l, tt))

  units-stand : (at first n : ℕ) → first ≡ at → at + 2 * n ≤ length s → Stands s at (units first n ∷ [])
  unfolding joined
  units-stand at first n e l =
      subst (λ (k : ℕ). Stands s at (units k n ∷ [])) (sym e) (stands_one at (units at n) (part s at (2 * n)) refl (at_part s at (2 * n) l) (length_part s at (2 * n) l, tt))

  doubles-stand : (at first n : ℕ) → first ≡ at → at + 8 * n ≤ length s → Stands s at (doubles first n ∷ [])
  unfolding joined
  doubles-stand at first n e l =
      subst (λ (k : ℕ). Stands s at (doubles k n ∷ [])) (sym e) (stands_one at (doubles at n) (part s at (8 * n)) refl (at_part s at (8 * n) l) (length_part s at (8 * n) l, tt))

  -- a number of eight bytes is two of four
  wide_is : (at : ℕ) → num 8 s at ≡ num 4 s at * 4294967296 + num 4 s (at + 4)
  unfolding num
  wide_is at =
      let a : get_or s (at + 4 + 0) 0 ≡ get_or s (at + 4) 0 = ap (λ (k : ℕ). get_or s k 0) (omega arith) in
      let b : get_or s (at + 4 + 1) 0 ≡ get_or s (at + 5) 0 = ap (λ (k : ℕ). get_or s k 0) (omega arith) in
      let c : get_or s (at + 4 + 2) 0 ≡ get_or s (at + 6) 0 = ap (λ (k : ℕ). get_or s k 0) (omega arith) in
      let d : get_or s (at + 4 + 3) 0 ≡ get_or s (at + 7) 0 = ap (λ (k : ℕ). get_or s k 0) (omega arith) in
      omega (arith, a, b, c, d)

  -- ---- a field's pieces

  module _ (m : ℕ) (e : Entry) (at : ℕ) where
    pub field-size : (x : Field) → Holds s at e x → size (pieces_of m e x) ≡ span s at x
    unfolding size
    field-size f.Nothing h = refl
    field-size (f.Word i) h = refl
    field-size f.Measure h = refl
    field-size f.ArrayMeasure h = refl
    field-size f.Flag h = refl
    field-size f.Wide h = refl
    field-size f.Double h = refl
    field-size (f.Id i) h = let z : id_length (number_in e i) ≡ id_length (num 4 s at) = ap id_length h.0 in omega (arith, z)
    field-size (f.Text i) h = omega (arith, h.0)
    field-size (f.Run i) h = omega (arith, h.0)
    field-size (f.Doubles i) h = omega (arith, h.0)

    module _ (b : Bytes s) where
      -- a length or count of four bytes, and what stands behind it
      behind : (v x : ℕ) (p : Piece) → v ≡ num 4 s at → at + 4 ≤ length s → Stands s (at + 4) (p ∷ []) → Stands s at (number 4 v x ∷ p ∷ [])
      unfolding size
      behind v x p h l g = stands-append at (number 4 v x ∷ []) (p ∷ []) (number-stands b at 4 v x h l) g

      pub field-stands : (x : Field) → Holds s at e x → at + span s at x ≤ length s → Stands s at (pieces_of m e x)
      field-stands f.Nothing h l = stands-none at (omega (arith, l))
      field-stands (f.Word i) h l = number-stands b at 4 _ _ h l
      field-stands f.Measure h l = number-stands b at 4 _ _ h l
      field-stands f.ArrayMeasure h l = number-stands b at 4 _ _ h l
      field-stands f.Flag h l = number-stands b at 1 _ _ h l
      field-stands f.Wide h l = number-stands b at 8 (wide_of e) _ (ap₂ (λ (x y : ℕ). x * 4294967296 + y) h.0 h.1 ∙ sym (wide_is at)) l
      field-stands f.Double h l = number-stands b at 8 (wide_of e) _ (ap₂ (λ (x y : ℕ). x * 4294967296 + y) h.0 h.1 ∙ sym (wide_is at)) l
      field-stands (f.Id i) h l =
          let z : id_length (number_in e i) ≡ id_length (num 4 s at) = ap id_length h.0 in
          behind (number_in e i) _ _ h.0 (omega (arith, l)) (run-stands (at + 4) _ (id_length (number_in e i)) h.1 (omega (arith, l, z)))
      field-stands (f.Text i) h l = behind (number_in e i) _ _ h.0 (omega (arith, l)) (units-stand (at + 4) _ (number_in e i) h.1 (omega (arith, l, h.0)))
      field-stands (f.Run i) h l = behind (number_in e i) _ _ h.0 (omega (arith, l)) (run-stands (at + 4) _ (number_in e i) h.1 (omega (arith, l, h.0)))
      field-stands (f.Doubles i) h l = behind (number_in e i) _ _ h.0 (omega (arith, l)) (doubles-stand (at + 4) _ (number_in e i) h.1 (omega (arith, l, h.0)))

  -- ---- the pieces of fields one after the other

  abbrev allPieces : (m : ℕ) → Entry → List Field → List Piece
  allPieces m e [] = []
  allPieces m e (x ∷ xs) = pieces_of m e x ++ allPieces m e xs

  all-size : (m : ℕ) (e : Entry) (xs : List Field) (at : ℕ) → HoldsAll s at e xs → at + size (allPieces m e xs) ≡ end_of s at xs
  unfolding size
  all-size m e [] at h = add-zero at
  all-size m e (x ∷ xs) at h =
      let a = field-size m e at x h.0 in
      let b = all-size m e xs (at + span s at x) h.1 in
      omega (arith, a, b, size-append (pieces_of m e x) (allPieces m e xs))

  all-stand : Bytes s → (m : ℕ) (e : Entry) (xs : List Field) (at : ℕ) → HoldsAll s at e xs → end_of s at xs ≤ length s → Stands s at (allPieces m e xs)
  all-stand b m e [] at h l = stands-none at l
  all-stand b m e (x ∷ xs) at h l =
      let a = field-size m e at x h.0 in
      let i = end_later s xs (at + span s at x) in
      let more = all-stand b m e xs (at + span s at x) h.1 l in
      stands-append at (pieces_of m e x) (allPieces m e xs) (field-stands m e at b x h.0 (omega (arith, i, l)))
      (subst (λ (n : ℕ). Stands s (at + n) (allPieces m e xs)) (sym a) more)

  same-pieces : (m : ℕ) (sh : Shape) (e : Entry) → allPieces m e (fields_of sh) ≡ field_pieces m sh e
  unfolding field_pieces
  same-pieces m sh e = ap (λ (l : List Piece). pieces_of m e sh.first ++ (pieces_of m e sh.second ++ (pieces_of m e sh.third ++ l))) (append-nil (pieces_of m e sh.fourth))

  module _ (m : ℕ) (sh : Shape) (e : Entry) (at : ℕ) (h : HoldsAll s at e (fields_of sh)) where
    pub fields-size : at + size (field_pieces m sh e) ≡ end_of s at (fields_of sh)
    fields-size = ap (λ (l : List Piece). at + size l) (sym (same-pieces m sh e)) ∙ all-size m e (fields_of sh) at h

    pub fields-stand : Bytes s → end_of s at (fields_of sh) ≤ length s → Stands s at (field_pieces m sh e)
    fields-stand b l = subst (λ (x : List Piece). Stands s at x) (same-pieces m sh e) (all-stand b m e (fields_of sh) at h l)
