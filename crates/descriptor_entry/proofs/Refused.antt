-- The numbers that building may be refused by, always at place 0. Assumes nothing.
use Prim.Native.Nat.{ℕ, zero, suc, ◌+◌, ◌-◌}
use mathlib.Core.Path.{◌≡◌, refl, sym, subst}
use mathlib.Core.List.{List, [], ◌∷◌, ◌++◌}
use mathlib.Core.Bool.{Bool, true, false}
use lib.Dec.{leb, eqb}
use lib.ListN.{length}
use lib.Ieee.{binary64, of_bits}
use lib.Ieee.Scale.{finite}
use Rattle.algebra.specs.Chars.{chars}
use Rattle.algebra.specs.Numbers.{num, nums}
use Rattle.algebra.specs.Reader.{Res, ok, refuse, then, pick, field, rule, unless, each, done, number_of, limit}
use Rattle.algebra.specs.Faults.{faults}
use Rattle.algebra.specs.Writing.{refused}
use Rattle.algebra.specs.Refusal.{Of, among}
use Rattle.algebra.proofs.Numbered.{Fault, no-fault, pick-fault, first-fault, body-fault, needs-refused, writes-refused}
use Rattle.descriptor.specs.Reading.{shut, bits, double, is_unit, is_array_unit}
use Rattle.descriptor_heads.specs.Heads.{Due, items, pairs, forms, columns, Stack, deepest}
use Rattle.descriptor_entry.specs.Pieces.{Piece, number, size, fault_of, fault}
use Rattle.descriptor_entry.specs.Shapes.{Entry, number_in, kind_of, wide_of, id_length, pieces_of, object, shape_of}
use Rattle.descriptor_entry.specs.Entries.{key_pieces, objects_due, field_pieces, head_pieces, root_pieces, next, member_pieces, ending, root_stack, pieces, ended, build_fault, made, needed, built}
use Rattle.descriptor_entry.specs.Refusals.{refusals}
use Rattle.descriptor_entry.specs.declared.Field.{Field}
use Rattle.descriptor_entry.specs.declared.Field.TheVariants as f
use Rattle.descriptor_entry.specs.declared.Shape.{Shape}
use Rattle.descriptor_entry.proofs.Laws.{faults-append}

module _ (text : List ℕ) where
  -- ---- doubles: 2 or 5

  double-numbered : (at : ℕ) → Fault refusals (number_of (double text at))
  unfolding double field
  double-numbered at = go (leb 8 (length text - at))
    where
      by : (u : Bool) → Fault refusals (number_of (done (rule (unless u 5) at (ok (num 8 text at) (at + 8)))))
      by true = no-fault
      by false = among refl

      go : (t : Bool) → Fault refusals (number_of (done (then (pick t (ok (num 8 text at) (at + 8)) (refuse 2 at 0 0)) (λ v n. rule (bits v) at (ok v n)))))
      go true = by (finite (of_bits binary64 (num 8 text at)))
      go false = among refl

  doubles-numbered : (n i at : ℕ) → Fault refusals (number_of (each n i (λ i. double) text at))
  unfolding each
  doubles-numbered zero i at = no-fault
  doubles-numbered (suc n) i at = go (double text at) (double-numbered at) (λ q. doubles-numbered n (i + 1) q)
    where
      made_of : (a : Unit) (m : Res (List Unit)) → Fault refusals (number_of m) → Fault refusals (number_of (then m (λ more end. ok (a ∷ more) end)))
      made_of a (ok more end) h = no-fault
      made_of a (refuse x p r g) h = h

      go : (m : Res Unit) → Fault refusals (number_of m) → ((q : ℕ) → Fault refusals (number_of (each n (i + 1) (λ i. double) text q)))
          → Fault refusals (number_of (then m (λ a q. then (each n (i + 1) (λ i. double) text q) (λ more end. ok (a ∷ more) end))))
      go (ok a q) h ih = made_of a (each n (i + 1) (λ i. double) text q) (ih q)
      go (refuse x p r g) h ih = h

  -- ---- fields

  nothing : Fault refusals (fault text [])
  unfolding faults
  nothing = no-fault

  one : (p : Piece) → Fault refusals (fault_of text p) → Fault refusals (fault text (p ∷ []))
  unfolding faults
  one p h = first-fault (fault_of text p) 0 h no-fault

  counted : (x : ℕ) (v : ℕ) (p : Piece) → Fault refusals x → Fault refusals (fault_of text p) → Fault refusals (fault text (number 4 v x ∷ p ∷ []))
  unfolding faults
  counted x v p h g = first-fault x _ h (first-fault (fault_of text p) 0 g no-fault)

  joined-numbered : (ps qs : List Piece) → Fault refusals (fault text ps) → Fault refusals (fault text qs) → Fault refusals (fault text (ps ++ qs))
  joined-numbered ps qs h g = subst (λ (x : ℕ). Fault refusals x) (sym (faults-append (fault_of text) ps qs)) (first-fault (fault text ps) (fault text qs) h g)

  field-numbered : (m : ℕ) (e : Entry) (x : Field) → Fault refusals (fault text (pieces_of m e x))
  field-numbered m e f.Nothing = nothing
  field-numbered m e (f.Word i) = one _ no-fault
  field-numbered m e f.Measure = one _ (pick-fault (is_unit (number_in e 11)) no-fault (among refl))
  field-numbered m e f.ArrayMeasure = one _ (pick-fault (is_array_unit (number_in e 11)) no-fault (among refl))
  field-numbered m e f.Flag = one _ (pick-fault (leb (number_in e 13) 1) no-fault (among refl))
  field-numbered m e f.Wide = one _ no-fault
  field-numbered m e f.Double = one _ (pick-fault (finite (of_bits binary64 (wide_of e))) no-fault (among refl))
  field-numbered m e (f.Id i) = counted 0 _ _ no-fault (body-fault (among refl) 1 (id_length (number_in e i)) text (number_in e (i + 1)))
  field-numbered m e (f.Text i) =
      counted 0 _ _ no-fault (first-fault _ _ (body-fault (among refl) 2 (number_in e i) text (number_in e (i + 1))) (pick-fault (shut (nums 2 (number_in e i) text (number_in e (i + 1)))) no-fault (among refl)))
  field-numbered m e (f.Run i) = counted 0 _ _ no-fault (body-fault (among refl) 1 (number_in e i) text (number_in e (i + 1)))
  field-numbered m e (f.Doubles i) = counted _ _ _ (pick-fault (eqb (number_in e i) m) no-fault (among refl)) (doubles-numbered (number_in e i) 0 (number_in e (i + 1)))

  -- ---- heads

  fields-numbered : (m : ℕ) (sh : Shape) (e : Entry) → Fault refusals (fault text (field_pieces m sh e))
  unfolding field_pieces
  fields-numbered m sh e =
      joined-numbered (pieces_of m e sh.first) _ (field-numbered m e sh.first)
      (joined-numbered (pieces_of m e sh.second) _ (field-numbered m e sh.second)
      (joined-numbered (pieces_of m e sh.third) (pieces_of m e sh.fourth) (field-numbered m e sh.third) (field-numbered m e sh.fourth)))

  key-numbered : (c : Due) (e : Entry) → Fault refusals (fault text (key_pieces c e))
  key-numbered items e = nothing
  key-numbered pairs e = field-numbered 0 e (f.Id 1)
  key-numbered forms e = nothing
  key-numbered (columns m) e = field-numbered 0 e (f.Id 1)

  head-numbered : (c : Due) (e : Entry) → Fault refusals (fault text (head_pieces c e))
  unfolding head_pieces faults
  head-numbered c e =
      joined-numbered (key_pieces c e) _ (key-numbered c e)
      (first-fault _ _ (pick-fault (shape_of c (kind_of e)).known no-fault (among refl)) (fields-numbered (objects_due c) (shape_of c (kind_of e)) e))

  root-numbered : (e : Entry) → Fault refusals (fault text (root_pieces e))
  unfolding root_pieces faults
  root-numbered e = first-fault _ _ (pick-fault (eqb (kind_of e) (chars "Objc")) no-fault (among refl)) (fields-numbered 0 object e)

  -- ---- entries

  members-numbered : (es : List Entry) (st : Stack) → Fault refusals (fault text (member_pieces es st))
  unfolding member_pieces faults
  members-numbered [] st = no-fault
  members-numbered (e ∷ es) [] = no-fault
  members-numbered (e ∷ es) (x ∷ st) = go (leb (suc (length st)) deepest) (members-numbered es (next (x ∷ st) e))
    where
      go : (t : Bool) → Fault refusals (fault text (member_pieces es (next (x ∷ st) e))) → Fault refusals (fault text (pick t (head_pieces x.0 e ++ member_pieces es (next (x ∷ st) e)) []))
      go true h = joined-numbered (head_pieces x.0 e) (member_pieces es (next (x ∷ st) e)) (head-numbered x.0 e) h
      go false h = no-fault

  pieces-numbered : (es : List Entry) → Fault refusals (fault text (pieces es))
  unfolding pieces faults
  pieces-numbered [] = no-fault
  pieces-numbered (e ∷ es) = joined-numbered (root_pieces e) (member_pieces es (root_stack e)) (root-numbered e) (members-numbered es (root_stack e))

ending-numbered : (es : List Entry) (st : Stack) → Fault refusals (ending es st)
unfolding ending
ending-numbered [] [] = no-fault
ending-numbered [] (x ∷ st) = pick-fault (leb (suc (length st)) deepest) (among refl) (among refl)
ending-numbered (e ∷ es) [] = among refl
ending-numbered (e ∷ es) (x ∷ st) = pick-fault (leb (suc (length st)) deepest) (ending-numbered es (next (x ∷ st) e)) (among refl)

ended-numbered : (es : List Entry) → Fault refusals (ended es)
unfolding ended
ended-numbered [] = among refl
ended-numbered (e ∷ es) = ending-numbered es (root_stack e)

fault-numbered : (text : List ℕ) (es : List Entry) → Fault refusals (build_fault text es)
unfolding build_fault
fault-numbered text es = pick-fault (leb (size (pieces es)) limit) (first-fault (fault text (pieces es)) (ended es) (pieces-numbered text es) (ended-numbered es)) (among refl)

-- the length that is needed is refused by one of these numbers
pub needed-refused : (text : List ℕ) (es : List Entry) {x p : ℕ} → needed text es ≡ refused x p → Of refusals x × (p ≡ 0)
needed-refused text es e = needs-refused (build_fault text es) (size (pieces es)) (fault-numbered text es) e

-- building by one of them or by 11, and the lent bytes are as they were
pub built-refused : (text : List ℕ) (es : List Entry) (out : List ℕ) {x p : ℕ} {out' : List ℕ} → built text es out ≡ (refused x p, out') → Of (11 ∷ refusals) x × (p ≡ 0) × (out' ≡ out)
built-refused text es out e = writes-refused (build_fault text es) (size (pieces es)) (made text es) out (fault-numbered text es) e
