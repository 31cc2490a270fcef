-- What is found of one head. Assumes nothing.
use Prim.Native.Nat.{ℕ, zero, suc, ◌+◌, ◌≤◌, ◌<◌}
use mathlib.Core.Path.{◌≡◌, refl, sym, ap, ap₂, ◌∙◌}
use mathlib.Core.List.{List, ◌∷◌, ◌++◌}
use mathlib.Core.Bool.{Bool, true, false}
use lib.Dec.{eqb}
use borrow.Author.Tests.{eq-eqb, ne_eqb}
use native.Mathlib.Omega.{arith}
use Rattle.algebra.specs.Chars.{chars}
use Rattle.algebra.specs.Reader.{pick, limit}
use Rattle.algebra.specs.Faults.{first_of, faults}
use Rattle.algebra.proofs.Tells.{first-none, first_some}
use Rattle.std.specs.Prelude.{Result}
use Rattle.std.specs.Option.{unwrap_or}
use Rattle.fault.specs.declared.Fault.{Fault}
use Rattle.descriptor_heads.specs.Heads.{Due}
use Rattle.descriptor_raw.specs.Raw.{due_of}
use Rattle.descriptor_entry.specs.declared.Field.{Field}
use Rattle.descriptor_entry.specs.declared.Field.TheVariants as f
use Rattle.descriptor_entry.specs.declared.Shape.{Shape}
use Rattle.descriptor_entry.specs.Pieces.{Piece, number, size, fault, fault_of}
use Rattle.descriptor_entry.specs.Shapes.{Entry, number_in, kind_of, count_of, pieces_of, object, wanted, shape_of}
use Rattle.descriptor_entry.specs.Entries.{key_pieces, objects_due, field_pieces, head_pieces, root_pieces, asks}
use Rattle.descriptor_entry.proofs.Laws.{size-append, faults-append}
use Rattle.descriptor_entry_fields.proofs.Tables.{any-shape}
use Rattle.descriptor_entry_judge.specs.declared.Judged.{Judged}
use Rattle.descriptor_entry_judge.specs.Judging.{told_fault, Judges}
use Rattle.descriptor_entry_judge.specs.scaffold.Parts.{Sized, FourSized, head_fault}

-- what is found of the head of an entry e, where such a member is due
abbrev pub Found : (text : List ℕ) (what objects : ℕ) → Entry → Judged → Type 0
Found text what m e r = Judges text (head_pieces (due_of what m) e) (asks (shape_of (due_of what m) (kind_of e)) 0 0 0 e) r

-- ---- what does not depend on the number of objects

any-key : (what m : ℕ) (e : Entry) → key_pieces (due_of what m) e ≡ key_pieces (due_of what 0) e
any-key zero m e = refl
any-key (suc zero) m e = refl
any-key (suc (suc zero)) m e = refl
any-key (suc (suc (suc n))) m e = refl

any_field : (m : ℕ) (e : Entry) (x : Field) → size (pieces_of m e x) ≡ size (pieces_of 0 e x)
unfolding size
any_field m e f.Nothing = refl
any_field m e (f.Word i) = refl
any_field m e f.Measure = refl
any_field m e f.ArrayMeasure = refl
any_field m e f.Flag = refl
any_field m e f.Wide = refl
any_field m e f.Double = refl
any_field m e (f.Id i) = refl
any_field m e (f.Text i) = refl
any_field m e (f.Run i) = refl
any_field m e (f.Doubles i) = refl

any-fields : (m : ℕ) (sh : Shape) (e : Entry) → size (field_pieces m sh e) ≡ size (field_pieces 0 sh e)
unfolding field_pieces
any-fields m sh e = four m ∙ sums ∙ sym (four 0)
  where
    total : ℕ → ℕ
    total n = size (pieces_of n e sh.first) + (size (pieces_of n e sh.second) + (size (pieces_of n e sh.third) + size (pieces_of n e sh.fourth)))

    four : (n : ℕ) → size (pieces_of n e sh.first ++ (pieces_of n e sh.second ++ (pieces_of n e sh.third ++ pieces_of n e sh.fourth))) ≡ total n
    four n =
        let pa : List Piece = pieces_of n e sh.first in
        let pb : List Piece = pieces_of n e sh.second in
        let pc : List Piece = pieces_of n e sh.third in
        let pd : List Piece = pieces_of n e sh.fourth in
        omega (arith, size-append pa (pb ++ (pc ++ pd)), size-append pb (pc ++ pd), size-append pc pd)

    sums : total m ≡ total 0
    sums = omega (arith, any_field m e sh.first, any_field m e sh.second, any_field m e sh.third, any_field m e sh.fourth)

-- ---- a member's head

head-size : (c : Due) (e : Entry) → size (head_pieces c e) ≡ size (key_pieces c e) + 4 + size (field_pieces (objects_due c) (shape_of c (kind_of e)) e)
unfolding head_pieces size
head-size c e =
    let ps : List Piece = field_pieces (objects_due c) (shape_of c (kind_of e)) e in
    let n : Piece = number 4 (kind_of e) (pick (shape_of c (kind_of e)).known 0 4) in
    omega (arith, size-append (key_pieces c e) (n ∷ ps))

head-faults : (text : List ℕ) (c : Due) (e : Entry) → fault text (head_pieces c e) ≡ head_fault text e c (objects_due c) (shape_of c (kind_of e))
unfolding head_pieces faults
head-faults text c e =
    let ps : List Piece = field_pieces (objects_due c) (shape_of c (kind_of e)) e in
    let n : Piece = number 4 (kind_of e) (pick (shape_of c (kind_of e)).known 0 4) in
    faults-append (fault_of text) (key_pieces c e) (n ∷ ps)

pub judges-head : (text : List ℕ) (e : Entry) (what m kind : ℕ) (sh : Shape) (ks fs n w a : ℕ) (x : Result Unit Fault) (z : ℕ) → kind ≡ number_in e 0 → sh ≡ shape_of (due_of what 0) kind
    → Sized (size (key_pieces (due_of what 0) e)) ks → FourSized (size (field_pieces 0 sh e)) fs → n ≡ wanted sh.below (count_of e) → w ≡ unwrap_or sh.below 0 → a ≡ number_in e 15 → z ≡ ks + 4 + fs
    → (z ≤ limit → told_fault x ≡ head_fault text e (due_of what 0) (objects_due (due_of what m)) sh)
    → Judges text (head_pieces (due_of what m) e) (asks (shape_of (due_of what m) (kind_of e)) 0 0 0 e) (record { size = z; sound = x; what = w; objects = a; count = n })
judges-head text e what m kind sh ks fs n w a x z k i hk hf hn hw ha hz hx =
    let c : Due = due_of what m in
    let own : sh ≡ shape_of c (kind_of e) = i ∙ ap (shape_of (due_of what 0)) k ∙ sym (any-shape what m (kind_of e)) in
    let key : size (key_pieces c e) ≡ size (key_pieces (due_of what 0) e) = ap size (any-key what m e) in
    let rest : size (field_pieces (objects_due c) (shape_of c (kind_of e)) e) ≡ size (field_pieces 0 sh e) = any-fields (objects_due c) (shape_of c (kind_of e)) e ∙ ap (λ (y : Shape). size (field_pieces 0 y e)) (sym own) in
    record {
      size_is = omega (arith, hz, hk.is, hf.is, head-size c e, key, rest);
      small = omega (arith, hz, hk.small, hf.small);
      fault_is = λ l. hx l ∙ ap₂ (λ (ps : List Piece) (y : Shape). first_of (fault text ps) (first_of (pick y.known 0 4) (fault text (field_pieces (objects_due c) y e)))) (sym (any-key what m e)) own ∙ sym (head-faults text c e);
      below_is = ap₂ (λ (y q : ℕ). due_of y q) (hw ∙ ap (λ (y : Shape). unwrap_or y.below 0) own) ha;
      count_is = hn ∙ ap (λ (y : Shape). wanted y.below (count_of e)) own;
    }

-- in turn: the key, the kind, the fields
module _ (text : List ℕ) (e : Entry) (c : Due) (m : ℕ) (sh : Shape) where
  pub fault-key : (x : ℕ) → x ≡ fault text (key_pieces c e) → (x ≡ 0 → ⊥) → x ≡ head_fault text e c m sh
  fault-key x i z = i ∙ sym (first_some (fault text (key_pieces c e)) _ (omega (arith, i, z)))

  module _ (x : ℕ) (i : x ≡ fault text (key_pieces c e)) (z : x ≡ 0) where
    after-key : head_fault text e c m sh ≡ first_of (pick sh.known 0 4) (fault text (field_pieces m sh e))
    after-key = first-none (fault text (key_pieces c e)) _ (sym i ∙ z)

    pub fault-kind : sh.known ≡ false → 4 ≡ head_fault text e c m sh
    fault-kind k = sym (after-key ∙ ap (λ (b : Bool). first_of (pick b 0 4) (fault text (field_pieces m sh e))) k)

    pub fault-fields : sh.known ≡ true → (y : ℕ) → y ≡ fault text (field_pieces m sh e) → y ≡ head_fault text e c m sh
    fault-fields k y j = j ∙ sym (after-key ∙ ap (λ (b : Bool). first_of (pick b 0 4) (fault text (field_pieces m sh e))) k)

pub due-objects : (what m : ℕ) → 2 < what → m ≡ objects_due (due_of what m)
due-objects zero m h = absurd (omega arith)
due-objects (suc zero) m h = absurd (omega arith)
due-objects (suc (suc zero)) m h = absurd (omega arith)
due-objects (suc (suc (suc n))) m h = refl

pub due-none : (what m : ℕ) → what ≤ 2 → 0 ≡ objects_due (due_of what m)
due-none zero m h = refl
due-none (suc zero) m h = refl
due-none (suc (suc zero)) m h = refl
due-none (suc (suc (suc n))) m h = absurd (omega arith)

-- ---- the root's

pub judges-root : (text : List ℕ) (e : Entry) (sh : Shape) (fs n a : ℕ) (x : Result Unit Fault) (z : ℕ) → sh ≡ object → FourSized (size (field_pieces 0 sh e)) fs → n ≡ number_in e 14 → a ≡ number_in e 15 → z ≡ 4 + fs
    → (z ≤ limit → told_fault x ≡ first_of (pick (eqb (kind_of e) (chars "Objc")) 0 4) (fault text (field_pieces 0 sh e)))
    → Judges text (root_pieces e) (asks object 0 0 0 e) (record { size = z; sound = x; what = 1; objects = a; count = n })
unfolding root_pieces size faults
judges-root text e sh fs n a x z i hf hn ha hz hx =
    let s : size (field_pieces 0 sh e) ≡ size (field_pieces 0 object e) = ap (λ (y : Shape). size (field_pieces 0 y e)) i in
    record {
      size_is = omega (arith, hz, hf.is, s);
      small = omega (arith, hz, hf.small);
      fault_is = λ l. hx l ∙ ap (λ (y : Shape). first_of (pick (eqb (kind_of e) (chars "Objc")) 0 4) (fault text (field_pieces 0 y e))) i;
      below_is = refl;
      count_is = hn;
    }

pub root-other : (k x : ℕ) → (k ≡ chars "Objc" → ⊥) → 4 ≡ first_of (pick (eqb k (chars "Objc")) 0 4) x
root-other k x z = sym (ap (λ (b : Bool). first_of (pick b 0 4) x) (ne_eqb k (chars "Objc") z))

pub root-right : (k x : ℕ) → k ≡ chars "Objc" → x ≡ first_of (pick (eqb k (chars "Objc")) 0 4) x
root-right k x e = sym (ap (λ (b : Bool). first_of (pick b 0 4) x) (eq-eqb k (chars "Objc") e))
