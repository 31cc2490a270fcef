-- What is answered by the verdict on a section. Assumes nothing.
use Prim.Native.Nat.{ℕ, zero, suc, ◌+◌, ◌-◌, ◌*◌, ◌/◌, ◌≤◌, ◌<◌}
use mathlib.Core.Path.{◌≡◌, refl, sym, ap, ap₂, ◌∙◌, subst}
use mathlib.Core.List.{List, [], ◌∷◌, ◌++◌, map}
use mathlib.Core.Bool.{Bool, true, false}
use lib.Dec.{leb, ltb}
use lib.ListN.{length, get_or, take, drop}
use lib.Seq.{sets, sets-eq}
use borrow.Author.Tests.{le-leb, le-ltb, lt-leb, leb-true, ltb-true}
use native.Mathlib.Omega.{arith}
use Rattle.algebra.specs.Numbers.{joined}
use Rattle.algebra.specs.Reader.{Res, ok, refuse, pick, limit}
use Rattle.algebra.specs.Table.{Verdict, accepted, refused, verdict}
use Rattle.algebra.specs.Store.{part}
use Rattle.algebra.proofs.Inverse.{pick_inv}
use Rattle.algebra.proofs.Places.{length-joined}
use Rattle.algebra.proofs.Exact.{length-map}
use Rattle.resource.specs.Reading.{Entry, blocks, resources}
use Rattle.resource.specs.Rows.{to_record, width}
use Rattle.resource.specs.Tiling.{size_of, Tiled}
use Rattle.resource.specs.declared.Record.{Record}
use Rattle.resource.proofs.Whole.{blocks_end}
use Rattle.resource.proofs.Tiled.{tiled}
use Rattle.resource_read.specs.Table.{entry_row, tabled, empty_record, record_in, name_of, payload_of, found_in}
use Rattle.resource_read.specs.scaffold.Parts.{rest, entries_of, Sound}

-- ---- what the verdict tells of the reading

pub refused-of : (m : Res (List Entry)) {x p : ℕ} → refused x p 0 0 ≡ verdict length m → m ≡ refuse x p 0 0
refused-of (ok es q) e = let z : ◌≡◌ {A = ℕ} 0 1 = cc in absurd (omega arith)
refused-of (refuse y q r f) e = cc

accepted-by : (m : Res (List Entry)) {n : ℕ} → accepted n ≡ verdict length m → (es : List Entry) × (q : ℕ) × (m ≡ ok es q) × (length es ≡ n)
accepted-by (ok es q) e = (es, q, refl, cc)
accepted-by (refuse y q r f) e = let z : ◌≡◌ {A = ℕ} 0 1 = cc in absurd (omega arith)

module _ (s : List ℕ) {n : ℕ} (v : accepted n ≡ verdict length (resources s)) where
  pub record Accepted : Type 0 where
    pub sound : Sound s 0
    pub count : length (rest s 0) ≡ n
    pub reads : resources s ≡ ok (rest s 0) (length s)

  pub accepted-of : Accepted
  unfolding resources
  accepted-of =
      let a = accepted-by (resources s) v in
      let i = pick_inv (leb (length s) limit) (blocks s 0) 1 0 0 0 a.2 in
      let end : a.1 ≡ length s = blocks_end s 0 (omega arith) a.0 a.1 i.1 in
      let is : a.0 ≡ rest s 0 = sym (ap entries_of i.1) in
      let b : ok a.0 a.1 ≡ ok (rest s 0) (length s) = ap₂ (λ (l : List Entry) (k : ℕ). ok l k) is end in record {
        sound = record { short = leb-true (length s) limit i.0; inside = omega arith; even = refl; reads = i.1 ∙ b };
        count = sym (ap length is) ∙ a.3;
        reads = a.2 ∙ b;
      }

-- ---- the table

row-width : (e : Entry) → length (entry_row e) ≡ width
row-width e = refl

-- a table that has room for n rows
pub room-enough : (n l : ℕ) → n ≤ l / width → width * n ≤ l
room-enough n l h = omega arith

module _ (s t : List ℕ) where
  pub table-refused : {x p : ℕ} → refused x p 0 0 ≡ verdict length (resources s) → (refused x p 0 0, t) ≡ tabled (resources s) t
  table-refused e = sym (ap (λ (m : Res (List Entry)). tabled m t) (refused-of (resources s) e))

  module _ {n : ℕ} (v : accepted n ≡ verdict length (resources s)) where
    pub table-short : length t / width < n → (refused 11 0 0 0, t) ≡ tabled (resources s) t
    table-short h =
        let a = accepted-of s v in
        let l : length t < width * length (rest s 0) = omega (arith, a.count) in
        sym (ap (λ (m : Res (List Entry)). tabled m t) a.reads ∙ simp (lt-leb (width * length (rest s 0)) (length t) l))

    pub table_filled : n ≤ length t / width → (t' : List ℕ) → t' ≡ sets t 0 (joined entry_row (rest s 0)) → (accepted n, t') ≡ tabled (resources s) t
    table_filled h t' e =
        let a = accepted-of s v in
        let es : List Entry = rest s 0 in
        let l : width * length es ≤ length t = omega (arith, a.count) in
        let len : length (joined entry_row es) ≡ length es * width = length-joined entry_row width row-width es in
        let end : 0 + length (joined entry_row es) ≡ width * length es = omega arith in
        let w : t' ≡ joined entry_row es ++ drop (width * length es) t = e ∙ sets-eq (joined entry_row es) t 0 (omega arith) ∙ ap (λ (i : ℕ). joined entry_row es ++ drop i t) end in
        ap₂ (λ (x : Verdict ℕ) (y : List ℕ). (x, y)) (ap accepted (sym a.count)) w ∙ sym (ap (λ (m : Res (List Entry)). tabled m t) a.reads ∙ simp (le-leb (width * length es) (length t) l))

-- ---- a record by its number, and the first with an ID

module _ (s : List ℕ) where
  pub record-refused : (i : ℕ) {x p : ℕ} → refused x p 0 0 ≡ verdict length (resources s) → refused x p 0 0 ≡ record_in i (resources s)
  record-refused i e = sym (ap (record_in i) (refused-of (resources s) e))

  pub found-refused : (i : ℕ) {x p : ℕ} → refused x p 0 0 ≡ verdict length (resources s) → refused x p 0 0 ≡ found_in i (resources s)
  found-refused i e = sym (ap (found_in i) (refused-of (resources s) e))

  module _ {n : ℕ} (v : accepted n ≡ verdict length (resources s)) where
    pub record-none : (i : ℕ) → n ≤ i → refused 12 0 0 0 ≡ record_in i (resources s)
    record-none i h =
        let a = accepted-of s v in
        sym (ap (record_in i) a.reads ∙ simp (le-ltb i (length (map to_record (rest s 0))) (omega (arith, a.count, length-map to_record (rest s 0)))))

    pub record_is : (i : ℕ) {r : Verdict Record} → r ≡ record_in i (ok (rest s 0) 0) → r ≡ record_in i (resources s)
    record_is i e = e ∙ sym (ap (record_in i) (accepted-of s v).reads)

    pub found-is : (id : ℕ) {r : Verdict ℕ} → r ≡ found_in id (ok (rest s 0) 0) → r ≡ found_in id (resources s)
    found-is id e = e ∙ sym (ap (found_in id) (accepted-of s v).reads)

-- ---- the parts of a record lie in the section

-- both parts end inside
pub record Inside (r : Record) (end : ℕ) : Type 0 where
  pub name : r.name + r.letters ≤ end
  pub payload : r.payload + r.size ≤ end

tiled-le : (at : ℕ) (es : List Entry) (end : ℕ) → Tiled at es end → at ≤ end
tiled-le at [] end h = omega arith
tiled-le at (e ∷ es) end h = omega (arith, tiled-le (at + size_of e) es end h.1)

tiled-inside : (at : ℕ) (es : List Entry) (end : ℕ) → Tiled at es end → (i : ℕ) → i < length es → Inside (get_or (map to_record es) i empty_record) end
tiled-inside at [] end h i l = absurd (omega arith)
tiled-inside at (e ∷ es) end h zero l = let m = tiled-le (at + size_of e) es end h.1 in record { name = omega (arith, h.0.name); payload = omega (arith, h.0.payload) }
tiled-inside at (e ∷ es) end h (suc i) l = tiled-inside (at + size_of e) es end h.1 i (omega arith)

by_answer : (s : List ℕ) (i : ℕ) (m : Res (List Entry)) → resources s ≡ m → {r : Record} → accepted r ≡ record_in i m → Inside r (length s)
by_answer s i (ok es q) h {r} e = go (ltb i (length (map to_record es))) refl e
  where
    go : (b : Bool) → ltb i (length (map to_record es)) ≡ b → accepted r ≡ pick b (accepted (get_or (map to_record es) i empty_record)) (refused 12 0 0 0) → Inside r (length s)
    go true l x =
        let same : get_or (map to_record es) i empty_record ≡ r = cc in
        subst (λ (y : Record). Inside y (length s)) same (tiled-inside 0 es (length s) (tiled s h).0 i (omega (arith, ltb-true i (length (map to_record es)) l, length-map to_record es)))
    go false l x = let z : ◌≡◌ {A = ℕ} 0 1 = cc in absurd (omega arith)
by_answer s i (refuse x p r f) h e = let z : ◌≡◌ {A = ℕ} 0 1 = cc in absurd (omega arith)

pub parts-inside : (s : List ℕ) (i : ℕ) {r : Record} → accepted r ≡ record_in i (resources s) → Inside r (length s)
parts-inside s i e = by_answer s i (resources s) refl e

-- ---- parts of the section, as the code lends them

pub part_of : (s : List ℕ) (from k : ℕ) → take (from + k - from) (drop from s) ≡ part s from k
part_of s from k = let e : from + k - from ≡ k = omega arith in ap (λ (n : ℕ). take n (drop from s)) e

pub name-part : (s : List ℕ) {r : Record} {v : Verdict Record} → accepted r ≡ v → take (r.name + r.letters - r.name) (drop r.name s) ≡ name_of s v
name-part s {r} e = part_of s r.name r.letters ∙ ap (name_of s) e

pub payload-part : (s : List ℕ) {r : Record} {v : Verdict Record} → accepted r ≡ v → take (r.payload + r.size - r.payload) (drop r.payload s) ≡ payload_of s v
payload-part s {r} e = part_of s r.payload r.size ∙ ap (payload_of s) e
