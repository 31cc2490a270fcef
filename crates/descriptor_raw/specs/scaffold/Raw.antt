-- Scaffolding: the form in which the code goes; cited by private contracts and by proofs.
use Rattle.std.specs.Prelude.{ℕ, ◌≤◌, ◌≡◌, List}
use Rattle.algebra.specs.Reader.{Res, Reader, ok, field, or_zero}
use Rattle.descriptor.specs.Reading.{Sort, is, leaf, object, array, sort_of}
use Rattle.descriptor_heads.specs.Heads.{Due, opens, item_head}
use Rattle.descriptor_raw.specs.declared.RawHead.{RawHead}
use Rattle.descriptor_raw.specs.Raw.{due_of, Sees}

-- where m accepts, it ends at r; and r is no further than `most`
pub record Ends (m : Res Unit) (most r : ℕ) : Type 0 where
  pub ends : (q : ℕ) → m ≡ ok tt q → r ≡ q
  pub near : r ≤ most

-- where the value at v of an item of type t is accepted up to its first child, r is what it says
pub record Values (s : List ℕ) (t v : ℕ) (r : RawHead) : Type 0 where
  pub kind : r.kind ≡ t
  pub value : r.value ≡ v
  pub opened : (sort : Sort) → sort_of t ≡ is sort → (x : Due × ℕ) (q : ℕ) → opens sort s v ≡ ok x q → (due_of r.what r.objects ≡ x.0) × (r.count ≡ x.1) × (r.end ≡ q)

-- the same where the type is one of fields alone, which p reads; of an object; of an array of m objects
abbrev pub Leaf : Reader Unit → (s : List ℕ) (t v : ℕ) → RawHead → Type 0
Leaf p s t v r = sort_of t ≡ is (leaf p) → Values s t v r

abbrev pub Object : (s : List ℕ) (t v : ℕ) → RawHead → Type 0
Object s t v r = sort_of t ≡ is object → Values s t v r

abbrev pub Array : (m : ℕ) (s : List ℕ) (t v : ℕ) → RawHead → Type 0
Array m s t v r = m ≡ or_zero (field 4 s v) → sort_of t ≡ is array → Values s t v r

-- the same of an item's head, from its type on, whatever its row's first byte is
pub record Items (s : List ℕ) (at : ℕ) (r : RawHead) : Type 0 where
  pub any : (first : ℕ) → Sees (λ d. item_head d first s at) r
