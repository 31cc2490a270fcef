-- Scaffolding: the form in which the code goes; cited by private contracts and by proofs.
-- Values that are fields alone.
use Rattle.std.specs.Prelude.{ℕ, ◌≡◌, List}
use Rattle.algebra.specs.Reader.{ok, Reader}
use Rattle.descriptor.specs.Reading.{is, leaf, sort_of}

-- the value at v of a row of kind t: where the kind is a type with no member, its fields stand there
pub record Leafed (s : List ℕ) (t v : ℕ) : Type 0 where
  pub reads : (p : Reader Unit) → sort_of t ≡ is (leaf p) → (q : ℕ) × (p s v ≡ ok tt q)
