-- Scaffolding: the form in which the code goes; cited by private contracts and by proofs.
use Rattle.std.specs.Prelude.{ℕ, zero, suc, ◌+◌, ◌-◌, ◌*◌, List, [], ◌∷◌, eqb, length, take}
use Rattle.algebra.specs.Numbers.{num}
use Rattle.algebra.specs.Reader.{Res, pick, field, or_zero}
use Rattle.algebra.specs.Filling as filling
use Rattle.ase.specs.Reading.{Entry}
use Rattle.ase.specs.Row.{RecordRow, numbers}

-- behind the block at p: two bytes of type, four of length, and the payload
abbrev pub next_block : List ℕ → ℕ → ℕ
next_block s p = p + 6 + num 4 s (p + 2)

-- block i; the heading is 12 bytes
unfoldable pub block_place : List ℕ → ℕ → ℕ
block_place s zero = 12
block_place s (suc i) = next_block s (block_place s i)

-- a number of w bytes, or 0 where fewer remain
abbrev pub load : ℕ → List ℕ → ℕ → ℕ
load w u at = or_zero (field w u at)

-- the count of a name, with the closing zero; a group end has no payload, and so none
abbrev pub count_at : List ℕ → ℕ → ℕ
count_at u p = load 2 u (p + 6)

-- the name's first unit, where there is a name
abbrev pub first_at : List ℕ → ℕ → ℕ
first_at u p = pick (eqb (count_at u p) 0) 0 (p + 8)

-- behind the name
abbrev pub model_at : List ℕ → ℕ → ℕ
model_at u p = p + 8 + 2 * count_at u p

-- the record of the block at p, in the file u that ends with it, each number 0 where the file ends before it. A colour's ink is its type, the last number of all;
-- of a group it is 0, since the last two bytes are then the closing zero of its name or its length
abbrev pub loaded : List ℕ → ℕ → RecordRow
loaded u p = record {
  block = load 2 u p;
  first = first_at u p;
  units = count_at u p - 1;
  model = load 4 u (model_at u p);
  channels = load 4 u (model_at u p + 4) ∷ load 4 u (model_at u p + 8) ∷ load 4 u (model_at u p + 12) ∷ load 4 u (model_at u p + 16) ∷ [];
  ink = load 2 u (length u - 2);
}

-- the row of the block from p to `end`
abbrev pub raw_row : List ℕ → ℕ → ℕ → List ℕ
raw_row s p end = numbers (loaded (take end s) p)

-- it has this number of blocks
abbrev pub Accepted : Res (List Entry) → ℕ → Type 0
Accepted m n = filling.Accepted length m n
