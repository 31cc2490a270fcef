-- Sections that are damaged: what stands in them, the number that refuses them, and its place. Nothing here reads.
-- What is damaged is the first thing that is wrong in the order of turns; any bytes may stand behind it.
use Rattle.std.specs.Prelude.{ℕ, ◌+◌, ◌%◌, ◌^◌, ◌<◌, ◌≡◌, List, ◌∷◌, ◌++◌, length}
use Rattle.algebra.specs.Chars.{chars}
use Rattle.algebra.specs.Numbers.{be, Bytes, All}
use Rattle.resource.specs.Grammar.{Block, Allowed, name_bytes, section_bytes}

-- a length of w bytes, that many bytes, and their pad, where k bytes before them count with them:
-- the bytes from the length to the section's end, the number, the place counted from the length
pub data DamagedRun (w k : ℕ) : List ℕ → ℕ → ℕ → Type 0 where
  length_cut : (x : List ℕ) → length x < w → DamagedRun w k x 2 0
  bytes_cut : (n : ℕ) (x : List ℕ) → n < 256 ^ w → length x < n → DamagedRun w k (be w n ++ x) 2 w
  pad_cut : (l : List ℕ) → length l < 256 ^ w → Bytes l → (k + length l) % 2 ≡ 1 → DamagedRun w k (be w (length l) ++ l) 2 (w + length l)
  wrong_pad : (l : List ℕ) (v : ℕ) (x : List ℕ) → length l < 256 ^ w → Bytes l → (k + length l) % 2 ≡ 1 → 0 < v → v < 256 → DamagedRun w k (be w (length l) ++ (l ++ (v ∷ x))) 5 (w + length l)

-- a block: the bytes from its signature to the section's end, the number, the place counted from the block
pub data DamagedBlock : List ℕ → ℕ → ℕ → Type 0 where
  signature_cut : (x : List ℕ) → 0 < length x → length x < 4 → DamagedBlock x 2 0
  wrong_signature : (v : ℕ) (x : List ℕ) → v < 256 ^ 4 → (v ≡ chars "8BIM" → ⊥) → DamagedBlock (be 4 v ++ x) 3 0
  id_cut : (x : List ℕ) → length x < 2 → DamagedBlock (be 4 (chars "8BIM") ++ x) 2 4
  wrong_name : (i : ℕ) (x : List ℕ) (z p : ℕ) → i < 256 ^ 2 → DamagedRun 1 1 x z p → DamagedBlock (be 4 (chars "8BIM") ++ (be 2 i ++ x)) z (6 + p)
  wrong_payload : (i : ℕ) (us x : List ℕ) (z p : ℕ) → i < 256 ^ 2 → length us < 256 → Bytes us → DamagedRun 4 0 x z p → DamagedBlock (be 4 (chars "8BIM") ++ (be 2 i ++ (name_bytes us ++ x))) z (6 + length (name_bytes us) + p)

-- a section: allowed blocks, and then a damaged one
pub data Damaged : List ℕ → ℕ → ℕ → Type 0 where
  wrong_block : (bs : List Block) (x : List ℕ) (z p : ℕ) → All (λ i b. Allowed b) 0 bs → DamagedBlock x z p → Damaged (section_bytes bs ++ x) z (length (section_bytes bs) + p)
