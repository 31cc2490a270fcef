-- The fields of a block by their widths, in the order in which they stand. Nothing here reads.
use Rattle.std.specs.Prelude.{ℕ, ◌+◌, ◌%◌, List, [], ◌∷◌, length}
use Rattle.resource.specs.Grammar.{Block}

-- signature, ID; length byte, text, pad; size, data, pad
abbrev pub block_widths : Block → List ℕ
block_widths b = 4 ∷ 2 ∷ 1 ∷ length b.name ∷ (1 + length b.name) % 2 ∷ 4 ∷ length b.payload ∷ length b.payload % 2 ∷ []
