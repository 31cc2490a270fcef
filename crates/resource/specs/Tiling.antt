-- How the blocks of a section lie: one after the other, with nothing between them. Nothing here reads.
use Rattle.std.specs.Prelude.{ℕ, ◌+◌, ◌%◌, ◌≡◌, List, [], ◌∷◌, length}
use Rattle.resource.specs.Reading.{Entry}

-- n made even
abbrev pub even : ℕ → ℕ
even n = n + n % 2

-- how many bytes a block takes: signature and ID, the length byte and the name, the size and the data
abbrev pub size_of : Entry → ℕ
size_of e = 6 + even (1 + length e.name.bytes) + 4 + even (length e.payload.bytes)

-- how many bytes some blocks take
unfoldable pub sizes : List Entry → ℕ
sizes [] = 0
sizes (e ∷ es) = size_of e + sizes es

-- a block that begins at `at` has its name and its data where its fields put them
pub record Lies (at : ℕ) (e : Entry) : Type 0 where
  pub name : e.name.first ≡ at + 7
  pub payload : e.payload.first ≡ at + 6 + even (1 + length e.name.bytes) + 4

-- from `at` on, each block begins where the one before it ends, and the last ends at `end`
abbrev pub Tiled : ℕ → List Entry → ℕ → Type 0
Tiled at [] end = at ≡ end
Tiled at (e ∷ es) end = Lies at e × Tiled (at + size_of e) es end
