-- Scaffolding: one row by the heads of its file.
use Rattle.std.specs.Prelude.{ℕ, zero, suc, ◌+◌, ◌-◌, Bool, List, [], ◌∷◌}
use Rattle.algebra.specs.Reader.{Res, ok, refuse, pick}
use Rattle.descriptor_heads.specs.Heads.{Head, Opened}
use Rattle.descriptor_heads.specs.Rows.{row_end, heads_of}
use Rattle.descriptor_columns.specs.scaffold.Filling.{Rooted}
use Rattle.descriptor_raw.specs.declared.RawHead.{RawHead}
use Rattle.descriptor_read.specs.declared.Met.{Met}
use Rattle.descriptor_read.specs.scaffold.Values.{Extent', is, refused}

-- a file that is accepted
pub record Accepted (s : List ℕ) : Type 0 where
  pub rows : ℕ
  pub rooted : Rooted s rows

-- a row by its head's numbers, where it ends at `end`
abbrev pub ending : (kind first value end : ℕ) → Extent'
ending kind first value end = is kind value (first + (end - first) - value)

-- the row j of some heads in a file that ends at e
unfoldable pub extent_at : (j : ℕ) → List Head → (e : ℕ) → Extent'
extent_at j [] e = refused 12 0
extent_at zero (h ∷ hs) e = ending h.kind h.first h.value (row_end h.depth hs e)
extent_at (suc j) (h ∷ hs) e = extent_at j hs e

abbrev pub extent_in : ℕ → Res (List Opened) → Extent'
extent_in j (ok os e) = extent_at j (heads_of os) e
extent_in j (refuse x p r f) = refused x p

-- after a head at this depth, which is the one that is asked for or is not
abbrev pub met_by : Met → Bool → ℕ → RawHead → Met
met_by m here depth h = pick here (record { depth = depth; kind = h.kind; value = h.value }) m
