-- Scaffolding: where fields and keys end; cited by private contracts and by proofs.
use Rattle.std.specs.Prelude.{ℕ, ◌+◌, List, [], ◌∷◌}
use Rattle.descriptor_heads.specs.Heads.{Due, items, pairs, forms, columns}
use Rattle.descriptor_entry.specs.declared.Field.{Field}
use Rattle.descriptor_entry.specs.declared.Field.TheVariants as f
use Rattle.descriptor_entries.specs.Taken.{span}

-- where fields end
abbrev pub end_of : (s : List ℕ) (at : ℕ) → List Field → ℕ
end_of s at [] = at
end_of s at (x ∷ xs) = end_of s (at + span s at x) xs

-- the bytes of a key
abbrev pub key_span : (s : List ℕ) (at : ℕ) → Due → ℕ
key_span s at items = 0
key_span s at pairs = span s at (f.Id 1)
key_span s at forms = 0
key_span s at (columns m) = span s at (f.Id 1)
