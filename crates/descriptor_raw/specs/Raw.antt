-- Scaffolding: fields and heads of a file that is accepted, found without judging: where the reading accepts, its end is the answer.
use Rattle.std.specs.Prelude.{ℕ, zero, suc, ◌≡◌}
use Rattle.algebra.specs.Reader.{Res, ok}
use Rattle.descriptor_heads.specs.Heads.{Due, items, pairs, forms, columns, Opened}
use Rattle.descriptor_raw.specs.declared.RawHead.{RawHead}

-- what is due, by a number: items, pairs, reference items, the pairs of an object array of m objects
abbrev pub due_of : (what m : ℕ) → Due
due_of zero m = items
due_of (suc zero) m = pairs
due_of (suc (suc zero)) m = forms
due_of (suc (suc (suc n))) m = columns m

-- where m accepts, at some depth, r is what it saw
pub record Sees (m : ℕ → Res Opened) (r : RawHead) : Type 0 where
  pub sees : (d : ℕ) (o : Opened) (q : ℕ) → m d ≡ ok o q → (r.kind ≡ o.head.kind) × (due_of r.what r.objects ≡ o.below) × (r.count ≡ o.count) × (r.end ≡ q) × (r.value ≡ o.head.value)
