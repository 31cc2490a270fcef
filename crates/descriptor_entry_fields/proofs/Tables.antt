-- An entry's numbers, and the fields of a kind by the number of what is due. Assumes nothing.
use Prim.Native.Nat.{ℕ, zero, suc, ◌≤◌, ◌<◌}
use mathlib.Core.Path.{◌≡◌, refl, ap}
use mathlib.Core.List.{List, [], ◌∷◌}
use mathlib.Core.Bool.{Bool, true, false}
use lib.ListN.{length, get_or}
use borrow.Author.Tests.{eq-eqb, ne_eqb}
use native.Mathlib.Omega.{arith}
use Rattle.descriptor_raw.specs.Raw.{due_of}
use Rattle.descriptor_entry.specs.Shapes.{Entry, id_length, pieces_of, item_shape, form_shape, column_shape, shape_of}
use Rattle.descriptor_entry.specs.Entries.{keyed, key_pieces}
use Rattle.descriptor_entry.specs.declared.Field.TheVariants as f

-- past its end a list has 0
pub none-there : (l : List ℕ) (i : ℕ) → length l ≤ i → get_or l i 0 ≡ 0
none-there [] i h = refl
none-there (x ∷ l) zero h = absurd (omega arith)
none-there (x ∷ l) (suc i) h = none-there l i (omega arith)

pub id-none : (n : ℕ) → n ≡ 0 → id_length n ≡ 4
id-none n e = rw (eq-eqb n 0 e)

pub id-some : (n : ℕ) → (n ≡ 0 → ⊥) → id_length n ≡ n
id-some n z = rw (ne_eqb n 0 z)

pub small-shape : (what kind : ℕ) → what < 2 → shape_of (due_of what 0) kind ≡ item_shape kind
small-shape zero kind h = refl
small-shape (suc zero) kind h = refl
small-shape (suc (suc n)) kind h = absurd (omega arith)

pub second-shape : (what kind : ℕ) → what ≡ 2 → shape_of (due_of what 0) kind ≡ form_shape kind
second-shape what kind e = ap (λ (w : ℕ). shape_of (due_of w 0) kind) e

pub large-shape : (what kind : ℕ) → 2 ≤ what → (what ≡ 2 → ⊥) → shape_of (due_of what 0) kind ≡ column_shape kind
large-shape zero kind h z = absurd (omega arith)
large-shape (suc zero) kind h z = absurd (omega arith)
large-shape (suc (suc zero)) kind h z = absurd (z refl)
large-shape (suc (suc (suc n))) kind h z = refl

-- the number of objects does not matter
pub any-shape : (what m kind : ℕ) → shape_of (due_of what m) kind ≡ shape_of (due_of what 0) kind
any-shape zero m kind = refl
any-shape (suc zero) m kind = refl
any-shape (suc (suc zero)) m kind = refl
any-shape (suc (suc (suc n))) m kind = refl

-- ---- keys

pub keyed-by : (what : ℕ) → (what ≡ 1 → ⊥) → (b : Bool) → (2 < what → b ≡ true) → (what ≤ 2 → b ≡ false) → b ≡ keyed (due_of what 0)
keyed-by zero z b over under = under (omega arith)
keyed-by (suc zero) z b over under = absurd (z refl)
keyed-by (suc (suc zero)) z b over under = under (omega arith)
keyed-by (suc (suc (suc n))) z b over under = over (omega arith)

pub key-pieces : (what : ℕ) (e : Entry) → keyed (due_of what 0) ≡ true → key_pieces (due_of what 0) e ≡ pieces_of 0 e (f.Id 1)
key-pieces zero e h = let z : ◌≡◌ {A = ℕ} 0 1 = cc in absurd (omega arith)
key-pieces (suc zero) e h = refl
key-pieces (suc (suc zero)) e h = let z : ◌≡◌ {A = ℕ} 0 1 = cc in absurd (omega arith)
key-pieces (suc (suc (suc n))) e h = refl

pub no_key : (what : ℕ) (e : Entry) → keyed (due_of what 0) ≡ false → key_pieces (due_of what 0) e ≡ []
no_key zero e h = refl
no_key (suc zero) e h = let z : ◌≡◌ {A = ℕ} 0 1 = cc in absurd (omega arith)
no_key (suc (suc zero)) e h = refl
no_key (suc (suc (suc n))) e h = let z : ◌≡◌ {A = ℕ} 0 1 = cc in absurd (omega arith)
