-- What a pass over an accepted file goes by: that the file is accepted, in private contracts, and the records that it then has.
use Rattle.std.specs.Prelude.{ℕ, ◌≡◌, List, []}
use Rattle.algebra.specs.Reader.{Res, ok, refuse}

-- the file is accepted, and b is reported of it
abbrev pub Accepted : {A B : Type 0} → (A → B) → Res A → B → Type 0
Accepted {A} report m b = (a : A) × (q : ℕ) × (m ≡ ok a q) × (report a ≡ b)

-- its records
abbrev pub records_in : {A E : Type 0} → (A → List E) → Res A → List E
records_in records (ok a q) = records a
records_in records (refuse x p r f) = []
