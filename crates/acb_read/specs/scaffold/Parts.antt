-- Scaffolding: the form in which the code goes; cited by private contracts and by proofs.
-- A whole record as it is loaded, for private contracts.
use Rattle.std.specs.Prelude.{ℕ, ◌+◌, ◌*◌, ◌≤◌, ◌≡◌, List, [], ◌∷◌, Option, Some, None, eqb, get_or, length}
use Rattle.algebra.specs.Reader.{pick}
use Rattle.algebra.specs.Table.{accepted, refused}
use Rattle.names.specs.declared.Name.{Name}
use Rattle.acb.specs.Reading.{components_of}
use Rattle.acb.specs.Row.{six}
use Rattle.acb_read.specs.Answer.{RecordPlaces, record_places}
use Rattle.acb_read.specs.Walked.{step}

-- the fourth component of the record whose code stands at c, where it has n
abbrev pub fourth_at : ℕ → List ℕ → ℕ → ℕ
fourth_at n s c = pick (eqb n 4) (get_or s (c + 9) 0) 0

-- the record whose name has u units from p on and whose code stands at c, and the place behind it
abbrev pub coded_at : ℕ → List ℕ → ℕ → ℕ → ℕ → RecordPlaces × ℕ
coded_at n s p u c = (record { name = accepted (p, u); code = six s c; components = get_or s (c + 6) 0 ∷ get_or s (c + 7) 0 ∷ get_or s (c + 8) 0 ∷ fourth_at n s c ∷ []; ink = 4 }, c + 6 + n)

abbrev pub whole_at : ℕ → List ℕ → ℕ → ℕ → RecordPlaces × ℕ
whole_at n s p u = coded_at n s p u (p + 2 * u)

-- where the name of a whole record lies; none where no whole record stands
abbrev pub Named : ℕ → List ℕ → ℕ → Option Name → Type 0
Named x s at (Some m) = (step x s at ≡ whole_at (components_of x) s m.first m.units) × (m.first + 2 * m.units + 6 + components_of x ≤ length s)
Named x s at None = step x s at ≡ (record_places (refused 5 0 0 0), at)
