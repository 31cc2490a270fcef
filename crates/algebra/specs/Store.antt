-- Bytes stored in a lent run.
use Rattle.std.specs.Prelude.{ℕ, ◌+◌, List, length, take, drop, leb}
use Rattle.std.proofs.lemmas.List.Edits.{sets}
use Rattle.algebra.specs.Reader.{pick}

-- the run with l stored from `at`, all else as it was; a run that has no room for all of l is left alone
unfoldable pub stored : List ℕ → ℕ → List ℕ → List ℕ
stored out at l = pick (leb (at + length l) (length out)) (sets out at l) out

-- the k bytes of s from `at`
abbrev pub part : List ℕ → ℕ → ℕ → List ℕ
part s at k = take k (drop at s)
