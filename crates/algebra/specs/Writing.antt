-- What writing answers, and what it does with the lent bytes.
use Rattle.std.specs.Prelude.{ℕ, List, ◌++◌, length, drop, leb, eqb}
use Rattle.algebra.specs.Reader.{pick}

-- how many bytes were written, or the refusal's number and place
pub data Outcome : Type 0 where
  bytes : ℕ → Outcome
  refused : ℕ → ℕ → Outcome

-- where the fault is x, 0 for none: the exact length n that writing needs, or the refusal, always at place 0
abbrev pub needs : ℕ → ℕ → Outcome
needs x n = pick (eqb x 0) (bytes n) (refused x 0)

-- the same with the lent bytes, in which a file of n bytes is written: 11 comes last; past what it needs they keep their contents, and a refusal changes nothing
abbrev pub writes : ℕ → ℕ → List ℕ → List ℕ → Outcome × List ℕ
writes x n file out = pick (eqb x 0) (pick (leb n (length out)) (bytes n, file ++ drop n out) (refused 11 0, out)) (refused x 0, out)
