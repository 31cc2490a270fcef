-- Scaffolding: the form in which the code goes; cited by private contracts and by proofs.
-- What the readers of members answer: how many rows there are. Rows are counted and not numbered: any parent and row number in the reading give the same count.
use Rattle.std.specs.Prelude.{ℕ, ◌+◌, ◌≤◌, ◌<◌, List, Result, length}
use Rattle.algebra.specs.Reader.{Res, ok, refuse}
use Rattle.fault.specs.Answer.{told, told_at}
use Rattle.fault.specs.declared.Refusal.{Refusal}
use Rattle.descriptor.specs.Reading.{Row}

-- the number of rows and the next place
abbrev pub told_rows : Result (ℕ × ℕ) Refusal → Res ℕ
told_rows r = told_at (λ (n : ℕ). n) r

-- one row, and the next place
abbrev pub told_row : Result ℕ Refusal → Res ℕ
told_row r = told (λ n. ok 1 n) r

abbrev pub walked : Res (List Row) → Res ℕ
walked (ok rs q) = ok (length rs) q
walked (refuse x p r f) = refuse x p 0 0

-- the next place behind a member that is one row
abbrev pub single : Res Unit → Res ℕ
single (ok u q) = ok 1 q
single (refuse x p r f) = refuse x p 0 0

-- the rows below a row, and that row
abbrev pub own_too : Res ℕ → Res ℕ
own_too (ok k q) = ok (k + 1) q
own_too (refuse x p r f) = refuse x p r f

-- rows that can be counted with one more
abbrev pub Small : Res ℕ → Type 0
Small (ok k q) = k < 0x8000_0000
Small (refuse x p r f) = Unit {0}

-- ---- where an item may be looked for: in a file within the limit; `first` is the row's first byte, its key's where it has one, and `at` where the item begins
pub record Within (s : List ℕ) (left first at : ℕ) : Type 0 where
  pub size : length s ≤ 16777216
  pub levels : left ≤ 32
  pub order : first ≤ at
  pub inside : at ≤ length s
