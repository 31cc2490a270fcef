-- Scaffolding: a table that is the file's, and keys that were counted.
use Rattle.std.specs.Prelude.{ℕ, ◌+◌, ◌≤◌, ◌≡◌, true, List, [], Result, Ok, Err, map, length}
use Rattle.algebra.specs.Reader.{Res, ok, refuse}
use Rattle.descriptor.specs.Reading.{Row, descriptor}
use Rattle.descriptor_columns.specs.Columns.{columns_of}
use Rattle.descriptor_columns.specs.Filled.{onto}
use Rattle.descriptor_check.specs.Check.{begins}
use Rattle.descriptor_find.specs.Find.{Key, keys_of, row_of, Answered, answering}
use Rattle.fault.specs.Fault.{number_of}
use Rattle.fault.specs.declared.Refusal.{Refusal}

-- the runs of first bytes and of next siblings begin with the columns of the n rows of s
pub record Lent (s first next : List ℕ) (n : ℕ) : Type 0 where
  pub rs : List Row
  pub q : ℕ
  pub reads : descriptor s ≡ ok rs q
  pub count : length rs ≡ n
  pub firsts : begins (columns_of rs).firsts first ≡ true
  pub nexts : begins (columns_of rs).nexts next ≡ true

abbrev pub rows_in : Res (List Row) → List Row
rows_in (ok rs q) = rs
rows_in (refuse x p r f) = []

-- how many keys, with n before them; or a refusal
pub data Counted : Type 0 where
  keys : ℕ → Counted
  refusal : ℕ → ℕ → Counted

abbrev pub counted : ℕ → Res (List Key) → Counted
counted n (ok ks q) = keys (n + length ks)
counted n (refuse x p r f) = refusal x p

abbrev pub told_count : Result ℕ Refusal → Counted
told_count (Ok n) = keys n
told_count (Err e) = refusal (number_of e.0) e.1

-- keys that are whole, for which there is room
pub record Keyed (b : List ℕ) (room : ℕ) : Type 0 where
  pub ks : List Key
  pub q : ℕ
  pub reads : keys_of b ≡ ok ks q
  pub fits : length ks ≤ room

abbrev pub answers_in : List ℕ → List Row → Res (List Key) → List ℕ → List ℕ
answers_in s rs (ok ks q) out = onto (map (row_of s rs) ks) out
answers_in s rs (refuse x p r f) out = out

abbrev pub found_in : List ℕ → List Row → Res (List Key) → List ℕ → Answered × List ℕ
found_in s rs m out = answering s rs m out
