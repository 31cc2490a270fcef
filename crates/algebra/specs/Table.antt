-- Records as rows of one width: what a call answers, a file's records in a lent table, a record by its number, and the records of a run of numbers.
use Rattle.std.specs.Prelude.{ℕ, ◌*◌, ◌/◌, List, ◌++◌, length, get_or, drop, leb, ltb}
use Rattle.algebra.specs.Numbers.{joined, counted}
use Rattle.algebra.specs.Reader.{Res, ok, refuse, pick}
use Rattle.algebra.specs.Store.{part}

-- what a call reports, or a refusal: its number, its place, and the record and field that refusal 7 names (else 0)
pub data Verdict (A : Type 0) : Type 0 where
  accepted : A → Verdict A
  refused : ℕ → ℕ → ℕ → ℕ → Verdict A

-- what is reported of a file that was read
abbrev pub verdict : {A B : Type 0} → (A → B) → Res A → Verdict B
verdict report (ok a q) = accepted (report a)
verdict report (refuse x p r f) = refused x p r f

-- reading into a lent table, w numbers to a record: 11 exactly when the table is shorter than the rows; past them it keeps its contents;
-- a refusal changes nothing
abbrev pub filled : {A B E : Type 0} → ℕ → (E → List ℕ) → (A → List E) → (A → B) → Res A → List ℕ → Verdict B × List ℕ
filled w row records report (refuse x p r f) t = (refused x p r f, t)
filled w row records report (ok a q) t =
    pick (leb (w * length (records a)) (length t))
    (accepted (report a), joined row (records a) ++ drop (w * length (records a)) t)
    (refused 11 0 0 0, t)

-- record i of a file: the file's own refusal first, then 12 where it has no such record
abbrev pub record_at : {A E : Type 0} → (A → List E) → E → ℕ → Res A → Verdict E
record_at records none i (refuse x p r f) = refused x p r f
record_at records none i (ok a q) = pick (ltb i (length (records a))) (accepted (get_or (records a) i none)) (refused 12 0 0 0)

-- what is reported, seen as the caller has it
abbrev pub seen : {A B : Type 0} → (A → B) → Verdict A → Verdict B
seen view (accepted a) = accepted (view a)
seen view (refused x p r f) = refused x p r f

-- the w numbers of row k
abbrev pub row_at : ℕ → List ℕ → ℕ → List ℕ
row_at w run k = part run (w * k) w

-- the n records from record k, each taken from its row
abbrev pub rows : {A : Type 0} → ℕ → (List ℕ → A) → List ℕ → ℕ → ℕ → List A
rows w taken run n k = counted (λ i. taken (row_at w run i)) n k

-- as many records as fit whole in a run
abbrev pub whole : {A : Type 0} → ℕ → (List ℕ → A) → List ℕ → List A
whole w taken run = rows w taken run (length run / w) 0
