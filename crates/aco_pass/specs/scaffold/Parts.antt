-- Scaffolding: what passing promises of the bytes that are passed; no rule of the format.
use Rattle.std.specs.Prelude.{ℕ, zero, suc, ◌+◌, ◌*◌, ◌-◌, ◌≤◌, ◌<◌, ◌≡◌, List, [], Bool, true, false, length, drop}
use Rattle.algebra.specs.Reader.{Res, ok, refuse}
use Rattle.algebra.specs.Store.{part}
use Rattle.algebra.specs.Numbers.{num, nums}
use Rattle.algebra.specs.Text.{any_zero}
use Rattle.aco_chunks.specs.declared.Stage.{Stage}
use Rattle.aco_chunks.specs.Chunks.{Progress, is_fault, colour_item, entry_head, loaded, chunk}

-- what is left of the bytes from `at`, taken
abbrev pub Rest : Stage → ℕ → List ℕ → List ℕ → ℕ → List ℕ → Progress
Rest g total carry store at bytes = chunk (record { stage = g; total = total; carry = carry; store = store }) (drop at bytes)

-- with nothing carried, the bytes from `at` to e bring the stage g to h, and the store to `after`
pub record Passes (start : ℕ) (bytes : List ℕ) (g : Stage) (at : ℕ) (store : List ℕ) (h : Stage) (e : ℕ) (after : List ℕ) : Type 0 where
  pub behind : at ≤ e
  pub inside : e ≤ length bytes
  pub keeps : length after ≡ length store
  pub sound : e ≤ at → is_fault h ≡ false
  pub comes : Rest g (start + at) [] store at bytes ≡ Rest h (start + e) [] after e bytes

-- the same where `got` bytes are carried: of an item that has begun nothing is passed
pub record PassesWith (got start : ℕ) (bytes : List ℕ) (g : Stage) (at : ℕ) (store : List ℕ) (h : Stage) (e : ℕ) (after : List ℕ) : Type 0 where
  pub behind : at ≤ e
  pub inside : e ≤ length bytes
  pub keeps : length after ≡ length store
  pub sound : e ≤ at → is_fault h ≡ false
  pub stays : 0 < got → h ≡ g
  pub comes : (carry : List ℕ) → length carry ≡ got → Rest g (start + at) carry store at bytes ≡ Rest h (start + e) carry after e bytes

abbrev pub is_accepted : Res ℕ → Bool
is_accepted (ok u q) = true
is_accepted (refuse x p r f) = false

-- each of k colours from `at` is without a fault
abbrev pub Sounds : ℕ → List ℕ → ℕ → Type 0
Sounds zero bytes at = Unit {0}
Sounds (suc k) bytes at = (is_accepted (colour_item (part bytes at 10) 0) ≡ true) × Sounds k bytes (at + 10)

-- m units from `at` end at q, the last is zero and no other
pub record Closed (m : ℕ) (bytes : List ℕ) (at q : ℕ) : Type 0 where
  pub some : 0 < m
  pub ends : q ≡ at + m * 2
  pub inside : q ≤ length bytes
  pub none : any_zero (nums 2 (m - 1) bytes at) ≡ false
  pub last : num 2 bytes (at + (m - 1) * 2) ≡ 0

-- five fields from the first are those that stand in a store from `first`
abbrev pub SameAs : List ℕ → List ℕ → ℕ → Type 0
SameAs head store first = (first + 10 ≤ length store) × ((f : ℕ) → f < 5 → num 2 head (2 * f) ≡ num 2 store (first + 2 * f))

-- the head of record i stands whole from `at`, without a fault, and its name has m units
abbrev pub Headed : ℕ → List ℕ → List ℕ → ℕ → ℕ → Type 0
Headed i store bytes at m = (at + 14 ≤ length bytes) × (entry_head i (loaded store (10 * i)) (part bytes at 14) 0 ≡ ok m 14)
