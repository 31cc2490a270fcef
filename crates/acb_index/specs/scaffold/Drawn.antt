-- Keys of the shown records in a run, the table that tells their numbers, and the numbers.
use Rattle.std.specs.Prelude.{ℕ, ◌+◌, ◌*◌, ◌/◌, ◌%◌, ◌<◌, ◌≤◌, ◌≡◌, List, length, get_or}
use Rattle.acb_order.specs.Places.{units_at}
use Rattle.acb_order.specs.scaffold.Places.{record_place}

-- the key of record i
abbrev pub key_at : ℕ → List ℕ → ℕ → ℕ → ℕ
key_at n s p i = 256 * record_place n s p i + i % 256

-- of one of the first `count` records
abbrev pub KeyOf : List ℕ → ℕ → ℕ → ℕ → ℕ → Type 0
KeyOf s n p count key = (i : ℕ) × (i < count) × (key ≡ key_at n s p i)

-- the first m of a run are keys of shown records before record i, in their order
pub record Drawing (s : List ℕ) (n p i m : ℕ) (ys : List ℕ) : Type 0 where
  pub keys : (k : ℕ) → k < m → KeyOf s n p i (get_or ys k 0)
  pub shown : (k : ℕ) → k < m → units_at s (get_or ys k 0 / 256) ≡ 0 → ⊥
  pub rising : (j k : ℕ) → j < k → k < m → get_or ys j 0 < get_or ys k 0

-- for each record before record i its 2,048 bytes have one that begins there, and is not before it
abbrev pub Tabled : List ℕ → ℕ → ℕ → ℕ → List ℕ → Type 0
Tabled s n p i table =
    (j : ℕ) → j < i → (k : ℕ) × (j ≤ k) × (k < i) × (get_or table (record_place n s p j / 2048) 0 ≡ k) × (record_place n s p k / 2048 ≡ record_place n s p j / 2048)

-- the first m of zs are the numbers of the records whose keys are those of ys, and the rest is that of ys
pub record Numbered (s : List ℕ) (n p count m : ℕ) (ys zs : List ℕ) : Type 0 where
  pub same_length : length zs ≡ length ys
  pub numbers : (k : ℕ) → k < m → (get_or zs k 0 < count) × (get_or ys k 0 ≡ key_at n s p (get_or zs k 0))
  pub past : (k : ℕ) → m ≤ k → get_or zs k 0 ≡ get_or ys k 0
