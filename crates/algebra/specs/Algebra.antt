-- What is promised of a reader, and what ties it to the bytes that are written. Each is shown once for each combinator.
use Rattle.std.specs.Prelude.{ℕ, ◌+◌, ◌≤◌, ◌<◌, ◌≡◌, List, length, get_or}
use Rattle.algebra.specs.Numbers.{At}
use Rattle.algebra.specs.Reader.{ok, Reader, number_of}

-- t has what s has from `at` to q
pub record Same (s t : List ℕ) (at q : ℕ) : Type 0 where
  pub inside : q ≤ length t
  pub bytes : (k : ℕ) → at ≤ k → k < q → get_or t k 0 ≡ get_or s k 0

-- a reader that accepts does not move back or past the end, and depends only on the bytes that it passed
pub record Lawful {A : Type 0} (p : Reader A) : Type 0 where
  pub moves : (s : List ℕ) (at : ℕ) → at ≤ length s → (a : A) (q : ℕ) → p s at ≡ ok a q → (at ≤ q) × (q ≤ length s)
  pub local : (s : List ℕ) (at : ℕ) → at ≤ length s → (a : A) (q : ℕ) → p s at ≡ ok a q → (t : List ℕ) → Same s t at q → p t at ≡ ok a q

-- in the file s, the reader p accepts exactly the bytes that `ser` writes for the values that are allowed;
-- `view` leaves out of what was read the places, which no value has
pub record Exact {A B : Type 0} (s : List ℕ) (p : Reader A) (view : A → B) (Ok : B → Type 0) (ser : B → List ℕ) : Type 0 where
  -- it gives back what was written
  pub reads : (at : ℕ) (b : B) → Ok b → At s at (ser b) → (a : A) × (p s at ≡ ok a (at + length (ser b))) × (view a ≡ b)
  -- what it read, written, is the bytes that it read
  pub writes : (at : ℕ) → at ≤ length s → (a : A) (q : ℕ) → p s at ≡ ok a q → Ok (view a) × At s at (ser (view a)) × (at + length (ser (view a)) ≡ q)

-- in the file s, where the bytes of a value that fits its fields stand, the reader's number is the value's own fault, and without one it ends behind them
pub record Tells {A B : Type 0} (s : List ℕ) (p : Reader A) (Fits : B → Type 0) (ser : B → List ℕ) (fault : B → ℕ) : Type 0 where
  pub number : (at : ℕ) (b : B) → Fits b → At s at (ser b) → number_of (p s at) ≡ fault b
  pub ends : (at : ℕ) (b : B) → Fits b → At s at (ser b) → fault b ≡ 0 → (a : A) × (p s at ≡ ok a (at + length (ser b)))
