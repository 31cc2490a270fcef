-- Big-endian numbers of any width, and bytes that stand at a place of a file.
use Rattle.std.specs.Prelude.{ℕ, zero, suc, ◌+◌, ◌*◌, ◌/◌, ◌%◌, ◌≤◌, ◌<◌, List, [], ◌∷◌, ◌++◌, ◌≡◌, length, get_or}

-- the number that the w bytes from `at` spell, the highest first; bytes past the end count as 0
unfoldable pub num : ℕ → List ℕ → ℕ → ℕ
num zero s at = 0
num (suc w) s at = num w s at * 256 + get_or s (at + w) 0

-- the n numbers of w bytes that stand one after the other from `at`
unfoldable pub nums : ℕ → ℕ → List ℕ → ℕ → List ℕ
nums w zero s at = []
nums w (suc n) s at = num w s at ∷ nums w n s (at + w)

-- the w bytes of a number, the highest first
unfoldable pub be : ℕ → ℕ → List ℕ
be zero v = []
be (suc w) v = be w (v / 256) ++ (v % 256 ∷ [])

-- the bytes of some values, one after the other
unfoldable pub joined : {A : Type 0} → (A → List ℕ) → List A → List ℕ
joined ser [] = []
joined ser (a ∷ more) = ser a ++ joined ser more

-- the n items from item k
unfoldable pub counted : {A : Type 0} → (ℕ → A) → ℕ → ℕ → List A
counted f zero k = []
counted f (suc n) k = f k ∷ counted f n (k + 1)

-- the bytes l stand in s from `at`
unfoldable pub At : List ℕ → ℕ → List ℕ → Type 0
At s at [] = at ≤ length s
At s at (x ∷ l) = (at < length s) × (get_or s at 0 ≡ x) × At s (at + 1) l

-- every number of s is a byte, as in a lent `&[u8]`
abbrev pub Bytes : List ℕ → Type 0
Bytes s = (k : ℕ) → get_or s k 0 < 256

-- each value of a list, numbered from i
abbrev pub All : {A : Type 0} → (ℕ → A → Type 0) → ℕ → List A → Type 0
All Ok i [] = Unit
All Ok i (a ∷ more) = Ok i a × All Ok (i + 1) more

-- each value of a list in the state that those before it left
abbrev pub AllIn : {A S : Type 0} → (S → A → S) → (S → A → Type 0) → S → List A → Type 0
AllIn next Ok d [] = Unit
AllIn next Ok d (a ∷ more) = Ok d a × AllIn next Ok (next d a) more
