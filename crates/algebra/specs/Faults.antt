-- The first fault of a value that is written, by its number of the refusal table; 0 is none.
use Rattle.std.specs.Prelude.{ℕ, ◌+◌, List, [], ◌∷◌, eqb}
use Rattle.algebra.specs.Reader.{pick, Judged, fine, fault}

-- the first of two
abbrev pub first_of : ℕ → ℕ → ℕ
first_of a b = pick (eqb a 0) b a

-- the first of a list's values
unfoldable pub faults : {A : Type 0} → (A → ℕ) → List A → ℕ
faults f [] = 0
faults f (a ∷ more) = first_of (f a) (faults f more)

-- the same, where a value's fault depends on its number, from i
unfoldable pub faults_from : {A : Type 0} → (ℕ → A → ℕ) → ℕ → List A → ℕ
faults_from f i [] = 0
faults_from f i (a ∷ more) = first_of (f i a) (faults_from f (i + 1) more)

-- the same, where it depends on the state that those before it left
unfoldable pub faults_in : {A S : Type 0} → (S → A → S) → (S → A → ℕ) → S → List A → ℕ
faults_in next f d [] = 0
faults_in next f d (a ∷ more) = first_of (f d a) (faults_in next f (next d a) more)

-- a judgement's number
abbrev pub found : Judged → ℕ
found fine = 0
found (fault n r f) = n
