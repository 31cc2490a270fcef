-- What a refusal is: a number that the format gives, and a place of the file.
use Rattle.std.specs.Prelude.{ℕ, ◌≤◌, ◌≡◌, Bool, true, false, List, [], ◌∷◌, length, eqb}
use Rattle.algebra.specs.Reader.{Res, Reader, ok, refuse, pick, Judged, fine, fault}

abbrev pub one_of : List ℕ → ℕ → Bool
one_of [] x = false
one_of (n ∷ ns) x = pick (eqb x n) true (one_of ns x)

-- x is one of the numbers ns
pub data Of (ns : List ℕ) (x : ℕ) : Type 0 where
  among : one_of ns x ≡ true → Of ns x

-- the refusal table
abbrev pub table : List ℕ
table = 1 ∷ 2 ∷ 3 ∷ 4 ∷ 5 ∷ 6 ∷ 7 ∷ 8 ∷ 9 ∷ 10 ∷ 11 ∷ 12 ∷ 13 ∷ 14 ∷ []

-- an answer about the file s: it ends inside the file, or is refused by one of the numbers ns at a place of the file
pub data Placed {A : Type 0} (ns s : List ℕ) : Res A → Type 0 where
  ends : {a : A} {q : ℕ} → q ≤ length s → Placed ns s (ok a q)
  fails : {x p r f : ℕ} → Of ns x → p ≤ length s → Placed ns s (refuse x p r f)

-- a reader whose answers are so
abbrev pub Places : {A : Type 0} → List ℕ → Reader A → Type 0
Places ns p = (s : List ℕ) (at : ℕ) → at ≤ length s → Placed ns s (p s at)

-- what a field's content is found to be has one of the numbers
abbrev pub Numbered : List ℕ → Judged → Type 0
Numbered ns fine = Unit {0}
Numbered ns (fault x r f) = Of ns x
