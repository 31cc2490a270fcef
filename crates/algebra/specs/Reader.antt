-- Readers: what stands at a place of a file, with the next place, or a refusal.
-- In all definitions: a difference stops at 0, so that `length s - at` is what remains, also past the end; `leb`, `ltb` and `eqb` are the tests of at
-- most, less and equal; `get_or s k 0` is number k of a list, counted from 0, and 0 past its end; `pick` is the first where the test holds, else the second.
use Rattle.std.specs.Prelude.{ℕ, zero, suc, ◌+◌, ◌-◌, ◌*◌, List, [], ◌∷◌, Bool, true, false, length, leb, eqb}
use Rattle.algebra.specs.Numbers.{num, nums}

-- a value and the next place, or a refusal: its number, its place, and the record and field that refusal 7 names (else 0)
pub data Res (A : Type 0) : Type 0 where
  ok : A → ℕ → Res A
  refuse : ℕ → ℕ → ℕ → ℕ → Res A

-- a reader looks at a whole file from a place
abbrev pub Reader : Type 0 → Type 0
Reader A = List ℕ → ℕ → Res A

abbrev pub pick : {A : Type 0} → Bool → A → A → A
pick true a b = a
pick false a b = b

-- what was read goes on into k, with the next place; a refusal stays
abbrev pub then : {A B : Type 0} → Res A → (A → ℕ → Res B) → Res B
then (ok a n) k = k a n
then (refuse x p r f) k = refuse x p r f

-- ---- sequence

-- one reader, and behind it the one that it leads to: `do` writes it line by line
infixl 10 ◌>>=◌
abbrev pub ◌>>=◌ : {A B : Type 0} → Reader A → (A → Reader B) → Reader B
◌>>=◌ m k s at = then (m s at) (λ a n. k a s n)

-- a value, with nothing read
abbrev pub give : {A : Type 0} → A → Reader A
give a s at = ok a at

-- ---- one field

-- a number of w bytes, or 2 where it needs more bytes than remain
unfoldable pub field : ℕ → Reader ℕ
field w s at = pick (leb w (length s - at)) (ok (num w s at) (at + w)) (refuse 2 at 0 0)

-- n numbers of w bytes that are one field, as the body of a counted text; a body of no bytes is never 2
unfoldable pub body : ℕ → ℕ → Reader (List ℕ)
body w n s at = pick (leb (n * w) (length s - at)) (ok (nums w n s at) (at + n * w)) (refuse 2 at 0 0)

-- what a field's content is found to be: fine, or a refusal's number with the record and field of refusal 7
pub data Judged : Type 0 where
  fine : Judged
  fault : ℕ → ℕ → ℕ → Judged

-- refusal n where the test fails
abbrev pub unless : Bool → ℕ → Judged
unless true n = fine
unless false n = fault n 0 0

-- what was read, where the judgement is fine; else its refusal at the place p
abbrev pub rule : {A : Type 0} → Judged → ℕ → Res A → Res A
rule fine p m = m
rule (fault n r f) p m = refuse n p r f

-- a field of w bytes whose content is judged: 2 first, then what is found, both at the field's first byte
abbrev pub judged : ℕ → (ℕ → Judged) → Reader ℕ
judged w j s at = then (field w s at) (λ v n. rule (j v) at (ok v n))

-- ---- counted repetition

-- n items in a row, numbered from i
unfoldable pub each : {A : Type 0} → ℕ → ℕ → (ℕ → Reader A) → Reader (List A)
each zero i p s at = ok [] at
each (suc n) i p s at = then (p i s at) (λ a next. then (each n (i + 1) p s next) (λ more end. ok (a ∷ more) end))

-- the state after some items, where `next` is the state after one
unfoldable pub state_after : {A S : Type 0} → (S → A → S) → S → List A → S
state_after next d [] = d
state_after next d (a ∷ more) = state_after next (next d a) more

-- n items in a row, each read in the state that those before it left
unfoldable pub chain : {A S : Type 0} → (S → A → S) → (S → Reader A) → ℕ → S → Reader (List A)
chain next p zero d s at = ok [] at
chain next p (suc n) d s at = then (p d s at) (λ a q. then (chain next p n (next d a) s q) (λ more end. ok (a ∷ more) end))

-- ---- repetition until a test stops

-- whether items stop: by the state that those before left, the file and the place
abbrev pub Test : Type 0 → Type 0
Test S = S → List ℕ → ℕ → Bool

-- at the file's end
abbrev pub at_end : {S : Type 0} → Test S
at_end d s at = eqb at (length s)

-- items in a row until the test stops, each read in the state that those before it left; n at most
unfoldable pub until : {A S : Type 0} → Test S → (S → A → S) → (S → Reader A) → ℕ → S → Reader (List A)
until stop next p zero d s at = ok [] at
until stop next p (suc n) d s at = pick (stop d s at) (ok [] at) (then (p d s at) (λ a q. then (until stop next p n (next d a) s q) (λ more end. ok (a ∷ more) end)))

-- the same of items of a byte at least: no file has more of them than bytes
abbrev pub many : {A S : Type 0} → Test S → (S → A → S) → (S → Reader A) → S → Reader (List A)
many stop next p d s at = until stop next p (suc (length s)) d s at

-- ---- the file's end

-- 6 where bytes are left
unfoldable pub ended : {A : Type 0} → A → Reader A
ended a s at = pick (eqb at (length s)) (ok a at) (refuse 6 at 0 0)

-- ---- what is left of an answer

-- with its value changed
abbrev pub map_res : {A B : Type 0} → (A → B) → Res A → Res B
map_res f (ok a n) = ok (f a) n
map_res f (refuse x p r g) = refuse x p r g

-- only whether it is refused, and the next place
abbrev pub done : {A : Type 0} → Res A → Res Unit
done (ok a n) = ok tt n
done (refuse x p r f) = refuse x p r f

-- with its places counted from another
abbrev pub shift : {A : Type 0} → ℕ → Res A → Res A
shift from (ok a q) = ok a (from + q)
shift from (refuse x p r f) = refuse x (from + p) r f

-- its number, or 0 where it is refused
abbrev pub or_zero : Res ℕ → ℕ
or_zero (ok v n) = v
or_zero (refuse x p r f) = 0

-- its number of the refusal table
abbrev pub number_of : {A : Type 0} → Res A → ℕ
number_of (ok a n) = 0
number_of (refuse x p r f) = x

-- ---- limits

-- the longest file that is read, and the longest output that is written
abbrev pub limit : ℕ
limit = 16777216
