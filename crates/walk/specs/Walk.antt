-- A walk: the items of a file handed out one a call, each from the place that the call before it left.
use Rattle.std.specs.Prelude.{ℕ, zero, suc, ◌+◌, ◌≡◌, List, [], ◌∷◌, Bool, eqb, length}
use Rattle.algebra.specs.Reader.{Res, ok, refuse, Reader, pick}

-- what a call answers: an item, done, or a refusal's number and place
pub data Call (A : Type 0) : Type 0 where
  gives : A → Call A
  over : Call A
  refused : ℕ → ℕ → Call A

-- a call from a place: its answer, and the place that it leaves
abbrev pub Step : Type 0 → Type 0
Step A = ℕ → Call A × ℕ

-- ---- calls in turn

-- the place after i calls
unfoldable pub place_after : {A : Type 0} → Step A → ℕ → ℕ → ℕ
place_after f at zero = at
place_after f at (suc i) = place_after f (f at).1 i

-- the walker after i calls, each of which hands back the one that follows
unfoldable pub after : {W : Type 0} → (W → W) → W → ℕ → W
after follows w zero = w
after follows w (suc i) = after follows (follows w) i

-- what call i answers; the first is call 0
abbrev pub call : {A : Type 0} → Step A → ℕ → ℕ → Call A
call f at i = (f (place_after f at i)).0

-- the items of a list, one a call, and then done
unfoldable pub in_turn : {A : Type 0} → List A → ℕ → Call A
in_turn [] i = over
in_turn (a ∷ more) zero = gives a
in_turn (a ∷ more) (suc i) = in_turn more i

-- from a place a step gives the items of a list, and then says done and stands where it says so again
abbrev pub Walks : {A : Type 0} → Step A → ℕ → List A → Type 0
Walks f at [] = (end : ℕ) × (f at ≡ (over, end)) × (f end ≡ (over, end))
Walks f at (a ∷ more) = (next : ℕ) × (f at ≡ (gives a, next)) × Walks f next more

-- ---- a step by what a reader reads

-- no item stands there, in a file of n bytes: 5 at place 0, and so ever after, since the walk is left past the end
abbrev pub lost : {A : Type 0} → ℕ → Call A × ℕ
lost n = (refused 5 0, n + 1)

-- the item that was read, and the place behind it
abbrev pub answered : {A : Type 0} → ℕ → Res A → Call A × ℕ
answered n (ok a q) = (gives a, q)
answered n (refuse x p r f) = lost n

-- done at the file's end; elsewhere the item that the reader accepts there
unfoldable pub step : {A : Type 0} → Reader A → List ℕ → Step A
step p s at = pick (eqb at (length s)) (over, at) (answered (length s) (p s at))

-- ---- a step that passes over items

abbrev pub sought : {A : Type 0} → (A → Bool) → Call A → ℕ → (ℕ → Call A × ℕ) → Call A × ℕ
sought wanted (gives a) q next = pick (wanted a) (gives a, q) (next q)
sought wanted over q next = (over, q)
sought wanted (refused x p) q next = (refused x p, q)

-- the first item that is wanted, of those that f gives from a place; k are passed over at most
unfoldable pub seek : {A : Type 0} → (A → Bool) → Step A → ℕ → Step A
seek wanted f zero at = f at
seek wanted f (suc k) at = sought wanted (f at).0 (f at).1 (λ q. seek wanted f k q)

-- those of a list that are wanted
unfoldable pub only : {A : Type 0} → (A → Bool) → List A → List A
only wanted [] = []
only wanted (a ∷ more) = pick (wanted a) (a ∷ only wanted more) (only wanted more)
