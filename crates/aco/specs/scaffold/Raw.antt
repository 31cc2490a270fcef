-- Scaffolding: the form in which the code goes; cited by private contracts and by proofs.
-- Parts of the reading that the code goes by: the colours of list 1 by their places, and what stands after a heading.
use Rattle.std.specs.Prelude.{ℕ, zero, suc, ◌+◌, ◌*◌, ◌≤◌, ◌<◌, ◌≡◌, List, [], ◌∷◌, length}
use Rattle.algebra.specs.Numbers.{num, nums}
use Rattle.algebra.specs.Reader.{Reader, ok, then, done, judged, field, each}
use Rattle.colour.specs.declared.space.Colour.{Colour}
use Rattle.aco.specs.Reading.{Contents, colour, after, version}

-- the ten bytes from `at`
abbrev pub raw_colour : List ℕ → ℕ → Colour
raw_colour s at = record { space = num 2 s at; samples = nums 2 4 s (at + 2) }

-- n colours from `at`
unfoldable pub raw_colours : ℕ → List ℕ → ℕ → List Colour
raw_colours zero s at = []
raw_colours (suc n) s at = raw_colour s at ∷ raw_colours n s (at + 10)

-- a list's version, and its count before it is judged
unfoldable pub headed : ℕ → Reader ℕ
headed v s at = then (judged 2 (version v) s at) (λ x a. field 2 s a)

-- what stands after the first heading
unfoldable pub after_heading : ℕ → Reader Contents
after_heading n s at = then (each n 0 (λ i. colour) s at) (λ cs q. after cs s q)

-- a whole colour without a fault stands at `at`
abbrev pub SoundAt : List ℕ → ℕ → Type 0
SoundAt s at = (at + 10 ≤ length s) × (done (colour s at) ≡ ok tt (at + 10))

-- a whole colour stands at `at`, its five fields the same as those at `first`
abbrev pub SameAt : List ℕ → ℕ → ℕ → Type 0
SameAt s at first = (at + 10 ≤ length s) × ((f : ℕ) → f < 5 → num 2 s (at + 2 * f) ≡ num 2 s (first + 2 * f))
