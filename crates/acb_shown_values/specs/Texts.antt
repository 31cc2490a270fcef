-- The shown text of a header string, over the bytes of its units.
use Rattle.std.specs.Prelude.{ℕ, zero, suc, ◌+◌, ◌/◌, List, Bool, false, leb, eqb, length, drop}
use Rattle.algebra.specs.Chars.{wide_chars}
use Rattle.algebra.specs.Reader.{pick}
use Rattle.algebra.specs.Numbers.{num}

-- a string begins with the four units of `$$$/`
abbrev pub has_key : List ℕ → Bool
has_key s = pick (leb 8 (length s)) (eqb (num 8 s 0) (wide_chars "$$$/")) false

-- the place behind the first of n units from `at` that is `=`; 0 where none is
unfoldable pub behind_equals : ℕ → List ℕ → ℕ → ℕ
behind_equals zero s at = 0
behind_equals (suc n) s at = pick (eqb (num 2 s at) (wide_chars "=")) (at + 2) (behind_equals n s (at + 2))

-- where the shown text begins: behind the first `=` of a string that begins with `$$$/` and holds one, else at its start
unfoldable pub shown_start : List ℕ → ℕ
shown_start s = pick (has_key s) (behind_equals (length s / 2) s 0) 0

abbrev pub shown_text : List ℕ → List ℕ
shown_text s = drop (shown_start s) s
