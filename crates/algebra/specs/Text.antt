-- Names: counted text units with a closing zero.
use Rattle.std.specs.Prelude.{ℕ, ◌+◌, ◌^◌, ◌<◌, List, [], ◌∷◌, ◌++◌, Bool, true, false, not, length, eqb, ltb}
use Rattle.algebra.specs.Numbers.{be, joined, All}
use Rattle.algebra.specs.Reader.{Res, ok, Reader, then, pick, rule, unless, judged, body, map_res}

abbrev pub is_empty : List ℕ → Bool
is_empty [] = true
is_empty (u ∷ us) = false

-- one of the units is zero
unfoldable pub any_zero : List ℕ → Bool
any_zero [] = false
any_zero (u ∷ us) = pick (eqb u 0) true (any_zero us)

-- the last unit is zero, and no other; an empty list is not closed
unfoldable pub closed : List ℕ → Bool
closed [] = false
closed (u ∷ us) = pick (eqb u 0) (is_empty us) (closed us)

-- the units without the last
unfoldable pub front : List ℕ → List ℕ
front [] = []
front (u ∷ []) = []
front (u ∷ v ∷ us) = u ∷ front (v ∷ us)

-- a name that was read: the place of its first unit, and its units without the closing zero
pub record Name : Type 0 where
  pub first : ℕ
  pub units : List ℕ

-- a name's n units, behind a count that stands at `at`: 2 where they pass the end, 8 at the count where they are badly closed
abbrev pub closed_units : ℕ → ℕ → Reader Name
closed_units at n s first =
    then (body 2 n s first) (λ us end.
    rule (unless (closed us) 8) at (ok (record { first = first; units = front us }) end))

-- a name with a count of w bytes: 8 where the count is 0, and then its units
unfoldable pub name : ℕ → Reader Name
name w s at =
    then (judged w (λ n. unless (ltb 0 n) 8) s at) (λ n first.
    closed_units at n s first)

-- n units, none of them zero: 2 where they pass the end, 8 where one is zero, both at the first
unfoldable pub text : ℕ → Reader (List ℕ)
text n s at = then (body 2 n s at) (λ us end. rule (unless (not (any_zero us)) 8) at (ok us end))

-- where a name lies: its first unit's place and its number of units, as the code answers it
abbrev pub place : Res Name → Res (ℕ × ℕ)
place m = map_res (λ nm. (nm.first, length nm.units)) m

-- ---- as it is written

-- the count, the units, the closing zero
unfoldable pub name_bytes : ℕ → List ℕ → List ℕ
name_bytes w us = be w (length us + 1) ++ (joined (be 2) us ++ be 2 0)

-- the same from the count and the bytes of the units
unfoldable pub counted_units : ℕ → ℕ → List ℕ → List ℕ
counted_units w n b = be w n ++ (b ++ be 2 0)

-- the units that a name with a count of w bytes may have
pub record Named (w : ℕ) (us : List ℕ) : Type 0 where
  pub counted : length us + 1 < 256 ^ w
  pub units : All (λ k u. (0 < u) × (u < 256 ^ 2)) 0 us
