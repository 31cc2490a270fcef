-- What the calls answer, and what lent runs then hold.
use Rattle.std.specs.Prelude.{ℕ, ◌≡◌, Bool, true, false, List, [], ◌∷◌, ◌++◌, leb, length, drop}
use Rattle.algebra.specs.Reader.{Res, ok, refuse, pick}
use Rattle.descriptor.specs.Reading.{Row, descriptor}
use Rattle.descriptor_judge.specs.Answer.{Verdict, accepted, refused}
use Rattle.descriptor_columns.specs.Columns.{columns_of, values_of, parents_of}

-- there is room for n rows in each of some runs, and so in the shortest
abbrev pub fits : ℕ → List (List ℕ) → Bool
fits n [] = true
fits n (c ∷ cs) = pick (leb n (length c)) (fits n cs) false

-- what is answered for a file and lent runs: 11 where one of them has room for fewer rows than there are
abbrev pub answered : Res (List Row) → (runs : List (List ℕ)) → Verdict
answered (ok rs q) runs = pick (fits (length rs) runs) (accepted (length rs)) (refused 11 0)
answered (refuse x p r f) runs = refused x p

-- a run with a column at its beginning; past it the run is as it was
abbrev pub onto : (column run : List ℕ) → List ℕ
onto column run = column ++ drop (length column) run

-- what a run, one of them, then holds; a refusal changes nothing
abbrev pub filled : (column : List Row → List ℕ) → Res (List Row) → (runs : List (List ℕ)) (run : List ℕ) → List ℕ
filled column (ok rs q) runs run = pick (fits (length rs) runs) (onto (column rs) run) run
filled column (refuse x p r f) runs run = run

-- of a file s, and five lent runs before and after
pub record Read (s : List ℕ) (a b c d e a' b' c' d' e' : List ℕ) : Type 0 where
  pub firsts : a' ≡ filled (λ rs. (columns_of rs).firsts) (descriptor s) (a ∷ b ∷ c ∷ d ∷ e ∷ []) a
  pub lengths : b' ≡ filled (λ rs. (columns_of rs).lengths) (descriptor s) (a ∷ b ∷ c ∷ d ∷ e ∷ []) b
  pub nexts : c' ≡ filled (λ rs. (columns_of rs).nexts) (descriptor s) (a ∷ b ∷ c ∷ d ∷ e ∷ []) c
  pub depths : d' ≡ filled (λ rs. (columns_of rs).depths) (descriptor s) (a ∷ b ∷ c ∷ d ∷ e ∷ []) d
  pub kinds : e' ≡ filled (λ rs. (columns_of rs).kinds) (descriptor s) (a ∷ b ∷ c ∷ d ∷ e ∷ []) e

-- of the values in one lent run
abbrev pub valued : (s run : List ℕ) → Verdict × List ℕ
valued s run = (answered (descriptor s) (run ∷ []), filled values_of (descriptor s) (run ∷ []) run)

-- of the parents of rows of any depths: 1 where there are more than 32 bits count, 11 where the run is shorter than the depths
abbrev pub parented : (depths run : List ℕ) → Verdict × List ℕ
parented ds run =
    pick (leb (length ds) 4294967295)
    (pick (fits (length ds) (run ∷ [])) (accepted (length ds), onto (parents_of ds) run) (refused 11 0, run))
    (refused 1 0, run)
