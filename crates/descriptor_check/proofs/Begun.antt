-- Runs that begin with a column: those that storing it would leave as they are. Assumes nothing.
use Prim.Native.Nat.{ℕ, ◌≤◌}
use mathlib.Core.Path.{◌≡◌, refl, sym, ap, ◌∙◌}
use mathlib.Core.List.{List, [], ◌∷◌, ◌++◌}
use mathlib.Core.Bool.{Bool, true, false}
use lib.Dec.{eqb}
use lib.ListN.{length, drop}
use borrow.Author.Tests.{eqb-true, eq-eqb}
use native.Mathlib.Omega.{arith}
use Rattle.algebra.specs.Reader.{pick}
use Rattle.descriptor_columns.specs.Filled.{onto}
use Rattle.descriptor_check.specs.Check.{begins}

pub both : (a b : Bool) → pick a b false ≡ true → (a ≡ true) × (b ≡ true)
both true b e = (refl, e)
both false b e = let z : ◌≡◌ {A = ℕ} 0 1 = cc in absurd (omega arith)

pub begins-onto : (column run : List ℕ) → onto column run ≡ run → begins column run ≡ true
unfolding begins
begins-onto [] run e = refl
begins-onto (x ∷ column) [] e = let z : ◌≡◌ {A = ℕ} 0 1 = cc in absurd (omega arith)
begins-onto (x ∷ column) (y ∷ run) e = ap (λ (b : Bool). pick b (begins column run) false) (eq-eqb y x (first e)) ∙ begins-onto column run (rest e)
  where
    first : x ∷ (column ++ drop (length column) run) ≡ y ∷ run → y ≡ x
    first e = cc

    rest : x ∷ (column ++ drop (length column) run) ≡ y ∷ run → column ++ drop (length column) run ≡ run
    rest e = cc

pub onto-begins : (column run : List ℕ) → begins column run ≡ true → onto column run ≡ run
unfolding begins
onto-begins [] run e = refl
onto-begins (x ∷ column) [] e = let z : ◌≡◌ {A = ℕ} 0 1 = cc in absurd (omega arith)
onto-begins (x ∷ column) (y ∷ run) e =
    let i = both (eqb y x) (begins column run) e in
    ap (λ (z : ℕ). z ∷ (column ++ drop (length column) run)) (sym (eqb-true y x i.0)) ∙ ap (λ (l : List ℕ). y ∷ l) (onto-begins column run i.1)

-- such a run is as long at least
pub begins-length : (column run : List ℕ) → begins column run ≡ true → length column ≤ length run
unfolding begins
begins-length [] run e = omega arith
begins-length (x ∷ column) [] e = let z : ◌≡◌ {A = ℕ} 0 1 = cc in absurd (omega arith)
begins-length (x ∷ column) (y ∷ run) e = omega (arith, begins-length column run (both (eqb y x) (begins column run) e).1)
