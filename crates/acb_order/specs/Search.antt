-- What search by a name finds.
use Rattle.std.specs.Prelude.{ℕ, List, [], ◌∷◌, Bool, true, false, eqb}
use Rattle.algebra.specs.Reader.{Res, ok, refuse, pick}
use Rattle.algebra.specs.Table.{Verdict, accepted, refused}
use Rattle.acb.specs.Reading.{Contents}
use Rattle.order.specs.Order.{is_same_order}
use Rattle.acb_order.specs.Names.{compare_names}
use Rattle.acb_order.specs.Index.{Shown, shown_from, index_of, names_of}

-- the number of the first of some records that has a name; 12 where none has it
unfoldable pub lowest : List ℕ → List Shown → Verdict ℕ
lowest us [] = refused 12 0 0 0
lowest us (a ∷ more) = pick (is_same_order (compare_names us a.name)) (accepted a.number) (lowest us more)

-- a run begins with a list
unfoldable pub begins : List ℕ → List ℕ → Bool
begins [] t = true
begins (x ∷ xs) [] = false
begins (x ∷ xs) (y ∷ t) = pick (eqb x y) (begins xs t) false

-- the file's own refusal; 5 at 0 unless the lent index begins with the file's; then the lowest shown record of that name, or 12
abbrev pub searched : List ℕ → List ℕ → Res Contents → Verdict ℕ
searched index us (refuse x p r f) = refused x p r f
searched index us (ok c q) =
    pick (begins (index_of (names_of c)) index)
    (lowest us (shown_from 0 (names_of c)))
    (refused 5 0 0 0)
