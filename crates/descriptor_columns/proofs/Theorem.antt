-- What columns are, of every accepted file: they give the rows, and the rows give them. Assumes nothing.
use Prim.Native.Nat.{ℕ, zero, suc, ◌+◌, ◌≤◌, ◌<◌}
use mathlib.Core.Path.{◌≡◌, refl, sym, ap, ◌∙◌}
use mathlib.Core.List.{List, [], ◌∷◌, ◌++◌, map}
use mathlib.Core.Bool.{Bool}
use lib.ListN.{length, get_or}
use borrow.Author.Tests.{lt-ltb, le-ltb}
use native.Mathlib.Omega.{arith}
use Rattle.algebra.specs.Reader.{ok, pick}
use Rattle.descriptor.specs.Reading.{Row, descriptor}
use Rattle.descriptor.specs.Tiles.{Tiled, none, one}
use Rattle.descriptor.proofs.Rows.{rows-laid}
use Rattle.descriptor_columns.specs.Columns.{Columns, depths_of, columns_of, values_of, parent_of, parents_from, parents_of, row_of, rows_from, rows_of}

-- ---- parents

-- the depths before, the last first, once rows stand behind them
abbrev onward : List ℕ → List Row → List ℕ
onward before [] = before
onward before (r ∷ rs) = onward (r.depth ∷ before) rs

onward-append : (before : List ℕ) (rs qs : List Row) → onward before (rs ++ qs) ≡ onward (onward before rs) qs
onward-append before [] qs = refl
onward-append before (r ∷ rs) qs = onward-append (r.depth ∷ before) rs qs

onward-length : (before : List ℕ) (rs : List Row) → length (onward before rs) ≡ length before + length rs
onward-length before [] = omega arith
onward-length before (r ∷ rs) = let h = onward-length (r.depth ∷ before) rs in omega (arith, h)

parents-append : (before : List ℕ) (rs qs : List Row) → parents_from before (depths_of (rs ++ qs)) ≡ parents_from before (depths_of rs) ++ parents_from (onward before rs) (depths_of qs)
unfolding parents_from
parents-append before [] qs = refl
parents-append before (r ∷ rs) qs = ap (λ (l : List ℕ). parent_of r.depth before ∷ l) (parents-append (r.depth ∷ before) rs qs)

pub map-append : (f : Row → ℕ) (rs qs : List Row) → map f (rs ++ qs) ≡ map f rs ++ map f qs
map-append f [] qs = refl
map-append f (r ∷ rs) qs = ap (λ (l : List ℕ). f r ∷ l) (map-append f rs qs)

parent-deep : (d x : ℕ) (before : List ℕ) → d ≤ x → parent_of d (x ∷ before) ≡ parent_of d before
unfolding parent_of
parent-deep d x before l = ap (λ (b : Bool). pick b (length before) (parent_of d before)) (le-ltb x d l)

parent-here : (d x : ℕ) (before : List ℕ) → x < d → parent_of d (x ∷ before) ≡ length before
unfolding parent_of
parent-here d x before l = ap (λ (b : Bool). pick b (length before) (parent_of d before)) (lt-ltb x d l)

-- rows that tile at a depth leave the parents of that depth and above as they were
still-under : {d p k lo hi : ℕ} {rs : List Row} → Tiled d p k lo hi rs → (j : ℕ) → j ≤ d → (before : List ℕ) → parent_of j (onward before rs) ≡ parent_of j before
still-under none j l before = refl
still-under {d} (one r cs qs head a b c h v z t u) j l before =
    ap (parent_of j) (onward-append (r.depth ∷ before) cs qs)
    ∙ still-under u j l (onward (r.depth ∷ before) cs)
    ∙ still-under t j (omega (arith, l)) (r.depth ∷ before)
    ∙ parent-deep j r.depth before (omega (arith, b, l))

tiled-parents : {d p k lo hi : ℕ} {rs : List Row} → Tiled d p k lo hi rs → (before : List ℕ) → length before ≡ k → parent_of d before ≡ p → map (λ (r : Row). r.parent) rs ≡ parents_from before (depths_of rs)
unfolding parents_from
tiled-parents none before n e = refl
tiled-parents {d} {p} {k} (one r cs qs head a b c h v z t u) before n e =
    let own : r.parent ≡ parent_of r.depth before = a ∙ sym e ∙ ap (λ (x : ℕ). parent_of x before) (sym b) in
    let kids = tiled-parents t (r.depth ∷ before) (omega (arith, n)) (parent-here (d + 1) r.depth before (omega (arith, b)) ∙ n) in
    let count = onward-length (r.depth ∷ before) cs in
    let rest = tiled-parents u (onward (r.depth ∷ before) cs) (omega (arith, n, count)) (still-under t d (omega arith) (r.depth ∷ before) ∙ parent-deep d r.depth before (omega (arith, b)) ∙ e) in
    ap (λ (x : ℕ). x ∷ map (λ (r : Row). r.parent) (cs ++ qs)) own
    ∙ ap (λ (l : List ℕ). parent_of r.depth before ∷ l)
    (
    map-append (λ (r : Row). r.parent) cs qs
    ∙ ap (λ (l : List ℕ). l ++ map (λ (r : Row). r.parent) qs) kids
    ∙ ap (λ (l : List ℕ). parents_from (r.depth ∷ before) (depths_of cs) ++ l) rest
    ∙ sym (parents-append (r.depth ∷ before) cs qs)
    )

no-parent : parent_of 0 [] ≡ 0
unfolding parent_of
no-parent = refl

-- the parents of an accepted file's rows are what its depths give
pub parents-are : (s : List ℕ) (rs : List Row) (q : ℕ) → descriptor s ≡ ok rs q → map (λ (r : Row). r.parent) rs ≡ parents_of (depths_of rs)
parents-are s rs q e = tiled-parents (rows-laid s rs q e).tiled [] refl no-parent

-- ---- rows back

pub get_d_map : (f : Row → ℕ) (rs : List Row) (i : ℕ) (d : Row) → i < length rs → get_or (map f rs) i 0 ≡ f (get_or rs i d)
get_d_map f [] i d l = absurd (omega arith)
get_d_map f (r ∷ rs) zero d l = refl
get_d_map f (r ∷ rs) (suc i) d l = get_d_map f rs i d (omega arith)

pub map-length : (f : Row → ℕ) (rs : List Row) → length (map f rs) ≡ length rs
map-length f [] = refl
map-length f (r ∷ rs) = ap suc (map-length f rs)

-- a row that no file has
abbrev spare : Row
spare = record { kind = 0; parent = 0; first = 0; size = 0; depth = 0; value = 0 }

-- rows that are given one by one
given-all : (c : Columns) (vs : List ℕ) (rs : List Row) (i : ℕ) → ((j : ℕ) → j < length rs → row_of c vs (i + j) ≡ get_or rs j spare) → rows_from c vs (length rs) i ≡ rs
unfolding rows_from
given-all c vs [] i h = refl
given-all c vs (r ∷ rs) i h =
    let z : i ≡ i + 0 = omega arith in
    ap (λ (x : Row). x ∷ rows_from c vs (length rs) (i + 1)) (ap (row_of c vs) z ∙ h 0 (omega arith))
    ∙ ap (λ (l : List Row). r ∷ l) (given-all c vs rs (i + 1) (λ j l. let e : i + 1 + j ≡ i + suc j = omega arith in ap (row_of c vs) e ∙ h (suc j) (omega arith)))

-- the columns of rows whose parents are what their depths give, with the rows' values, give the rows
back : (rs : List Row) → map (λ (r : Row). r.parent) rs ≡ parents_of (depths_of rs) → rows_of (columns_of rs) (values_of rs) ≡ rs
back rs e =
    let n : length (depths_of rs) ≡ length rs = map-length (λ (r : Row). r.depth) rs in
    ap (λ (k : ℕ). rows_from (columns_of rs) (values_of rs) k 0) n ∙ given-all (columns_of rs) (values_of rs) rs 0 (λ j l. let z : j ≡ 0 + j = omega arith in ap (row_of (columns_of rs) (values_of rs)) (sym z) ∙ same j l)
  where
    same : (j : ℕ) → j < length rs → row_of (columns_of rs) (values_of rs) j ≡ get_or rs j spare
    same j l =
        let kind = get_d_map (λ (r : Row). r.kind) rs j spare l in
        let parent : get_or (parents_of (depths_of rs)) j 0 ≡ (get_or rs j spare).parent = ap (λ (l : List ℕ). get_or l j 0) (sym e) ∙ get_d_map (λ (r : Row). r.parent) rs j spare l in
        let first = get_d_map (λ (r : Row). r.first) rs j spare l in
        let size = get_d_map (λ (r : Row). r.size) rs j spare l in
        let depth = get_d_map (λ (r : Row). r.depth) rs j spare l in
        let value = get_d_map (λ (r : Row). r.value) rs j spare l in
        let c : Columns = columns_of rs in
        let old : Row = get_or rs j spare in
        ap (λ (x : ℕ). record { kind = x; parent = get_or (parents_of (depths_of rs)) j 0; first = get_or c.firsts j 0; size = get_or c.lengths j 0; depth = get_or c.depths j 0; value = get_or (values_of rs) j 0 }) kind
        ∙ ap (λ (x : ℕ). record { kind = old.kind; parent = x; first = get_or c.firsts j 0; size = get_or c.lengths j 0; depth = get_or c.depths j 0; value = get_or (values_of rs) j 0 }) parent
        ∙ ap (λ (x : ℕ). record { kind = old.kind; parent = old.parent; first = x; size = get_or c.lengths j 0; depth = get_or c.depths j 0; value = get_or (values_of rs) j 0 }) first
        ∙ ap (λ (x : ℕ). record { kind = old.kind; parent = old.parent; first = old.first; size = x; depth = get_or c.depths j 0; value = get_or (values_of rs) j 0 }) size
        ∙ ap (λ (x : ℕ). record { kind = old.kind; parent = old.parent; first = old.first; size = old.size; depth = x; value = get_or (values_of rs) j 0 }) depth
        ∙ ap (λ (x : ℕ). record { kind = old.kind; parent = old.parent; first = old.first; size = old.size; depth = old.depth; value = x }) value

-- for every accepted file: its columns, with its values, give its rows
pub columns-give-rows : (s : List ℕ) (rs : List Row) (q : ℕ) → descriptor s ≡ ok rs q → rows_of (columns_of rs) (values_of rs) ≡ rs
columns-give-rows s rs q e = back rs (parents-are s rs q e)

-- and the rows that its columns give have these columns
pub rows-give-columns : (s : List ℕ) (rs : List Row) (q : ℕ) → descriptor s ≡ ok rs q → columns_of (rows_of (columns_of rs) (values_of rs)) ≡ columns_of rs
rows-give-columns s rs q e = ap columns_of (columns-give-rows s rs q e)
