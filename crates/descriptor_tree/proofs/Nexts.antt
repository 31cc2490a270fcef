-- The next siblings of a tree's members are what the depths of its rows give. Assumes nothing.
use Prim.Native.Nat.{ℕ, ◌+◌, ◌<◌}
use mathlib.Core.Path.{◌≡◌, refl, sym, ap, ◌∙◌}
use mathlib.Core.List.{List, [], ◌∷◌, ◌++◌, append_assoc, append-nil}
use mathlib.Core.Bool.{Bool}
use lib.Dec.{eqb}
use lib.ListN.{length, length-append}
use borrow.Author.Tests.{le-leb, lt-leb, eq-eqb, ne_eqb}
use native.Mathlib.Omega.{arith}
use Rattle.algebra.specs.Reader.{pick}
use Rattle.descriptor.specs.Reading.{Row}
use Rattle.descriptor_columns.specs.Columns.{next_of, nexts_from, depths_of}
use Rattle.descriptor_columns.proofs.Theorem.{map-append}
use Rattle.descriptor_tree.specs.Tree.{Members, none, one, Descriptor, head, bytes, root_head, rows, rows_in, first_of, nexts, file_rows, file_nexts, row_count}

-- the rows of members are as many as they have
pub rows-length : (m : Members) (d p k lo : ℕ) → length (rows d p k lo m) ≡ rows_in m
unfolding rows rows_in
rows-length none d p k lo = refl
rows-length (one key kind fields children rest) d p k lo =
    let h : ℕ = length (head key kind fields) in
    let below : List Row = rows (d + 1) k (k + 1) (lo + h) children in
    let after : List Row = rows d p (k + 1 + length below) (lo + (h + length (bytes children))) rest in
    let a = rows-length children (d + 1) k (k + 1) (lo + h) in
    let b = rows-length rest d p (k + 1 + length below) (lo + (h + length (bytes children))) in
    omega (arith, length-append below after, a, b)

-- a row that is deeper is passed by
past : (n j k x : ℕ) (ds : List ℕ) → j < x → next_of n j k (x ∷ ds) ≡ next_of n j (k + 1) ds
unfolding next_of
past n j k x ds l = ap (λ (b : Bool). pick b (pick (eqb x j) k n) (next_of n j (k + 1) ds)) (lt-leb x j l)

same : (n j k : ℕ) (ds : List ℕ) → next_of n j k (j ∷ ds) ≡ k
unfolding next_of
same n j k ds = ap (λ (b : Bool). pick b (pick (eqb j j) k n) (next_of n j (k + 1) ds)) (le-leb j j (omega arith)) ∙ ap (λ (b : Bool). pick b k n) (eq-eqb j j refl)

-- what stands behind members of a depth: nothing, or a row less deep
abbrev Lower : ℕ → List ℕ → Type 0
Lower d [] = Unit {0}
Lower d (x ∷ ds) = x < d

-- with none as deep behind it, a row has no next sibling
last : (n d k : ℕ) (ds : List ℕ) → Lower d ds → next_of n d k ds ≡ n
unfolding next_of
last n d k [] l = refl
last n d k (x ∷ ds) l = ap (λ (b : Bool). pick b (pick (eqb x d) k n) (next_of n d (k + 1) ds)) (le-leb x d (omega arith)) ∙ ap (λ (b : Bool). pick b k n) (ne_eqb x d (λ e. absurd (omega (arith, e, l))))

-- the depths of a member's rows, and of what stands behind them
split : (below after : List Row) (more : List ℕ) → depths_of (below ++ after) ++ more ≡ depths_of below ++ (depths_of after ++ more)
split below after more = ap (λ (l : List ℕ). l ++ more) (map-append (λ (r : Row). r.depth) below after) ∙ append_assoc (depths_of below) (depths_of after) more

-- rows of members that are deeper are passed by
passed : (m : Members) (d p q lo : ℕ) (n j k : ℕ) (more : List ℕ) → j < d → next_of n j k (depths_of (rows d p q lo m) ++ more) ≡ next_of n j (k + rows_in m) more
unfolding rows rows_in
passed none d p q lo n j k more l = let z : k ≡ k + 0 = omega arith in ap (λ (x : ℕ). next_of n j x more) z
passed (one key kind fields children rest) d p q lo n j k more l =
    let h : ℕ = length (head key kind fields) in
    let below : List Row = rows (d + 1) q (q + 1) (lo + h) children in
    let after : List Row = rows d p (q + 1 + length below) (lo + (h + length (bytes children))) rest in
    let z : k + 1 + rows_in children + rows_in rest ≡ k + (1 + rows_in children + rows_in rest) = omega arith in
    past n j k d (depths_of (below ++ after) ++ more) l
    ∙ ap (next_of n j (k + 1)) (split below after more)
    ∙ passed children (d + 1) q (q + 1) (lo + h) n j (k + 1) (depths_of after ++ more) (omega arith)
    ∙ passed rest d p (q + 1 + length below) (lo + (h + length (bytes children))) n j (k + 1 + rows_in children) more l
    ∙ ap (λ (x : ℕ). next_of n j x more) z

-- behind a member stand its later siblings
sibling : (m : Members) (d p q lo : ℕ) (n k : ℕ) (more : List ℕ) → Lower d more → next_of n d k (depths_of (rows d p q lo m) ++ more) ≡ first_of n k m
unfolding rows
sibling none d p q lo n k more l = last n d k more l
sibling (one key kind fields children rest) d p q lo n k more l =
    let h : ℕ = length (head key kind fields) in
    let below : List Row = rows (d + 1) q (q + 1) (lo + h) children in
    let after : List Row = rows d p (q + 1 + length below) (lo + (h + length (bytes children))) rest in
    same n d k (depths_of (below ++ after) ++ more)

-- before later siblings, or what is behind them, children are deeper
lower : (m : Members) (d p q lo : ℕ) (more : List ℕ) → Lower d more → Lower (d + 1) (depths_of (rows d p q lo m) ++ more)
unfolding rows
lower none d p q lo [] l = tt
lower none d p q lo (x ∷ ds) l = omega arith
lower (one key kind fields children rest) d p q lo more l = omega arith

pub members-nexts : (m : Members) (d p k lo n : ℕ) (more : List ℕ) → Lower d more → nexts_from n k (depths_of (rows d p k lo m) ++ more) ≡ nexts n k m ++ nexts_from n (k + rows_in m) more
unfolding rows rows_in nexts nexts_from
members-nexts none d p k lo n more l = let z : k ≡ k + 0 = omega arith in ap (λ (x : ℕ). nexts_from n x more) z
members-nexts (one key kind fields children rest) d p k lo n more l =
    let h : ℕ = length (head key kind fields) in
    let below : List Row = rows (d + 1) k (k + 1) (lo + h) children in
    let after : List Row = rows d p (k + 1 + length below) (lo + (h + length (bytes children))) rest in
    let c : length below ≡ rows_in children = rows-length children (d + 1) k (k + 1) (lo + h) in
    let j : ℕ = k + 1 + rows_in children in
    let e : k + 1 + length below ≡ j = omega (arith, c) in
    let z : j + rows_in rest ≡ k + (1 + rows_in children + rows_in rest) = omega arith in
    let own : next_of n d (k + 1) (depths_of (below ++ after) ++ more) ≡ first_of n j rest =
    ap (next_of n d (k + 1)) (split below after more)
    ∙ passed children (d + 1) k (k + 1) (lo + h) n d (k + 1) (depths_of after ++ more) (omega arith)
    ∙ sibling rest d p (k + 1 + length below) (lo + (h + length (bytes children))) n j more l in
    let kids : nexts_from n (k + 1) (depths_of below ++ (depths_of after ++ more)) ≡ nexts n (k + 1) children ++ nexts_from n j (depths_of after ++ more) =
    members-nexts children (d + 1) k (k + 1) (lo + h) n (depths_of after ++ more) (lower rest d p (k + 1 + length below) (lo + (h + length (bytes children))) more l) in
    let others : nexts_from n j (depths_of after ++ more) ≡ nexts n j rest ++ nexts_from n (j + rows_in rest) more =
    ap (λ (x : ℕ). nexts_from n j (depths_of (rows d p x (lo + (h + length (bytes children))) rest) ++ more)) e ∙ members-nexts rest d p j (lo + (h + length (bytes children))) n more l in
    ap (λ (x : ℕ). x ∷ nexts_from n (k + 1) (depths_of (below ++ after) ++ more)) own
    ∙ ap (λ (l : List ℕ). first_of n j rest ∷ l)
    (
    ap (nexts_from n (k + 1)) (split below after more) ∙ kids
    ∙ ap (λ (l : List ℕ). nexts n (k + 1) children ++ l) (others ∙ ap (λ (x : ℕ). nexts n j rest ++ nexts_from n x more) z)
    ∙ sym (append_assoc (nexts n (k + 1) children) (nexts n j rest) (nexts_from n (k + (1 + rows_in children + rows_in rest)) more))
    )

-- of a whole file: what the columns say of next siblings is what the tree says
pub file-nexts : (t : Descriptor) → nexts_from (row_count t) 0 (depths_of (file_rows t)) ≡ file_nexts t
unfolding file_rows file_nexts nexts_from
file-nexts t =
    let n : ℕ = row_count t in
    let kids : List Row = rows 1 0 1 (length (root_head t)) t.pairs in
    let below : nexts_from n 1 (depths_of kids ++ []) ≡ nexts n 1 t.pairs ++ [] = members-nexts t.pairs 1 0 1 (length (root_head t)) n [] tt ∙ ap (λ (l : List ℕ). nexts n 1 t.pairs ++ l) (none_left n (1 + rows_in t.pairs)) in
    let root : next_of n 0 1 (depths_of kids ++ []) ≡ n = passed t.pairs 1 0 1 (length (root_head t)) n 0 1 [] (omega arith) ∙ last n 0 (1 + rows_in t.pairs) [] tt in
    let same : depths_of kids ≡ depths_of kids ++ [] = sym (append-nil (depths_of kids)) in
    ap (λ (x : ℕ). x ∷ nexts_from n (0 + 1) (depths_of kids)) (ap (next_of n 0 1) same ∙ root)
    ∙ ap (λ (l : List ℕ). n ∷ l) (ap (nexts_from n 1) same ∙ below ∙ append-nil (nexts n 1 t.pairs))
  where
    none_left : (n k : ℕ) → nexts_from n k [] ≡ []
    none_left n k = refl
