-- The walk by next sibling meets exactly the rows of depth 1, in their order. Assumes nothing.
use Prim.Native.Nat.{ℕ, zero, suc, ◌+◌, ◌-◌, ◌*◌, ◌≤◌, ◌<◌}
use mathlib.Core.Path.{◌≡◌, refl, sym, ap, ◌∙◌, subst}
use mathlib.Core.List.{List, [], ◌∷◌, ◌++◌}
use mathlib.Core.Bool.{Bool, true, false}
use lib.Dec.{leb, ltb, eqb}
use lib.ListN.{length, get_or, drop}
use lib.Seq.{drop-nil, drop-cons, drop-drop}
use borrow.Author.Tests.{leb-true, leb-false, ltb-true, ltb-false, eq-eqb, ne_eqb}
use native.Mathlib.Omega.{arith}
use Rattle.algebra.specs.Reader.{Res, ok, pick, judged}
use Rattle.algebra.proofs.Inverse.{then-inv, ok-value, ok-place}
use Rattle.descriptor.specs.Reading.{Row, version, object_of, item, root, descriptor}
use Rattle.descriptor.specs.Tiles.{Tiled, none, one}
use Rattle.descriptor.proofs.Rows.{of-root, rows-laid}
use Rattle.descriptor.proofs.Tiling.{five-each}
use Rattle.descriptor_columns.specs.Columns.{next_of, nexts_from, depths_of, columns_of}
use Rattle.descriptor_columns.proofs.Theorem.{get_d_map, map-length}
use Rattle.descriptor_check.specs.Check.{begins}
use Rattle.descriptor_check.proofs.Begun.{onto-begins, begins-length}
use Rattle.descriptor_find.specs.Find.{Key, key, has_key, look_up, row_of}
use Rattle.descriptor_find.specs.Promise.{where_true, members, walk}
use Rattle.descriptor_find.specs.scaffold.Finding.{Lent, rows_in}

-- ---- the shape of a file's rows

-- none less deep
abbrev Deep : ℕ → List Row → Type 0
Deep d [] = Unit {0}
Deep d (r ∷ rs) = (d ≤ r.depth) × Deep d rs

-- the first is so deep, if there is one
abbrev pub At : ℕ → List Row → Type 0
At d [] = Unit {0}
At d (r ∷ rs) = r.depth ≡ d

deep-append : (d : ℕ) (rs qs : List Row) → Deep d rs → Deep d qs → Deep d (rs ++ qs)
deep-append d [] qs h g = g
deep-append d (r ∷ rs) qs h g = (h.0, deep-append d rs qs h.1 g)

deep-less : (d : ℕ) (rs : List Row) → Deep (d + 1) rs → Deep d rs
deep-less d [] h = tt
deep-less d (r ∷ rs) h = (omega (arith, h.0), deep-less d rs h.1)

tiled-deep : {d p k lo hi : ℕ} {rs : List Row} → Tiled d p k lo hi rs → Deep d rs
tiled-deep none = tt
tiled-deep {d} (one r cs qs head a b c h v z t u) = (omega (arith, b), deep-append d cs qs (deep-less d cs (tiled-deep t)) (tiled-deep u))

tiled-first : {d p k lo hi : ℕ} {rs : List Row} → Tiled d p k lo hi rs → At d rs
tiled-first none = tt
tiled-first (one r cs qs head a b c h v z t u) = b

-- the root, and below it all others, from a child of it on
abbrev Shape : List Row → Type 0
Shape [] = Unit {0}
Shape (r ∷ rs) = (r.depth ≡ 0) × Deep 1 rs × At 1 rs

shaped : {hi : ℕ} {rs : List Row} → Tiled 0 0 0 0 hi rs → ((r : Row) (more : List Row) → rs ≡ r ∷ more → r.size ≡ hi) → Shape rs
shaped none w = tt
shaped {hi} (one r cs qs head a b c h v z t u) w = go qs (five-each u) (w r (cs ++ qs) refl)
  where
    nil : (l : List Row) → Deep 1 l → At 1 l → Deep 1 (l ++ []) × At 1 (l ++ [])
    nil [] x y = (tt, tt)
    nil (q ∷ l) x y = ((x.0, nil-deep l x.1), y)
      where
        nil-deep : (l : List Row) → Deep 1 l → Deep 1 (l ++ [])
        nil-deep l x = deep-append 1 l [] x tt

    go : (qs : List Row) → 0 + r.size + 5 * length qs ≤ hi → r.size ≡ hi → (r.depth ≡ 0) × Deep 1 (cs ++ qs) × At 1 (cs ++ qs)
    go [] x y = let i = nil cs (tiled-deep t) (tiled-first t) in (b, i.0, i.1)
    go (q ∷ qs) x y = absurd (omega (arith, x, y))

root-size : (s : List ℕ) (rs : List Row) (q : ℕ) → root s 0 ≡ ok rs q → (r : Row) (more : List Row) → rs ≡ r ∷ more → r.size ≡ q
unfolding root
root-size s rs q e r more h =
    let a = then-inv (judged 4 version s 0) _ e in
    let b = then-inv (object_of (item 32) 32 0 s a.1) _ a.3 in
    let same : r.size ≡ b.1 - 0 = ap size_of (sym h ∙ sym (ok-value b.3)) in
    omega (arith, same, ok-place b.3)
  where
    size_of : List Row → ℕ
    size_of [] = 0
    size_of (x ∷ xs) = x.size

shape : (s : List ℕ) (rs : List Row) (q : ℕ) → descriptor s ≡ ok rs q → Shape rs
shape s rs q e =
    let o = of-root s rs q e in
    shaped (rows-laid s rs q e).tiled (λ r more h. root-size s rs q o.1 r more h ∙ o.2)

-- ---- next siblings

nexts-at : (n k : ℕ) (ds : List ℕ) (j : ℕ) → j < length ds → get_or (nexts_from n k ds) j 0 ≡ next_of n (get_or ds j 0) (k + j + 1) (drop (suc j) ds)
unfolding nexts_from
nexts-at n k [] j l = absurd (omega arith)
nexts-at n k (d ∷ ds) zero l = let e : k + 1 ≡ k + 0 + 1 = omega arith in ap (λ (x : ℕ). next_of n d x ds) e
nexts-at n k (d ∷ ds) (suc j) l =
    let e : k + 1 + j + 1 ≡ k + suc j + 1 = omega arith in
    nexts-at n (k + 1) ds j (omega arith) ∙ ap (λ (x : ℕ). next_of n (get_or ds j 0) x (drop (suc j) ds)) e

drop-depths : (j : ℕ) (rs : List Row) → drop j (depths_of rs) ≡ depths_of (drop j rs)
drop-depths zero rs = refl
drop-depths (suc j) [] = refl
drop-depths (suc j) (r ∷ rs) = drop-depths j rs

deep-drop : (d j : ℕ) (rs : List Row) → Deep d rs → Deep d (drop j rs)
deep-drop d zero rs h = h
deep-drop d (suc j) [] h = tt
deep-drop d (suc j) (r ∷ rs) h = deep-drop d j rs h.1

-- what passes by rows that are deeper than 1
module _ {X : Type 0} (g : ℕ → List Row → X) (nil : (k j : ℕ) → g k [] ≡ g j []) (deeper : (k : ℕ) (r : Row) (rs : List Row) → 1 < r.depth → g k (r ∷ rs) ≡ g (k + 1) rs) where
  abbrev Skipped : (n k : ℕ) → List Row → ℕ → Type 0
  Skipped n k rs m = (k ≤ m) × (m ≤ n) × At 1 (drop (m - k) rs) × (g k rs ≡ g m (drop (m - k) rs))

  pub skip : (n k : ℕ) (rs : List Row) → Deep 1 rs → k + length rs ≡ n → Skipped n k rs (next_of n 1 k (depths_of rs))
  unfolding next_of
  skip n k [] h e =
      let d : [] ≡ drop (n - k) [] = sym (drop-nil (n - k)) in
      (omega (arith, e), omega arith, subst (At 1) d tt, nil k n ∙ ap (g n) d)
  skip n k (r ∷ rs) h e = go (skip n (k + 1) rs h.1 (omega (arith, e))) (leb r.depth 1) refl
    where
      go : Skipped n (k + 1) rs (next_of n 1 (k + 1) (depths_of rs)) → (b : Bool) → leb r.depth 1 ≡ b → Skipped n k (r ∷ rs) (pick b (pick (eqb r.depth 1) k n) (next_of n 1 (k + 1) (depths_of rs)))
      go i true x =
          let one : r.depth ≡ 1 = omega (arith, leb-true r.depth 1 x, h.0) in
          let z : 0 ≡ k - k = omega arith in
          let here : Skipped n k (r ∷ rs) k = (omega arith, omega (arith, e), subst (λ (y : ℕ). At 1 (drop y (r ∷ rs))) z one, ap (λ (y : ℕ). g k (drop y (r ∷ rs))) z) in
          subst (λ (y : Bool). Skipped n k (r ∷ rs) (pick y k n)) (sym (eq-eqb r.depth 1 one)) here
      go i false x =
          let m : ℕ = next_of n 1 (k + 1) (depths_of rs) in
          let z : suc (m - (k + 1)) ≡ m - k = omega (arith, i.0) in (
            omega (arith, i.0),
            i.1,
            subst (λ (y : ℕ). At 1 (drop y (r ∷ rs))) z i.2,
            deeper k r rs (leb-false r.depth 1 x) ∙ i.3 ∙ ap (λ (y : ℕ). g m (drop y (r ∷ rs))) z,
          )

  -- the rows from the row j on, which is a child of the root or the end
  pub record Child (rs : List Row) (x : X) (j : ℕ) : Type 0 where
    pub low : 1 ≤ j
    pub high : j ≤ length rs
    pub child : At 1 (drop j rs)
    pub left : x ≡ g j (drop j rs)

  pub first-child : (rs : List Row) → Shape rs → 1 ≤ length rs → (x : X) → x ≡ g 1 (drop 1 rs) → Child rs x 1
  first-child [] h l x e = absurd (omega arith)
  first-child (r ∷ rs) h l x e = record { low = omega arith; high = l; child = h.2; left = e }

  -- and from its next sibling on, where x is the same of what is behind it
  pub next-child : (rs : List Row) → Shape rs → (j : ℕ) → j < length rs → 1 ≤ j → At 1 (drop j rs) → (x : X) → x ≡ g (j + 1) (drop (suc j) rs) → (j < get_or (columns_of rs).nexts j 0) × Child rs x (get_or (columns_of rs).nexts j 0)
  next-child [] h j l p a x e = absurd (omega arith)
  next-child (r ∷ rs) h j l p a x e =
      let all : List Row = r ∷ rs in
      let n : ℕ = length all in
      let d : get_or (depths_of all) j 0 ≡ 1 = depth-at all j l a in
      let len : length (depths_of all) ≡ n = map-length (λ (y : Row). y.depth) all in
      let o : 0 + j + 1 ≡ j + 1 = omega arith in
      let eq : get_or (columns_of all).nexts j 0 ≡ next_of n 1 (j + 1) (depths_of (drop (suc j) all)) =
      nexts-at n 0 (depths_of all) j (omega (arith, l, len)) ∙ ap (λ (y : ℕ). next_of n y (0 + j + 1) (drop (suc j) (depths_of all))) d ∙ ap (λ (y : ℕ). next_of n 1 y (drop (suc j) (depths_of all))) o ∙ ap (next_of n 1 (j + 1)) (drop-depths (suc j) all) in
      let m : ℕ = next_of n 1 (j + 1) (depths_of (drop (suc j) all)) in
      let i = skip n (j + 1) (drop (suc j) all) (deep-drop 1 j rs h.1) (drop-count all j l) in
      let dd : drop (m - (j + 1)) (drop (suc j) all) ≡ drop m all = drop-drop (m - (j + 1)) (suc j) all ∙ ap (λ (y : ℕ). drop y all) (back m i.0) in
      subst (λ (y : ℕ). (j < y) × Child all x y) (sym eq) (omega (arith, i.0), record { low = omega (arith, i.0); high = i.1; child = subst (At 1) dd i.2; left = e ∙ i.3 ∙ ap (g m) dd })
    where
      back : (m : ℕ) → j + 1 ≤ m → suc j + (m - (j + 1)) ≡ m
      back m w = omega (arith, w)

      depth-at : (rs : List Row) (j : ℕ) → j < length rs → At 1 (drop j rs) → get_or (depths_of rs) j 0 ≡ 1
      depth-at [] j l a = absurd (omega arith)
      depth-at (r ∷ rs) zero l a = a
      depth-at (r ∷ rs) (suc j) l a = depth-at rs j (omega arith) a

      drop-count : (rs : List Row) (j : ℕ) → j < length rs → j + 1 + length (drop (suc j) rs) ≡ length rs
      drop-count [] j l = absurd (omega arith)
      drop-count (r ∷ rs) zero l = omega arith
      drop-count (r ∷ rs) (suc j) l = omega (arith, drop-count rs j (omega arith))

-- ---- a look at all rows

spare : Row
spare = record { kind = 0; parent = 0; first = 0; size = 0; depth = 0; value = 0 }

module _ (s : List ℕ) (k : Key) (n : ℕ) where
  look : ℕ → List Row → ℕ
  look i rs = look_up s k n i rs

  look-nil : (i j : ℕ) → look i [] ≡ look j []
  unfolding look look_up
  look-nil i j = refl

  look-other : (i : ℕ) (r : Row) (rs : List Row) → (r.depth ≡ 1 → ⊥) → look i (r ∷ rs) ≡ look (i + 1) rs
  unfolding look look_up
  look-other i r rs h = ap (λ (b : Bool). pick (pick b (has_key (key s r.first) k) false) i (look_up s k n (i + 1) rs)) (ne_eqb r.depth 1 h)

  look-deep : (i : ℕ) (r : Row) (rs : List Row) → 1 < r.depth → look i (r ∷ rs) ≡ look (i + 1) rs
  look-deep i r rs l = look-other i r rs (λ e. absurd (omega (arith, e, l)))

  look-child : (i : ℕ) (r : Row) (rs : List Row) (b : Bool) → r.depth ≡ 1 → b ≡ has_key (key s r.first) k → look i (r ∷ rs) ≡ pick b i (look (i + 1) rs)
  unfolding look look_up
  look-child i r rs b d e = ap (λ (y : Bool). pick (pick y (has_key (key s r.first) k) false) i (look_up s k n (i + 1) rs)) (eq-eqb r.depth 1 d) ∙ ap (λ (y : Bool). pick y i (look_up s k n (i + 1) rs)) (sym e)

  look-end : (i : ℕ) → look i [] ≡ n
  unfolding look look_up
  look-end i = refl

-- ---- a table that is the file's

get_d-begins : (column run : List ℕ) → begins column run ≡ true → (j : ℕ) → j < length column → get_or run j 0 ≡ get_or column j 0
get_d-begins column run h j l = ap (λ (x : List ℕ). get_or x j 0) (sym (onto-begins column run h)) ∙ left column (drop (length column) run) j l
  where
    left : (xs ys : List ℕ) (j : ℕ) → j < length xs → get_or (xs ++ ys) j 0 ≡ get_or xs j 0
    left [] ys j l = absurd (omega arith)
    left (x ∷ xs) ys zero l = refl
    left (x ∷ xs) ys (suc j) l = left xs ys j (omega arith)

nexts-length : (n k : ℕ) (ds : List ℕ) → length (nexts_from n k ds) ≡ length ds
unfolding nexts_from
nexts-length n k [] = refl
nexts-length n k (d ∷ ds) = ap suc (nexts-length n (k + 1) ds)

some : (s : List ℕ) (rs : List Row) (q : ℕ) → root s 0 ≡ ok rs q → 1 ≤ length rs
unfolding root
some s rs q e =
    let i = then-inv (judged 4 version s 0) _ e in
    let b = then-inv (object_of (item 32) 32 0 s i.1) _ i.3 in
    let z : suc (length b.0) ≡ length rs = ap length (ok-value b.3) in
    omega (arith, z)

pub nothing_left : (rs : List Row) (j : ℕ) → length rs ≤ j → drop j rs ≡ []
nothing_left [] j l = drop-nil j
nothing_left (r ∷ rs) zero l = absurd (omega arith)
nothing_left (r ∷ rs) (suc j) l = nothing_left rs j (omega arith)

module _ (s a c : List ℕ) (n : ℕ) (t : Lent s a c n) where
  many : length (columns_of t.rs).nexts ≡ n
  many = nexts-length (length t.rs) 0 (depths_of t.rs) ∙ map-length (λ (r : Row). r.depth) t.rs ∙ t.count

  shapely : Shape t.rs
  shapely = shape s t.rs t.q t.reads

  pub room : (n ≤ length a) × (n ≤ length c) × (n ≤ 16777216) × (1 ≤ n)
  room =
      let o = of-root s t.rs t.q t.reads in
      let l = rows-laid s t.rs t.q t.reads in (
        omega (arith, begins-length (columns_of t.rs).firsts a t.firsts, map-length (λ (r : Row). r.first) t.rs, t.count),
        omega (arith, begins-length (columns_of t.rs).nexts c t.nexts, many),
        omega (arith, l.count, o.0, t.count),
        omega (arith, some s t.rs t.q o.1, t.count),
      )

  first-at : (j : ℕ) → j < n → get_or a j 0 ≡ (get_or t.rs j spare).first
  first-at j l =
      let m = map-length (λ (r : Row). r.first) t.rs in
      get_d-begins (columns_of t.rs).firsts a t.firsts j (omega (arith, l, m, t.count)) ∙ get_d_map (λ (r : Row). r.first) t.rs j spare (omega (arith, l, t.count))

  next-at : (j : ℕ) → j < n → get_or c j 0 ≡ get_or (columns_of t.rs).nexts j 0
  next-at j l = get_d-begins (columns_of t.rs).nexts c t.nexts j (omega (arith, l, many))

  module _ (k : Key) where
    abbrev all : ℕ
    all = row_of s (rows_in (descriptor s)) k

    -- before each turn of the walk
    pub Walking : ℕ → Type 0
    Walking j = Child (look s k n) (look-nil s k n) (look-deep s k n) t.rs (row_of s (rows_in (descriptor s)) k) j

    all-is : row_of s (rows_in (descriptor s)) k ≡ look s k n 0 t.rs
    unfolding look
    all-is = ap (λ (m : Res (List Row)). row_of s (rows_in m) k) t.reads ∙ ap (λ (m : ℕ). look_up s k m 0 t.rs) t.count

    from-root : (rs : List Row) → Shape rs → 1 ≤ length rs → look s k n 0 rs ≡ look s k n 1 (drop 1 rs)
    from-root [] h l = absurd (omega arith)
    from-root (r ∷ rs) h l = look-other s k n 0 r rs (λ e. absurd (omega (arith, e, h.0)))

    pub walk_start : Walking 1
    unfolding Walking
    walk_start =
        let l : 1 ≤ length t.rs = omega (arith, room.3, t.count) in
        first-child (look s k n) (look-nil s k n) (look-deep s k n) t.rs shapely l (row_of s (rows_in (descriptor s)) k) (all-is ∙ from-root t.rs shapely l)

    module _ (j : ℕ) (w : Walking j) where
      pub walk-low : (1 ≤ j) × (j ≤ n)
      unfolding Walking
      walk-low = (w.low, omega (arith, w.high, t.count))

      module _ (l : j < n) (b : Bool) (e : b ≡ has_key (key s (get_or a j 0)) k) where
        here : row_of s (rows_in (descriptor s)) k ≡ pick b j (look s k n (j + 1) (drop (suc j) t.rs))
        unfolding Walking
        here =
            let m : j < length t.rs = omega (arith, l, t.count) in
            let cons = drop-cons t.rs j spare m in
            w.left ∙ ap (look s k n j) cons
            ∙ look-child s k n j (get_or t.rs j spare) (drop (suc j) t.rs) b (subst (At 1) cons w.child) (e ∙ ap (λ (x : ℕ). has_key (key s x) k) (first-at j l))

        pub walk-found : b ≡ true → j ≡ row_of s (rows_in (descriptor s)) k
        walk-found h = sym (here ∙ ap (λ (y : Bool). pick y j (look s k n (j + 1) (drop (suc j) t.rs))) h)

        pub walk-on : b ≡ false → (j < get_or c j 0) × Walking (get_or c j 0)
        unfolding Walking
        walk-on h =
            let m : j < length t.rs = omega (arith, l, t.count) in
            subst (λ (y : ℕ). (j < y) × Child (look s k n) (look-nil s k n) (look-deep s k n) t.rs (row_of s (rows_in (descriptor s)) k) y) (sym (next-at j l))
            (next-child (look s k n) (look-nil s k n) (look-deep s k n) t.rs shapely j m w.low w.child (row_of s (rows_in (descriptor s)) k)
            (here ∙ ap (λ (y : Bool). pick y j (look s k n (j + 1) (drop (suc j) t.rs))) h))

      pub walk_end : n ≤ j → n ≡ row_of s (rows_in (descriptor s)) k
      unfolding Walking
      walk_end h = sym (w.left ∙ ap (look s k n j) (nothing_left t.rs j (omega (arith, h, t.count))) ∙ look-end s k n j)

-- ---- the theorem

members-nil : (i j : ℕ) → members i [] ≡ members j []
unfolding members
members-nil i j = refl

members-deep : (i : ℕ) (r : Row) (rs : List Row) → 1 < r.depth → members i (r ∷ rs) ≡ members (i + 1) rs
unfolding members
members-deep i r rs l = ap (λ (b : Bool). where_true b i (members (i + 1) rs)) (ne_eqb r.depth 1 (λ e. absurd (omega (arith, e, l))))

members-root : (rs : List Row) → Shape rs → members 0 rs ≡ members 1 (drop 1 rs)
unfolding members
members-root [] h = refl
members-root (r ∷ rs) h = ap (λ (b : Bool). where_true b 0 (members 1 rs)) (ne_eqb r.depth 1 (λ e. absurd (omega (arith, e, h.0))))

members-child : (i : ℕ) (r : Row) (rs : List Row) → r.depth ≡ 1 → members i (r ∷ rs) ≡ i ∷ members (i + 1) rs
unfolding members
members-child i r rs d = ap (λ (b : Bool). where_true b i (members (i + 1) rs)) (eq-eqb r.depth 1 d)

members-none : (i : ℕ) → members i [] ≡ []
unfolding members
members-none i = refl

module _ (rs : List Row) (h : Shape rs) where
  from : (m j : ℕ) → length rs - j ≤ m → 1 ≤ j → At 1 (drop j rs) → walk m (length rs) (columns_of rs).nexts j ≡ members j (drop j rs)
  unfolding walk
  from zero j l p a = sym (ap (members j) (nothing_left rs j (omega (arith, l))) ∙ members-none j)
  from (suc m) j l p a = go (from m) (ltb j (length rs)) refl
    where
      go : ((j : ℕ) → length rs - j ≤ m → 1 ≤ j → At 1 (drop j rs) → walk m (length rs) (columns_of rs).nexts j ≡ members j (drop j rs)) → (b : Bool) → ltb j (length rs) ≡ b → pick b (j ∷ walk m (length rs) (columns_of rs).nexts (get_or (columns_of rs).nexts j 0)) [] ≡ members j (drop j rs)
      go ih true e =
          let w : j < length rs = ltb-true j (length rs) e in
          let cons = drop-cons rs j spare w in
          let i = next-child members members-nil members-deep rs h j w p a (members (j + 1) (drop (suc j) rs)) refl in
          ap (λ (y : List ℕ). j ∷ y) (ih (get_or (columns_of rs).nexts j 0) (omega (arith, l, i.0)) i.1.low i.1.child ∙ sym i.1.left)
          ∙ sym (ap (members j) cons ∙ members-child j (get_or rs j spare) (drop (suc j) rs) (subst (At 1) cons a))
      go ih false e = sym (ap (members j) (nothing_left rs j (ltb-false j (length rs) e)) ∙ members-none j)

first-at-1 : (rs : List Row) → Shape rs → At 1 (drop 1 rs)
first-at-1 [] h = tt
first-at-1 (r ∷ rs) h = h.2

-- from row 1 on, the walk by next sibling meets exactly the rows of depth 1, in their order
pub walk_meets : (s : List ℕ) (rs : List Row) (q : ℕ) → descriptor s ≡ ok rs q → walk (length rs) (length rs) (columns_of rs).nexts 1 ≡ members 0 rs
walk_meets s rs q e = let h = shape s rs q e in from rs h (length rs) 1 (omega arith) (omega arith) (first-at-1 rs h) ∙ sym (members-root rs h)
