-- What a user of the index may rely on: it is the one rearrangement of a book's shown records in the order of their names, and search finds the lowest of a name.
-- Assumes nothing.
use Prim.Native.Nat.{ℕ, ◌+◌, ◌-◌, ◌≤◌, ◌<◌}
use mathlib.Core.Path.{◌≡◌, refl, sym, ap, ap₂, ◌∙◌, subst}
use mathlib.Core.List.{List, [], ◌∷◌, ◌++◌, map, Permᴰ}
use mathlib.Core.Bool.{Bool, true, false}
use lib.Dec.{leb}
use lib.ListN.{length, get_or, take, drop, take-append-drop}
use borrow.Author.Tests.{eq-eqb}
use native.Mathlib.Omega.{arith}
use Rattle.algebra.specs.Reader.{ok, pick}
use Rattle.algebra.specs.Table.{Verdict, accepted, refused}
use Rattle.algebra.specs.Text.{is_empty}
use Rattle.acb.specs.Reading.{Contents}
use Rattle.order.specs.Order.{Order, less, same, greater, or_else, compare, is_same_order}
use Rattle.order.specs.Sorted.{Increasing, In, first, later}
use Rattle.order.proofs.Orders.{compare-less, compare_same, less-is}
use Rattle.order.proofs.Lists.{sorted-arranges, arranged-only}
use Rattle.acb_order.specs.Names.{compare_names}
use Rattle.acb_order.specs.Index.{Shown, shown_as, shown_from, shown_at, by_name, index_of, names_of, indexed}
use Rattle.acb_order.specs.Search.{lowest, begins, searched}
use Rattle.acb_order.proofs.Names.{names-total}
use Rattle.acb_order.proofs.Index.{by_name-total, shown-is, is-shown, shown-distinct, index-shown, index-rising, numbers-back, begins-take, increasing-at, lowest-none}

-- ---- the order of names

-- a shorter name before a longer one that begins with it
pub shorter-first : (us : List ℕ) (v : ℕ) (vs : List ℕ) → compare_names us (us ++ (v ∷ vs)) ≡ less
unfolding compare_names
shorter-first [] v vs = refl
shorter-first (u ∷ us) v vs = ap₂ or_else (compare_same u u refl) (shorter-first us v vs)

-- the first units that differ decide, as numbers
pub first-difference : (us : List ℕ) (u v : ℕ) (vs ws : List ℕ) → u < v → compare_names (us ++ (u ∷ vs)) (us ++ (v ∷ ws)) ≡ less
unfolding compare_names
first-difference [] u v vs ws h = ap (λ (o : Order). or_else o (compare_names vs ws)) (compare-less u v h)
first-difference (x ∷ us) u v vs ws h = ap₂ or_else (compare_same x x refl) (first-difference us u v vs ws h)

-- ---- the index

module _ (names : List (List ℕ)) where
  -- shown are the records that have a name, each under its number
  pub shown-named : (a : Shown) → In a (shown_from 0 names) → (a.number < length names) × (a ≡ shown_at names a.number) × (is_empty a.name ≡ false)
  shown-named a i =
      let r = shown-is 0 names a i in
      let z : a.number - 0 ≡ a.number = omega arith in
      (omega (arith, r.high), (λ j. record { number = a.number; name = (r.name ∙ ap (λ (k : ℕ). get_or names k []) z) j }), r.some)

  pub named-shown : (i : ℕ) → i < length names → is_empty (get_or names i []) ≡ false → In (shown_at names i) (shown_from 0 names)
  named-shown i h e = subst (λ (k : ℕ). In (shown_as k (get_or names i [])) (shown_from 0 names)) (let z : 0 + i ≡ i = omega arith in z) (is-shown 0 names i h e)

  -- it is a rearrangement of the shown records, strictly in order
  pub index-arranges : Permᴰ (shown_from 0 names) (map (shown_at names) (index_of names)) × Increasing by_name (map (shown_at names) (index_of names))
  index-arranges = (subst (Permᴰ (shown_from 0 names)) (sym (index-shown names)) (sorted-arranges by_name-total (shown_from 0 names)), index-rising names)

  -- and there is no other
  pub index-only : (l : List ℕ) → Permᴰ (shown_from 0 names) (map (shown_at names) l) → Increasing by_name (map (shown_at names) l) → l ≡ index_of names
  unfolding index_of
  index-only l p i = sym (numbers-back names l) ∙ ap (map (λ (a : Shown). a.number)) (arranged-only by_name-total (shown_from 0 names) (map (shown_at names) l) (shown-distinct 0 names) p i)

  -- equal names stand by their record numbers
  pub equal-by-number : (i j : ℕ) → i < j → j < length (index_of names) → get_or names (get_or (index_of names) i 0) [] ≡ get_or names (get_or (index_of names) j 0) [] → get_or (index_of names) i 0 < get_or (index_of names) j 0
  equal-by-number i j h l e =
      let x : ℕ = get_or (index_of names) i 0 in
      let y : ℕ = get_or (index_of names) j 0 in
      let r : by_name (shown_at names x) (shown_at names y) ≡ less = increasing-at names (index_of names) (index-rising names) i j h l in
      let s : compare_names (get_or names x []) (get_or names y []) ≡ same = ap (compare_names (get_or names x [])) (sym e) ∙ names-total.itself (get_or names x []) in
      less-is x y (sym (ap (λ (o : Order). or_else o (compare x y)) s) ∙ r)

-- ---- search

-- what is found has the name, is shown, and none of the name has a lower number
pub found-lowest : (us : List ℕ) (names : List (List ℕ)) (i : ℕ) → lowest us (shown_from 0 names) ≡ accepted i
    → In (shown_as i us) (shown_from 0 names) × ((b : Shown) → In b (shown_from 0 names) → b.name ≡ us → i ≤ b.number)
unfolding shown_from lowest
found-lowest us names i e = go 0 names e
  where
    hit : (vs : List ℕ) → is_same_order (compare_names us vs) ≡ true → us ≡ vs
    hit vs h = names-total.equal us vs (same_true (compare_names us vs) h)
      where
        same_true : (o : Order) → is_same_order o ≡ true → o ≡ same
        same_true less y = let z : ◌≡◌ {A = ℕ} 0 1 = cc in absurd (omega arith)
        same_true same y = refl
        same_true greater y = let z : ◌≡◌ {A = ℕ} 0 1 = cc in absurd (omega arith)

    miss : (vs : List ℕ) → is_same_order (compare_names us vs) ≡ false → vs ≡ us → ⊥
    miss vs h e = let y : true ≡ false = sym (ap (λ (w : List ℕ). is_same_order (compare_names us w)) e ∙ ap is_same_order (names-total.itself us)) ∙ h in let z : ◌≡◌ {A = ℕ} 0 1 = cc in omega arith

    go : (j : ℕ) (ns : List (List ℕ)) → lowest us (shown_from j ns) ≡ accepted i → In (shown_as i us) (shown_from j ns) × ((b : Shown) → In b (shown_from j ns) → b.name ≡ us → i ≤ b.number)
    go j [] e = let z : ◌≡◌ {A = ℕ} 0 1 = cc in absurd (omega arith)
    go j (vs ∷ ns) e = by (is_empty vs) e (go (j + 1) ns)
      where
        by : (d : Bool) → lowest us (pick d (shown_from (j + 1) ns) (shown_as j vs ∷ shown_from (j + 1) ns)) ≡ accepted i
            → (lowest us (shown_from (j + 1) ns) ≡ accepted i → In (shown_as i us) (shown_from (j + 1) ns) × ((b : Shown) → In b (shown_from (j + 1) ns) → b.name ≡ us → i ≤ b.number))
            → In (shown_as i us) (pick d (shown_from (j + 1) ns) (shown_as j vs ∷ shown_from (j + 1) ns)) × ((b : Shown) → In b (pick d (shown_from (j + 1) ns) (shown_as j vs ∷ shown_from (j + 1) ns)) → b.name ≡ us → i ≤ b.number)
        by true e ih = ih e
        by false e ih = test (is_same_order (compare_names us vs)) refl e
          where
            test : (t : Bool) → is_same_order (compare_names us vs) ≡ t → pick t (accepted j) (lowest us (shown_from (j + 1) ns)) ≡ accepted i
                → In (shown_as i us) (shown_as j vs ∷ shown_from (j + 1) ns) × ((b : Shown) → In b (shown_as j vs ∷ shown_from (j + 1) ns) → b.name ≡ us → i ≤ b.number)
            test true q k = let ij : j ≡ i = cc in (first (λ x. record { number = sym ij x; name = hit vs q x }), λ b m n. low b m)
              where
                low : (b : Shown) → In b (shown_as j vs ∷ shown_from (j + 1) ns) → i ≤ b.number
                low b (first m) = let ij : j ≡ i = cc in let w : b.number ≡ j = ap (λ (c : Shown). c.number) m in omega (arith, ij, w)
                low b (later m) = let ij : j ≡ i = cc in let w = (shown-is (j + 1) ns b m).low in omega (arith, ij, w)
            test false q k = let r = ih k in (later r.0, λ b m n. low b m n)
              where
                low : (b : Shown) → In b (shown_as j vs ∷ shown_from (j + 1) ns) → b.name ≡ us → i ≤ b.number
                low b (first m) n = absurd (miss vs q (sym (ap (λ (c : Shown). c.name) m) ∙ n))
                low b (later m) n = (ih k).1 b m n

-- 12 exactly if no shown record has the name; nothing else is ever answered
pub none_found : (us : List ℕ) (names : List (List ℕ)) → ((b : Shown) → In b (shown_from 0 names) → b.name ≡ us → ⊥) → lowest us (shown_from 0 names) ≡ refused 12 0 0 0
none_found us names h = lowest-none us (shown_from 0 names) differs
  where
    differs : (b : Shown) → In b (shown_from 0 names) → is_same_order (compare_names us b.name) ≡ false
    differs b i = go (compare_names us b.name) refl
      where
        go : (q : Order) → compare_names us b.name ≡ q → is_same_order q ≡ false
        go less k = refl
        go same k = absurd (h b i (sym (names-total.equal us b.name k)))
        go greater k = refl

-- a refusal of 12 at 0, and none of some records has the name
abbrev pub None : List ℕ → ℕ → ℕ → List Shown → Type 0
None us x p l = (x ≡ 12) × (p ≡ 0) × ((b : Shown) → In b l → b.name ≡ us → ⊥)

pub found_none : (us : List ℕ) (l : List Shown) (x p r f : ℕ) → lowest us l ≡ refused x p r f → None us x p l
unfolding lowest
found_none us [] x p r f e = let a : ◌≡◌ {A = ℕ} 12 x = cc in let b : ◌≡◌ {A = ℕ} 0 p = cc in (sym a, sym b, λ c i n. no i)
  where
    no : {c : Shown} → In c [] → ⊥
    no = elim [ ]
found_none us (a ∷ more) x p r f e = go (found_none us more x p r f) (compare_names us a.name) refl e
  where
    other : None us x p more → (compare_names us a.name ≡ same → ⊥) → None us x p (a ∷ more)
    other n ne = (n.0, n.1, each)
      where
        each : (b : Shown) → In b (a ∷ more) → b.name ≡ us → ⊥
        each b (first i) m = ne (ap (compare_names us) (sym (ap (λ (c : Shown). c.name) i) ∙ m) ∙ names-total.itself us)
        each b (later i) m = n.2 b i m

    go : (lowest us more ≡ refused x p r f → None us x p more) → (o : Order) → compare_names us a.name ≡ o → pick (is_same_order o) (accepted a.number) (lowest us more) ≡ refused x p r f → None us x p (a ∷ more)
    go ih less q k = other (ih k) (λ z. let y : less ≡ same = sym q ∙ z in let w : ◌≡◌ {A = ℕ} 0 1 = cc in omega arith)
    go ih same q k = let z : ◌≡◌ {A = ℕ} 0 1 = cc in absurd (omega arith)
    go ih greater q k = other (ih k) (λ z. let y : greater ≡ same = sym q ∙ z in let w : ◌≡◌ {A = ℕ} 0 1 = cc in omega arith)

-- ---- an index that is kept

-- a run begins with an index exactly if that is its first part
pub begins-with : (xs t : List ℕ) → begins xs t ≡ true → t ≡ xs ++ drop (length xs) t
begins-with xs t b = sym (take-append-drop (length xs) t) ∙ ap (λ (l : List ℕ). l ++ drop (length xs) t) (begins-take xs t b).1

pub with-begins : (xs rest : List ℕ) → begins xs (xs ++ rest) ≡ true
unfolding begins
with-begins [] rest = refl
with-begins (x ∷ xs) rest = ap (λ (b : Bool). pick b (begins xs (xs ++ rest)) false) (eq-eqb x x refl) ∙ with-begins xs rest

module _ (c : Contents) (q : ℕ) (us : List ℕ) where
  abbrev names : List (List ℕ)
  names = names_of c

  -- an index, kept from wherever, is taken for a book exactly if it begins with the book's: then search is by the names, else 5
  pub kept-right : (rest : List ℕ) → searched (index_of names ++ rest) us (ok c q) ≡ lowest us (shown_from 0 names)
  kept-right rest = ap (λ (b : Bool). pick b (lowest us (shown_from 0 names)) (refused 5 0 0 0)) (with-begins (index_of names) rest)

  pub kept-wrong : (t : List ℕ) → ((rest : List ℕ) → t ≡ index_of names ++ rest → ⊥) → searched t us (ok c q) ≡ refused 5 0 0 0
  kept-wrong t h = go (begins (index_of names) t) refl
    where
      go : (b : Bool) → begins (index_of names) t ≡ b → pick b (lowest us (shown_from 0 names)) (refused 5 0 0 0) ≡ refused 5 0 0 0
      go true e = absurd (h (drop (length (index_of names)) t) (begins-with (index_of names) t e))
      go false e = refl

  -- what was built is taken
  pub built-taken : (t : List ℕ) (n : ℕ) → (indexed (ok c q) t).0 ≡ accepted n → searched (indexed (ok c q) t).1 us (ok c q) ≡ lowest us (shown_from 0 names)
  built-taken t n e = go (leb (length (index_of names)) (length t)) e
    where
      go : (b : Bool) → (pick {A = Verdict ℕ × List ℕ} b (accepted (length (index_of names)), index_of names ++ drop (length (index_of names)) t) (refused 11 0 0 0, t)).0 ≡ accepted n
          → searched (pick {A = Verdict ℕ × List ℕ} b (accepted (length (index_of names)), index_of names ++ drop (length (index_of names)) t) (refused 11 0 0 0, t)).1 us (ok c q) ≡ lowest us (shown_from 0 names)
      go true k = kept-right (drop (length (index_of names)) t)
      go false k = let z : ◌≡◌ {A = ℕ} 0 1 = cc in absurd (omega arith)

  -- the index of another book of as many shown records is taken exactly if the two are the same
  pub other-taken : (d : Contents) → length (index_of (names_of d)) ≡ length (index_of names) → begins (index_of names) (index_of (names_of d)) ≡ true → index_of (names_of d) ≡ index_of names
  other-taken d e b = sym (take_whole (index_of (names_of d))) ∙ ap (λ (k : ℕ). take k (index_of (names_of d))) e ∙ (begins-take (index_of names) (index_of (names_of d)) b).1
    where
      take_whole : (l : List ℕ) → take (length l) l ≡ l
      take_whole l = lib.Seq.take_all (length l) l (omega arith)
