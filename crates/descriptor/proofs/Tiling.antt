-- The rows that are read tile the bytes that were read. Assumes nothing.
use Prim.Native.Nat.{ℕ, zero, suc, ◌+◌, ◌-◌, ◌*◌, ◌≤◌}
use mathlib.Core.Path.{◌≡◌, refl, sym, subst}
use mathlib.Core.List.{List, [], ◌∷◌, ◌++◌, append-nil, append_assoc}
use lib.ListN.{length, length-append}
use native.Mathlib.Omega.{arith}
use Rattle.algebra.specs.Chars.{chars}
use Rattle.algebra.specs.Reader.{Res, Reader, field, judged}
use Rattle.descriptor.specs.Reading.{Known, is, unknown, known, Sort, leaf, list, object, reference, array, sort_of, form_of, id, class, Row, headed, plain, siblings, children, ref_value, ref_item, reference_of, column, column_type, array_pair, array_of, keyed, list_of, object_of, value_of, item, version, root}
use Rattle.descriptor.specs.Tiles.{Tiled, none, one, heads, sum, Fives, Ascending}
use Rattle.descriptor.proofs.Ends.{Accepts, yes, no, accepts-then, weaker, Past, field_past, judged-past, id-past, class-past, column-past, leaf-takes, form-takes, ref-past}

-- ---- of rows that tile

-- siblings after siblings
pub joined : {d p k lo mid hi : ℕ} {rs qs : List Row} → Tiled d p k lo mid rs → Tiled d p (k + length rs) mid hi qs → Tiled d p k lo hi (rs ++ qs)
joined {d} {p} {k} {lo} {hi = hi} {qs = qs} none u = let e : k + 0 ≡ k = omega arith in subst (λ (n : ℕ). Tiled d p n lo hi qs) e u
joined {d} {p} {k} {lo} {mid} {hi} {qs = qs} (one r cs rs head a b c h v z t w) u =
    let e : k + suc (length (cs ++ rs)) ≡ (k + 1 + length cs) + length rs = omega (arith, length-append cs rs) in
    let x : Tiled d p (k + 1 + length cs) (lo + r.size) hi (rs ++ qs) = joined w (subst (λ (n : ℕ). Tiled d p n mid hi qs) e u) in
    subst (λ (l : List Row). Tiled d p k lo hi (r ∷ l)) (sym (append_assoc cs rs qs)) (one r cs (rs ++ qs) head a b c h v z t x)

sum-append : (xs ys : List ℕ) → sum (xs ++ ys) ≡ sum xs + sum ys
unfolding sum
sum-append [] ys = omega arith
sum-append (x ∷ xs) ys = omega (arith, sum-append xs ys)

-- the heads add up to the bytes that the rows fill
pub heads-sum : {d p k lo hi : ℕ} {rs : List Row} (t : Tiled d p k lo hi rs) → lo + sum (heads t) ≡ hi
unfolding heads sum
heads-sum none = omega arith
heads-sum {lo = lo} {hi = hi} (one r cs qs head a b c h v z t u) = omega (arith, heads-sum t, heads-sum u, sum-append (heads t) (heads u))

-- each row has its head
pub heads-length : {d p k lo hi : ℕ} {rs : List Row} (t : Tiled d p k lo hi rs) → length (heads t) ≡ length rs
unfolding heads
heads-length none = refl
heads-length (one r cs qs head a b c h v z t u) = omega (arith, heads-length t, heads-length u, length-append (heads t) (heads u), length-append cs qs)

-- five bytes a row at least
pub five-each : {d p k lo hi : ℕ} {rs : List Row} → Tiled d p k lo hi rs → lo + 5 * length rs ≤ hi
five-each none = omega arith
five-each (one r cs qs head a b c h v z t u) = omega (arith, five-each t, five-each u, length-append cs qs)

-- no head is shorter
pub five-heads : {d p k lo hi : ℕ} {rs : List Row} (t : Tiled d p k lo hi rs) → Fives (heads t)
unfolding heads
five-heads none = tt
five-heads (one r cs qs head a b c h v z t u) = (h, both (heads t) (heads u) (five-heads t) (five-heads u))
  where
    both : (xs ys : List ℕ) → Fives xs → Fives ys → Fives (xs ++ ys)
    both [] ys f g = g
    both (x ∷ xs) ys f g = (f.0, both xs ys f.1 g)

-- rows that tile, and those after them, stand in file order
order-after : {d p k lo mid : ℕ} {rs : List Row} → Tiled d p k lo mid rs → (qs : List Row) → ((b : ℕ) → b ≤ mid → Ascending b qs) → (b : ℕ) → b ≤ lo → Ascending b (rs ++ qs)
order-after none qs g b l = g b l
order-after {lo = lo} (one r cs rs head x y c h v z t u) qs g b l =
    let f : lo ≡ r.first = sym c in
    (omega arith, subst (Ascending (r.first + 1)) (sym (append_assoc cs rs qs)) (order-after t (rs ++ qs) (λ e w. order-after u qs g e w) (r.first + 1) (omega arith)))

pub in_order : {d p k lo hi : ℕ} {rs : List Row} → Tiled d p k lo hi rs → Ascending lo rs
in_order {lo = lo} {rs = rs} t = subst (Ascending lo) (append-nil rs) (order-after t [] (λ b l. tt) lo (omega arith))

-- ---- of an answer

-- siblings at the depth d under the row p, the first with number k and at lo
pub record Rows (s : List ℕ) (d p k lo : ℕ) (rs : List Row) (q : ℕ) : Type 0 where
  pub tiled : Tiled d p k lo q rs
  pub high : q ≤ length s

-- rows from lo on
pub record Reach (s : List ℕ) (lo : ℕ) (rs : List Row) (q : ℕ) : Type 0 where
  pub low : lo + 5 * length rs ≤ q
  pub high : q ≤ length s

-- rows below the row k, whose head ends at `mid`, which is lo or behind it
pub record Kids (s : List ℕ) (d k lo : ℕ) (rs : List Row) (q : ℕ) : Type 0 where
  pub mid : ℕ
  pub low : lo ≤ mid
  pub tiled : Tiled d k (k + 1) mid q rs
  pub high : q ≤ length s

module _ (s : List ℕ) where
  siblings-rows : (d p : ℕ) (f : ℕ → Reader (List Row)) → ((j q : ℕ) → q ≤ length s → Accepts (Rows s d p j q) (f j s q))
      → (n k at : ℕ) → at ≤ length s → Accepts (Rows s d p k at) (siblings f n k s at)
  unfolding siblings
  siblings-rows d p f g zero k at l = yes [] at (record { tiled = none; high = l })
  siblings-rows d p f g (suc n) k at l =
      accepts-then (f k s at) _ (g k at l)
      (λ rs q h. accepts-then (siblings f n (k + length rs) s q) _ (siblings-rows d p f g n (k + length rs) q h.high)
      (λ qs e w. yes (rs ++ qs) e (record { tiled = joined h.tiled w.tiled; high = w.high })))

  children-kids : (d k lo at : ℕ) (f : ℕ → Reader (List Row)) → lo ≤ at + 4 → at ≤ length s → ((j q : ℕ) → q ≤ length s → Accepts (Rows s d k j q) (f j s q))
      → Accepts (Kids s d k lo) (children f k s at)
  unfolding children
  children-kids d k lo at f l w g =
      accepts-then (field 4 s at) _ (field_past s 4 at w)
      (λ n q h. weaker (λ rs e r. record { mid = q; low = omega (arith, h.low); tiled = r.tiled; high = r.high }) (siblings-rows d k f g n (k + 1) q h.high))

  plain-kids : (d k lo at : ℕ) (p : Reader Unit) → Accepts (Past s lo) (p s at) → Accepts (Kids s d k lo) (plain p s at)
  plain-kids d k lo at p h = accepts-then (p s at) _ h (λ u q w. yes [] q (record { mid = q; low = w.low; tiled = none; high = w.high }))

  -- a row whose head ends at lo or behind it
  headed-rows : (t d p k first v lo : ℕ) (m : Res (List Row)) → first + 5 ≤ lo → first + 4 ≤ v → v ≤ lo → Accepts (Kids s (32 - d + 1) k lo) m → Accepts (Rows s (32 - d) p k first) (headed t d p first v m)
  headed-rows t d p k first v lo m a b c h = accepts-then m _ h (λ rs q w. yes _ q (record { tiled = own rs q w; high = w.high }))
    where
      own : (rs : List Row) (q : ℕ) → Kids s (32 - d + 1) k lo rs q
          → Tiled (32 - d) p k first q (record { kind = t; parent = p; first = first; size = q - first; depth = 32 - d; value = v } ∷ rs)
      own rs q w =
          let row : Row = record { kind = t; parent = p; first = first; size = q - first; depth = 32 - d; value = v } in
          let mid : ℕ = w.mid in
          let m0 : lo ≤ mid = w.low in
          let m1 : mid ≤ q = omega (arith, five-each w.tiled) in
          let x : mid ≡ first + (mid - first) = omega arith in
          let y : q ≡ first + (q - first) = omega arith in
          let kids : Tiled (32 - d + 1) k (k + 1) (first + (mid - first)) (first + (q - first)) rs =
          subst (λ (n : ℕ). Tiled (32 - d + 1) k (k + 1) (first + (mid - first)) n rs) y (subst (λ (n : ℕ). Tiled (32 - d + 1) k (k + 1) n q rs) x w.tiled) in
          let rest : Tiled (32 - d) p (k + 1 + length rs) (first + (q - first)) q [] = subst (λ (n : ℕ). Tiled (32 - d) p (k + 1 + length rs) n q []) y none in
          subst (λ (l : List Row). Tiled (32 - d) p k first q (row ∷ l)) (append-nil rs)
          (one row rs [] (mid - first) refl refl refl (omega arith) b (omega arith) kids rest)

  -- ---- references

  pub ref-rows : (left p k at : ℕ) → left ≤ 33 → at ≤ length s → Accepts (Rows s (33 - left) p k at) (ref_item left p k s at)
  unfolding ref_item
  ref-rows zero p k at l w = no
  ref-rows (suc d) p k at l w =
      let e : 32 - d ≡ 33 - suc d = omega arith in
      subst (λ (n : ℕ). Accepts (Rows s n p k at) (ref_item (suc d) p k s at)) e
      (accepts-then (field 4 s at) _ (field_past s 4 at w) (λ t v h. form t v h (form_of t) refl))
    where
      form : (t v : ℕ) → Past s (at + 4) t v → (f : Known (Reader Unit)) → form_of t ≡ f → Accepts (Rows s (32 - d) p k at) (known f at (λ r. headed t d p at v (plain (ref_value r) s v)))
      form t v h (is r) x =
          headed-rows t d p k at v (v + 9) (plain (ref_value r) s v) (omega (arith, h.low)) h.low (omega arith)
          (plain-kids (32 - d + 1) k (v + 9) v (ref_value r) (ref-past r (form-takes t r x) s v h.high))
      form t v h unknown x = no

  -- ---- object arrays

  pub array-rows : (m left p k at : ℕ) → left ≤ 33 → at ≤ length s → Accepts (Rows s (33 - left) p k at) (array_pair m left p k s at)
  unfolding array_pair
  array-rows m zero p k at l w = no
  array-rows m (suc d) p k at l w =
      let e : 32 - d ≡ 33 - suc d = omega arith in
      subst (λ (n : ℕ). Accepts (Rows s n p k at) (array_pair m (suc d) p k s at)) e
      (accepts-then (id s at) _ (id-past s at w)
      (λ u q h. accepts-then (judged 4 column_type s q) _ (judged-past s 4 column_type q h.high)
      (λ t v x. headed-rows t d p k at v (v + 8) (plain (column m) s v) (omega (arith, h.low, x.low)) (omega (arith, h.low, x.low)) (omega arith)
      (plain-kids (32 - d + 1) k (v + 8) v (column m) (column-past s m v x.high)))))

  -- ---- items

  -- what the reader of items below does
  abbrev pub Below : ℕ → (ℕ → ℕ → ℕ → Reader (List Row)) → Type 0
  Below d f = (p k first at : ℕ) → first ≤ at → at ≤ length s → Accepts (Rows s (33 - d) p k first) (f p k first s at)

  pub keyed-rows : (d : ℕ) (f : ℕ → ℕ → ℕ → Reader (List Row)) → Below d f → (p k at : ℕ) → at ≤ length s → Accepts (Rows s (33 - d) p k at) (keyed f d p k s at)
  unfolding keyed
  keyed-rows zero f b p k at w = no
  keyed-rows (suc d) f b p k at w = accepts-then (id s at) _ (id-past s at w) (λ u q h. b p k at q (omega (arith, h.low)) h.high)

  object-kids : (d : ℕ) (f : ℕ → ℕ → ℕ → Reader (List Row)) → Below d f → (k at : ℕ) → at ≤ length s → Accepts (Kids s (33 - d) k (at + 13)) (object_of f d k s at)
  unfolding object_of
  object-kids d f b k at w = accepts-then (class s at) _ (class-past s at w) (λ u q h. children-kids (33 - d) k (at + 13) q (keyed f d k) (omega (arith, h.low)) h.high (λ j r x. keyed-rows d f b k j r x))

  array-kids : (d k at : ℕ) → d ≤ 33 → at ≤ length s → Accepts (Kids s (33 - d) k (at + 13)) (array_of d k s at)
  unfolding array_of
  array-kids d k at l w =
      accepts-then (field 4 s at) _ (field_past s 4 at w)
      (λ m q h. accepts-then (class s q) _ (class-past s q h.high)
      (λ u e x. children-kids (33 - d) k (at + 13) e (array_pair m d k) (omega (arith, h.low, x.low)) x.high (λ j r y. array-rows m d k j r l y)))

  kids-lower : {d k : ℕ} {m : Res (List Row)} (lo hi : ℕ) → lo ≤ hi → Accepts (Kids s d k hi) m → Accepts (Kids s d k lo) m
  kids-lower lo hi l h = weaker (λ rs q w. record { mid = w.mid; low = omega (arith, w.low); tiled = w.tiled; high = w.high }) h

  value-kids : (d : ℕ) (f : ℕ → ℕ → ℕ → Reader (List Row)) → d ≤ 32 → Below d f → (k t v : ℕ) (sort : Sort) → sort_of t ≡ is sort → v ≤ length s → Accepts (Kids s (33 - d) k (v + 1)) (value_of f d k sort s v)
  value-kids d f l b k t v (leaf p) e w = plain-kids (33 - d) k (v + 1) v p (leaf-takes t p e s v w)
  value-kids d f l b k t v list e w = children-kids (33 - d) k (v + 1) v (λ j s q. f k j q s q) (omega arith) w (λ j q x. b k j q q (omega arith) x)
  value-kids d f l b k t v object e w = kids-lower (v + 1) (v + 13) (omega arith) (object-kids d f b k v w)
  value-kids d f l b k t v reference e w = children-kids (33 - d) k (v + 1) v (ref_item d k) (omega arith) w (λ j q x. ref-rows d k j q (omega arith) x)
  value-kids d f l b k t v array e w = kids-lower (v + 1) (v + 13) (omega arith) (array-kids d k v (omega arith) w)

  pub item-rows : (left : ℕ) → left ≤ 33 → Below left (item left)
  unfolding item
  item-rows zero l p k first at o w = no
  item-rows (suc d) l p k first at o w =
      let e : 32 - d ≡ 33 - suc d = omega arith in
      let a : 33 - d ≡ 32 - d + 1 = omega arith in
      let ih : Below d (item d) = item-rows d (omega arith) in
      subst (λ (n : ℕ). Accepts (Rows s n p k first) (item (suc d) p k first s at)) e
      (accepts-then (field 4 s at) _ (field_past s 4 at w) (λ t v h. sorted a ih t v h (sort_of t) refl))
    where
      sorted : 33 - d ≡ 32 - d + 1 → Below d (item d) → (t v : ℕ) → Past s (at + 4) t v → (x : Known Sort) → sort_of t ≡ x
          → Accepts (Rows s (32 - d) p k first) (known x at (λ sort. headed t d p first v (value_of (item d) d k sort s v)))
      sorted a ih t v h (is sort) x =
          headed-rows t d p k first v (v + 1) (value_of (item d) d k sort s v) (omega (arith, h.low)) (omega (arith, h.low)) (omega arith)
          (subst (λ (n : ℕ). Accepts (Kids s n k (v + 1)) (value_of (item d) d k sort s v)) a (value-kids d (item d) (omega arith) ih k t v sort x h.high))
      sorted a ih t v h unknown x = no

  -- ---- how far values and members reach

  kids-past : {d k lo : ℕ} {m : Res (List Row)} → Accepts (Kids s d k lo) m → Accepts (Past s lo) m
  kids-past h = weaker (λ rs q w. record { low = omega (arith, w.low, five-each w.tiled); high = w.high }) h

  -- a value ends behind its first byte
  pub value-past : (d k t v at : ℕ) → d ≤ 32 → v ≤ length s → Accepts (Past s (v + 1)) (known (sort_of t) at (λ sort. value_of (item d) d k sort s v))
  value-past d k t v at l w = go (sort_of t) refl
    where
      go : (x : Known Sort) → sort_of t ≡ x → Accepts (Past s (v + 1)) (known x at (λ sort. value_of (item d) d k sort s v))
      go (is sort) e = kids-past (value-kids d (item d) l (item-rows d (omega arith)) k t v sort e w)
      go unknown e = no

  pub object-past : (d k v : ℕ) → d ≤ 32 → v ≤ length s → Accepts (Past s (v + 13)) (object_of (item d) d k s v)
  object-past d k v l w = kids-past (object-kids d (item d) (item-rows d (omega arith)) k v w)

  -- five bytes a row at least, and inside the file
  pub reach : {d p k lo : ℕ} {m : Res (List Row)} → Accepts (Rows s d p k lo) m → Accepts (Reach s lo) m
  reach h = weaker (λ rs q w. record { low = five-each w.tiled; high = w.high }) h

  kids-reach : {d k lo : ℕ} {m : Res (List Row)} (at : ℕ) → at ≤ lo → Accepts (Kids s d k lo) m → Accepts (Reach s at) m
  kids-reach at l h = weaker (λ rs q w. record { low = omega (arith, w.low, five-each w.tiled); high = w.high }) h

  pub list-reach : (d k at : ℕ) → d ≤ 32 → at ≤ length s → Accepts (Reach s at) (list_of (item d) k s at)
  list-reach d k at l w = kids-reach at (omega arith) (children-kids (33 - d) k at at (λ j s q. item d k j q s q) (omega arith) w (λ j q x. item-rows d (omega arith) k j q q (omega arith) x))

  pub object-reach : (d k at : ℕ) → d ≤ 32 → at ≤ length s → Accepts (Reach s at) (object_of (item d) d k s at)
  object-reach d k at l w = kids-reach at (omega arith) (object-kids d (item d) (item-rows d (omega arith)) k at w)

  pub reference-reach : (d k at : ℕ) → d ≤ 32 → at ≤ length s → Accepts (Reach s at) (reference_of d k s at)
  reference-reach d k at l w = kids-reach at (omega arith) (children-kids (33 - d) k at at (ref_item d k) (omega arith) w (λ j q x. ref-rows d k j q (omega arith) x))

  pub array-reach : (d k at : ℕ) → d ≤ 32 → at ≤ length s → Accepts (Reach s at) (array_of d k s at)
  array-reach d k at l w = kids-reach at (omega arith) (array-kids d k at (omega arith) w)

  -- ---- the root

  pub root-rows : Accepts (Rows s 0 0 0 0) (root s 0)
  unfolding root
  root-rows =
      accepts-then (judged 4 version s 0) _ (judged-past s 4 version 0 (omega arith))
      (λ v e h. headed-rows (chars "Objc") 32 0 0 0 e (e + 13) (object_of (item 32) 32 0 s e) (omega (arith, h.low)) h.low (omega arith)
      (object-kids 32 (item 32) (item-rows 32 (omega arith)) 0 e h.high))
