-- The file as heads one after the other, and the recursive reading, give the same rows and the same refusals, for every byte string. Assumes nothing.
use Prim.Native.Nat.{ℕ, suc, ◌+◌}
use mathlib.Core.Path.{◌≡◌, refl, sym, ap, ◌∙◌}
use mathlib.Core.List.{List, [], ◌∷◌, ◌++◌, append-nil, map}
use mathlib.Core.Bool.{Bool, true, false}
use lib.Dec.{leb, eqb}
use lib.ListN.{length}
use native.Mathlib.Omega.{arith}
use Rattle.algebra.specs.Chars.{chars}
use Rattle.algebra.specs.Reader.{Res, ok, refuse, then, pick, field, judged, many, ended, map_res, limit}
use Rattle.descriptor.specs.Reading.{Row, class, siblings, children, keyed, item, object_of, headed, version, root, whole, descriptor}
use Rattle.descriptor.proofs.Ends.{Accepts, yes, Past}
use Rattle.descriptor_heads.specs.Heads.{pairs, Head, Opened, over, next_head, settled, after, root_head, whole_heads, file_heads}
use Rattle.descriptor_heads.proofs.Members.{row_at, member}
use Rattle.descriptor_heads.specs.Rows.{heads_of, rows_from, rows_of, head_of}
use Rattle.descriptor_heads.proofs.Past.{root-past}
use Rattle.descriptor.proofs.Rows.{rows-laid}
use Rattle.descriptor_heads.proofs.Tiles.{tiled-rows}
use Rattle.descriptor_heads.proofs.Under.{marks, heads-under}

-- the root's head
abbrev opening : ℕ → ℕ → ℕ → Res Opened
opening v n q = ok (record { head = record { kind = chars "Objc"; first = 0; depth = 0; value = v }; below = pairs; count = n }) q

module _ (s : List ℕ) where
  -- the root: its head, and its pairs under a stack of one level
  rooted : root s 0 ≡ then (root_head s 0) (λ h q. then (siblings (member h.below 32 0) h.count 1 s q) (λ rs e. ok (row_at h.head 0 e ∷ rs) e))
  unfolding root root_head object_of children
  rooted = go (judged 4 version s 0)
    where
      counted : (v : ℕ) (m : Res ℕ) → headed (chars "Objc") 32 0 0 v (then m (λ n q. siblings (keyed (item 32) 32 0) n (0 + 1) s q))
          ≡ then (then m (λ n q. opening v n q)) (λ h q. then (siblings (member h.below 32 0) h.count 1 s q) (λ rs e. ok (row_at h.head 0 e ∷ rs) e))
      counted v (ok n q) = refl
      counted v (refuse x y r f) = refl

      classed : (v : ℕ) (m : Res Unit) → headed (chars "Objc") 32 0 0 v (then m (λ u c. then (field 4 s c) (λ n q. siblings (keyed (item 32) 32 0) n (0 + 1) s q)))
          ≡ then (then m (λ u c. then (field 4 s c) (λ n q. opening v n q))) (λ h q. then (siblings (member h.below 32 0) h.count 1 s q) (λ rs e. ok (row_at h.head 0 e ∷ rs) e))
      classed v (ok u c) = counted v (field 4 s c)
      classed v (refuse x y r f) = refl

      go : (m : Res ℕ) → then m (λ v e. headed (chars "Objc") 32 0 0 e (object_of (item 32) 32 0 s e))
          ≡ then (then m (λ v e. then (class s e) (λ u c. then (field 4 s c) (λ n q. opening e n q)))) (λ h q. then (siblings (member h.below 32 0) h.count 1 s q) (λ rs e. ok (row_at h.head 0 e ∷ rs) e))
      go (ok v e) = classed e (class s e)
      go (refuse x y r f) = refl

  whole-heads : marks (whole s 0) ≡ map_res heads_of (whole_heads s 0)
  unfolding whole whole_heads ended
  whole-heads = ap (λ (m : Res (List Row)). marks (then m (λ rs q. pick (eqb q (length s)) (ok rs q) (refuse 6 q 0 0)))) rooted ∙ go (root_head s 0) (root-past s)
    where
      closing : (rs : List Row) (q : ℕ) (b : Bool) → marks (pick b (ok rs q) (refuse 6 q 0 0)) ≡ pick b (ok (map head_of rs) q) (refuse 6 q 0 0)
      closing rs q true = refl
      closing rs q false = refl

      opened : (os : List Opened) (q : ℕ) (b : Bool) → pick b (ok (heads_of os) q) (refuse 6 q 0 0) ≡ map_res heads_of (pick b (ok os q) (refuse 6 q 0 0))
      opened os q true = refl
      opened os q false = refl

      -- one level, and nothing around it
      alone : (o : Opened) (m : Res (List Row)) → marks (then (then m (λ rs e. ok (row_at o.head 0 e ∷ rs) e)) (λ rs q. pick (eqb q (length s)) (ok rs q) (refuse 6 q 0 0)))
          ≡ then (marks (then m (λ rs q. ok (rs ++ []) q))) (λ hs e. pick (eqb e (length s)) (ok (o.head ∷ hs) e) (refuse 6 e 0 0))
      alone o (ok rs e) = closing (row_at o.head 0 e ∷ rs) e (eqb e (length s)) ∙ ap (λ (l : List Row). pick (eqb e (length s)) (ok (o.head ∷ map head_of l) e) (refuse 6 e 0 0)) (sym (append-nil rs))
      alone o (refuse x y r f) = refl

      mapped : (o : Opened) (m : Res (List Opened)) → then (map_res heads_of m) (λ hs e. pick (eqb e (length s)) (ok (o.head ∷ hs) e) (refuse 6 e 0 0))
          ≡ map_res heads_of (then m (λ os e. pick (eqb e (length s)) (ok (o ∷ os) e) (refuse 6 e 0 0)))
      mapped o (ok os e) = opened (o ∷ os) e (eqb e (length s))
      mapped o (refuse x y r f) = refl

      go : (m : Res Opened) → Accepts (Past s 17) m
          → marks (then (then m (λ o q. then (siblings (member o.below 32 0) o.count 1 s q) (λ rs e. ok (row_at o.head 0 e ∷ rs) e))) (λ rs q. pick (eqb q (length s)) (ok rs q) (refuse 6 q 0 0)))
          ≡ map_res heads_of (then m (λ o q. then (many over after next_head (settled ((o.below, o.count) ∷ [])) s q) (λ os e. pick (eqb e (length s)) (ok (o ∷ os) e) (refuse 6 e 0 0))))
      go (ok o q) (yes a r g) =
          alone o (siblings (member o.below 32 0) o.count 1 s q)
          ∙ ap (λ (m : Res (List Head)). then m (λ hs e. pick (eqb e (length s)) (ok (o.head ∷ hs) e) (refuse 6 e 0 0))) (heads-under s (suc (length s)) ((o.below, o.count, 0) ∷ []) 1 q g.high (omega (arith, g.low)))
          ∙ mapped o (many over after next_head (settled ((o.below, o.count) ∷ [])) s q)
      go (refuse x y r f) z = refl

  -- the heads of the rows of the recursive reading are the heads one after the other, and so are the refusals
  pub heads_are : map_res (map head_of) (descriptor s) ≡ map_res heads_of (file_heads s)
  unfolding descriptor file_heads
  heads_are = go (leb (length s) limit)
    where
      go : (b : Bool) → marks (pick b (whole s 0) (refuse 1 0 0 0)) ≡ map_res heads_of (pick b (whole_heads s 0) (refuse 1 0 0 0))
      go true = whole-heads
      go false = refl

-- the rows of the recursive reading are the rows of the heads, and its refusals theirs
pub rows_are : (s : List ℕ) → descriptor s ≡ map_res (rows_of (length s)) (file_heads s)
rows_are s = go (descriptor s) refl ∙ ap (map_res (rows_from (length s) 0 (λ j. 0))) (heads_are s) ∙ twice (file_heads s)
  where
    go : (m : Res (List Row)) → descriptor s ≡ m → m ≡ map_res (rows_from (length s) 0 (λ j. 0)) (map_res (map head_of) m)
    go (ok rs q) e = ap (λ (l : List Row). ok l q) (sym (tiled-rows (length s) (rows-laid s rs q e).tiled))
    go (refuse x y r f) e = refl

    twice : (m : Res (List Opened)) → map_res (rows_from (length s) 0 (λ j. 0)) (map_res heads_of m) ≡ map_res (rows_of (length s)) m
    twice (ok os q) = refl
    twice (refuse x y r f) = refl
