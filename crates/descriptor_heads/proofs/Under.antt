-- Reading members under a stack by the recursive readers, and then the rest of the stack, is reading heads one after the other. Assumes nothing.
use Prim.Native.Nat.{ℕ, zero, suc, ◌+◌, ◌-◌, ◌≤◌, ◌<◌}
use mathlib.Core.Path.{◌≡◌, refl, sym, ap, ◌∙◌}
use mathlib.Core.List.{List, [], ◌∷◌, ◌++◌, append_assoc, map}
use mathlib.Core.Bool.{Bool, true, false}
use lib.Dec.{leb}
use lib.ListN.{length, length-append}
use borrow.Author.Tests.{le-leb, lt-leb}
use native.Mathlib.Omega.{arith}
use Rattle.algebra.specs.Reader.{Res, ok, refuse, Reader, then, pick, until, map_res}
use Rattle.descriptor.specs.Reading.{Row, siblings, item, keyed, ref_item, array_pair}
use Rattle.descriptor.proofs.Ends.{Accepts, yes, Past}
use Rattle.descriptor_heads.specs.Heads.{Due, items, pairs, forms, columns, Head, Opened, member_head, deepest, head_at, Stack, over, next_head, settled, after}
use Rattle.descriptor_heads.specs.Rows.{heads_of, head_of}
use Rattle.descriptor_heads.proofs.Members.{member, row_at, filled_out, headed-then}
use Rattle.descriptor_heads.proofs.Past.{head-past}

abbrev pub marks : Res (List Row) → Res (List Head)
marks m = map_res (map head_of) m

-- a level: what is due, how many, and the row in which they stand
abbrev pub Levels : Type 0
Levels = List (Due × ℕ × ℕ)

abbrev pub dues : Levels → Stack
dues [] = []
dues (x ∷ st) = (x.0, x.1) ∷ dues st

dues-length : (st : Levels) → length (dues st) ≡ length st
dues-length [] = refl
dues-length (x ∷ st) = ap suc (dues-length st)

-- the members of a stack by the recursive readers: a level's, and then those of the levels around it
abbrev pub under : Levels → ℕ → Reader (List Row)
under [] k s at = ok [] at
under (x ∷ st) k s at =
    then (siblings (member x.0 (32 - length st) x.2) x.1 k s at) (λ rs q.
    then (under st (k + length rs) s q) (λ qs e. ok (rs ++ qs) e))

-- what is left of a level after its first member
abbrev rest : List ℕ → (ℕ → Reader (List Row)) → ℕ → ℕ → Levels → List Row → ℕ → Res (List Row)
rest s f n k st rs q = then (siblings f n (k + length rs) s q) (λ qs e. then (under st (k + length rs + length qs) s e) (λ zs z. ok (rs ++ (qs ++ zs)) z))

module _ (s : List ℕ) where
  -- with no level left a member is refused, as its head is
  no-level : (c : Due) (p k at : ℕ) → member c 0 p k s at ≡ refuse 10 at 0 0
  unfolding item keyed ref_item array_pair
  no-level items p k at = refl
  no-level pairs p k at = refl
  no-level forms p k at = refl
  no-level (columns m) p k at = refl

  -- what is under a level, where the members of the level are read by f
  abbrev below : (ℕ → Reader (List Row)) → ℕ → Levels → ℕ → ℕ → Res (List Row)
  below f n st k at = then (siblings f n k s at) (λ rs q. then (under st (k + length rs) s q) (λ qs e. ok (rs ++ qs) e))

  append-three : (xs ys zs : List Row) → map head_of ((xs ++ ys) ++ zs) ≡ map head_of (xs ++ (ys ++ zs))
  append-three xs ys zs = ap (map head_of) (append_assoc xs ys zs)

  -- a row's children, its later siblings, and the rest
  joined : (f : ℕ → Reader (List Row)) (n k : ℕ) (st : Levels) (r : Row) (bs : List Row) (q : ℕ)
      → marks (then (then (siblings f n (k + length (r ∷ bs)) s q) (λ qs e. ok ((r ∷ bs) ++ qs) e)) (λ rs q. then (under st (k + length rs) s q) (λ qs e. ok (rs ++ qs) e)))
      ≡ map_res (λ (hs : List Head). head_of r ∷ hs) (marks (then (below f n st (k + 1 + length bs) q) (λ zs z. ok (bs ++ zs) z)))
  joined f n k st r bs q =
      let e : k + 1 + length bs ≡ k + length (r ∷ bs) = omega arith in
      ap (λ (j : ℕ). marks (then (then (siblings f n j s q) (λ qs e. ok ((r ∷ bs) ++ qs) e)) (λ rs q. then (under st (k + length rs) s q) (λ qs e. ok (rs ++ qs) e)))) (sym e)
      ∙ later (siblings f n (k + 1 + length bs) s q)
    where
      last : (qs : List Row) (m : Res (List Row)) → marks (then m (λ zs z. ok (((r ∷ bs) ++ qs) ++ zs) z)) ≡ map_res (λ (hs : List Head). head_of r ∷ hs) (marks (then (then m (λ zs z. ok (qs ++ zs) z)) (λ zs z. ok (bs ++ zs) z)))
      last qs (ok zs z) = ap (λ (l : List Head). ok (head_of r ∷ l) z) (append-three bs qs zs)
      last qs (refuse x y g h) = refl

      later : (m : Res (List Row)) → marks (then (then m (λ qs e. ok ((r ∷ bs) ++ qs) e)) (λ rs q. then (under st (k + length rs) s q) (λ qs e. ok (rs ++ qs) e)))
          ≡ map_res (λ (hs : List Head). head_of r ∷ hs) (marks (then (then m (λ rs q. then (under st (k + 1 + length bs + length rs) s q) (λ qs e. ok (rs ++ qs) e))) (λ zs z. ok (bs ++ zs) z)))
      later (ok qs e) =
          let x : k + length ((r ∷ bs) ++ qs) ≡ k + 1 + length bs + length qs = omega (arith, length-append bs qs) in
          ap (λ (j : ℕ). marks (then (under st j s e) (λ zs z. ok (((r ∷ bs) ++ qs) ++ zs) z))) x ∙ last qs (under st (k + 1 + length bs + length qs) s e)
      later (refuse x y g h) = refl

  -- one member with levels left
  levelled : (c : Due) (n p k at d : ℕ) (st : Levels)
      → marks (below (member c (suc d) p) (suc n) st k at)
      ≡ then (member_head (32 - d) c s at) (λ h q. map_res (λ (hs : List Head). h.head ∷ hs) (marks (then (siblings (member h.below d k) h.count (k + 1) s q) (λ bs e. then (below (member c (suc d) p) n st (k + 1 + length bs) e) (λ zs z. ok (bs ++ zs) z)))))
  unfolding siblings
  levelled c n p k at d st =
      ap (λ (m : Res (List Row)). marks (then (then m (λ rs q. then (siblings f n (k + length rs) s q) (λ qs e. ok (rs ++ qs) e))) (λ rs q. then (under st (k + length rs) s q) (λ qs e. ok (rs ++ qs) e)))) (headed-then s d p k c at)
      ∙ go (member_head (32 - d) c s at)
    where
      f : ℕ → Reader (List Row)
      f = member c (suc d) p

      children : (h : Opened) (m : Res (List Row))
          → marks (then (then (then m (λ rs e. ok (row_at h.head p e ∷ rs) e)) (λ rs q. then (siblings f n (k + length rs) s q) (λ qs e. ok (rs ++ qs) e))) (λ rs q. then (under st (k + length rs) s q) (λ qs e. ok (rs ++ qs) e)))
          ≡ map_res (λ (hs : List Head). h.head ∷ hs) (marks (then m (λ bs e. then (below f n st (k + 1 + length bs) e) (λ zs z. ok (bs ++ zs) z))))
      children h (ok bs e) = joined f n k st (row_at h.head p e) bs e
      children h (refuse x y r g) = refl

      go : (m : Res Opened)
          → marks (then (then (then m (filled_out s d p k)) (λ rs q. then (siblings f n (k + length rs) s q) (λ qs e. ok (rs ++ qs) e))) (λ rs q. then (under st (k + length rs) s q) (λ qs e. ok (rs ++ qs) e)))
          ≡ then m (λ h q. map_res (λ (hs : List Head). h.head ∷ hs) (marks (then (siblings (member h.below d k) h.count (k + 1) s q) (λ bs e. then (below f n st (k + 1 + length bs) e) (λ zs z. ok (bs ++ zs) z)))))
      go (ok h q) = children h (siblings (member h.below d k) h.count (k + 1) s q)
      go (refuse x y r g) = refl

  -- one member of a level: its head, and then all else
  pub step : (c : Due) (n p k at : ℕ) (st : Levels)
      → marks (under ((c, suc n, p) ∷ st) k s at) ≡ then (head_at (suc (length st)) c s at) (λ h q. map_res (λ (hs : List Head). h.head ∷ hs) (marks (under ((h.below, h.count, k) ∷ (c, n, p) ∷ st) (k + 1) s q)))
  unfolding head_at siblings
  step c n p k at st = go (32 - length st) refl
    where
      go : (l : ℕ) → 32 - length st ≡ l → marks (below (member c (32 - length st) p) (suc n) st k at)
          ≡ then (pick (leb (suc (length st)) deepest) (member_head (suc (length st)) c s at) (refuse 10 at 0 0)) (λ h q. map_res (λ (hs : List Head). h.head ∷ hs) (marks (under ((h.below, h.count, k) ∷ (c, n, p) ∷ st) (k + 1) s q)))
      go zero e =
          let a : leb (suc (length st)) deepest ≡ false = lt-leb (suc (length st)) deepest (omega arith) in
          ap (λ (l : ℕ). marks (below (member c l p) (suc n) st k at)) e
          ∙ ap (λ (m : Res (List Row)). marks (then (then m (λ rs q. then (siblings (member c 0 p) n (k + length rs) s q) (λ qs e. ok (rs ++ qs) e))) (λ rs q. then (under st (k + length rs) s q) (λ qs e. ok (rs ++ qs) e)))) (no-level c p k at)
          ∙ ap (λ (b : Bool). then (pick b (member_head (suc (length st)) c s at) (refuse 10 at 0 0)) (λ h q. map_res (λ (hs : List Head). h.head ∷ hs) (marks (under ((h.below, h.count, k) ∷ (c, n, p) ∷ st) (k + 1) s q)))) (sym a)
      go (suc d) e =
          let a : leb (suc (length st)) deepest ≡ true = le-leb (suc (length st)) deepest (omega arith) in
          let i : 32 - d ≡ suc (length st) = omega arith in
          let j : d ≡ 32 - suc (length st) = omega arith in
          ap (λ (l : ℕ). marks (below (member c l p) (suc n) st k at)) e
          ∙ levelled c n p k at d st
          ∙ ap (λ (x : ℕ). then (member_head x c s at) (λ h q. map_res (λ (hs : List Head). h.head ∷ hs) (marks (then (siblings (member h.below d k) h.count (k + 1) s q) (λ bs e. then (below (member c (suc d) p) n st (k + 1 + length bs) e) (λ zs z. ok (bs ++ zs) z)))))) i
          ∙ ap (λ (x : ℕ). then (member_head (suc (length st)) c s at) (λ h q. map_res (λ (hs : List Head). h.head ∷ hs) (marks (then (siblings (member h.below x k) h.count (k + 1) s q) (λ bs e. then (below (member c (suc d) p) n st (k + 1 + length bs) e) (λ zs z. ok (bs ++ zs) z)))))) j
          ∙ ap (λ (l : ℕ). then (member_head (suc (length st)) c s at) (λ h q. map_res (λ (hs : List Head). h.head ∷ hs) (marks (then (siblings (member h.below (32 - suc (length st)) k) h.count (k + 1) s q) (λ bs e. then (below (member c l p) n st (k + 1 + length bs) e) (λ zs z. ok (bs ++ zs) z)))))) (sym e)
          ∙ ap (λ (b : Bool). then (pick b (member_head (suc (length st)) c s at) (refuse 10 at 0 0)) (λ h q. map_res (λ (hs : List Head). h.head ∷ hs) (marks (under ((h.below, h.count, k) ∷ (c, n, p) ∷ st) (k + 1) s q)))) (sym a)

  -- a level that is over
  over-level : (c : Due) (p k at : ℕ) (st : Levels) → under ((c, 0, p) ∷ st) k s at ≡ under st k s at
  unfolding siblings
  over-level c p k at st = let z : k + 0 ≡ k = omega arith in ap (λ (j : ℕ). then (under st j s at) (λ qs e. ok qs e)) z ∙ same (under st k s at)
    where
      same : (m : Res (List Row)) → then m (λ qs e. ok qs e) ≡ m
      same (ok qs e) = refl
      same (refuse x y r f) = refl

  -- heads one after the other, where there may be as many as bytes are left, and one that fails
  abbrev Agree : ℕ → Levels → Type 0
  Agree f st = (k at : ℕ) → at ≤ length s → length s - at < f → marks (under st k s at) ≡ map_res heads_of (until over after next_head f (settled (dues st)) s at)

  turn : (f : ℕ) → ((st : Levels) → Agree f st) → (st : Levels) → Agree (suc f) st
  unfolding until
  turn f ih [] k at l w = refl
  turn f ih ((c, zero, p) ∷ st) k at l w = ap marks (over-level c p k at st) ∙ turn f ih st k at l w
  turn f ih ((c, suc n, p) ∷ st) k at l w =
      step c n p k at st
      ∙ go (head_at (suc (length st)) c s at) (head-past s (suc (length st)) c at l)
      ∙ ap (λ (x : ℕ). map_res heads_of (then (head_at (suc x) c s at) (λ o q. then (until over after next_head f (after ((c, suc n) ∷ dues st) o) s q) (λ os e. ok (o ∷ os) e)))) (sym (dues-length st))
    where
      mapped : (o : Opened) (m : Res (List Opened)) → map_res (λ (hs : List Head). o.head ∷ hs) (map_res heads_of m) ≡ map_res heads_of (then m (λ os e. ok (o ∷ os) e))
      mapped o (ok os e) = refl
      mapped o (refuse x y r g) = refl

      one_less : n ≡ suc n - 1
      one_less = omega arith

      go : (m : Res Opened) → Accepts (Past s (at + 5)) m → then m (λ o q. map_res (λ (hs : List Head). o.head ∷ hs) (marks (under ((o.below, o.count, k) ∷ (c, n, p) ∷ st) (k + 1) s q)))
          ≡ map_res heads_of (then m (λ o q. then (until over after next_head f (after ((c, suc n) ∷ dues st) o) s q) (λ os e. ok (o ∷ os) e)))
      go (ok o q) (yes a r g) =
          ap (λ (m : Res (List Head)). map_res (λ (hs : List Head). o.head ∷ hs) m) (ih ((o.below, o.count, k) ∷ (c, n, p) ∷ st) (k + 1) q g.high (omega (arith, g.low, g.high)))
          ∙ mapped o (until over after next_head f (settled ((o.below, o.count) ∷ (c, n) ∷ dues st)) s q)
          ∙ ap (λ (x : ℕ). map_res heads_of (then (until over after next_head f (settled ((o.below, o.count) ∷ (c, x) ∷ dues st)) s q) (λ os e. ok (o ∷ os) e))) one_less
      go (refuse x y r g) z = refl

  pub heads-under : (f : ℕ) (st : Levels) → Agree f st
  heads-under zero st k at l w = absurd (omega (arith, w))
  heads-under (suc f) st k at l w = turn f (heads-under f) st k at l w
