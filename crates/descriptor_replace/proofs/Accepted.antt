-- A file in which one value of one length is replaced by another that is read is accepted, with the same rows. Assumes nothing.
use Prim.Native.Nat.{ℕ, zero, suc, ◌+◌, ◌-◌, ◌≤◌, ◌<◌}
use mathlib.Core.Path.{◌≡◌, refl, sym, ap, ◌∙◌, subst}
use mathlib.Core.List.{List, [], ◌∷◌}
use mathlib.Core.Bool.{Bool, true}
use lib.Dec.{leb, eqb}
use lib.ListN.{length}
use borrow.Author.Tests.{eq-eqb}
use native.Mathlib.Omega.{arith}
use Rattle.algebra.specs.Reader.{Res, ok, refuse, Reader, then, pick, until, many, ended, map_res, limit}
use Rattle.algebra.specs.Algebra.{Same}
use Rattle.algebra.specs.Refusal.{Of}
use Rattle.algebra.proofs.Until.{until-turn, until-lawful}
use Rattle.descriptor.specs.Reading.{is, leaf, sort_of, Row, descriptor}
use Rattle.descriptor.proofs.Ends.{accepted}
use Rattle.descriptor_heads.specs.Heads.{Due, Opened, head_at, Stack, over, next_head, settled, after, root_head, whole_heads, file_heads}
use Rattle.descriptor_heads.specs.Rows.{row_end, now_under, rows_from, heads_of, rows_of}
use Rattle.descriptor_heads.specs.Changed.{scalars, OneOf, here, later, Changed}
use Rattle.descriptor_heads.proofs.Past.{head-inv, root-past, head-past}
use Rattle.descriptor_heads.proofs.Local.{next-lawful, root-lawful}
use Rattle.descriptor_heads.proofs.Scalars.{head-behind}
use Rattle.descriptor_heads.proofs.Theorem.{rows_are}
use Rattle.descriptor_changed.proofs.Singles.{scalar, head-single, leaf-length, reads, Turn, turn, no-turn, leaf-end, File, file-inv, root-kind, no-root, mapped}

-- a row by its head, in a file that ends at e
data Stands (e : ℕ) (r : Row) : List Opened → Type 0 where
  this : (o : Opened) (more : List Opened) → o.head.kind ≡ r.kind → o.head.value ≡ r.value
      → o.head.first + (row_end o.head.depth (heads_of more) e - o.head.first) ≡ r.first + r.size → Stands e r (o ∷ more)
  that : (o : Opened) (more : List Opened) → Stands e r more → Stands e r (o ∷ more)

stands : (e k : ℕ) (up : ℕ → ℕ) (os : List Opened) (r : Row) → OneOf r (rows_from e k up (heads_of os)) → Stands e r os
unfolding rows_from
stands e k up (o ∷ os) r (here h) = this o os (ap (λ (q : Row). q.kind) h) (ap (λ (q : Row). q.value) h) (ap (λ (q : Row). q.first + q.size) h)
stands e k up (o ∷ os) r (later h) = that o os (stands e (k + 1) (now_under up (o.head.depth + 1) k) os r h)
stands e k up [] r x' = elim x' [ ]

none-stands : {e : ℕ} {r : Row} {os : List Opened} → [] ≡ os → Stands e r os → ⊥
none-stands e (this o more a b c) = let z : ◌≡◌ {A = ℕ} 0 1 = cc in omega arith
none-stands e (that o more h) = let z : ◌≡◌ {A = ℕ} 0 1 = cc in omega arith

-- ---- a row's value begins where its head is read, or behind that

module _ (s : List ℕ) where
  abbrev Later : ℕ → Stack → Type 0
  Later n st = (at : ℕ) (os : List Opened) (q : ℕ) (r : Row) → at ≤ length s → length s - at < n → reads s n st at ≡ ok os q → Stands (length s) r os → at ≤ r.value

  behind-turn : (n : ℕ) → ((st : Stack) → Later n st) → (st : Stack) → Later (suc n) st
  behind-turn n ih [] at os q r le w e h = absurd (none-stands (no-turn s (suc n) at os q e).0 h)
  behind-turn n ih (x ∷ st) at os q r le w e h =
      let t = turn s n x st at os q e in
      let g = accepted (head-past s (suc (length st)) x.0 at le) t.o t.r t.head in
      go t.o t.more (head-behind s (suc (length st)) x.0 at t.o t.r le t.head).low
      (λ b. let z = ih (after (x ∷ st) t.o) t.r t.more q r g.high (omega (arith, w, g.low, g.high)) t.rest b in omega (arith, z, g.low))
      (subst (Stands (length s) r) (sym t.all) h)
    where
      go : (o : Opened) (more : List Opened) → at ≤ o.head.value → (Stands (length s) r more → at ≤ r.value) → Stands (length s) r (o ∷ more) → at ≤ r.value
      go o more b rec (this p l i j k) = omega (arith, b, j)
      go o more b rec (that p l h) = rec h

  row-behind : (n : ℕ) (st : Stack) → Later n st
  row-behind zero st at os q r le w e h = absurd (omega arith)
  row-behind (suc n) st at os q r le w e h = behind-turn n (row-behind n) st at os q r le w e h

-- ---- both files

blind : (st : Stack) (f g : List ℕ) (at : ℕ) → over st f at ≡ over st g at
blind [] f g at = refl
blind (x ∷ st) f g at = refl

joined-file : (u : List ℕ) (o : Opened) (p : ℕ) (more : List Opened) → leb (length u) limit ≡ true → root_head u 0 ≡ ok o p → many over after next_head (settled ((o.below, o.count) ∷ [])) u p ≡ ok more (length u) → file_heads u ≡ ok (o ∷ more) (length u)
unfolding file_heads whole_heads ended
joined-file u o p more short k w =
    ap (λ (b : Bool). pick b (then (root_head u 0) (λ o q. then (many over after next_head (settled ((o.below, o.count) ∷ [])) u q) (λ os e. pick (eqb e (length u)) (ok (o ∷ os) e) (refuse 6 e 0 0)))) (refuse 1 0 0 0)) short
    ∙ ap (λ (m : Res Opened). then m (λ o q. then (many over after next_head (settled ((o.below, o.count) ∷ [])) u q) (λ os e. pick (eqb e (length u)) (ok (o ∷ os) e) (refuse 6 e 0 0)))) k
    ∙ ap (λ (m : Res (List Opened)). then m (λ os e. pick (eqb e (length u)) (ok (o ∷ os) e) (refuse 6 e 0 0))) w
    ∙ ap (λ (b : Bool). pick b (ok (o ∷ more) (length u)) (refuse 6 (length u) 0 0)) (eq-eqb (length u) (length u) refl)

module _ (s u : List ℕ) (r : Row) (c : Changed s u r) (fresh : (p : Reader Unit) → sort_of r.kind ≡ is (leaf p) → p u r.value ≡ ok tt (r.first + r.size)) where
  same-before : (at q : ℕ) → q ≤ length s → q ≤ r.value → Same s u at q
  same-before at q l h = record { inside = omega (arith, l, c.size); bytes = λ k a b. c.before k (omega (arith, b, h)) }

  same-behind : (at q : ℕ) → q ≤ length s → r.first + r.size ≤ at → Same s u at q
  same-behind at q l h = record { inside = omega (arith, l, c.size); bytes = λ k a b. c.behind k (omega (arith, a, h)) }

  -- a head, and what is left
  joined : (n : ℕ) (x : Due × ℕ) (st : Stack) (at : ℕ) (o : Opened) (q : ℕ) (more : List Opened) (e : ℕ) → head_at (suc (length st)) x.0 u at ≡ ok o q → reads u n (after (x ∷ st) o) q ≡ ok more e → reads u (suc n) (x ∷ st) at ≡ ok (o ∷ more) e
  joined n x st at o q more e h g =
      until-turn over after next_head u n (x ∷ st) at refl
      ∙ ap (λ (m : Res Opened). then m (λ o q. then (reads u n (after (x ∷ st) o) q) (λ more e. ok (o ∷ more) e))) h
      ∙ ap (λ (m : Res (List Opened)). then m (λ more e. ok (o ∷ more) e)) g

  abbrev Again : ℕ → Stack → Type 0
  Again n st = (at : ℕ) (os : List Opened) (q : ℕ) → at ≤ length s → length s - at < n → reads s n st at ≡ ok os q → q ≡ length s → Stands (length s) r os → reads u n st at ≡ ok os q

  again-turn : (n : ℕ) → ((st : Stack) → Again n st) → (st : Stack) → Again (suc n) st
  again-turn n ih [] at os q le w e z h = absurd (none-stands (no-turn s (suc n) at os q e).0 h)
  again-turn n ih (x ∷ st) at os q le w e z h =
      let t = turn s n x st at os q e in
      let g = accepted (head-past s (suc (length st)) x.0 at le) t.o t.r t.head in
      go t g.low g.high (subst (Stands (length s) r) (sym t.all) h) ∙ ap (λ (l : List Opened). ok l q) t.all
    where
      go : (t : Turn s n x st at os q) → at + 5 ≤ t.r → t.r ≤ length s → Stands (length s) r (t.o ∷ t.more) → reads u (suc n) (x ∷ st) at ≡ ok (t.o ∷ t.more) q
      go t low high (that o more h) =
          let b = row-behind s n (after (x ∷ st) t.o) t.r t.more q r high (omega (arith, w, low, high)) t.rest h in
          let k = (next-lawful (x ∷ st)).local s at le t.o t.r t.head u (same-before at t.r high b) in
          joined n x st at t.o t.r t.more q k (ih (after (x ∷ st) t.o) t.r t.more q high (omega (arith, w, low, high)) t.rest z h)
      go t low high (this o more i j l) =
          let v = head-behind s (suc (length st)) x.0 at t.o t.r le t.head in
          let kd : Of scalars t.o.head.kind = subst (Of scalars) (sym i) c.kind in
          let a = head-single s (suc (length st)) x.0 at t.o t.r le t.head kd in
          let d = head-inv s (suc (length st)) x.0 at t.o t.r t.head in
          let end = (leaf-end s n (after (x ∷ st) t.o) t.r t.o.head.depth t.more q (omega (arith, w, low, high)) t.rest z (omega (arith, leaf-length x st t.o a.none, d.3))).0 in
          let bound : r.first + r.size ≡ t.r = omega (arith, l, end, d.2, low) in
          let val : (scalar kd).value u t.o.head.value ≡ ok tt t.r = ap ((scalar kd).value u) j ∙ fresh (scalar kd).value (ap sort_of (sym i) ∙ (scalar kd).type) ∙ ap (λ (y : ℕ). ok tt y) bound in
          let k = a.again u (same-before at t.o.head.value v.high (omega (arith, j))) val in
          let m = (until-lawful over after next_head next-lawful blind n (after (x ∷ st) t.o)).local s t.r high t.more q t.rest u (same-behind t.r q (omega (arith, z)) (omega (arith, bound))) in
          joined n x st at t.o t.r t.more q k m

  again-from : (n : ℕ) (st : Stack) → Again n st
  again-from zero st at os q le w e z h = absurd (omega arith)
  again-from (suc n) st at os q le w e z h = again-turn n (again-from n) st at os q le w e z h

  -- the whole file
  again-heads : (os : List Opened) (q : ℕ) → file_heads s ≡ ok os q → OneOf r (rows_of (length s) os) → file_heads u ≡ ok os (length u)
  again-heads os q e h = go (file-inv s os q e) (stands (length s) 0 (λ j. 0) os r h)
    where
      go : File s os → Stands (length s) r os → file_heads u ≡ ok os (length u)
      go a y = inner (subst (Stands (length s) r) (sym a.all) y)
        where
          inner : Stands (length s) r (a.o ∷ a.more) → file_heads u ≡ ok os (length u)
          inner (this o more i j l) = absurd (no-root (subst (Of scalars) (sym i ∙ root-kind s a.o a.r a.head) c.kind))
          inner (that o more y) =
              let g = accepted (root-past s) a.o a.r a.head in
              let v = row-behind s (suc (length s)) (settled ((a.o.below, a.o.count) ∷ [])) a.r a.more (length s) r g.high (omega arith) a.rest y in
              let k = root-lawful.local s 0 (omega arith) a.o a.r a.head u (same-before 0 a.r g.high v) in
              let m = again-from (suc (length s)) (settled ((a.o.below, a.o.count) ∷ [])) a.r a.more (length s) g.high (omega arith) a.rest refl y in
              let n : suc (length u) ≡ suc (length s) = ap suc c.size in
              let w : many over after next_head (settled ((a.o.below, a.o.count) ∷ [])) u a.r ≡ ok a.more (length u) =
              ap (λ (f : ℕ). until over after next_head f (settled ((a.o.below, a.o.count) ∷ [])) u a.r) n ∙ m ∙ ap (λ (z : ℕ). ok a.more z) (sym c.size) in
              joined-file u a.o a.r a.more (ap (λ (z : ℕ). leb z limit) c.size ∙ a.short) k w ∙ ap (λ (z : List Opened). ok z (length u)) a.all

  pub again-rows : (rs : List Row) (q : ℕ) → descriptor s ≡ ok rs q → OneOf r rs → descriptor u ≡ ok rs (length u)
  again-rows rs q e h =
      let a = mapped (rows_of (length s)) (file_heads s) (sym (rows_are s) ∙ e) in
      let k = again-heads a.0 q a.1 (subst (OneOf r) (sym a.2) h) in
      rows_are u ∙ ap (map_res (rows_of (length u))) k ∙ ap (λ (n : ℕ). ok (rows_of n a.0) (length u)) c.size ∙ ap (λ (x : List Row). ok x (length u)) a.2
