-- Two accepted files that differ in the value of one row of a kind whose value has one length have the same heads, and so the same rows: shown in lockstep over both. Assumes nothing.
use Prim.Native.Nat.{ℕ, zero, suc, ◌+◌, ◌-◌, ◌≤◌, ◌<◌}
use mathlib.Core.Path.{◌≡◌, refl, sym, ap, ap₂, ◌∙◌, subst}
use mathlib.Core.List.{List, [], ◌∷◌}
use mathlib.Core.Bool.{Bool, true}
use lib.Dec.{leb}
use lib.ListN.{length}
use borrow.Author.Tests.{le-leb}
use native.Mathlib.Omega.{arith}
use Rattle.algebra.specs.Chars.{chars}
use Rattle.algebra.specs.Reader.{Res, ok, refuse, pick, field, judged, until, many, map_res, limit}
use Rattle.algebra.specs.Algebra.{Same}
use Rattle.algebra.specs.Refusal.{Of, among}
use Rattle.algebra.proofs.Inverse.{clash, then-inv, pick_inv, ended-inv, ok-value, ok-place}
use Rattle.algebra.proofs.Until.{until-lawful}
use Rattle.descriptor.specs.Reading.{Row, class, version, descriptor}
use Rattle.descriptor.proofs.Ends.{accepted}
use Rattle.descriptor_heads.specs.Heads.{Due, Opened, head_at, Stack, over, next_head, settled, after, root_head, whole_heads, file_heads}
use Rattle.descriptor_heads.specs.Rows.{row_end, now_under, rows_from, heads_of, rows_of}
use Rattle.descriptor_heads.specs.Changed.{scalars, OneOf, here, later, Changed}
use Rattle.descriptor_heads.proofs.Past.{head-inv, root-past, head-past}
use Rattle.descriptor_heads.proofs.Local.{next-lawful, root-lawful}
use Rattle.descriptor_heads.proofs.Scalars.{head-agrees, head-behind}
use Rattle.descriptor_heads.proofs.Theorem.{rows_are}

-- ---- levels that are over go, and none comes

settled-length : (st : Stack) → length (settled st) ≤ length st
settled-length [] = omega arith
settled-length ((c, zero) ∷ st) = omega (arith, settled-length st)
settled-length ((c, suc n) ∷ st) = omega arith

leaf-length : (x : Due × ℕ) (st : Stack) (o : Opened) → o.count ≡ 0 → length (after (x ∷ st) o) ≤ suc (length st)
leaf-length x st o e = go o.count e
  where
    go : (n : ℕ) → n ≡ 0 → length (settled ((o.below, n) ∷ (x.0, x.1 - 1) ∷ st)) ≤ suc (length st)
    go zero e = settled-length ((x.0, x.1 - 1) ∷ st)
    go (suc n) e = absurd (omega arith)

module _ (s u : List ℕ) where
  abbrev reads : List ℕ → ℕ → Stack → ℕ → Res (List Opened)
  reads f n st at = until over after next_head n st f at

  blind : (st : Stack) (f g : List ℕ) (at : ℕ) → over st f at ≡ over st g at
  blind [] f g at = refl
  blind (x ∷ st) f g at = refl

  -- the next head, and what is left
  record Turn (f : List ℕ) (n : ℕ) (x : Due × ℕ) (st : Stack) (at : ℕ) (os : List Opened) (q : ℕ) : Type 0 where
    o : Opened
    r : ℕ
    more : List Opened
    head : head_at (suc (length st)) x.0 f at ≡ ok o r
    rest : reads f n (after (x ∷ st) o) r ≡ ok more q
    all : o ∷ more ≡ os

  turn : (f : List ℕ) (n : ℕ) (x : Due × ℕ) (st : Stack) (at : ℕ) (os : List Opened) (q : ℕ) → reads f (suc n) (x ∷ st) at ≡ ok os q → Turn f n x st at os q
  unfolding until
  turn f n x st at os q e =
      let a = then-inv (head_at (suc (length st)) x.0 f at) _ e in
      let b = then-inv (reads f n (after (x ∷ st) a.0) a.1) _ a.3 in
      record { o = a.0; r = a.1; more = b.0; head = a.2; rest = b.2 ∙ ap (λ (k : ℕ). ok b.0 k) (ok-place b.3); all = ok-value b.3 }

  none : (f : List ℕ) (n : ℕ) (at : ℕ) (os : List Opened) (q : ℕ) → reads f n [] at ≡ ok os q → ([] ≡ os) × (at ≡ q)
  unfolding until
  none f zero at os q e = (ok-value e, ok-place e)
  none f (suc n) at os q e = (ok-value e, ok-place e)

  -- where a row of no child ends: at its head's end
  leaf-end : (n : ℕ) (st : Stack) (at d : ℕ) (os : List Opened) (q : ℕ) → length s - at < n → at ≤ length s → reads s n st at ≡ ok os q → q ≡ length s → length st ≤ d → row_end d (heads_of os) (length s) ≡ at
  unfolding row_end
  leaf-end n [] at d os q w le e z l =
      let i = none s n at os q e in
      ap (λ (y : List Opened). row_end d (heads_of y) (length s)) (sym i.0) ∙ sym (i.1 ∙ z)
  leaf-end zero (x ∷ st) at d os q w le e z l = absurd (omega arith)
  leaf-end (suc n) (x ∷ st) at d os q w le e z l =
      let t = turn s n x st at os q e in
      let h = head-inv s (suc (length st)) x.0 at t.o t.r t.head in
      let b : leb t.o.head.depth d ≡ true = le-leb t.o.head.depth d (omega (arith, h.3)) in
      ap (λ (y : List Opened). row_end d (heads_of y) (length s)) (sym t.all) ∙ ap (λ (y : Bool). pick y t.o.head.first (row_end d (heads_of t.more) (length s))) b ∙ h.2

  -- ---- a row by its head: one of those that were read, and the row's end by those that follow

  pub data Stands (r : Row) : List Opened → Type 0 where
    this : (o : Opened) (more : List Opened) → o.head.kind ≡ r.kind → o.head.value ≡ r.value
        → o.head.first + (row_end o.head.depth (heads_of more) (length s) - o.head.first) ≡ r.first + r.size → Stands r (o ∷ more)
    that : (o : Opened) (more : List Opened) → Stands r more → Stands r (o ∷ more)

  stands : (k : ℕ) (up : ℕ → ℕ) (os : List Opened) (r : Row) → OneOf r (rows_from (length s) k up (heads_of os)) → Stands r os
  unfolding rows_from
  stands k up (o ∷ os) r (here e) = this o os (ap (λ (q : Row). q.kind) e) (ap (λ (q : Row). q.value) e) (ap (λ (q : Row). q.first + q.size) e)
  stands k up (o ∷ os) r (later h) = that o os (stands (k + 1) (now_under up (o.head.depth + 1) k) os r h)
  stands k up [] r x' = elim x' [ ]

  -- a row's value begins where its head is read, or behind that
  abbrev Later : ℕ → Stack → Type 0
  Later n st = (at : ℕ) (os : List Opened) (q : ℕ) (r : Row) → at ≤ length s → length s - at < n → reads s n st at ≡ ok os q → Stands r os → at ≤ r.value

  behind-turn : (n : ℕ) → ((st : Stack) → Later n st) → (st : Stack) → Later (suc n) st
  behind-turn n ih [] at os q r le w e h = nothing (none s (suc n) at os q e).0 h
    where
      nothing : {os : List Opened} → [] ≡ os → Stands r os → at ≤ r.value
      nothing e (this o more a b c) = let z : ◌≡◌ {A = ℕ} 0 1 = cc in absurd (omega arith)
      nothing e (that o more h) = let z : ◌≡◌ {A = ℕ} 0 1 = cc in absurd (omega arith)
  behind-turn n ih (x ∷ st) at os q r le w e h =
      let t = turn s n x st at os q e in
      let g = accepted (head-past s (suc (length st)) x.0 at le) t.o t.r t.head in
      go t.o t.more (head-behind s (suc (length st)) x.0 at t.o t.r le t.head).low
      (λ b. let z = ih (after (x ∷ st) t.o) t.r t.more q r g.high (omega (arith, g.low, g.high)) t.rest b in omega (arith, g.low))
      (subst (Stands r) (sym t.all) h)
    where
      go : (o : Opened) (more : List Opened) → at ≤ o.head.value → (Stands r more → at ≤ r.value) → Stands r (o ∷ more) → at ≤ r.value
      go o more b rec (this p l i j k) = omega (arith, j)
      go o more b rec (that p l h) = rec h

  row-behind : (n : ℕ) (st : Stack) → Later n st
  row-behind zero st at os q r le w e h = absurd (omega arith)
  row-behind (suc n) st at os q r le w e h = behind-turn n (row-behind n) st at os q r le w e h

  -- ---- in lockstep

  module _ (r : Row) (c : Changed s u r) where
    -- up to the value, and from the row's end on, the files agree
    same-before : (at q : ℕ) → q ≤ length s → q ≤ r.value → Same s u at q
    same-before at q l h = record { inside = omega (arith, c.size); bytes = λ k a b. c.before k (omega arith) }

    same-behind : (at q : ℕ) → q ≤ length s → r.first + r.size ≤ at → Same s u at q
    same-behind at q l h = record { inside = omega (arith, c.size); bytes = λ k a b. c.behind k (omega arith) }

    abbrev Agreed : ℕ → Stack → Type 0
    Agreed n st = (at : ℕ) (os os' : List Opened) (q q' : ℕ) → at ≤ length s → length s - at < n → reads s n st at ≡ ok os q → reads u n st at ≡ ok os' q' → q ≡ length s → Stands r os → os' ≡ os

    same_turn : (n : ℕ) → ((st : Stack) → Agreed n st) → (st : Stack) → Agreed (suc n) st
    same_turn n ih [] at os os' q q' le w e f z h = nothing (none s (suc n) at os q e).0 h
      where
        nothing : {ps : List Opened} → [] ≡ ps → Stands r ps → os' ≡ os
        nothing e (this o more a b c) = let z : ◌≡◌ {A = ℕ} 0 1 = cc in absurd (omega arith)
        nothing e (that o more h) = let z : ◌≡◌ {A = ℕ} 0 1 = cc in absurd (omega arith)
    same_turn n ih (x ∷ st) at os os' q q' le w e f z h =
        let t = turn s n x st at os q e in
        let t' = turn u n x st at os' q' f in
        let g = accepted (head-past s (suc (length st)) x.0 at le) t.o t.r t.head in
        go t t' g.low g.high (subst (Stands r) (sym t.all) h)
      where
        go : (t : Turn s n x st at os q) (t' : Turn u n x st at os' q') → at + 5 ≤ t.r → t.r ≤ length s → Stands r (t.o ∷ t.more) → os' ≡ os
        go t t' low high (that o more h) =
            let b = row-behind n (after (x ∷ st) t.o) t.r t.more q r high (omega arith) t.rest h in
            let k = (next-lawful (x ∷ st)).local s at le t.o t.r t.head u (same-before at t.r high b) in
            let oo : t.o ≡ t'.o = ok-value (sym k ∙ t'.head) in
            let rr : t.r ≡ t'.r = ok-place (sym k ∙ t'.head) in
            let m = ih (after (x ∷ st) t.o) t.r t.more t'.more q q' high (omega arith) t.rest (ap₂ (λ (y : Opened) (v : ℕ). reads u n (after (x ∷ st) y) v) oo rr ∙ t'.rest) z h in
            sym t'.all ∙ ap₂ (λ (y : Opened) (l : List Opened). y ∷ l) (sym oo) m ∙ t.all
        go t t' low high (this o more i j l) =
            let v = head-behind s (suc (length st)) x.0 at t.o t.r le t.head in
            let a = head-agrees s u (suc (length st)) x.0 at t.o t'.o t.r t'.r le t.head t'.head (subst (Of scalars) (sym i) c.kind) (same-before at t.o.head.value v.high (omega (arith, j))) in
            let d = head-inv s (suc (length st)) x.0 at t.o t.r t.head in
            let end = leaf-end n (after (x ∷ st) t.o) t.r t.o.head.depth t.more q (omega arith) high t.rest z (omega (arith, leaf-length x st t.o a.none, d.3)) in
            let bound : r.first + r.size ≡ t.r = omega (arith, l, end, d.2) in
            let k = (until-lawful over after next_head next-lawful blind n (after (x ∷ st) t.o)).local s t.r high t.more q t.rest u (same-behind t.r q (omega arith) (omega arith)) in
            let m : t'.more ≡ t.more = ok-value (sym t'.rest ∙ ap₂ (λ (y : Opened) (v : ℕ). reads u n (after (x ∷ st) y) v) a.head a.end ∙ k) in
            sym t'.all ∙ ap₂ (λ (y : Opened) (l : List Opened). y ∷ l) a.head m ∙ t.all

    same_from : (n : ℕ) (st : Stack) → Agreed n st
    same_from zero st at os os' q q' le w e f z h = absurd (omega arith)
    same_from (suc n) st at os os' q q' le w e f z h = same_turn n (same_from n) st at os os' q q' le w e f z h

-- ---- the file

-- the root's head and all others, to the end
record File (f : List ℕ) (os : List Opened) : Type 0 where
  o : Opened
  r : ℕ
  more : List Opened
  head : root_head f 0 ≡ ok o r
  rest : many over after next_head (settled ((o.below, o.count) ∷ [])) f r ≡ ok more (length f)
  all : o ∷ more ≡ os

file-inv : (f : List ℕ) (os : List Opened) (q : ℕ) → file_heads f ≡ ok os q → File f os
unfolding file_heads whole_heads
file-inv f os q e =
    let p = pick_inv (leb (length f) limit) (whole_heads f 0) 1 0 0 0 e in
    let a = then-inv (root_head f 0) _ p.1 in
    let b = then-inv (many over after next_head (settled ((a.0.below, a.0.count) ∷ [])) f a.1) _ a.3 in
    let c = ended-inv (a.0 ∷ b.0) f b.1 b.3 in
    record { o = a.0; r = a.1; more = b.0; head = a.2; rest = b.2 ∙ ap (λ (k : ℕ). ok b.0 k) c.0; all = c.1 }

root-kind : (f : List ℕ) (o : Opened) (r : ℕ) → root_head f 0 ≡ ok o r → o.head.kind ≡ chars "Objc"
unfolding root_head
root-kind f o r e =
    let a = then-inv (judged 4 version f 0) _ e in
    let b = then-inv (class f a.1) _ a.3 in
    let c = then-inv (field 4 f b.1) _ b.3 in
    ap (λ (y : Opened). y.head.kind) (sym (ok-value c.3))

no-root : Of scalars (chars "Objc") → ⊥
no-root (among e) = let z : ◌≡◌ {A = ℕ} 0 1 = cc in omega arith

-- two accepted files that differ in the value of one such row have the same heads
pub same-heads : (s u : List ℕ) (os os' : List Opened) (q q' : ℕ) → file_heads s ≡ ok os q → file_heads u ≡ ok os' q' → (r : Row) → OneOf r (rows_of (length s) os) → Changed s u r → os' ≡ os
same-heads s u os os' q q' e f r h c = go (file-inv s os q e) (file-inv u os' q' f) (stands s u 0 (λ j. 0) os r h)
  where
    go : File s os → File u os' → Stands s u r os → os' ≡ os
    go a b y = inner (subst (Stands s u r) (sym a.all) y)
      where
        inner : Stands s u r (a.o ∷ a.more) → os' ≡ os
        inner (this o more i j l) = absurd (no-root (subst (Of scalars) (sym i ∙ root-kind s a.o a.r a.head) c.kind))
        inner (that o more y) =
            let g = accepted (root-past s) a.o a.r a.head in
            let v = row-behind s u (suc (length s)) (settled ((a.o.below, a.o.count) ∷ [])) a.r a.more (length s) r g.high (omega arith) a.rest y in
            let k = root-lawful.local s 0 (omega arith) a.o a.r a.head u (same-before s u r c 0 a.r g.high v) in
            let oo : a.o ≡ b.o = ok-value (sym k ∙ b.head) in
            let rr : a.r ≡ b.r = ok-place (sym k ∙ b.head) in
            let n : suc (length u) ≡ suc (length s) = ap suc c.size in
            let rest : until over after next_head (suc (length s)) (settled ((a.o.below, a.o.count) ∷ [])) u a.r ≡ ok b.more (length u) =
            ap (λ (m : ℕ). until over after next_head m (settled ((a.o.below, a.o.count) ∷ [])) u a.r) (sym n)
            ∙ ap₂ (λ (z : Opened) (w : ℕ). many over after next_head (settled ((z.below, z.count) ∷ [])) u w) oo rr ∙ b.rest in
            let m = same_from s u r c (suc (length s)) (settled ((a.o.below, a.o.count) ∷ [])) a.r a.more b.more (length s) (length u) g.high (omega arith) a.rest rest refl y in
            sym b.all ∙ ap₂ (λ (z : Opened) (l : List Opened). z ∷ l) (sym oo) m ∙ a.all

-- and so the same rows
pub same_rows : (s u : List ℕ) (rs qs : List Row) (q q' : ℕ) → descriptor s ≡ ok rs q → descriptor u ≡ ok qs q' → (r : Row) → OneOf r rs → Changed s u r → qs ≡ rs
same_rows s u rs qs q q' e f r h c =
    let a = mapped (rows_of (length s)) (file_heads s) (sym (rows_are s) ∙ e) in
    let b = mapped (rows_of (length u)) (file_heads u) (sym (rows_are u) ∙ f) in
    sym b.2 ∙ ap₂ (λ (n : ℕ) (os : List Opened). rows_of n os) c.size (same-heads s u a.0 b.0 q q' a.1 b.1 r (subst (OneOf r) (sym a.2) h) c) ∙ a.2
  where
    mapped : {A B : Type 0} (g : A → B) (m : Res A) {b : B} {q : ℕ} → map_res g m ≡ ok b q → (a : A) × (m ≡ ok a q) × (g a ≡ b)
    mapped g (ok a n) e = (a, ap (λ (k : ℕ). ok a k) (ok-place e), ok-value e)
    mapped g (refuse x p r f) e = clash e
