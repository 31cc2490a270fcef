-- A row whose value has one length: the value ends where the row ends, and the next row begins there. Read again with another such value, its head is the same. Assumes nothing.
use Prim.Native.Nat.{ℕ, zero, suc, ◌+◌, ◌-◌, ◌≤◌, ◌<◌}
use mathlib.Core.Path.{◌≡◌, refl, sym, ap, ◌∙◌, subst}
use mathlib.Core.List.{List, [], ◌∷◌}
use mathlib.Core.Bool.{Bool, true, false}
use lib.Dec.{leb, eqb}
use lib.ListN.{length}
use borrow.Author.Tests.{le-leb}
use native.Mathlib.Omega.{arith}
use Rattle.algebra.specs.Chars.{chars}
use Rattle.algebra.specs.Reader.{Res, ok, refuse, Reader, then, pick, field, body, fine, unless, judged, until, many, map_res, limit}
use Rattle.algebra.specs.Algebra.{Same}
use Rattle.algebra.specs.Refusal.{Of, among}
use Rattle.algebra.proofs.Inverse.{clash, then-inv, done-inv, pick_inv, ended-inv, body-inv, judged-inv, field-inv, ok-value, ok-place}
use Rattle.algebra.proofs.Lawful.{same_left, same-right}
use Rattle.algebra.proofs.Placed.{of-each}
use Rattle.descriptor.specs.Reading.{Known, is, unknown, known, skip, id, class, boolean, flag, bits, double, unit, unit_double, Sort, leaf, sort_of, form_of, ref_value, column, column_type, Row, version, descriptor}
use Rattle.descriptor.proofs.Ends.{accepted}
use Rattle.descriptor_heads.specs.Heads.{Due, items, pairs, forms, columns, Opened, bare, opens, item_head, member_head, deepest, head_at, Stack, over, next_head, settled, after, root_head, whole_heads, file_heads}
use Rattle.descriptor_heads.specs.Rows.{row_end, now_under, rows_from, heads_of, rows_of}
use Rattle.descriptor_heads.specs.Changed.{scalars}
use Rattle.descriptor_heads.proofs.Past.{head-inv, root-past, head-past}
use Rattle.descriptor_heads.proofs.Local.{field-lawful, id-lawful}
use Rattle.descriptor_heads.proofs.Scalars.{head-behind}
use Rattle.descriptor_heads.proofs.Theorem.{rows_are}

-- ---- kinds

-- how many bytes a value of such a kind has
abbrev pub width_of : ℕ → ℕ
width_of t = pick (eqb t (chars "bool")) 1 (pick (eqb t (chars "long")) 4 (pick (eqb t (chars "UntF")) 12 8))

abbrev Wide : ℕ → Reader Unit → Type 0
Wide w p = (s : List ℕ) (at q : ℕ) → p s at ≡ ok tt q → at + w ≡ q

flag-wide : Wide 1 flag
unfolding flag
flag-wide s at q e = let i = done-inv (judged 1 boolean s at) e in (judged-inv 1 s at boolean i.1).2

double-wide : Wide 8 double
unfolding double
double-wide s at q e = let i = done-inv (judged 8 bits s at) e in (judged-inv 8 s at bits i.1).2

skip-wide : (n : ℕ) → Wide n (skip n)
skip-wide n s at q e = let i = done-inv (body 1 n s at) e in omega (arith, (body-inv 1 s at n i.1).2)

unit-wide : Wide 12 unit_double
unfolding unit_double
unit-wide s at q e =
    let t = then-inv (judged 4 unit s at) _ e in
    omega (arith, (judged-inv 4 s at unit t.2).2, double-wide s t.1 q t.3)

-- such a kind is a type without members, no form, and not `UnFl`
pub record Scalar (t : ℕ) : Type 0 where
  pub value : Reader Unit
  pub type : sort_of t ≡ is (leaf value)
  pub wide : Wide (width_of t) value
  pub form : form_of t ≡ unknown
  pub other : eqb t (chars "UnFl") ≡ false

pub scalar : {t : ℕ} → Of scalars t → Scalar t
unfolding sort_of form_of
scalar h =
    of-each Scalar scalars (
      record { value = flag; type = refl; wide = flag-wide; form = refl; other = refl },
      (
        record { value = skip 4; type = refl; wide = skip-wide 4; form = refl; other = refl },
        (
          record { value = skip 8; type = refl; wide = skip-wide 8; form = refl; other = refl },
          (
            record { value = double; type = refl; wide = double-wide; form = refl; other = refl },
            (record { value = unit_double; type = refl; wide = unit-wide; form = refl; other = refl }, tt),
          ),
        ),
      ),
    )
    h

-- ---- one head

known-inv : {A B : Type 0} (m : Known A) (p : ℕ) (f : A → Res B) {b : B} {q : ℕ} → known m p f ≡ ok b q → (a : A) × (m ≡ is a) × (f a ≡ ok b q)
known-inv (is a) p f e = (a, refl, e)
known-inv unknown p f e = clash e

is_same : {A : Type 0} {a b : A} → is a ≡ is b → a ≡ b
is_same e = cc

-- the head of such a row, read by m of a file, as far as its end q
pub record Single (s : List ℕ) (m : List ℕ → Res Opened) (at : ℕ) (o : Opened) (q : ℕ) (p : Reader Unit) : Type 0 where
  -- it has no child
  pub none : o.count ≡ 0
  -- its value is read
  pub own : p s o.head.value ≡ ok tt q
  -- and another file that has the same bytes before the value, and a value that is read as far, has the same head
  pub again : (u : List ℕ) → Same s u at o.head.value → p u o.head.value ≡ ok tt q → m u ≡ ok o q

item-single : (s : List ℕ) (d first at : ℕ) (o : Opened) (q : ℕ) → at ≤ length s → item_head d first s at ≡ ok o q → (k : Of scalars o.head.kind) → (at + 4 ≡ o.head.value) × (at + 4 ≤ length s) × Single s (λ u. item_head d first u at) at o q (scalar k).value
unfolding item_head
item-single s d first at o q le e k =
    let x = then-inv (field 4 s at) _ e in
    let y = known-inv (sort_of x.0) at _ x.3 in
    let z = then-inv (opens y.0 s x.1) _ y.2 in
    let i = field-inv 4 s at x.2 in
    let kt : o.head.kind ≡ x.0 = ap (λ (z : Opened). z.head.kind) (sym (ok-value z.3)) in
    let vt : o.head.value ≡ x.1 = ap (λ (z : Opened). z.head.value) (sym (ok-value z.3)) in
    let c = scalar k in
    let sort : y.0 ≡ leaf c.value = is_same (sym y.1 ∙ ap sort_of (sym kt) ∙ c.type) in
    let l = then-inv (c.value s x.1) _ (ap (λ (w : Sort). opens w s x.1) (sym sort) ∙ z.2) in
    let below : (items, 0) ≡ z.0 = ok-value l.3 in
    let end : l.1 ≡ q = ok-place l.3 ∙ ok-place z.3 in
    let whole : bare x.0 first d x.1 ≡ o = ap (λ (b : Due × ℕ). record { head = record { kind = x.0; first = first; depth = d; value = x.1 }; below = b.0; count = b.1 }) below ∙ ok-value z.3 in (
      i.2 ∙ sym vt,
      omega (arith, i.0, le),
      record {
        none = ap (λ (w : Opened). w.count) (sym whole);
        own = ap (c.value s) vt ∙ l.2 ∙ ap (λ (w : ℕ). ok tt w) end;
        again = λ u same h.
            let g : field 4 u at ≡ ok x.0 x.1 = (field-lawful 4).local s at le x.0 x.1 x.2 u (subst (Same s u at) vt same) in
            let r : opens (leaf c.value) u x.1 ≡ ok (items, 0) q = ap (λ (w : Res Unit). then w (λ b n. ok (items, 0) n)) (ap (c.value u) (sym vt) ∙ h) in
            ap (λ (w : Res ℕ). then w (λ t v. known (sort_of t) at (λ sort. then (opens sort u v) (λ o q. ok (record { head = record { kind = t; first = first; depth = d; value = v }; below = o.0; count = o.1 }) q)))) g
            ∙ ap (λ (w : Known Sort). known w at (λ sort. then (opens sort u x.1) (λ o q. ok (record { head = record { kind = x.0; first = first; depth = d; value = x.1 }; below = o.0; count = o.1 }) q))) (ap sort_of (sym kt) ∙ c.type)
            ∙ ap (λ (w : Res (Due × ℕ)). then w (λ o q. ok (record { head = record { kind = x.0; first = first; depth = d; value = x.1 }; below = o.0; count = o.1 }) q)) r
            ∙ ap (λ (w : Opened). ok w q) whole;
      },
    )

member-single : (s : List ℕ) (d : ℕ) (c : Due) (at : ℕ) (o : Opened) (q : ℕ) → at ≤ length s → member_head d c s at ≡ ok o q → (k : Of scalars o.head.kind) → Single s (λ u. member_head d c u at) at o q (scalar k).value
unfolding member_head
member-single s d items at o q le e k = (item-single s d at at o q le e k).2
member-single s d pairs at o q le e k =
    let x = then-inv (id s at) _ e in
    let w = id-lawful.moves s at le x.0 x.1 x.2 in
    let i = item-single s d at x.1 o q w.1 x.3 k in
    let g = i.2 in
    record {
      none = g.none;
      own = g.own;
      again = λ u same h.
          ap (λ (m : Res Unit). then m (λ a e. item_head d at u e)) (id-lawful.local s at le x.0 x.1 x.2 u (same_left same x.1 (omega (arith, i.0))))
          ∙ g.again u (same-right same x.1 w.0) h;
    }
member-single s d forms at o q le e k =
    let x = then-inv (field 4 s at) _ e in
    let y = known-inv (form_of x.0) at _ x.3 in
    let z = then-inv (ref_value y.0 s x.1) _ y.2 in
    let t : o.head.kind ≡ x.0 = ap (λ (w : Opened). w.head.kind) (sym (ok-value z.3)) in
    absurd (not_known (sym (scalar k).form ∙ ap form_of t ∙ y.1))
  where
    not_known : {r : Reader Unit} → unknown ≡ is r → ⊥
    not_known h = let z : ◌≡◌ {A = ℕ} 0 1 = cc in omega arith
member-single s d (columns m) at o q le e k =
    let x = then-inv (id s at) _ e in
    let y = then-inv (judged 4 column_type s x.1) _ x.3 in
    let z = then-inv (column m s y.1) _ y.3 in
    let t : o.head.kind ≡ y.0 = ap (λ (w : Opened). w.head.kind) (sym (ok-value z.3)) in
    absurd (not-column (eqb y.0 (chars "UnFl")) (judged-inv 4 s x.1 column_type y.2).3 (ap (λ (w : ℕ). eqb w (chars "UnFl")) (sym t) ∙ (scalar k).other))
  where
    not-column : (b : Bool) → unless b 4 ≡ fine → b ≡ false → ⊥
    not-column true h g = let z : ◌≡◌ {A = ℕ} 0 1 = cc in omega arith
    not-column false h g = let z : ◌≡◌ {A = ℕ} 0 1 = cc in omega arith

pub head-single : (s : List ℕ) (d : ℕ) (c : Due) (at : ℕ) (o : Opened) (q : ℕ) → at ≤ length s → head_at d c s at ≡ ok o q → (k : Of scalars o.head.kind) → Single s (λ u. head_at d c u at) at o q (scalar k).value
unfolding head_at
head-single s d c at o q le e k =
    let i = pick_inv (leb d deepest) (member_head d c s at) 10 at 0 0 e in
    let g = member-single s d c at o q le i.1 k in
    record { none = g.none; own = g.own; again = λ u same h. ap (λ (b : Bool). pick b (member_head d c u at) (refuse 10 at 0 0)) i.0 ∙ g.again u same h }

-- ---- heads one after the other

settled-length : (st : Stack) → length (settled st) ≤ length st
settled-length [] = omega arith
settled-length ((c, zero) ∷ st) = omega (arith, settled-length st)
settled-length ((c, suc n) ∷ st) = omega arith

pub leaf-length : (x : Due × ℕ) (st : Stack) (o : Opened) → o.count ≡ 0 → length (after (x ∷ st) o) ≤ suc (length st)
leaf-length x st o e = go o.count e
  where
    go : (n : ℕ) → n ≡ 0 → length (settled ((o.below, n) ∷ (x.0, x.1 - 1) ∷ st)) ≤ suc (length st)
    go zero e = settled-length ((x.0, x.1 - 1) ∷ st)
    go (suc n) e = absurd (omega arith)

-- where the next begins, in a file that ends at e
abbrev begin : ℕ → List Opened → ℕ
begin e [] = e
begin e (o ∷ os) = o.head.first

-- such a head's row ends behind its value, and where the next begins
abbrev Alone : ℕ → List Opened → Type 0
Alone e [] = Unit {0}
Alone e (o ∷ os) =
    (Of scalars o.head.kind → (o.head.first ≤ o.head.value) × (o.head.value + width_of o.head.kind ≡ row_end o.head.depth (heads_of os) e) × (row_end o.head.depth (heads_of os) e ≡ begin e os)) × Alone e os

module _ (s : List ℕ) where
  abbrev pub reads : ℕ → Stack → ℕ → Res (List Opened)
  reads n st at = until over after next_head n st s at

  -- the next head, and what is left
  pub record Turn (n : ℕ) (x : Due × ℕ) (st : Stack) (at : ℕ) (os : List Opened) (q : ℕ) : Type 0 where
    pub o : Opened
    pub r : ℕ
    pub more : List Opened
    pub head : head_at (suc (length st)) x.0 s at ≡ ok o r
    pub rest : reads n (after (x ∷ st) o) r ≡ ok more q
    pub all : o ∷ more ≡ os

  pub turn : (n : ℕ) (x : Due × ℕ) (st : Stack) (at : ℕ) (os : List Opened) (q : ℕ) → reads (suc n) (x ∷ st) at ≡ ok os q → Turn n x st at os q
  unfolding until
  turn n x st at os q e =
      let a = then-inv (head_at (suc (length st)) x.0 s at) _ e in
      let b = then-inv (reads n (after (x ∷ st) a.0) a.1) _ a.3 in
      record { o = a.0; r = a.1; more = b.0; head = a.2; rest = b.2 ∙ ap (λ (k : ℕ). ok b.0 k) (ok-place b.3); all = ok-value b.3 }

  pub no-turn : (n : ℕ) (at : ℕ) (os : List Opened) (q : ℕ) → reads n [] at ≡ ok os q → ([] ≡ os) × (at ≡ q)
  unfolding until
  no-turn zero at os q e = (ok-value e, ok-place e)
  no-turn (suc n) at os q e = (ok-value e, ok-place e)

  -- where a row of no child ends: at its head's end, and there the next begins
  pub leaf-end : (n : ℕ) (st : Stack) (at d : ℕ) (os : List Opened) (q : ℕ) → length s - at < n → reads n st at ≡ ok os q → q ≡ length s → length st ≤ d → (row_end d (heads_of os) (length s) ≡ at) × (begin (length s) os ≡ at)
  unfolding row_end
  leaf-end n [] at d os q w e z l =
      let i = no-turn n at os q e in
      (ap (λ (y : List Opened). row_end d (heads_of y) (length s)) (sym i.0) ∙ sym (i.1 ∙ z), ap (begin (length s)) (sym i.0) ∙ sym (i.1 ∙ z))
  leaf-end zero (x ∷ st) at d os q w e z l = absurd (omega arith)
  leaf-end (suc n) (x ∷ st) at d os q w e z l =
      let t = turn n x st at os q e in
      let h = head-inv s (suc (length st)) x.0 at t.o t.r t.head in
      let b : leb t.o.head.depth d ≡ true = le-leb t.o.head.depth d (omega (arith, h.3)) in (
        ap (λ (y : List Opened). row_end d (heads_of y) (length s)) (sym t.all) ∙ ap (λ (y : Bool). pick y t.o.head.first (row_end d (heads_of t.more) (length s))) b ∙ h.2,
        ap (begin (length s)) (sym t.all) ∙ h.2,
      )

  alone-turn : (n : ℕ) → ((st : Stack) (at : ℕ) (os : List Opened) (q : ℕ) → at ≤ length s → length s - at < n → reads n st at ≡ ok os q → q ≡ length s → Alone (length s) os)
      → (st : Stack) (at : ℕ) (os : List Opened) (q : ℕ) → at ≤ length s → length s - at < suc n → reads (suc n) st at ≡ ok os q → q ≡ length s → Alone (length s) os
  alone-turn n ih [] at os q le w e z = subst (Alone (length s)) (no-turn (suc n) at os q e).0 tt
  alone-turn n ih (x ∷ st) at os q le w e z =
      let t = turn n x st at os q e in
      let g = accepted (head-past s (suc (length st)) x.0 at le) t.o t.r t.head in
      let i = head-inv s (suc (length st)) x.0 at t.o t.r t.head in
      let b = head-behind s (suc (length st)) x.0 at t.o t.r le t.head in
      subst (Alone (length s)) t.all (
        λ k.
            let h = head-single s (suc (length st)) x.0 at t.o t.r le t.head k in
            let w1 = (scalar k).wide s t.o.head.value t.r h.own in
            let f = leaf-end n (after (x ∷ st) t.o) t.r t.o.head.depth t.more q (omega (arith, w, g.low, g.high)) t.rest z (omega (arith, leaf-length x st t.o h.none, i.3)) in
            (omega (arith, i.2, b.low), w1 ∙ sym f.0, f.0 ∙ sym f.1),
        ih (after (x ∷ st) t.o) t.r t.more q g.high (omega (arith, w, g.low, g.high)) t.rest z,
      )

  alone : (n : ℕ) (st : Stack) (at : ℕ) (os : List Opened) (q : ℕ) → at ≤ length s → length s - at < n → reads n st at ≡ ok os q → q ≡ length s → Alone (length s) os
  alone zero st at os q le w e z = absurd (omega arith)
  alone (suc n) st at os q le w e z = alone-turn n (alone n) st at os q le w e z

-- ---- the file

-- the root's head and all others, to the end
pub record File (f : List ℕ) (os : List Opened) : Type 0 where
  pub o : Opened
  pub r : ℕ
  pub more : List Opened
  pub short : leb (length f) limit ≡ true
  pub head : root_head f 0 ≡ ok o r
  pub rest : many over after next_head (settled ((o.below, o.count) ∷ [])) f r ≡ ok more (length f)
  pub all : o ∷ more ≡ os

pub file-inv : (f : List ℕ) (os : List Opened) (q : ℕ) → file_heads f ≡ ok os q → File f os
unfolding file_heads whole_heads
file-inv f os q e =
    let p = pick_inv (leb (length f) limit) (whole_heads f 0) 1 0 0 0 e in
    let a = then-inv (root_head f 0) _ p.1 in
    let b = then-inv (many over after next_head (settled ((a.0.below, a.0.count) ∷ [])) f a.1) _ a.3 in
    let c = ended-inv (a.0 ∷ b.0) f b.1 b.3 in
    record { o = a.0; r = a.1; more = b.0; short = p.0; head = a.2; rest = b.2 ∙ ap (λ (k : ℕ). ok b.0 k) c.0; all = c.1 }

pub root-kind : (f : List ℕ) (o : Opened) (r : ℕ) → root_head f 0 ≡ ok o r → o.head.kind ≡ chars "Objc"
unfolding root_head
root-kind f o r e =
    let a = then-inv (judged 4 version f 0) _ e in
    let b = then-inv (class f a.1) _ a.3 in
    let c = then-inv (field 4 f b.1) _ b.3 in
    ap (λ (y : Opened). y.head.kind) (sym (ok-value c.3))

pub no-root : Of scalars (chars "Objc") → ⊥
no-root (among e) = let z : ◌≡◌ {A = ℕ} 0 1 = cc in omega arith

file-alone : (s : List ℕ) (os : List Opened) (q : ℕ) → file_heads s ≡ ok os q → Alone (length s) os
file-alone s os q e =
    let a = file-inv s os q e in
    let g = accepted (root-past s) a.o a.r a.head in
    subst (Alone (length s)) a.all (
      λ k. absurd (no-root (subst (Of scalars) (root-kind s a.o a.r a.head) k)),
      alone s (suc (length s)) (settled ((a.o.below, a.o.count) ∷ [])) a.r a.more (length s) g.high (omega arith) a.rest refl,
    )

-- ---- rows

-- where the next row begins, in a file that ends at e
abbrev pub begins : ℕ → List Row → ℕ
begins e [] = e
begins e (r ∷ rs) = r.first

-- such a row's value ends where it ends, and there the next row begins
abbrev pub Singles : ℕ → List Row → Type 0
Singles e [] = Unit {0}
Singles e (r ∷ rs) = (Of scalars r.kind → (r.value + width_of r.kind ≡ r.first + r.size) × (r.first + r.size ≡ begins e rs)) × Singles e rs

rows-alone : (e k : ℕ) (up : ℕ → ℕ) (os : List Opened) → Alone e os → Singles e (rows_from e k up (heads_of os))
unfolding rows_from
rows-alone e k up [] h = tt
rows-alone e k up (o ∷ os) h = (
  λ w.
      let g = h.0 w in
      let x : o.head.first + (row_end o.head.depth (heads_of os) e - o.head.first) ≡ row_end o.head.depth (heads_of os) e = omega (arith, g.0, g.1) in
      (g.1 ∙ sym x, x ∙ g.2 ∙ next (k + 1) (now_under up (o.head.depth + 1) k) os),
  rows-alone e (k + 1) (now_under up (o.head.depth + 1) k) os h.1,
)
  where
    next : (j : ℕ) (up : ℕ → ℕ) (os : List Opened) → begin e os ≡ begins e (rows_from e j up (heads_of os))
    next j up [] = refl
    next j up (o ∷ os) = refl

pub mapped : {A B : Type 0} (g : A → B) (m : Res A) {b : B} {q : ℕ} → map_res g m ≡ ok b q → (a : A) × (m ≡ ok a q) × (g a ≡ b)
mapped g (ok a n) e = (a, ap (λ (k : ℕ). ok a k) (ok-place e), ok-value e)
mapped g (refuse x p r f) e = clash e

-- of an accepted file
pub singles : (s : List ℕ) (rs : List Row) (q : ℕ) → descriptor s ≡ ok rs q → Singles (length s) rs
singles s rs q e =
    let a = mapped (rows_of (length s)) (file_heads s) (sym (rows_are s) ∙ e) in
    subst (Singles (length s)) a.2 (rows-alone (length s) 0 (λ j. 0) a.0 (file-alone s a.0 q a.1))
