-- A loop over the heads of an accepted file: what holds before each head, and each kind of turn. Nothing here stores. Assumes nothing.
use Prim.Native.Nat.{ℕ, zero, suc, ◌+◌, ◌-◌, ◌≤◌, ◌<◌}
use mathlib.Core.Path.{◌≡◌, refl, sym, ap, ◌∙◌}
use mathlib.Core.List.{List, [], ◌∷◌}
use mathlib.Core.Bool.{Bool}
use lib.Dec.{eqb}
use lib.ListN.{length}
use borrow.Author.Tests.{le-leb, lt-leb, eq-eqb, ne_eqb}
use native.Mathlib.Omega.{arith}
use Rattle.algebra.specs.Reader.{Res, ok, refuse, pick, until, map_res}
use Rattle.algebra.proofs.Inverse.{clash, then-inv, ok-value, ok-place}
use Rattle.descriptor.proofs.Ends.{accepted}
use Rattle.descriptor_heads.specs.Heads.{Due, Head, Opened, Stack, over, next_head, settled, after, member_head, head_at}
use Rattle.descriptor_heads.specs.Rows.{row_end, heads_of}
use Rattle.descriptor_heads.proofs.Past.{head-past, head-inv, head-valued}
use Rattle.descriptor_heads.proofs.Tiles.{end-here}
use Rattle.descriptor_raw.specs.Raw.{due_of, Sees}
use Rattle.descriptor_raw.specs.declared.RawHead.{RawHead}
use Rattle.descriptor_columns.specs.Columns.{next_of}
use Rattle.descriptor_columns.specs.scaffold.Filling.{depths, heads_in, Begun, behind, rest}

-- ---- stacks

settled-length : (st : Stack) → length (settled st) ≤ length st
settled-length [] = omega arith
settled-length ((c, zero) ∷ st) = omega (arith, settled-length st)
settled-length ((c, suc n) ∷ st) = omega arith

-- a level that is not over stays
settled-left : (c : Due) (n : ℕ) (st : Stack) → (n ≡ 0 → ⊥) → settled ((c, n) ∷ st) ≡ (c, n) ∷ st
settled-left c zero st z = absurd (z refl)
settled-left c (suc n) st z = refl

settled-over : (c : Due) (n : ℕ) (st : Stack) → n ≡ 0 → settled ((c, n) ∷ st) ≡ settled st
settled-over c n st z = ap (λ (x : ℕ). settled ((c, x) ∷ st)) z

-- ---- next siblings

pub next-deeper : (n d : ℕ) (h : Head) (k : ℕ) (hs : List Head) → d < h.depth → next_of n d k (depths (h ∷ hs)) ≡ next_of n d (k + 1) (depths hs)
unfolding next_of
next-deeper n d h k hs l = ap (λ (b : Bool). pick b (pick (eqb h.depth d) k n) (next_of n d (k + 1) (depths hs))) (lt-leb h.depth d l)

next-same : (n d : ℕ) (h : Head) (k : ℕ) (hs : List Head) → h.depth ≡ d → next_of n d k (depths (h ∷ hs)) ≡ k
unfolding next_of
next-same n d h k hs l =
    ap (λ (b : Bool). pick b (pick (eqb h.depth d) k n) (next_of n d (k + 1) (depths hs))) (le-leb h.depth d (omega arith))
    ∙ ap (λ (b : Bool). pick b k n) (eq-eqb h.depth d l)

next-higher : (n d : ℕ) (h : Head) (k : ℕ) (hs : List Head) → h.depth < d → next_of n d k (depths (h ∷ hs)) ≡ n
unfolding next_of
next-higher n d h k hs l =
    ap (λ (b : Bool). pick b (pick (eqb h.depth d) k n) (next_of n d (k + 1) (depths hs))) (le-leb h.depth d (omega arith))
    ∙ ap (λ (b : Bool). pick b k n) (ne_eqb h.depth d (λ e. absurd (omega (arith, e, l))))

-- ---- before a head

-- under these levels, the innermost first, the heads hs are left, from the row k and the place `at` on, of a file of so many rows
pub record Walking (s : List ℕ) (rows : ℕ) (st : Stack) (k at : ℕ) (hs : List Head) : Type 0 where
  pub fuel : ℕ
  pub reads : heads_in fuel (settled st) s at ≡ ok hs (length s)
  pub enough : length s - at < fuel
  pub inside : at ≤ length s
  pub size : length s ≤ 16777216
  pub count : k + length hs ≡ rows
  pub few : rows ≤ 16777216
  pub deep : length st ≤ 33

-- one head: what the reader r saw of it, and what is left behind it
pub record Headed (s : List ℕ) (rows : ℕ) (c : Due) (n : ℕ) (st : Stack) (k at : ℕ) (hs : List Head) (r : RawHead) : Type 0 where
  pub h : Head
  pub more : List Head
  pub is : hs ≡ h ∷ more
  pub first : h.first ≡ at
  pub depth : h.depth ≡ suc (length st)
  pub kind : h.kind ≡ r.kind
  pub value : h.value ≡ r.value
  pub low : at + 5 ≤ r.end
  pub high : r.end ≤ length s
  pub valued : r.value ≤ r.end
  pub shallow : suc (length st) ≤ 32
  pub next : Walking s rows ((due_of r.what r.objects, r.count) ∷ (c, n - 1) ∷ st) (k + 1) r.end more

-- the head of the innermost level as the layout reads it
record Stepped (s : List ℕ) (c : Due) (n : ℕ) (st : Stack) (at : ℕ) (hs : List Head) : Type 0 where
  pub o : Opened
  pub q : ℕ
  pub more : List Head
  pub fuel : ℕ
  pub is : hs ≡ o.head ∷ more
  pub first : o.head.first ≡ at
  pub depth : o.head.depth ≡ suc (length st)
  pub shallow : suc (length st) ≤ 32
  pub low : at + 5 ≤ q
  pub high : q ≤ length s
  pub valued : o.head.value ≤ q
  pub enough : length s - q < fuel
  pub reads : heads_in fuel (settled ((o.below, o.count) ∷ (c, n - 1) ∷ st)) s q ≡ ok more (length s)
  pub found : member_head (suc (length st)) c s at ≡ ok o q

mapped : {A B : Type 0} (f : A → B) (m : Res A) {b : B} {q : ℕ} → map_res f m ≡ ok b q → (a : A) × (m ≡ ok a q) × (f a ≡ b)
mapped f (ok a r) e = (a, ap (λ (x : ℕ). ok a x) (ok-place e), ok-value e)
mapped f (refuse x p r g) e = clash e

module _ (s : List ℕ) where
  stepped : (f : ℕ) (c : Due) (n : ℕ) (st : Stack) (at : ℕ) (hs : List Head) → at ≤ length s → length s - at < f → heads_in f ((c, n) ∷ st) s at ≡ ok hs (length s) → Stepped s c n st at hs
  unfolding until
  stepped zero c n st at hs l w e = absurd (omega (arith, w))
  stepped (suc f) c n st at hs l w e =
      let m = mapped heads_of (until over after next_head (suc f) ((c, n) ∷ st) s at) e in
      let t = then-inv (head_at (suc (length st)) c s at) _ m.1 in
      let u = then-inv (until over after next_head f (settled ((t.0.below, t.0.count) ∷ (c, n - 1) ∷ st)) s t.1) _ t.3 in
      let i = head-inv s (suc (length st)) c at t.0 t.1 t.2 in
      let p = accepted (head-past s (suc (length st)) c at l) t.0 t.1 t.2 in
      record {
        o = t.0;
        q = t.1;
        more = heads_of u.0;
        fuel = f;
        is = sym (ap heads_of (ok-value u.3) ∙ m.2);
        first = i.2;
        depth = i.3;
        shallow = i.0;
        low = p.low;
        high = p.high;
        valued = head-valued s (suc (length st)) c at l t.0 t.1 i.1;
        enough = omega (arith, p.low, p.high, w);
        reads = ap (map_res heads_of) (u.2 ∙ ap (λ (x : ℕ). ok u.0 x) (ok-place u.3));
        found = i.1;
      }

  -- with none due there is no head
  no-heads : (f at : ℕ) (hs : List Head) (e : ℕ) → heads_in f [] s at ≡ ok hs e → (hs ≡ []) × (at ≡ e)
  unfolding until
  no-heads zero at hs e h = (sym (ok-value h), ok-place h)
  no-heads (suc f) at hs e h = (sym (ok-value h), ok-place h)

  -- a row at the depth d, with no deeper level left, ends here
  ends-here : (f : ℕ) (st : Stack) (at : ℕ) (hs : List Head) (d : ℕ) → at ≤ length s → length s - at < f → heads_in f st s at ≡ ok hs (length s) → length st ≤ d → row_end d hs (length s) ≡ at
  unfolding row_end
  ends-here f [] at hs d l w e g = let z = no-heads f at hs (length s) e in ap (λ (x : List Head). row_end d x (length s)) z.0 ∙ sym z.1
  ends-here f (x ∷ st) at hs d l w e g =
      let z = stepped f x.0 x.1 st at hs l w e in
      ap (λ (y : List Head). row_end d y (length s)) z.is ∙ end-here d z.o.head z.more (length s) (omega (arith, z.depth)) ∙ z.first

  -- and is the last where none is left at its own
  last-here : (f : ℕ) (st : Stack) (at : ℕ) (hs : List Head) (d n k : ℕ) → at ≤ length s → length s - at < f → heads_in f st s at ≡ ok hs (length s) → length st < d → next_of n d k (depths hs) ≡ n
  unfolding next_of
  last-here f [] at hs d n k l w e g = ap (λ (x : List Head). next_of n d k (depths x)) (no-heads f at hs (length s) e).0
  last-here f (x ∷ st) at hs d n k l w e g =
      let z = stepped f x.0 x.1 st at hs l w e in
      ap (λ (y : List Head). next_of n d k (depths y)) z.is ∙ next-higher n d z.o.head k z.more (omega (arith, z.depth))

  next_here : (f : ℕ) (x : Due × ℕ) (st : Stack) (at : ℕ) (hs : List Head) (d n k : ℕ) → at ≤ length s → length s - at < f → heads_in f (x ∷ st) s at ≡ ok hs (length s) → suc (length st) ≡ d → next_of n d k (depths hs) ≡ k
  next_here f x st at hs d n k l w e g =
      let z = stepped f x.0 x.1 st at hs l w e in
      ap (λ (y : List Head). next_of n d k (depths y)) z.is ∙ next-same n d z.o.head k z.more (z.depth ∙ g)

  closes : (f : ℕ) (c : Due) (n : ℕ) (st : Stack) (at : ℕ) (hs : List Head) (rows k : ℕ) → at ≤ length s → length s - at < f → heads_in f (settled ((c, n) ∷ st)) s at ≡ ok hs (length s)
      → (row_end (suc (length st)) hs (length s) ≡ at) × (next_of rows (suc (length st)) k (depths hs) ≡ pick (eqb n 0) rows k)
  closes f c zero st at hs rows k l w e =
      (ends-here f (settled st) at hs (suc (length st)) l w e (omega (arith, settled-length st)), last-here f (settled st) at hs (suc (length st)) rows k l w e (omega (arith, settled-length st)))
  closes f c (suc n) st at hs rows k l w e = (
    ends-here f ((c, suc n) ∷ st) at hs (suc (length st)) l w e (omega arith),
    next_here f (c, suc n) st at hs (suc (length st)) rows k l w e refl ∙ sym (ap (λ (b : Bool). pick b rows k) (ne_eqb (suc n) 0 (λ z. absurd (omega (arith, z))))),
  )

-- ---- turns

module _ {s : List ℕ} {rows k at : ℕ} {hs : List Head} where
  -- a level that is over ends
  pub walk-close : {c : Due} {n : ℕ} {st : Stack} → n ≡ 0 → Walking s rows ((c, n) ∷ st) k at hs → Walking s rows st k at hs
  walk-close {c} {n} {st} z g = record {
    fuel = g.fuel;
    reads = ap (λ (x : Stack). heads_in g.fuel x s at) (sym (settled-over c n st z)) ∙ g.reads;
    enough = g.enough;
    inside = g.inside;
    size = g.size;
    count = g.count;
    few = g.few;
    deep = omega (arith, g.deep);
  }

  -- with no level left the file is at its end
  pub walk_end : Walking s rows [] k at hs → (hs ≡ []) × (at ≡ length s)
  walk_end g = no-heads s g.fuel at hs (length s) g.reads

  -- a row that has just ended, where the level around it has n members left: its end, and its next sibling
  pub row_closes : {c : Due} {n : ℕ} {st : Stack} → Walking s rows ((c, n) ∷ st) k at hs → (row_end (suc (length st)) hs (length s) ≡ at) × (next_of rows (suc (length st)) k (depths hs) ≡ pick (eqb n 0) rows k)
  row_closes {c} {n} {st} g = closes s g.fuel c n st at hs rows k g.inside g.enough g.reads

  -- a member is left: its head
  pub walk-head : {c : Due} {n : ℕ} {st : Stack} → (n ≡ 0 → ⊥) → Walking s rows ((c, n) ∷ st) k at hs → (r : RawHead) → Sees (λ d. member_head d c s at) r → Headed s rows c n st k at hs r
  walk-head {c} {n} {st} z g r saw =
      let e = ap (λ (x : Stack). heads_in g.fuel x s at) (sym (settled-left c n st z)) ∙ g.reads in
      let t = stepped s g.fuel c n st at hs g.inside g.enough e in
      let x = saw.sees (suc (length st)) t.o t.q t.found in
      let y : t.q ≡ r.end = sym x.3 in
      let bl : t.o.below ≡ due_of r.what r.objects = sym x.1 in
      let ct : t.o.count ≡ r.count = sym x.2 in
      let ln : length hs ≡ suc (length t.more) = ap length t.is in
      let around : Stack = (c, n - 1) ∷ st in
      record {
        h = t.o.head;
        more = t.more;
        is = t.is;
        first = t.first;
        depth = t.depth;
        kind = sym x.0;
        value = sym x.4;
        low = omega (arith, t.low, y);
        high = omega (arith, t.high, y);
        valued = omega (arith, t.valued, y, x.4);
        shallow = t.shallow;
        next = record {
          fuel = t.fuel;
          reads =
              ap (λ (q : ℕ). heads_in t.fuel (settled ((due_of r.what r.objects, r.count) ∷ around)) s q) (sym y)
              ∙ ap (λ (d : Due). heads_in t.fuel (settled ((d, r.count) ∷ around)) s t.q) (sym bl)
              ∙ ap (λ (m : ℕ). heads_in t.fuel (settled ((t.o.below, m) ∷ around)) s t.q) (sym ct)
              ∙ t.reads;
          enough = omega (arith, t.enough, y);
          inside = omega (arith, t.high, y);
          size = g.size;
          count = omega (arith, g.count, ln);
          few = g.few;
          deep = omega (arith, t.shallow);
        };
      }

-- the loop begins
pub walk_start : (s : List ℕ) (what objects left at rows : ℕ) → Begun s what objects left at rows → Walking s rows ((due_of what objects, left) ∷ []) 1 at (rest s what objects left at)
walk_start s what objects left at rows g =
    let x : rest s what objects left at ≡ g.hs = ap behind g.reads in
    let n : length (rest s what objects left at) ≡ length g.hs = ap length x in
    record {
      fuel = suc (length s);
      reads = g.reads ∙ ap (λ (l : List Head). ok l (length s)) (sym x);
      enough = omega arith;
      inside = g.inside;
      size = g.size;
      count = omega (arith, n, g.count);
      few = g.few;
      deep = omega arith;
    }
