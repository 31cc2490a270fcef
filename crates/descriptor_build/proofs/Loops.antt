-- A loop that stores entries: what holds before each, and each kind of turn. Assumes nothing.
use Prim.Native.Nat.{ℕ, zero, suc, ◌+◌, ◌-◌, ◌≤◌, ◌<◌}
use mathlib.Core.Path.{◌≡◌, refl, sym, ap, ap₂, ◌∙◌, subst}
use mathlib.Core.List.{List, [], ◌∷◌, ◌++◌}
use mathlib.Core.Bool.{Bool}
use lib.ListN.{length, get_or, set, length-set}
use lib.Seq.{sets}
use borrow.Author.Tests.{lt-leb, le-leb}
use native.Mathlib.Omega.{arith}
use native.Mathlib.Decide.{ℕ_discrete}
use Rattle.algebra.specs.Numbers.{joined}
use Rattle.algebra.specs.Reader.{pick}
use Rattle.algebra.specs.Table.{row_at, rows}
use Rattle.algebra.proofs.Counted.{counted-turn, counted-end}
use Rattle.algebra.proofs.Storing.{peel}
use Rattle.descriptor_heads.specs.Heads.{Due, pairs, Stack, settled, deepest}
use Rattle.descriptor_raw.specs.Raw.{due_of}
use Rattle.descriptor_columns.specs.scaffold.Filling.{dues}
use Rattle.descriptor_columns.specs.declared.Level.{Level}
use Rattle.descriptor_columns.proofs.Levels.{nothing, levels, levels-length, levels-push, levels-pop, dues-length}
use Rattle.descriptor_entry.specs.declared.Field.{Field}
use Rattle.descriptor_entry.specs.declared.Field.TheVariants as f
use Rattle.descriptor_entry.specs.declared.Shape.{Shape}
use Rattle.descriptor_entry.specs.Pieces.{Piece, number, size, bytes, Fits}
use Rattle.descriptor_entry.specs.Shapes.{width, Entry, kind_of, pieces_of, column_shape, shape_of}
use Rattle.descriptor_entry.specs.Entries.{field_pieces, head_pieces, asks, next, member_pieces, ending}
use Rattle.descriptor_entry.proofs.Laws.{size-append, bytes-append, bytes-length, fits-left, fits-right, fits-join}
use Rattle.descriptor_entry_fields.proofs.Tables.{any-shape}
use Rattle.descriptor_build_judge.proofs.Turns.{entries_from, due, one-pieces, one-ending}
use Rattle.descriptor_build.specs.declared.Put.{Put}
use Rattle.descriptor_build.specs.scaffold.Putting.{Ready, Begun}
use Rattle.descriptor_build.proofs.Puts.{ready-left, ready-right, AtReady, AtPut}

abbrev pub lv : ℕ → ℕ → ℕ → Level
lv what objects left = due what objects left

-- ---- stacks

settled-left : (c : Due) (n : ℕ) (st : Stack) → (n ≡ 0 → ⊥) → settled ((c, n) ∷ st) ≡ (c, n) ∷ st
settled-left c zero st z = absurd (z refl)
settled-left c (suc n) st z = refl

settled-over : (c : Due) (n : ℕ) (st : Stack) → n ≡ 0 → settled ((c, n) ∷ st) ≡ settled st
settled-over c n st z = ap (λ (x : ℕ). settled ((c, x) ∷ st)) z

no_pieces : (es : List Entry) → member_pieces es [] ≡ []
unfolding member_pieces
no_pieces [] = refl
no_pieces (e ∷ es) = refl

deep-ending : (es : List Entry) (x : Due × ℕ) (st : Stack) → deepest < suc (length st) → ending es (x ∷ st) ≡ 10
unfolding ending
deep-ending [] x st h = ap (λ (b : Bool). pick b 2 10) (lt-leb (suc (length st)) deepest h)
deep-ending (e ∷ es) x st h = ap (λ (b : Bool). pick b (ending es (next (x ∷ st) e)) 10) (lt-leb (suc (length st)) deepest h)

short-ending : (x : Due × ℕ) (st : Stack) → suc (length st) ≤ deepest → ending [] (x ∷ st) ≡ 2
unfolding ending
short-ending x st h = ap (λ (b : Bool). pick b 2 10) (le-leb (suc (length st)) deepest h)

-- ---- the number of objects does not change what is stored

record Same (text : List ℕ) (ps qs : List Piece) : Type 0 where
  pub bytes_same : bytes text ps ≡ bytes text qs
  pub size_same : size ps ≡ size qs
  pub fits_same : Fits text ps → Fits text qs

field-same : (text : List ℕ) (m : ℕ) (e : Entry) (x : Field) → Same text (pieces_of m e x) (pieces_of 0 e x)
unfolding joined size
field-same text m e f.Nothing = record { bytes_same = refl; size_same = refl; fits_same = λ h. h }
field-same text m e (f.Word i) = record { bytes_same = refl; size_same = refl; fits_same = λ h. h }
field-same text m e f.Measure = record { bytes_same = refl; size_same = refl; fits_same = λ h. h }
field-same text m e f.ArrayMeasure = record { bytes_same = refl; size_same = refl; fits_same = λ h. h }
field-same text m e f.Flag = record { bytes_same = refl; size_same = refl; fits_same = λ h. h }
field-same text m e f.Wide = record { bytes_same = refl; size_same = refl; fits_same = λ h. h }
field-same text m e f.Double = record { bytes_same = refl; size_same = refl; fits_same = λ h. h }
field-same text m e (f.Id i) = record { bytes_same = refl; size_same = refl; fits_same = λ h. h }
field-same text m e (f.Text i) = record { bytes_same = refl; size_same = refl; fits_same = λ h. h }
field-same text m e (f.Run i) = record { bytes_same = refl; size_same = refl; fits_same = λ h. h }
field-same text m e (f.Doubles i) = record { bytes_same = refl; size_same = refl; fits_same = λ h. h }

both-same : (text : List ℕ) (ps qs rs ss : List Piece) → Same text ps qs → Same text rs ss → Same text (ps ++ rs) (qs ++ ss)
both-same text ps qs rs ss a b = record {
  bytes_same = bytes-append text ps rs ∙ ap₂ (λ (x y : List ℕ). x ++ y) a.bytes_same b.bytes_same ∙ sym (bytes-append text qs ss);
  size_same = omega (arith, size-append ps rs, size-append qs ss, a.size_same, b.size_same);
  fits_same = λ h. fits-join text qs ss (a.fits_same (fits-left text ps rs h)) (b.fits_same (fits-right text ps rs h));
}

fields-same : (text : List ℕ) (m : ℕ) (sh : Shape) (e : Entry) → Same text (field_pieces m sh e) (field_pieces 0 sh e)
unfolding field_pieces
fields-same text m sh e =
    both-same text _ _ _ _ (field-same text m e sh.first) (both-same text _ _ _ _ (field-same text m e sh.second) (both-same text _ _ _ _ (field-same text m e sh.third) (field-same text m e sh.fourth)))

itself : (text : List ℕ) (ps : List Piece) → Same text ps ps
itself text ps = record { bytes_same = refl; size_same = refl; fits_same = λ h. h }

front_same : (text : List ℕ) (ps : List Piece) (p : Piece) (rs ss : List Piece) → Same text rs ss → Same text (ps ++ (p ∷ rs)) (ps ++ (p ∷ ss))
front_same text ps p rs ss a = both-same text ps ps (p ∷ rs) (p ∷ ss) (itself text ps) (both-same text (p ∷ []) (p ∷ []) rs ss (itself text (p ∷ [])) a)

head-same : (text : List ℕ) (what m : ℕ) (e : Entry) → Same text (head_pieces (due_of what m) e) (head_pieces (due_of what 0) e)
unfolding head_pieces
head-same text zero m e = itself text _
head-same text (suc zero) m e = itself text _
head-same text (suc (suc zero)) m e = itself text _
head-same text (suc (suc (suc n))) m e =
    front_same text (pieces_of 0 e (f.Id 1)) (number 4 (kind_of e) (pick (column_shape (kind_of e)).known 0 4)) (field_pieces m (column_shape (kind_of e)) e) (field_pieces 0 (column_shape (kind_of e)) e) (fields-same text m (column_shape (kind_of e)) e)

-- ---- before each entry

module _ (text run : List ℕ) (n : ℕ) (out₀ all : List ℕ) (start : ℕ) where
  -- what is left to store from the entry k on, under a stack
  abbrev rest : ℕ → Stack → List Piece
  rest k st = member_pieces (entries_from run n k) st

  pub record Loop (out : List ℕ) (saved : List Level) (d : ℕ) (l : Level) (p k : ℕ) : Type 0 where
    pub is : sets out₀ start all ≡ sets out p (bytes text (rest k (settled (dues (l ∷ levels saved d)))))
    pub ready : Ready text (rest k (settled (dues (l ∷ levels saved d)))) p (length out)
    pub ends : ending (entries_from run n k) (settled (dues (l ∷ levels saved d))) ≡ 0
    pub low : k ≤ n
    pub deep : d ≤ 32
    pub room : length saved ≡ 33
    pub kept : length out ≡ length out₀

  from-turn : (k : ℕ) → k < n → entries_from run n k ≡ row_at width run k ∷ entries_from run n (k + 1)
  from-turn k h = counted-turn (λ i. row_at width run i) n k h

  from_end : (k : ℕ) → n ≤ k → entries_from run n k ≡ []
  from_end k h = counted-end (λ i. row_at width run i) n k h

  module _ {out : List ℕ} {saved : List Level} {d : ℕ} (l : Level) {p k : ℕ} (g : Loop out saved d l p k) where
    depth_is : length (dues (levels saved d)) ≡ d
    depth_is = dues-length (levels saved d) ∙ levels-length saved d

    pub turn_end : l.left ≡ 0 → d ≡ 0 → out ≡ sets out₀ start all
    unfolding joined
    turn_end zl zd =
        let st : settled (dues (l ∷ levels saved d)) ≡ [] = settled-over (due_of l.what l.objects) l.left (dues (levels saved d)) zl ∙ ap (λ (m : ℕ). settled (dues (levels saved m))) zd in
        let ps : rest k (settled (dues (l ∷ levels saved d))) ≡ [] = ap (member_pieces (entries_from run n k)) st ∙ no_pieces (entries_from run n k) in
        sym (g.is ∙ ap (λ (q : List Piece). sets out p (bytes text q)) ps)

    pub turn-close : l.left ≡ 0 → (d ≡ 0 → ⊥) → Loop out saved (d - 1) (due (get_or saved (d - 1) nothing).what (get_or saved (d - 1) nothing).objects (get_or saved (d - 1) nothing).left) p k
    turn-close zl zd =
        let st : settled (dues (l ∷ levels saved d)) ≡ settled (dues (get_or saved (d - 1) nothing ∷ levels saved (d - 1))) =
        settled-over (due_of l.what l.objects) l.left (dues (levels saved d)) zl ∙ ap (λ (ls : List Level). settled (dues ls)) (levels-pop saved d zd) in
        record {
          is = g.is ∙ ap (λ (s : Stack). sets out p (bytes text (rest k s))) st;
          ready = subst (λ (s : Stack). Ready text (rest k s) p (length out)) st g.ready;
          ends = sym (ap (ending (entries_from run n k)) st) ∙ g.ends;
          low = g.low;
          deep = omega (arith, g.deep);
          room = g.room;
          kept = g.kept;
        }

    module _ (nz : l.left ≡ 0 → ⊥) where
      top : Due × ℕ
      top = (due_of l.what l.objects, l.left)

      here : settled (dues (l ∷ levels saved d)) ≡ (due_of l.what l.objects, l.left) ∷ dues (levels saved d)
      here = settled-left (due_of l.what l.objects) l.left (dues (levels saved d)) nz

      -- so deep and no deeper, and there is an entry
      pub shallow : d < 32
      shallow = elim (ℕ_discrete d 32) [
        | yes z ↦ let y : ending (entries_from run n k) (settled (dues (l ∷ levels saved d))) ≡ 10 = ap (ending (entries_from run n k)) here ∙ deep-ending (entries_from run n k) (due_of l.what l.objects, l.left) (dues (levels saved d)) (omega (arith, depth_is, z)) in absurd (omega (arith, y, g.ends))
        | no z ↦ omega (arith, g.deep, z)
      ]

      low-enough : suc (length (dues (levels saved d))) ≤ deepest
      low-enough = omega (arith, depth_is, shallow)

      pub some_left : k < n
      some_left = elim (ℕ_discrete k n) [
        | yes z ↦ let y : ending (entries_from run n k) (settled (dues (l ∷ levels saved d))) ≡ 2 = ap₂ ending (from_end k (omega (arith, z))) here ∙ short-ending (due_of l.what l.objects, l.left) (dues (levels saved d)) low-enough in absurd (omega (arith, y, g.ends))
        | no z ↦ omega (arith, g.low, z)
      ]

      behind : Stack
      behind = next ((due_of l.what l.objects, l.left) ∷ dues (levels saved d)) (row_at width run k)

      ps-are : rest k (settled (dues (l ∷ levels saved d))) ≡ head_pieces (due_of l.what l.objects) (row_at width run k) ++ rest (k + 1) behind
      unfolding behind
      ps-are = ap₂ member_pieces (from-turn k some_left) here ∙ one-pieces (row_at width run k) (entries_from run n (k + 1)) (due_of l.what l.objects, l.left) (dues (levels saved d)) low-enough

      end_is : ending (entries_from run n k) (settled (dues (l ∷ levels saved d))) ≡ ending (entries_from run n (k + 1)) behind
      unfolding behind
      end_is = ap₂ ending (from-turn k some_left) here ∙ one-ending (row_at width run k) (entries_from run n (k + 1)) (due_of l.what l.objects, l.left) (dues (levels saved d)) low-enough

      both : Ready text (head_pieces (due_of l.what l.objects) (row_at width run k) ++ rest (k + 1) behind) p (length out)
      both = subst (λ (ps : List Piece). Ready text ps p (length out)) ps-are g.ready

      pub head-ready : AtReady text l.what (row_at width run k) p (length out)
      head-ready =
          let a = ready-left text (head_pieces (due_of l.what l.objects) (row_at width run k)) (rest (k + 1) behind) p (length out) both in
          let s = head-same text l.what l.objects (row_at width run k) in
          record { fits = s.fits_same a.fits; inside = omega (arith, a.inside, s.size_same) }

      -- after the head is stored
      module _ (o : List ℕ) (r : Put) (h : AtPut text l.what (row_at width run k) out p o r) (len : length o ≡ length out) where
        hp : List Piece
        hp = head_pieces (due_of l.what l.objects) (row_at width run k)

        same : Same text (head_pieces (due_of l.what l.objects) (row_at width run k)) (head_pieces (due_of l.what 0) (row_at width run k))
        same = head-same text l.what l.objects (row_at width run k)

        end-place : r.end ≡ p + size (head_pieces (due_of l.what l.objects) (row_at width run k))
        end-place = omega (arith, h.stored.end, same.size_same)

        now-is : sets out₀ start all ≡ sets o r.end (bytes text (rest (k + 1) behind))
        unfolding hp
        now-is =
            g.is ∙ ap (λ (ps : List Piece). sets out p (bytes text ps)) ps-are ∙ ap (sets out p) (bytes-append text hp (rest (k + 1) behind))
            ∙ peel out o (bytes text hp) (bytes text (rest (k + 1) behind)) p (size hp) r.end (bytes-length text hp (fits-left text hp (rest (k + 1) behind) both.fits)) (sym end-place)
            (h.stored.is ∙ ap (sets out p) (sym same.bytes_same))

        now-ready : Ready text (rest (k + 1) behind) r.end (length o)
        unfolding hp
        now-ready = ready-right text hp (rest (k + 1) behind) p (length out) r.end (length o) both end-place len

        behind-is : behind ≡ settled ((due_of r.what r.objects, r.count) ∷ (due_of l.what l.objects, l.left - 1) ∷ dues (levels saved d))
        unfolding behind
        behind-is =
            let s : shape_of (due_of l.what l.objects) (kind_of (row_at width run k)) ≡ shape_of (due_of l.what 0) (kind_of (row_at width run k)) = any-shape l.what l.objects (kind_of (row_at width run k)) in
            ap (λ (y : Shape). settled (((asks y 0 0 0 (row_at width run k)).below, (asks y 0 0 0 (row_at width run k)).count) ∷ (due_of l.what l.objects, l.left - 1) ∷ dues (levels saved d))) s
            ∙ ap₂ (λ (c : Due) (m : ℕ). settled ((c, m) ∷ (due_of l.what l.objects, l.left - 1) ∷ dues (levels saved d))) (sym h.below_is) (sym h.count_is)

        stepped : {saved' : List Level} {d' : ℕ} {l' : Level} → behind ≡ settled (dues (l' ∷ levels saved' d')) → d' ≤ 32 → length saved' ≡ 33 → Loop o saved' d' l' r.end (k + 1)
        stepped b dd rr = record {
          is = now-is ∙ ap (λ (s : Stack). sets o r.end (bytes text (rest (k + 1) s))) b;
          ready = subst (λ (s : Stack). Ready text (rest (k + 1) s) r.end (length o)) b now-ready;
          ends = sym (ap (ending (entries_from run n (k + 1))) b) ∙ sym end_is ∙ g.ends;
          low = omega (arith, some_left);
          deep = dd;
          room = rr;
          kept = len ∙ g.kept;
        }

        pub turn-leaf : r.count ≡ 0 → Loop o saved d (due l.what l.objects (l.left - 1)) r.end (k + 1)
        turn-leaf zr = stepped (behind-is ∙ settled-over (due_of r.what r.objects) r.count ((due_of l.what l.objects, l.left - 1) ∷ dues (levels saved d)) zr) g.deep g.room

        pub turn-head : Loop o (set saved d (due l.what l.objects (l.left - 1))) (d + 1) (due r.what r.objects r.count) r.end (k + 1)
        turn-head =
            let old : Level = due l.what l.objects (l.left - 1) in
            stepped (behind-is ∙ ap (λ (ls : List Level). settled (dues (due r.what r.objects r.count ∷ ls))) (sym (levels-push saved d old (omega (arith, g.room, shallow))))) (omega (arith, shallow)) (length-set saved d old ∙ g.room)

pub start_loop : (text run : List ℕ) (n : ℕ) (out : List ℕ) (start count : ℕ) → Begun text run n start count (length out) → (saved : List Level) → length saved ≡ 33
    → Loop text run n out (bytes text (member_pieces (rows width (λ row. row) run (n - 1) 1) (settled ((pairs, count) ∷ [])))) start out saved 0 (due 1 0 count) start 1
start_loop text run n out start count b saved room = record { is = refl; ready = b.ready; ends = b.whole; low = b.some; deep = omega arith; room = room; kept = refl }
