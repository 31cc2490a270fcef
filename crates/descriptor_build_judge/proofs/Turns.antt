-- A loop over entries: what holds before each, and each kind of turn. Assumes nothing.
use Prim.Native.Nat.{ℕ, zero, suc, ◌+◌, ◌-◌, ◌≤◌, ◌<◌}
use mathlib.Core.Path.{◌≡◌, refl, sym, ap, ap₂, ◌∙◌}
use mathlib.Core.List.{List, [], ◌∷◌, ◌++◌}
use mathlib.Core.Bool.{Bool, true, false}
use lib.Dec.{ltb}
use lib.ListN.{length, get_or, set, length-set}
use borrow.Author.Tests.{le-leb, lt-leb, ltb-true, ltb-false}
use native.Mathlib.Omega.{arith}
use native.Mathlib.Nat.{add-zero}
use Rattle.algebra.specs.Reader.{pick, limit}
use Rattle.algebra.specs.Table.{row_at, rows}
use Rattle.algebra.specs.Numbers.{counted}
use Rattle.algebra.specs.Faults.{first_of, faults}
use Rattle.algebra.specs.Writing.{Outcome, refused, needs}
use Rattle.algebra.proofs.Counted.{counted-turn, counted-end, counted_start}
use Rattle.algebra.proofs.Writing.{needs-no}
use Rattle.algebra.proofs.Tells.{first_some}
use Rattle.std.specs.Prelude.{Result, Ok, Err}
use Rattle.std.specs.Result.{result_and}
use Rattle.fault.specs.declared.Fault.{Fault}
use Rattle.descriptor_entry_judge.proofs.Judging.{numbered}
use Rattle.descriptor_heads.specs.Heads.{Due, Stack, settled, deepest}
use Rattle.descriptor_raw.specs.Raw.{due_of}
use Rattle.descriptor_columns.specs.scaffold.Filling.{dues}
use Rattle.descriptor_columns.specs.declared.Level.{Level}
use Rattle.descriptor_columns.proofs.Levels.{level, nothing, levels, levels-length, levels-push, levels-pop, dues-length}
use Rattle.descriptor_entry.specs.Pieces.{Piece, size, fault, fault_of}
use Rattle.descriptor_entry.specs.Shapes.{width, Entry, kind_of, object, shape_of}
use Rattle.descriptor_entry.specs.Entries.{head_pieces, root_pieces, asks, next, member_pieces, ending, root_stack, pieces, ended, build_fault, needed}
use Rattle.descriptor_entry.proofs.Laws.{first-assoc, size-append, faults-append}
use Rattle.descriptor_entry_judge.specs.declared.Judged.{Judged}
use Rattle.descriptor_entry_judge.specs.Judging.{told_fault, Judges}
use Rattle.descriptor_build_judge.specs.scaffold.Judging.{Begun}

-- the entries from k on, of n
abbrev pub entries_from : List ℕ → ℕ → ℕ → List Entry
entries_from run n k = rows width (λ row. row) run (n - k) k

-- ---- faults

-- the first of two
pub and-first : (x y : Result Unit Fault) → told_fault (result_and x y) ≡ first_of (told_fault x) (told_fault y)
and-first (Ok u) y = refl
and-first (Err f) y = sym (first_some (told_fault (Err f)) (told_fault y) (omega (arith, numbered f)))

-- ---- stacks

settled-left : (c : Due) (n : ℕ) (st : Stack) → (n ≡ 0 → ⊥) → settled ((c, n) ∷ st) ≡ (c, n) ∷ st
settled-left c zero st z = absurd (z refl)
settled-left c (suc n) st z = refl

settled-over : (c : Due) (n : ℕ) (st : Stack) → n ≡ 0 → settled ((c, n) ∷ st) ≡ settled st
settled-over c n st z = ap (λ (x : ℕ). settled ((c, x) ∷ st)) z

abbrev pub due : ℕ → ℕ → ℕ → Level
due what objects left = level what objects left 0 0

-- ---- members

no_pieces : (es : List Entry) → member_pieces es [] ≡ []
unfolding member_pieces
no_pieces [] = refl
no_pieces (e ∷ es) = refl

-- too deep
deep-pieces : (es : List Entry) (x : Due × ℕ) (st : Stack) → deepest < suc (length st) → (member_pieces es (x ∷ st) ≡ []) × (ending es (x ∷ st) ≡ 10)
unfolding member_pieces ending
deep-pieces [] x st h = (refl, ap (λ (b : Bool). pick b 2 10) (lt-leb (suc (length st)) deepest h))
deep-pieces (e ∷ es) x st h =
    (ap (λ (b : Bool). pick b (head_pieces x.0 e ++ member_pieces es (next (x ∷ st) e)) []) (lt-leb (suc (length st)) deepest h), ap (λ (b : Bool). pick b (ending es (next (x ∷ st) e)) 10) (lt-leb (suc (length st)) deepest h))

short-ending : (x : Due × ℕ) (st : Stack) → suc (length st) ≤ deepest → ending [] (x ∷ st) ≡ 2
unfolding ending
short-ending x st h = ap (λ (b : Bool). pick b 2 10) (le-leb (suc (length st)) deepest h)

-- one member
pub one-pieces : (e : Entry) (es : List Entry) (x : Due × ℕ) (st : Stack) → suc (length st) ≤ deepest → member_pieces (e ∷ es) (x ∷ st) ≡ head_pieces x.0 e ++ member_pieces es (next (x ∷ st) e)
unfolding member_pieces
one-pieces e es x st h = ap (λ (b : Bool). pick b (head_pieces x.0 e ++ member_pieces es (next (x ∷ st) e)) []) (le-leb (suc (length st)) deepest h)

pub one-ending : (e : Entry) (es : List Entry) (x : Due × ℕ) (st : Stack) → suc (length st) ≤ deepest → ending (e ∷ es) (x ∷ st) ≡ ending es (next (x ∷ st) e)
unfolding ending
one-ending e es x st h = ap (λ (b : Bool). pick b (ending es (next (x ∷ st) e)) 10) (le-leb (suc (length st)) deepest h)

-- ---- before each entry

module _ (text run : List ℕ) (n : ℕ) where
  -- the first fault from the entry k on, under a stack
  abbrev restFault : ℕ → Stack → ℕ
  restFault k st = first_of (fault text (member_pieces (entries_from run n k) st)) (ending (entries_from run n k) st)

  abbrev restSize : ℕ → Stack → ℕ
  restSize k st = size (member_pieces (entries_from run n k) st)

  abbrev all : List Entry
  all = rows width (λ row. row) run n 0

  pub record Loop (saved : List Level) (d : ℕ) (l : Level) (total x k : ℕ) : Type 0 where
    pub size_is : size (pieces all) ≡ total + restSize k (settled (dues (l ∷ levels saved d)))
    pub fault_is : first_of (fault text (pieces all)) (ended all) ≡ first_of x (restFault k (settled (dues (l ∷ levels saved d))))
    pub within : total ≤ limit
    pub low : k ≤ n
    pub deep : d ≤ 32
    pub room : length saved ≡ 33

  -- an answer, where all is counted
  answer : (total x : ℕ) (w : Outcome) → w ≡ needs x total → size (pieces all) ≡ total → total ≤ limit → first_of (fault text (pieces all)) (ended all) ≡ x → w ≡ needed text all
  unfolding build_fault
  answer total x w e s l g =
      e ∙ sym (ap (λ (b : Bool). needs (pick b (first_of (fault text (pieces all)) (ended all)) 1) (size (pieces all))) (le-leb (size (pieces all)) limit (omega arith)) ∙ ap₂ (λ (y z : ℕ). needs y z) g s)

  pub too_long : limit < size (pieces all) → refused 1 0 ≡ needed text all
  unfolding build_fault
  too_long h = needs-no (build_fault text all) (size (pieces all)) 1 (sym (ap (λ (b : Bool). pick b (first_of (fault text (pieces all)) (ended all)) 1) (lt-leb (size (pieces all)) limit h))) (λ z. omega arith)

  -- the entries from k on begin with the entry k
  from-turn : (k : ℕ) → k < n → entries_from run n k ≡ row_at width run k ∷ entries_from run n (k + 1)
  from-turn k h = counted-turn (λ i. row_at width run i) n k h

  from_end : (k : ℕ) → n ≤ k → entries_from run n k ≡ []
  from_end k h = counted-end (λ i. row_at width run i) n k h

  -- what is left over where no member is due
  over-ending : (k : ℕ) → ending (entries_from run n k) [] ≡ pick (ltb k n) 6 0
  unfolding ending
  over-ending k = go (ltb k n) refl
    where
      go : (b : Bool) → ltb k n ≡ b → ending (entries_from run n k) [] ≡ pick b 6 0
      go true h = ap (λ (es : List Entry). ending es []) (from-turn k (ltb-true k n h))
      go false h = ap (λ (es : List Entry). ending es []) (from_end k (ltb-false k n h))

  module _ {saved : List Level} {d : ℕ} (l : Level) {total x k : ℕ} (g : Loop saved d l total x k) where
    depth_is : length (dues (levels saved d)) ≡ d
    depth_is = dues-length (levels saved d) ∙ levels-length saved d

    -- no member is due any more
    pub turn_end : l.left ≡ 0 → d ≡ 0 → (y z : ℕ) → z ≡ pick (ltb k n) 6 0 → y ≡ first_of x z → (w : Outcome) → w ≡ needs y total → w ≡ needed text all
    unfolding size faults
    turn_end zl zd y z hz hy w hw =
        let st : settled (dues (l ∷ levels saved d)) ≡ [] = settled-over (due_of l.what l.objects) l.left (dues (levels saved d)) zl ∙ ap (λ (m : ℕ). settled (dues (levels saved m))) zd in
        let ps : member_pieces (entries_from run n k) (settled (dues (l ∷ levels saved d))) ≡ [] = ap (member_pieces (entries_from run n k)) st ∙ no_pieces (entries_from run n k) in
        let f : restFault k (settled (dues (l ∷ levels saved d))) ≡ z = ap₂ (λ (p : List Piece) (s : Stack). first_of (fault text p) (ending (entries_from run n k) s)) ps st ∙ over-ending k ∙ sym hz in
        answer total y w hw (g.size_is ∙ ap (λ (p : List Piece). total + size p) ps ∙ add-zero total) g.within (g.fault_is ∙ ap (λ (q : ℕ). first_of x q) f ∙ sym hy)

    -- a level is over
    pub turn-close : l.left ≡ 0 → (d ≡ 0 → ⊥) → Loop saved (d - 1) (due (get_or saved (d - 1) nothing).what (get_or saved (d - 1) nothing).objects (get_or saved (d - 1) nothing).left) total x k
    turn-close zl zd =
        let st : settled (dues (l ∷ levels saved d)) ≡ settled (dues (get_or saved (d - 1) nothing ∷ levels saved (d - 1))) =
        settled-over (due_of l.what l.objects) l.left (dues (levels saved d)) zl ∙ ap (λ (ls : List Level). settled (dues ls)) (levels-pop saved d zd) in
        record {
          size_is = g.size_is ∙ ap (λ (s : Stack). total + restSize k s) st;
          fault_is = g.fault_is ∙ ap (λ (s : Stack). first_of x (restFault k s)) st;
          within = g.within;
          low = g.low;
          deep = omega (arith, g.deep);
          room = g.room;
        }

    module _ (nz : l.left ≡ 0 → ⊥) where
      here : settled (dues (l ∷ levels saved d)) ≡ (due_of l.what l.objects, l.left) ∷ dues (levels saved d)
      here = settled-left (due_of l.what l.objects) l.left (dues (levels saved d)) nz

      pub turn-deep : d ≡ 32 → (y : ℕ) → y ≡ first_of x 10 → (w : Outcome) → w ≡ needs y total → w ≡ needed text all
      unfolding size faults
      turn-deep zd y hy w hw =
          let p = deep-pieces (entries_from run n k) (due_of l.what l.objects, l.left) (dues (levels saved d)) (omega (arith, depth_is, zd)) in
          let ps : member_pieces (entries_from run n k) (settled (dues (l ∷ levels saved d))) ≡ [] = ap (member_pieces (entries_from run n k)) here ∙ p.0 in
          let f : restFault k (settled (dues (l ∷ levels saved d))) ≡ 10 = ap₂ (λ (q : List Piece) (z : ℕ). first_of (fault text q) z) ps (ap (ending (entries_from run n k)) here ∙ p.1) in
          answer total y w hw (g.size_is ∙ ap (λ (q : List Piece). total + size q) ps ∙ add-zero total) g.within (g.fault_is ∙ ap (λ (q : ℕ). first_of x q) f ∙ sym hy)

      module _ (nd : d ≡ 32 → ⊥) where
        shallow : suc (length (dues (levels saved d))) ≤ deepest
        shallow = omega (arith, depth_is, g.deep, nd)

        pub turn-short : k ≡ n → (y : ℕ) → y ≡ first_of x 2 → (w : Outcome) → w ≡ needs y total → w ≡ needed text all
        unfolding size faults member_pieces
        turn-short zk y hy w hw =
            let es : entries_from run n k ≡ [] = from_end k (omega (arith, zk)) in
            let ps : member_pieces (entries_from run n k) (settled (dues (l ∷ levels saved d))) ≡ [] = ap (λ (q : List Entry). member_pieces q (settled (dues (l ∷ levels saved d)))) es in
            let o : ending (entries_from run n k) (settled (dues (l ∷ levels saved d))) ≡ 2 = ap₂ ending es here ∙ short-ending (due_of l.what l.objects, l.left) (dues (levels saved d)) shallow in
            let f : restFault k (settled (dues (l ∷ levels saved d))) ≡ 2 = ap₂ (λ (q : List Piece) (z : ℕ). first_of (fault text q) z) ps o in
            answer total y w hw (g.size_is ∙ ap (λ (q : List Piece). total + size q) ps ∙ add-zero total) g.within (g.fault_is ∙ ap (λ (q : ℕ). first_of x q) f ∙ sym hy)

        -- an entry, of which r is found
        module _ (nk : k ≡ n → ⊥) (r : Judged)
            (j : Judges text (head_pieces (due_of l.what l.objects) (row_at width run k)) (asks (shape_of (due_of l.what l.objects) (kind_of (row_at width run k))) 0 0 0 (row_at width run k)) r) where
          e : Entry
          e = row_at width run k

          st : Stack
          st = dues (levels saved d)

          top : Due × ℕ
          top = (due_of l.what l.objects, l.left)

          more : ℕ
          more = k + 1

          behind : Stack
          behind = settled ((due_of r.what r.objects, r.count) ∷ (due_of l.what l.objects, l.left - 1) ∷ st)

          behind-is : next (top ∷ st) e ≡ behind
          unfolding behind e top st
          behind-is = ap₂ (λ (c : Due) (m : ℕ). settled ((c, m) ∷ (due_of l.what l.objects, l.left - 1) ∷ dues (levels saved d))) (sym j.below_is) (sym j.count_is)

          ps-are : member_pieces (entries_from run n k) (settled (dues (l ∷ levels saved d))) ≡ head_pieces top.0 e ++ member_pieces (entries_from run n more) behind
          unfolding e st top more
          ps-are = ap₂ member_pieces (from-turn k (omega (arith, g.low, nk))) here ∙ one-pieces e (entries_from run n more) top st shallow ∙ ap (λ (s : Stack). head_pieces top.0 e ++ member_pieces (entries_from run n more) s) behind-is

          end_is : ending (entries_from run n k) (settled (dues (l ∷ levels saved d))) ≡ ending (entries_from run n more) behind
          unfolding e st top more
          end_is = ap₂ ending (from-turn k (omega (arith, g.low, nk))) here ∙ one-ending e (entries_from run n more) top st shallow ∙ ap (ending (entries_from run n more)) behind-is

          size-now : size (pieces all) ≡ total + r.size + restSize more behind
          unfolding e top
          size-now = g.size_is ∙ ap (λ (p : List Piece). total + size p) ps-are ∙ omega (arith, size-append (head_pieces (due_of l.what l.objects) (row_at width run k)) (member_pieces (entries_from run n more) behind), j.size_is)

          fault-now : r.size ≤ limit → first_of (fault text (pieces all)) (ended all) ≡ first_of (first_of x (told_fault r.sound)) (restFault more behind)
          unfolding e top
          fault-now h =
              let hp : List Piece = head_pieces (due_of l.what l.objects) (row_at width run k) in
              let mp : List Piece = member_pieces (entries_from run n more) behind in
              let o : ℕ = ending (entries_from run n more) behind in
              g.fault_is ∙ ap₂ (λ (p : List Piece) (z : ℕ). first_of x (first_of (fault text p) z)) ps-are end_is
              ∙ ap (λ (z : ℕ). first_of x (first_of z o)) (faults-append (fault_of text) hp mp) ∙ ap (first_of x) (sym (first-assoc (fault text hp) (fault text mp) o))
              ∙ first-assoc x (fault text hp) (first_of (fault text mp) o) ∙ ap (λ (z : ℕ). first_of (first_of x z) (first_of (fault text mp) o)) (sym (j.fault_is h))

          pub turn-long : limit < total + r.size → refused 1 0 ≡ needed text all
          turn-long h = too_long (omega (arith, size-now, h))

          module _ (short : total + r.size ≤ limit) (x' : ℕ) (hx : x' ≡ first_of x (told_fault r.sound)) where
            stepped : {saved' : List Level} {d' : ℕ} {l' : Level} → behind ≡ settled (dues (l' ∷ levels saved' d')) → d' ≤ 32 → length saved' ≡ 33 → Loop saved' d' l' (total + r.size) x' more
            unfolding more
            stepped b dd rr = record {
              size_is = size-now ∙ ap (λ (s : Stack). total + r.size + restSize more s) b;
              fault_is = fault-now (omega (arith, short)) ∙ ap₂ (λ (y : ℕ) (s : Stack). first_of y (restFault more s)) (sym hx) b;
              within = short;
              low = omega (arith, g.low, nk);
              deep = dd;
              room = rr;
            }

            -- with no member of its own
            pub turn-leaf : r.count ≡ 0 → Loop saved d (due l.what l.objects (l.left - 1)) (total + r.size) x' (k + 1)
            unfolding more behind st
            turn-leaf zr = stepped (settled-over (due_of r.what r.objects) r.count ((due_of l.what l.objects, l.left - 1) ∷ dues (levels saved d)) zr) g.deep g.room

            pub turn-head : Loop (set saved d (due l.what l.objects (l.left - 1))) (d + 1) (due r.what r.objects r.count) (total + r.size) x' (k + 1)
            unfolding more behind st
            turn-head =
                let old : Level = due l.what l.objects (l.left - 1) in
                stepped (ap (λ (ls : List Level). settled (dues (due r.what r.objects r.count ∷ ls))) (sym (levels-push saved d old (omega (arith, g.room, g.deep))))) (omega (arith, g.deep, nd)) (length-set saved d old ∙ g.room)

  -- ---- the start

  pub start : (r : Judged) → Begun text run n r → (saved : List Level) → length saved ≡ 33 → Loop saved 0 (due r.what r.objects r.count) r.size (told_fault r.sound) 1
  unfolding pieces ended
  start r b saved room =
      let e : Entry = row_at width run 0 in
      let es : List Entry = entries_from run n 1 in
      let l : all ≡ e ∷ es = counted_start (λ i. row_at width run i) n ∙ from-turn 0 (omega (arith, b.some)) in
      let st : root_stack e ≡ settled (dues (due r.what r.objects r.count ∷ levels saved 0)) = ap₂ (λ (c : Due) (m : ℕ). settled ((c, m) ∷ [])) (sym b.judged.below_is) (sym b.judged.count_is) in
      let ps : pieces all ≡ root_pieces e ++ member_pieces es (settled (dues (due r.what r.objects r.count ∷ levels saved 0))) = ap pieces l ∙ ap (λ (s : Stack). root_pieces e ++ member_pieces es s) st in
      let o : ended all ≡ ending es (settled (dues (due r.what r.objects r.count ∷ levels saved 0))) = ap ended l ∙ ap (ending es) st in
      let mp : List Piece = member_pieces es (settled (dues (due r.what r.objects r.count ∷ levels saved 0))) in
      record {
        size_is = ap size ps ∙ size-append (root_pieces e) mp ∙ ap (λ (z : ℕ). z + size mp) (sym b.judged.size_is);
        fault_is = ap₂ (λ (p : List Piece) (z : ℕ). first_of (fault text p) z) ps o ∙ ap (λ (z : ℕ). first_of z (ending es (settled (dues (due r.what r.objects r.count ∷ levels saved 0))))) (faults-append (fault_of text) (root_pieces e) mp)
            ∙ sym (first-assoc (fault text (root_pieces e)) (fault text mp) (ending es (settled (dues (due r.what r.objects r.count ∷ levels saved 0)))))
            ∙ ap (λ (z : ℕ). first_of z (first_of (fault text mp) (ending es (settled (dues (due r.what r.objects r.count ∷ levels saved 0)))))) (sym (b.judged.fault_is b.within));
        within = b.within;
        low = b.some;
        deep = omega arith;
        room = room;
      }

-- a root that is over the limit by itself, and no entry at all
pub root-long : (text run : List ℕ) (n : ℕ) (r : Judged) → 1 ≤ n → Judges text (root_pieces (row_at width run 0)) (asks object 0 0 0 (row_at width run 0)) r → limit < r.size → refused 1 0 ≡ needed text (rows width (λ row. row) run n 0)
unfolding pieces
root-long text run n r some j h =
    let e : Entry = row_at width run 0 in
    let es : List Entry = entries_from run n 1 in
    let l : rows width (λ row. row) run n 0 ≡ e ∷ es = counted_start (λ i. row_at width run i) n ∙ from-turn text run n 0 (omega arith) in
    too_long text run n (omega (arith, ap (λ (x : List Entry). size (pieces x)) l, size-append (root_pieces e) (member_pieces es (root_stack e)), j.size_is, h))

pub no-entry : (text run : List ℕ) (n : ℕ) → n ≡ 0 → refused 2 0 ≡ needed text (rows width (λ row. row) run n 0)
unfolding build_fault pieces ended size faults counted
no-entry text run n z = sym (ap (λ (m : ℕ). needed text (rows width (λ row. row) run m 0)) z)
