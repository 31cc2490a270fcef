-- A loop over the blocks of an accepted section, and what it stores, counts or looks for. Assumes nothing.
use Prim.Native.Nat.{ℕ, suc, ◌+◌, ◌-◌, ◌*◌, ◌≤◌, ◌<◌}
use mathlib.Core.Path.{◌≡◌, refl, sym, ap, ap₂, ◌∙◌, subst}
use mathlib.Core.List.{List, [], ◌∷◌, ◌++◌, map}
use mathlib.Core.Bool.{Bool, true, false}
use lib.ListN.{length, get_or}
use lib.Seq.{sets, length-sets}
use borrow.Author.Tests.{eq-eqb, ne_eqb, lt-ltb, ltb-true, ltb-false}
use lib.Dec.{ltb, is_le}
use Prim.Native.Nat.compare.{suc-suc}
use native.Mathlib.Omega.{arith}
use native.Mathlib.Nat.{add-zero, zero-add}
use Rattle.algebra.specs.Numbers.{joined}
use Rattle.algebra.specs.Reader.{Res, ok, refuse, then, pick, map_res, limit}
use Rattle.algebra.proofs.Inverse.{clash, ok-place, then-inv}
use Rattle.algebra.proofs.Stores.{sets-append}
use Rattle.resource.specs.Reading.{Entry, block, blocks}
use Rattle.resource.specs.Rows.{to_record, width, row}
use Rattle.resource.specs.declared.Record.{Record}
use Rattle.resource.proofs.Lies.{block-lies}
use Rattle.resource.proofs.Whole.{block-moves, blocks-stop, blocks-no, blocks-ok}
use Rattle.resource_judge.proofs.Judging.{map-ok, map-refuse}
use Rattle.algebra.specs.Table.{Verdict, accepted, refused}
use Rattle.resource_read.specs.Table.{entry_row, empty_record, record_in, index_of, found_in}
use Rattle.resource_read.specs.scaffold.Parts.{rest, entries_of, Sound, Small}

module _ (s : List ℕ) (at : ℕ) (fit : Sound s at) where
  -- at the end nothing is left
  pub none_left : length s ≤ at → rest s at ≡ []
  none_left e = ap entries_of (blocks-stop s at (omega (arith, fit.inside)))

  -- where blocks are left the end is not reached
  pub some-left : 0 < length (rest s at) → at < length s
  some-left h = go (ltb at (length s)) refl
    where
      go : (b : Bool) → ltb at (length s) ≡ b → at < length s
      go true e = ltb-true at (length s) e
      go false e = absurd (omega (arith, h, ap length (none_left (ltb-false at (length s) e))))

  module _ (more : at < length s) where
    apart : at ≡ length s → ⊥
    apart e = omega arith

    -- before the end no block is refused
    pub never : {X : Type 0} {x p : ℕ} → refuse x p 0 0 ≡ map_res to_record (block s at) → X
    never h = clash (sym (blocks-no s at fit.inside apart (map-refuse to_record (block s at) (sym h))) ∙ fit.reads)

    -- a block's record is the next, and the rest lies behind it
    pub record Turned (r : Record) (q : ℕ) : Type 0 where
      pub entry : Entry
      pub is : to_record entry ≡ r
      pub all : rest s at ≡ entry ∷ rest s q
      pub sound : Sound s q
      pub moved : at < q
      pub small : Small r

    pub turned : {r : Record} {q : ℕ} → ok r q ≡ map_res to_record (block s at) → Turned r q
    turned {r} {q} h =
        let x = map-ok to_record (block s at) (sym h) in
        let e : Entry = x.0 in
        let w = block-moves s at e q fit.inside x.1 in
        let b = blocks-ok s at fit.inside apart e q x.1 in
        let t = then-inv (blocks s q) (λ es end. ok (e ∷ es) end) (sym b ∙ fit.reads) in
        let end : t.1 ≡ length s = ok-place t.3 in
        let again : blocks s q ≡ ok (rest s q) (length s) = t.2 ∙ ap₂ (λ (l : List Entry) (k : ℕ). ok l k) (sym (ap entries_of t.2)) end in
        let l = block-lies s at x.1 in
        let lim : length s ≤ limit = fit.short in
        let sm : Small (to_record e) = record {
          name = omega (arith, l.0.name, l.1, w.1);
          letters = omega (arith, l.1, w.1);
          payload = omega (arith, l.0.payload, l.1, w.1);
          size = omega (arith, l.1, w.1);
        } in record {
          entry = e;
          is = x.2;
          all = ap entries_of (b ∙ ap (λ (m : Res (List Entry)). then m (λ es end. ok (e ∷ es) end)) again);
          sound = record { short = lim; inside = w.1; even = omega (arith, l.1, fit.even); reads = again };
          moved = w.0;
          small = subst Small x.2 sm;
        }

-- none are left where their number is 0
pub none-counted : (es : List Entry) → length es ≡ 0 → es ≡ []
none-counted [] e = refl
none-counted (e ∷ es) h = absurd (omega arith)

-- ---- rows stored

-- what a table will hold, where the rows from `at` are still to be stored, as rows i and on
pub record Filling (s : List ℕ) (at i : ℕ) (all t : List ℕ) : Type 0 where
  pub sound : Sound s at
  pub room : width * i + width * length (rest s at) ≤ length t
  pub is : all ≡ sets t (width * i) (joined entry_row (rest s at))

module _ (s : List ℕ) (at i : ℕ) (all t : List ℕ) (f : Filling s at i all t) where
  pub fill_end : length (rest s at) ≡ 0 → t ≡ all
  unfolding joined
  fill_end e = sym (f.is ∙ ap (λ (l : List Entry). sets t (width * i) (joined entry_row l)) (none-counted (rest s at) e))

  module _ (more : at < length s) {r : Record} {q : ℕ} (x : Turned s at f.sound more r q) where
    pub fill-room : width * i + width ≤ length t
    fill-room = omega (arith, f.room, ap length x.all)

    pub fill-kept : (t' : List ℕ) → t' ≡ sets t (width * i) (row r) → length t' ≡ length t
    fill-kept t' e = ap length e ∙ length-sets t (width * i) (row r)

    pub fill-next : (t' : List ℕ) → t' ≡ sets t (width * i) (row r) → Filling s q (i + 1) all t'
    unfolding joined
    fill-next t' e =
        let to : width * i + width ≡ width * (i + 1) = omega arith in record {
          sound = x.sound;
          room = omega (arith, f.room, ap length x.all, fill-kept t' e);
          is =
              f.is ∙ ap (λ (y : List Entry). sets t (width * i) (joined entry_row y)) x.all
              ∙ ap (λ (y : Record). sets t (width * i) (row y ++ joined entry_row (rest s q))) x.is
              ∙ sets-append (row r) (joined entry_row (rest s q)) t (width * i)
              ∙ ap₂ (λ (y : List ℕ) (k : ℕ). sets y k (joined entry_row (rest s q))) (sym e) to;
        }

-- ---- a record by its number

ltb-suc : (a b : ℕ) → ltb (suc a) (suc b) ≡ ltb a b
ltb-suc a b = ap is_le (suc-suc (suc a) b)

record-first : (e : Entry) (es : List Entry) → record_in 0 (ok (e ∷ es) 0) ≡ accepted (to_record e)
record-first e es = let h = lt-ltb 0 (length (map to_record (e ∷ es))) (omega arith) in simp h

record-next : (k : ℕ) (e : Entry) (es : List Entry) → record_in (suc k) (ok (e ∷ es) 0) ≡ record_in k (ok es 0)
record-next k e es = ap (λ (b : Bool). pick b (accepted (get_or (map to_record es) k empty_record)) (refused 12 0 0 0)) (ltb-suc k (length (map to_record es)))

module _ (s : List ℕ) (at k : ℕ) (fit : Sound s at) (all : Verdict Record) (inv : all ≡ record_in k (ok (rest s at) 0)) where
  module _ (more : at < length s) {r : Record} {q : ℕ} (x : Turned s at fit more r q) where
    pub nth_here : k ≡ 0 → accepted r ≡ all
    nth_here z = sym (inv ∙ ap₂ (λ (l : List Entry) (n : ℕ). record_in n (ok l 0)) x.all z ∙ record-first x.entry (rest s q) ∙ ap accepted x.is)

    pub nth-next : (k ≡ 0 → ⊥) → all ≡ record_in (k - 1) (ok (rest s q) 0)
    nth-next z =
        let e : k ≡ suc (k - 1) = omega arith in
        inv ∙ ap₂ (λ (l : List Entry) (n : ℕ). record_in n (ok l 0)) x.all e ∙ record-next (k - 1) x.entry (rest s q)

-- ---- the first block with an ID

-- what is found among blocks of which i stand before
unfoldable pub found_from : ℕ → ℕ → List Entry → Verdict ℕ
found_from i id es = pick (ltb (index_of id es) (length es)) (accepted (i + index_of id es)) (refused 12 0 0 0)

pub found-start : (id : ℕ) (es : List Entry) → found_in id (ok es 0) ≡ found_from 0 id es
unfolding found_from
found-start id es = ap (λ (n : ℕ). pick (ltb (index_of id es) (length es)) (accepted n) (refused 12 0 0 0)) (sym (zero-add (index_of id es)))

found-none : (i id : ℕ) → found_from i id [] ≡ refused 12 0 0 0
unfolding found_from index_of
found-none i id = refl

found-first : (i id : ℕ) (e : Entry) (es : List Entry) → e.id ≡ id → found_from i id (e ∷ es) ≡ accepted i
unfolding found_from index_of
found-first i id e es h = ap (λ (b : Bool). let n = pick b 0 (index_of id es + 1) in pick (ltb n (suc (length es))) (accepted (i + n)) (refused 12 0 0 0)) (eq-eqb e.id id h)
    ∙ ap (λ (b : Bool). pick b (accepted (i + 0)) (refused 12 0 0 0)) (lt-ltb 0 (suc (length es)) (omega arith)) ∙ ap accepted (add-zero i)

found-later : (i id : ℕ) (e : Entry) (es : List Entry) → (e.id ≡ id → ⊥) → found_from i id (e ∷ es) ≡ found_from (i + 1) id es
unfolding found_from index_of
found-later i id e es h =
    let n = index_of id es in
    let a : n + 1 ≡ suc n = omega arith in
    let b : i + (n + 1) ≡ i + 1 + n = omega arith in
    ap (λ (b : Bool). let m = pick b 0 (index_of id es + 1) in pick (ltb m (suc (length es))) (accepted (i + m)) (refused 12 0 0 0)) (ne_eqb e.id id h)
    ∙ ap₂ (λ (x y : ℕ). pick (ltb x (suc (length es))) (accepted y) (refused 12 0 0 0)) a b
    ∙ ap (λ (b : Bool). pick b (accepted (i + 1 + n)) (refused 12 0 0 0)) (ltb-suc n (length es))

module _ (s : List ℕ) (at i id : ℕ) (all : Verdict ℕ) (fit : Sound s at) (inv : all ≡ found_from i id (rest s at)) where
  pub index-end : length (rest s at) ≡ 0 → refused 12 0 0 0 ≡ all
  index-end e = sym (inv ∙ ap (found_from i id) (none-counted (rest s at) e) ∙ found-none i id)

  module _ (more : at < length s) {r : Record} {q : ℕ} (x : Turned s at fit more r q) where
    same_id : x.entry.id ≡ r.id
    same_id = ap (λ (y : Record). y.id) x.is

    pub index-here : r.id ≡ id → accepted i ≡ all
    index-here h = sym (inv ∙ ap (found_from i id) x.all ∙ found-first i id x.entry (rest s q) (same_id ∙ h))

    pub index-next : (r.id ≡ id → ⊥) → all ≡ found_from (i + 1) id (rest s q)
    index-next h = inv ∙ ap (found_from i id) x.all ∙ found-later i id x.entry (rest s q) (λ e. h (sym same_id ∙ e))
