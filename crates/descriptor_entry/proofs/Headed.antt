-- The head of a member where the bytes of an entry stand. Assumes nothing.
use Prim.Native.Nat.{ℕ, ◌+◌}
use mathlib.Core.Path.{◌≡◌, refl, sym, ap, subst, subst₂}
use mathlib.Core.List.{List, ◌∷◌, ◌++◌}
use mathlib.Core.Bool.{Bool, true, false}
use lib.Dec.{eqb}
use lib.ListN.{length, length-append}
use native.Mathlib.Omega.{arith}
use native.Mathlib.Nat.{add-zero}
use Rattle.std.specs.Prelude.{Option}
use Rattle.std.specs.Option.{unwrap_or}
use Rattle.algebra.specs.Chars.{chars}
use Rattle.algebra.specs.Numbers.{At, Bytes}
use Rattle.algebra.specs.Reader.{Res, ok, refuse, Reader, then, pick, field, rule, unless, judged}
use Rattle.algebra.specs.Faults.{first_of, faults}
use Rattle.algebra.proofs.Laws.{field-short}
use Rattle.algebra.proofs.Places.{at_left, at_right}
use Rattle.algebra.proofs.Tells.{first-none}
use Rattle.descriptor.specs.Reading.{Known, is, unknown, beside, known, id, Sort, sort_of, form_of, ref_value, column, column_type}
use Rattle.descriptor_heads.specs.Heads as h
use Rattle.descriptor_heads.specs.Heads.{Due, items, pairs, columns, Opened, opens, item_head, member_head, bare}
use Rattle.descriptor_raw.specs.Raw.{due_of}
use Rattle.descriptor_entry.specs.declared.Field.TheVariants as f
use Rattle.descriptor_entry.specs.declared.Shape.{Shape}
use Rattle.descriptor_entry.specs.Pieces.{Piece, number, size, bytes, fault, fault_of, Fits}
use Rattle.descriptor_entry.specs.Shapes.{Entry, number_in, kind_of, count_of, objects_of, pieces_of, both, wanted, item_shapes, form_shapes, shape_in, item_shape, form_shape, column_shape, shape_of}
use Rattle.descriptor_entry.specs.Entries.{key_pieces, field_pieces, head_pieces, asks}
use Rattle.descriptor_entry.proofs.Laws.{bytes-append, faults-append, fits-left, fits-right, bytes-length}
use Rattle.descriptor_entry.proofs.Meeting.{Meets, good, bad, meets-then, begins}
use Rattle.descriptor_entry.proofs.Fields.{reads-id, reads-column}
use Rattle.descriptor_entry.proofs.Suited.{Both, each, neither, paired, Suits, SuitsForm, item-table, form-table}

-- a value made of what was read
pub meets-made : {A B : Type 0} {m : Res A} {x end : ℕ} {a : A} → Meets m x end a → (g : A → B) → Meets (then m (λ c q. ok (g c) q)) x end (g a)
meets-made (good e z) g = good (ap (λ (w : Res _). then w (λ c q. ok (g c) q)) e) z
meets-made (bad p r k e l) g = bad p r k (ap (λ (w : Res _). then w (λ c q. ok (g c) q)) e) l

module _ (s text : List ℕ) (b : Bytes text) where
  -- ---- items

  item-made : ℕ → ℕ → ℕ → ℕ → (Due × ℕ) → Opened
  item-made k depth first v o = record { head = record { kind = k; first = first; depth = depth; value = v }; below = o.0; count = o.1 }

  item_by : (e : Entry) (depth first at : ℕ) (u : Known Sort) (w : Known Shape) → Both (Suits s text b) u w → Fits text (field_pieces 0 (shape_in w) e) → At s (at + 4) (bytes text (field_pieces 0 (shape_in w) e))
      → Meets (known u at (λ sort. then (opens sort s (at + 4)) (λ o q. ok (item-made (kind_of e) depth first (at + 4) o) q))) (first_of (pick (shape_in w).known 0 4) (fault text (field_pieces 0 (shape_in w) e)))
      (at + 4 + length (bytes text (field_pieces 0 (shape_in w) e))) (asks (shape_in w) depth first (at + 4) e)
  unfolding item-made
  item_by e depth first at u w (each {a = sort} {b = sh} y) fit stands =
      let z : ◌≡◌ {A = ℕ} (pick sh.known 0 4) 0 = ap (λ (t : Bool). pick t 0 4) y.known in
      subst (λ (n : ℕ). Meets (then (opens sort s (at + 4)) (λ o q. ok (item-made (kind_of e) depth first (at + 4) o) q)) n (at + 4 + length (bytes text (field_pieces 0 sh e))) (asks sh depth first (at + 4) e))
      (sym (first-none (pick sh.known 0 4) (fault text (field_pieces 0 sh e)) z)) (meets-made ((y.reads e fit).meets (at + 4) stands) (item-made (kind_of e) depth first (at + 4)))
  item_by e depth first at u w neither fit stands = bad at 0 0 refl (omega arith)

  pub item-meets : (e : Entry) (depth first at : ℕ) → Fits text (number 4 (kind_of e) (pick (item_shape (kind_of e)).known 0 4) ∷ field_pieces 0 (item_shape (kind_of e)) e)
      → At s at (bytes text (number 4 (kind_of e) (pick (item_shape (kind_of e)).known 0 4) ∷ field_pieces 0 (item_shape (kind_of e)) e))
      → Meets (item_head depth first s at) (fault text (number 4 (kind_of e) (pick (item_shape (kind_of e)).known 0 4) ∷ field_pieces 0 (item_shape (kind_of e)) e))
      (at + length (bytes text (number 4 (kind_of e) (pick (item_shape (kind_of e)).known 0 4) ∷ field_pieces 0 (item_shape (kind_of e)) e))) (asks (item_shape (kind_of e)) depth first (at + 4) e)
  unfolding item_head sort_of item_shape faults item-made
  item-meets e depth first at fit stands =
      let sh : Shape = item_shape (kind_of e) in
      let ps : List Piece = field_pieces 0 sh e in
      let x : ℕ = pick sh.known 0 4 in
      let g = begins s text (kind_of e) x ps at fit.0 stands in
      subst₂ (λ (w : Res ℕ) (n : ℕ). Meets (then w (λ t v. known (sort_of t) at (λ sort. then (opens sort s v) (λ o q. ok (item-made t depth first v o) q)))) (fault text (number 4 (kind_of e) x ∷ ps)) n (asks sh depth first (at + 4) e))
      (sym g.number_is) g.length-is (item_by e depth first at (sort_of (kind_of e)) (beside item_shapes (kind_of e)) (paired (item-table s text b) (kind_of e)) fit.1 g.behind)

  -- ---- reference items

  form-by : (e : Entry) (depth at : ℕ) (u : Known (Reader Unit)) (w : Known Shape) → Both (SuitsForm s text b) u w → Fits text (field_pieces 0 (shape_in w) e) → At s (at + 4) (bytes text (field_pieces 0 (shape_in w) e))
      → Meets (known u at (λ r. then (ref_value r s (at + 4)) (λ o q. ok (bare (kind_of e) at depth (at + 4)) q))) (first_of (pick (shape_in w).known 0 4) (fault text (field_pieces 0 (shape_in w) e)))
      (at + 4 + length (bytes text (field_pieces 0 (shape_in w) e))) (asks (shape_in w) depth at (at + 4) e)
  form-by e depth at u w (each {a = r} {b = sh} y) fit stands =
      let z : ◌≡◌ {A = ℕ} (pick sh.known 0 4) 0 = ap (λ (t : Bool). pick t 0 4) y.known in
      let o : bare (kind_of e) at depth (at + 4) ≡ asks sh depth at (at + 4) e =
      ap (λ (o : Option ℕ). record { head = record { kind = kind_of e; first = at; depth = depth; value = at + 4 }; below = due_of (unwrap_or o 0) (objects_of e); count = wanted o (count_of e) }) (sym y.no-child) in
      subst₂ (λ (n : ℕ) (p : Opened). Meets (then (ref_value r s (at + 4)) (λ o q. ok (bare (kind_of e) at depth (at + 4)) q)) n (at + 4 + length (bytes text (field_pieces 0 sh e))) p)
      (sym (first-none (pick sh.known 0 4) (fault text (field_pieces 0 sh e)) z)) o (meets-made ((y.reads e fit).meets (at + 4) stands) (λ u. bare (kind_of e) at depth (at + 4)))
  form-by e depth at u w neither fit stands = bad at 0 0 refl (omega arith)

  form-meets : (e : Entry) (depth at : ℕ) → Fits text (head_pieces h.forms e) → At s at (bytes text (head_pieces h.forms e))
      → Meets (member_head depth h.forms s at) (fault text (head_pieces h.forms e)) (at + length (bytes text (head_pieces h.forms e))) (asks (form_shape (kind_of e)) depth at (at + 4) e)
  unfolding member_head form_of form_shape head_pieces faults
  form-meets e depth at fit stands =
      let sh : Shape = form_shape (kind_of e) in
      let ps : List Piece = field_pieces 0 sh e in
      let x : ℕ = pick sh.known 0 4 in
      let g = begins s text (kind_of e) x ps at fit.0 stands in
      subst₂ (λ (w : Res ℕ) (n : ℕ). Meets (then w (λ t v. known (form_of t) at (λ r. then (ref_value r s v) (λ u q. ok (bare t at depth v) q)))) (fault text (number 4 (kind_of e) x ∷ ps)) n (asks sh depth at (at + 4) e))
      (sym g.number_is) g.length-is (form-by e depth at (form_of (kind_of e)) (beside form_shapes (kind_of e)) (paired (form-table s text b) (kind_of e)) fit.1 g.behind)

  -- ---- pairs of an object array, from `UnFl` on

  column-by : (m : ℕ) (e : Entry) (depth first at : ℕ) (t : Bool) → Fits text (field_pieces m (shape_in (pick t (is (both f.ArrayMeasure (f.Doubles 7))) unknown)) e)
      → At s (at + 4) (bytes text (field_pieces m (shape_in (pick t (is (both f.ArrayMeasure (f.Doubles 7))) unknown)) e))
      → Meets (then (rule (unless t 4) at (ok (kind_of e) (at + 4))) (λ t v. then (column m s v) (λ u q. ok (bare t first depth v) q)))
      (first_of (pick (shape_in (pick t (is (both f.ArrayMeasure (f.Doubles 7))) unknown)).known 0 4) (fault text (field_pieces m (shape_in (pick t (is (both f.ArrayMeasure (f.Doubles 7))) unknown)) e)))
      (at + 4 + length (bytes text (field_pieces m (shape_in (pick t (is (both f.ArrayMeasure (f.Doubles 7))) unknown)) e)))
      (asks (shape_in (pick t (is (both f.ArrayMeasure (f.Doubles 7))) unknown)) depth first (at + 4) e)
  unfolding field_pieces
  column-by m e depth first at true fit stands =
      meets-made ((reads-column s text b m (number_in e 11) (number_in e 7) (number_in e 8) fit.0 fit.1.0 fit.1.1.0).meets (at + 4) stands) (λ u. bare (kind_of e) first depth (at + 4))
  column-by m e depth first at false fit stands = bad at 0 0 refl (omega arith)

  column-meets : (m : ℕ) (e : Entry) (depth first at : ℕ) → Fits text (number 4 (kind_of e) (pick (column_shape (kind_of e)).known 0 4) ∷ field_pieces m (column_shape (kind_of e)) e)
      → At s at (bytes text (number 4 (kind_of e) (pick (column_shape (kind_of e)).known 0 4) ∷ field_pieces m (column_shape (kind_of e)) e))
      → Meets (then (judged 4 column_type s at) (λ t v. then (column m s v) (λ u q. ok (bare t first depth v) q))) (fault text (number 4 (kind_of e) (pick (column_shape (kind_of e)).known 0 4) ∷ field_pieces m (column_shape (kind_of e)) e))
      (at + length (bytes text (number 4 (kind_of e) (pick (column_shape (kind_of e)).known 0 4) ∷ field_pieces m (column_shape (kind_of e)) e))) (asks (column_shape (kind_of e)) depth first (at + 4) e)
  unfolding column_shape faults
  column-meets m e depth first at fit stands =
      let sh : Shape = column_shape (kind_of e) in
      let ps : List Piece = field_pieces m sh e in
      let x : ℕ = pick sh.known 0 4 in
      let g = begins s text (kind_of e) x ps at fit.0 stands in
      subst₂ (λ (w : Res ℕ) (n : ℕ). Meets (then (then w (λ v n. rule (column_type v) at (ok v n))) (λ t v. then (column m s v) (λ u q. ok (bare t first depth v) q))) (fault text (number 4 (kind_of e) x ∷ ps)) n (asks sh depth first (at + 4) e))
      (sym g.number_is) g.length-is (column-by m e depth first at (eqb (kind_of e) (chars "UnFl")) fit.1 g.behind)

  -- ---- a key, and what follows it

  key_meets : (e : Entry) (at : ℕ) (ps : List Piece) (k : ℕ → Res Opened) (o : ℕ → Opened) → Fits text (pieces_of 0 e (f.Id 1) ++ ps) → At s at (bytes text (pieces_of 0 e (f.Id 1) ++ ps))
      → ((q : ℕ) → At s q (bytes text ps) → Meets (k q) (fault text ps) (q + length (bytes text ps)) (o (q + 4)))
      → Meets (then (id s at) (λ u q. k q)) (fault text (pieces_of 0 e (f.Id 1) ++ ps)) (at + length (bytes text (pieces_of 0 e (f.Id 1) ++ ps))) (o (at + size (pieces_of 0 e (f.Id 1)) + 4))
  key_meets e at ps k o fit stands go =
      let key : List Piece = pieces_of 0 e (f.Id 1) in
      let g : At s at (bytes text key ++ bytes text ps) = subst (λ (l : List ℕ). At s at l) (bytes-append text key ps) stands in
      let n : length (bytes text key) ≡ size key = bytes-length text key (fits-left text key ps fit) in
      let q : at + length (bytes text key) + length (bytes text ps) ≡ at + length (bytes text (key ++ ps)) = omega (arith, length-append (bytes text key) (bytes text ps), ap length (bytes-append text key ps)) in
      let one = (reads-id s text (number_in e 1) (number_in e 2) fit.0 fit.1.0).meets at (at_left s at (bytes text key) (bytes text ps) g) in
      let two = go (at + length (bytes text key)) (at_right s at (bytes text key) (bytes text ps) g) in
      subst (λ (z : ℕ). Meets (then (id s at) (λ u q. k q)) (fault text (key ++ ps)) (at + length (bytes text (key ++ ps))) (o (at + z + 4))) n
      (subst₂ (λ (x y : ℕ). Meets (then (id s at) (λ u q. k q)) x y (o (at + length (bytes text key) + 4))) (sym (faults-append (fault_of text) key ps)) q (meets-then one (λ u q. k q) two))

  -- ---- any member

  pub head_meets : (c : Due) (e : Entry) (depth at : ℕ) → Fits text (head_pieces c e) → At s at (bytes text (head_pieces c e))
      → Meets (member_head depth c s at) (fault text (head_pieces c e)) (at + length (bytes text (head_pieces c e))) (asks (shape_of c (kind_of e)) depth at (at + size (key_pieces c e) + 4) e)
  unfolding member_head head_pieces size
  head_meets items e depth at fit stands =
      subst (λ (n : ℕ). Meets (item_head depth at s at) (fault text (head_pieces items e)) (at + length (bytes text (head_pieces items e))) (asks (item_shape (kind_of e)) depth at (n + 4) e)) (sym (add-zero at)) (item-meets e depth at at fit stands)
  head_meets pairs e depth at fit stands =
      let ps : List Piece = number 4 (kind_of e) (pick (item_shape (kind_of e)).known 0 4) ∷ field_pieces 0 (item_shape (kind_of e)) e in
      key_meets e at ps (λ q. item_head depth at s q) (λ v. asks (item_shape (kind_of e)) depth at v e) fit stands (λ q st. item-meets e depth at q (fits-right text (pieces_of 0 e (f.Id 1)) ps fit) st)
  head_meets h.forms e depth at fit stands =
      subst (λ (n : ℕ). Meets (member_head depth h.forms s at) (fault text (head_pieces h.forms e)) (at + length (bytes text (head_pieces h.forms e))) (asks (form_shape (kind_of e)) depth at (n + 4) e)) (sym (add-zero at)) (form-meets e depth at fit stands)
  head_meets (columns m) e depth at fit stands =
      let ps : List Piece = number 4 (kind_of e) (pick (column_shape (kind_of e)).known 0 4) ∷ field_pieces m (column_shape (kind_of e)) e in
      key_meets e at ps (λ q. then (judged 4 column_type s q) (λ t v. then (column m s v) (λ u q. ok (bare t at depth v) q))) (λ v. asks (column_shape (kind_of e)) depth at v e) fit stands
      (λ q st. column-meets m e depth at q (fits-right text (pieces_of 0 e (f.Id 1)) ps fit) st)

-- where no byte is left, a head is 2
module _ (s : List ℕ) (at : ℕ) (last : at ≡ length s) where
  none_left : field 4 s at ≡ refuse 2 at 0 0
  none_left = field-short 4 s at (omega (arith, last))

  id-short : id s at ≡ refuse 2 at 0 0
  unfolding id
  id-short = rw none_left

  pub head-short : (depth : ℕ) (c : Due) → member_head depth c s at ≡ refuse 2 at 0 0
  unfolding member_head item_head
  head-short depth items = rw none_left
  head-short depth pairs = rw id-short
  head-short depth h.forms = rw none_left
  head-short depth (columns m) = rw id-short
