-- The head of a member, where the bytes of an entry stand: each kind by the two tables. Assumes nothing.
use Prim.Native.Nat.{ℕ}
use mathlib.Core.Path.{◌≡◌, refl, sym, ap, ◌∙◌, subst}
use mathlib.Core.List.{List, [], ◌∷◌, ◌++◌, append-nil}
use mathlib.Core.Bool.{Bool, true, false}
use lib.Dec.{eqb}
use native.Mathlib.Omega.{arith}
use Rattle.std.specs.Prelude.{Option, None}
use Rattle.std.specs.Option.{unwrap_or}
use Rattle.algebra.specs.Numbers.{Bytes, joined}
use Rattle.algebra.specs.Reader.{ok, Reader, pick, field, give, ◌>>=◌, done}
use Rattle.algebra.specs.Faults.{faults}
use Rattle.algebra.proofs.Laws.{body-in}
use Rattle.descriptor.specs.Reading.{Known, is, unknown, beside, skip, id, unicode, class, flag, double, enumerated, raw_bytes, unit_double, Sort, leaf, list, object, reference, array, types, forms, ref_value}
use Rattle.descriptor_heads.specs.Heads as h
use Rattle.descriptor_heads.specs.Heads.{Due, items, pairs, columns, opens}
use Rattle.descriptor_raw.specs.Raw.{due_of}
use Rattle.descriptor_entry.specs.declared.Field.{Field}
use Rattle.descriptor_entry.specs.declared.Field.TheVariants as f
use Rattle.descriptor_entry.specs.declared.Shape.{Shape}
use Rattle.descriptor_entry.specs.Pieces.{Piece, Fits}
use Rattle.descriptor_entry.specs.Shapes as sh
use Rattle.descriptor_entry.specs.Shapes.{Entry, number_in, wide_of, count_of, objects_of, pieces_of, only, both, classed, holding, wanted, item_shapes, form_shapes}
use Rattle.descriptor_entry.specs.Entries.{field_pieces}
use Rattle.descriptor_entry.proofs.Meeting.{good, Reads, reads_then, reads-give, reads-field, reads-skip}
use Rattle.descriptor_entry.proofs.Fields.{reads-id, reads_bytes, reads-unicode, reads-flag, reads-double, reads-unit-double}

-- ---- two tables with the same tags in the same order

pub data Paired {A B : Type 0} (P : A → B → Type 0) : List (ℕ × A) → List (ℕ × B) → Type 0 where
  none : Paired P [] []
  row : {t : ℕ} {a : A} {b : B} {as' : List (ℕ × A)} {bs : List (ℕ × B)} → P a b → Paired P as' bs → Paired P ((t, a) ∷ as') ((t, b) ∷ bs)

pub data Both {A B : Type 0} (P : A → B → Type 0) : Known A → Known B → Type 0 where
  each : {a : A} {b : B} → P a b → Both P (is a) (is b)
  neither : Both P unknown unknown

pub paired : {A B : Type 0} {P : A → B → Type 0} {as' : List (ℕ × A)} {bs : List (ℕ × B)} → Paired P as' bs → (t : ℕ) → Both P (beside as' t) (beside bs t)
paired none t = neither
paired {P = P} (row {t = u} {a = a} {b = b} {as' = as'} {bs = bs} p ps) t = go (eqb t u) (paired ps t)
  where
    go : (x : Bool) → Both P (beside as' t) (beside bs t) → Both P (pick x (is a) (beside as' t)) (pick x (is b) (beside bs t))
    go true q = each p
    go false q = q

-- ---- each kind

module _ (s text : List ℕ) (b : Bytes text) where
  pub record Suits (sort : Sort) (sh : Shape) : Type 0 where
    pub known : sh.known ≡ true
    pub reads : (e : Entry) → Fits text (field_pieces 0 sh e) → Reads s text (field_pieces 0 sh e) (opens sort) (due_of (unwrap_or sh.below 0) (objects_of e), wanted sh.below (count_of e))

  pub record SuitsForm (r : Reader Unit) (sh : Shape) : Type 0 where
    pub known : sh.known ≡ true
    pub no-child : sh.below ≡ None
    pub reads : (e : Entry) → Fits text (field_pieces 0 sh e) → Reads s text (field_pieces 0 sh e) (ref_value r) tt

  reads-class : (e : Entry) → Fits text (pieces_of 0 e (f.Text 3) ++ pieces_of 0 e (f.Id 5)) → Reads s text (pieces_of 0 e (f.Text 3) ++ pieces_of 0 e (f.Id 5)) class tt
  unfolding class
  reads-class e fit = reads_then s text (reads-unicode s text b (number_in e 3) (number_in e 4) fit.0 fit.1.0) (λ u. id) (reads-id s text (number_in e 5) (number_in e 6) fit.1.1.0 fit.1.1.1.0)

  leaf-suits : (p : Reader Unit) (sh : Shape) → sh.known ≡ true → sh.below ≡ None → ((e : Entry) → Fits text (field_pieces 0 sh e) → Reads s text (field_pieces 0 sh e) p tt) → Suits (leaf p) sh
  leaf-suits p sh k n r = record {
    known = k;
    reads = λ e fit.
        let x : Reads s text (field_pieces 0 sh e ++ []) (opens (leaf p)) (items, 0) = reads_then s text (r e fit) (λ u. give (items, 0)) (reads-give s text (items, 0)) in
        let y : Reads s text (field_pieces 0 sh e) (opens (leaf p)) (items, 0) = subst (λ (l : List Piece). Reads s text l (opens (leaf p)) (items, 0)) (append-nil (field_pieces 0 sh e)) x in
        subst (λ (o : Option ℕ). Reads s text (field_pieces 0 sh e) (opens (leaf p)) (due_of (unwrap_or o 0) (objects_of e), wanted o (count_of e))) (sym n) y;
  }

  -- a field of the class, where other fields follow
  class-fit : (e : Entry) (ps : List Piece) → Fits text (pieces_of 0 e (f.Text 3) ++ (pieces_of 0 e (f.Id 5) ++ ps)) → Fits text (pieces_of 0 e (f.Text 3) ++ pieces_of 0 e (f.Id 5))
  class-fit e ps fit = (fit.0, (fit.1.0, (fit.1.1.0, (fit.1.1.1.0, tt))))

  class-reads : (e : Entry) → Fits text (field_pieces 0 (classed f.Nothing f.Nothing) e) → Reads s text (field_pieces 0 (classed f.Nothing f.Nothing) e) class tt
  unfolding field_pieces
  class-reads e fit = reads-class e fit

  flag-reads : (e : Entry) → Fits text (field_pieces 0 (only f.Flag) e) → Reads s text (field_pieces 0 (only f.Flag) e) flag tt
  unfolding field_pieces
  flag-reads e fit = reads-flag s text (number_in e 13) fit.0

  double-reads : (e : Entry) → Fits text (field_pieces 0 (only f.Double) e) → Reads s text (field_pieces 0 (only f.Double) e) double tt
  unfolding field_pieces
  double-reads e fit = reads-double s text (wide_of e) fit.0

  enumerated-reads : (e : Entry) → Fits text (field_pieces 0 (both (f.Id 7) (f.Id 9)) e) → Reads s text (field_pieces 0 (both (f.Id 7) (f.Id 9)) e) enumerated tt
  unfolding field_pieces enumerated
  enumerated-reads e fit =
      reads_then s text (reads-id s text (number_in e 7) (number_in e 8) fit.0 fit.1.0) (λ u. id) (reads-id s text (number_in e 9) (number_in e 10) fit.1.1.0 fit.1.1.1.0)

  bytes-reads : (e : Entry) → Fits text (field_pieces 0 (only (f.Run 7)) e) → Reads s text (field_pieces 0 (only (f.Run 7)) e) raw_bytes tt
  unfolding field_pieces
  bytes-reads e fit = reads_bytes s text (number_in e 7) (number_in e 8) fit.0 fit.1.0

  long-reads : (e : Entry) → Fits text (field_pieces 0 (only (f.Word 13)) e) → Reads s text (field_pieces 0 (only (f.Word 13)) e) (skip 4) tt
  unfolding field_pieces
  long-reads e fit = reads-skip s text 4 (number_in e 13)

  comp-reads : (e : Entry) → Fits text (field_pieces 0 (only f.Wide) e) → Reads s text (field_pieces 0 (only f.Wide) e) (skip 8) tt
  unfolding field_pieces
  comp-reads e fit = reads-skip s text 8 (wide_of e)

  text-reads : (e : Entry) → Fits text (field_pieces 0 (only (f.Text 7)) e) → Reads s text (field_pieces 0 (only (f.Text 7)) e) unicode tt
  unfolding field_pieces
  text-reads e fit = reads-unicode s text b (number_in e 7) (number_in e 8) fit.0 fit.1.0

  measure-reads : (e : Entry) → Fits text (field_pieces 0 (both f.Measure f.Double) e) → Reads s text (field_pieces 0 (both f.Measure f.Double) e) unit_double tt
  unfolding field_pieces
  measure-reads e fit = reads-unit-double s text (number_in e 11) (wide_of e) fit.0 fit.1.0

  -- ---- rows that have children

  list-suits : Suits list (holding 0 (f.Word 14) f.Nothing f.Nothing f.Nothing)
  unfolding field_pieces
  list-suits = record { known = refl; reads = λ e fit. reads_then s text (reads-field s text 4 (count_of e) fit.0) (λ n. give (items, n)) (reads-give s text (items, count_of e)) }

  reference-suits : Suits reference (holding 2 (f.Word 14) f.Nothing f.Nothing f.Nothing)
  unfolding field_pieces
  reference-suits = record { known = refl; reads = λ e fit. reads_then s text (reads-field s text 4 (count_of e) fit.0) (λ n. give (h.forms, n)) (reads-give s text (h.forms, count_of e)) }

  pub object-suits : Suits object sh.object
  unfolding field_pieces
  object-suits = record {
    known = refl;
    reads = λ e fit.
        reads_then s text (reads-class e (class-fit e (pieces_of 0 e (f.Word 14)) fit)) (λ u. field 4 >>= (λ n. give (pairs, n)))
        (reads_then s text (reads-field s text 4 (count_of e) fit.1.1.1.1.0) (λ n. give (pairs, n)) (reads-give s text (pairs, count_of e)));
  }

  array-suits : Suits array (holding 3 (f.Word 15) (f.Text 3) (f.Id 5) (f.Word 14))
  unfolding field_pieces
  array-suits = record {
    known = refl;
    reads = λ e fit.
        reads_then s text (reads-field s text 4 (objects_of e) fit.0) (λ m. class >>= (λ u. field 4 >>= (λ n. give (columns m, n))))
        (reads_then s text (reads-class e (class-fit e (pieces_of 0 e (f.Word 14)) fit.1)) (λ u. field 4 >>= (λ n. give (columns (objects_of e), n)))
        (reads_then s text (reads-field s text 4 (count_of e) fit.1.1.1.1.1.0) (λ n. give (columns (objects_of e), n)) (reads-give s text (columns (objects_of e), count_of e))));
  }

  pub item-table : Paired Suits types item_shapes
  item-table =
      row (leaf-suits flag _ refl refl flag-reads)
      (row (leaf-suits class _ refl refl class-reads)
      (row (leaf-suits class _ refl refl class-reads)
      (row (leaf-suits double _ refl refl double-reads)
      (row (leaf-suits enumerated _ refl refl enumerated-reads)
      (row (leaf-suits raw_bytes _ refl refl bytes-reads)
      (row (leaf-suits raw_bytes _ refl refl bytes-reads)
      (row (leaf-suits raw_bytes _ refl refl bytes-reads)
      (row (leaf-suits (skip 4) _ refl refl long-reads)
      (row (leaf-suits (skip 8) _ refl refl comp-reads)
      (row (leaf-suits unicode _ refl refl text-reads)
      (row (leaf-suits unit_double _ refl refl measure-reads)
      (row list-suits
      (row object-suits
      (row object-suits
      (row reference-suits
      (row array-suits none))))))))))))))))

  -- ---- reference items

  form-suits : (r : Reader Unit) (c d : Field) → ((e : Entry) → Fits text (pieces_of 0 e c ++ pieces_of 0 e d) → Reads s text (pieces_of 0 e c ++ pieces_of 0 e d) r tt) → SuitsForm r (classed c d)
  unfolding field_pieces ref_value
  form-suits r c d x = record {
    known = refl;
    no-child = refl;
    reads = λ e fit. reads_then s text (reads-class e (class-fit e (pieces_of 0 e c ++ pieces_of 0 e d) fit)) (λ u. r) (x e fit.1.1.1.1);
  }

  nothing-reads : (e : Entry) → Fits text [] → Reads s text [] (skip 0) tt
  unfolding faults joined
  nothing-reads e fit = record { meets = λ at h. good (ap done (body-in 1 s at 0 (omega arith)) ∙ ap (λ (n : ℕ). ok tt n) (omega arith)) refl }

  pub form-table : Paired SuitsForm forms form_shapes
  unfolding field_pieces
  form-table =
      row (form-suits (skip 0) f.Nothing f.Nothing nothing-reads)
      (row (form-suits enumerated (f.Id 7) (f.Id 9) two-ids)
      (row (form-suits id (f.Id 7) f.Nothing (λ e fit. reads-id s text (number_in e 7) (number_in e 8) fit.0 fit.1.0))
      (row (form-suits unicode (f.Text 7) f.Nothing (λ e fit. reads-unicode s text b (number_in e 7) (number_in e 8) fit.0 fit.1.0))
      (row (word)
      (row (word)
      (row (word) none))))))
    where
      word : SuitsForm (skip 4) (classed (f.Word 13) f.Nothing)
      word = form-suits (skip 4) (f.Word 13) f.Nothing (λ e fit. reads-skip s text 4 (number_in e 13))

      two-ids : (e : Entry) → Fits text (pieces_of 0 e (f.Id 7) ++ pieces_of 0 e (f.Id 9)) → Reads s text (pieces_of 0 e (f.Id 7) ++ pieces_of 0 e (f.Id 9)) enumerated tt
      two-ids e fit = enumerated-reads e fit
