-- The heads of what was built carry their entries. Assumes nothing.
use Prim.Native.Nat.{ℕ, suc, ◌+◌, ◌*◌}
use mathlib.Core.Path.{◌≡◌, refl, sym, ap, ◌∙◌, subst}
use mathlib.Core.List.{List, [], ◌∷◌, ◌++◌, append-nil}
use mathlib.Core.Bool.{Bool, true, false}
use lib.Dec.{leb, eqb}
use lib.ListN.{length}
use native.Mathlib.Omega.{arith}
use native.Mathlib.Nat.{zero-add, add-zero}
use Rattle.algebra.specs.Chars.{chars}
use Rattle.algebra.specs.Numbers.{be, num, joined, At, Bytes}
use Rattle.algebra.specs.Reader.{ok, pick, each}
use Rattle.algebra.specs.Store.{part}
use Rattle.algebra.specs.Faults.{faults}
use Rattle.algebra.proofs.Places.{length-be, at_left, at_right, at_take, at-whole, num-be}
use Rattle.algebra.proofs.Tells.{first-inv}
use Rattle.descriptor.specs.Reading as count
use Rattle.descriptor.specs.Reading.{passing, double, unit, array_unit, is_unit, is_array_unit}
use Rattle.descriptor_heads.specs.Heads as h
use Rattle.descriptor_heads.specs.Heads.{Due, items, pairs, columns, Stack, deepest}
use Rattle.descriptor_entry.specs.declared.Field.{Field}
use Rattle.descriptor_entry.specs.declared.Field.TheVariants as f
use Rattle.descriptor_entry.specs.declared.Shape.{Shape}
use Rattle.descriptor_entry.specs.Pieces as p
use Rattle.descriptor_entry.specs.Pieces.{Piece, number, run, doubles, bytes_of, size, bytes, fault, fault_of, Fits}
use Rattle.descriptor_entry.specs.Shapes.{Entry, number_in, kind_of, wide_of, id_length, pieces_of, object, shape_of, fields_of}
use Rattle.descriptor_entry.specs.Entries.{key_pieces, objects_due, field_pieces, head_pieces, root_pieces, asks, next, member_pieces, ending, asked, root_stack, pieces, asked_heads, ended, made}
use Rattle.descriptor_entry.specs.Promise.{reader_of, Holds, Held, AllHeld, none, more, key_field, objects_in, Carries, Carried, over, member, FileCarried}
use Rattle.descriptor_entry.proofs.Laws.{bytes-append, faults-append, size-append, fits-left, fits-right, bytes-length}
use Rattle.descriptor_entry.proofs.Meeting.{Reads, meets-ok, reads_then, reads-give, reads-passing, reads-judged, reads-skip, begins}
use Rattle.descriptor_entry.proofs.Fields.{reads-id, reads_bytes, reads-unicode, reads-flag, reads-double, reads-doubles}

-- pieces that fit, have no fault and stand in a file
record Sound (s text : List ℕ) (ps : List Piece) (at : ℕ) : Type 0 where
  pub fit : Fits text ps
  pub none : fault text ps ≡ 0
  pub stands : At s at (bytes text ps)

module _ (s text : List ℕ) where
  sound-left : (ps qs : List Piece) (at : ℕ) → Sound s text (ps ++ qs) at → Sound s text ps at
  sound-left ps qs at h = record {
    fit = fits-left text ps qs h.fit;
    none = (first-inv (fault text ps) (fault text qs) (sym (faults-append (fault_of text) ps qs) ∙ h.none)).0;
    stands = at_left s at (bytes text ps) (bytes text qs) (subst (λ (l : List ℕ). At s at l) (bytes-append text ps qs) h.stands);
  }

  sound-right : (ps qs : List Piece) (at : ℕ) → Sound s text (ps ++ qs) at → Sound s text qs (at + size ps)
  sound-right ps qs at h = record {
    fit = fits-right text ps qs h.fit;
    none = (first-inv (fault text ps) (fault text qs) (sym (faults-append (fault_of text) ps qs) ∙ h.none)).1;
    stands = subst (λ (n : ℕ). At s (at + n) (bytes text qs)) (bytes-length text ps (fits-left text ps qs h.fit))
        (at_right s at (bytes text ps) (bytes text qs) (subst (λ (l : List ℕ). At s at l) (bytes-append text ps qs) h.stands));
  }

  -- ---- what stands there

  number-stands : (w v x : ℕ) (ps : List Piece) (at : ℕ) → Sound s text (number w v x ∷ ps) at → num w s at ≡ v
  unfolding joined
  number-stands w v x ps at h = num-be s w at v h.fit.0 (at_left s at (be w v) (bytes text ps) h.stands)

  part-stands : (v x first n : ℕ) (p : Piece) (at : ℕ) → bytes_of text p ≡ part text first n → length (part text first n) ≡ n → Sound s text (number 4 v x ∷ p ∷ []) at → part s (at + 4) n ≡ part text first n
  unfolding joined
  part-stands v x first n p at is long h =
      let g : At s (at + length (be 4 v)) (bytes_of text p ++ []) = at_right s at (be 4 v) (bytes_of text p ++ []) h.stands in
      let k : At s (at + 4) (part text first n) = subst (λ (l : List ℕ). At s (at + 4) l) (append-nil (bytes_of text p) ∙ is) (subst (λ (z : ℕ). At s (at + z) (bytes_of text p ++ [])) (length-be 4 v) g) in
      subst (λ (z : ℕ). part s (at + 4) z ≡ part text first n) long (at_take s (at + 4) (part text first n) k)

  holds : (m : ℕ) (e : Entry) (x : Field) (at : ℕ) → Sound s text (pieces_of m e x) at → Holds text s e x at
  holds m e f.Nothing at h = tt
  holds m e (f.Word i) at h = number-stands 4 _ _ [] at h
  holds m e f.Measure at h = number-stands 4 _ _ [] at h
  holds m e f.ArrayMeasure at h = number-stands 4 _ _ [] at h
  holds m e f.Flag at h = number-stands 1 _ _ [] at h
  holds m e f.Wide at h = number-stands 8 _ _ [] at h
  holds m e f.Double at h = number-stands 8 _ _ [] at h
  holds m e (f.Id i) at h =
      (number-stands 4 (number_in e i) 0 (run (number_in e (i + 1)) (id_length (number_in e i)) ∷ []) at h, part-stands (number_in e i) 0 (number_in e (i + 1)) (id_length (number_in e i)) (run (number_in e (i + 1)) (id_length (number_in e i))) at refl h.fit.1.0 h)
  holds m e (f.Text i) at h =
      (number-stands 4 (number_in e i) 0 (p.units (number_in e (i + 1)) (number_in e i) ∷ []) at h, part-stands (number_in e i) 0 (number_in e (i + 1)) (2 * number_in e i) (p.units (number_in e (i + 1)) (number_in e i)) at refl h.fit.1.0 h)
  holds m e (f.Run i) at h =
      (number-stands 4 (number_in e i) 0 (run (number_in e (i + 1)) (number_in e i) ∷ []) at h, part-stands (number_in e i) 0 (number_in e (i + 1)) (number_in e i) (run (number_in e (i + 1)) (number_in e i)) at refl h.fit.1.0 h)
  holds m e (f.Doubles i) at h =
      (number-stands 4 (number_in e i) (pick (eqb (number_in e i) m) 0 5) (doubles (number_in e (i + 1)) (number_in e i) ∷ []) at h, part-stands (number_in e i) (pick (eqb (number_in e i) m) 0 5) (number_in e (i + 1)) (8 * number_in e i) (doubles (number_in e (i + 1)) (number_in e i)) at refl h.fit.1.0 h)

module _ (s text : List ℕ) (b : Bytes text) where
  -- ---- how it is read

  field-reads : (m : ℕ) (e : Entry) (x : Field) → Fits text (pieces_of m e x) → Reads s text (pieces_of m e x) (reader_of m x) tt
  field-reads m e f.Nothing fit = reads-give s text tt
  field-reads m e (f.Word i) fit = reads-skip s text 4 (number_in e i)
  field-reads m e f.Measure fit = reads-passing s text (reads-judged s text 4 (number_in e 11) unit (is_unit (number_in e 11)) 4 fit.0 refl (omega arith))
  field-reads m e f.ArrayMeasure fit = reads-passing s text (reads-judged s text 4 (number_in e 11) array_unit (is_array_unit (number_in e 11)) 4 fit.0 refl (omega arith))
  field-reads m e f.Flag fit = reads-flag s text (number_in e 13) fit.0
  field-reads m e f.Wide fit = reads-skip s text 8 (wide_of e)
  field-reads m e f.Double fit = reads-double s text (wide_of e) fit.0
  field-reads m e (f.Id i) fit = reads-id s text (number_in e i) (number_in e (i + 1)) fit.0 fit.1.0
  field-reads m e (f.Text i) fit = reads-unicode s text b (number_in e i) (number_in e (i + 1)) fit.0 fit.1.0
  field-reads m e (f.Run i) fit = reads_bytes s text (number_in e i) (number_in e (i + 1)) fit.0 fit.1.0
  field-reads m e (f.Doubles i) fit =
      reads_then s text (reads-judged s text 4 (number_in e i) (count.doubles m) (eqb (number_in e i) m) 5 fit.0 refl (omega arith)) (λ n. passing (each n 0 (λ i. double)))
      (reads-doubles s text b (number_in e i) (number_in e (i + 1)) fit.1.0)

  held : (m : ℕ) (e : Entry) (x : Field) (at : ℕ) → Sound s text (pieces_of m e x) at → Held text s m e x at (at + size (pieces_of m e x))
  held m e x at h = record {
    reads = meets-ok ((field-reads m e x h.fit).meets at h.stands) h.none ∙ ap (λ (n : ℕ). ok tt (at + n)) (bytes-length text (pieces_of m e x) h.fit);
    holds = holds s text m e x at h;
  }

  -- ---- the fields of a kind

  fields-held : (m : ℕ) (sh : Shape) (e : Entry) (at : ℕ) → Sound s text (field_pieces m sh e) at → AllHeld text s m e (fields_of sh) at (at + size (field_pieces m sh e))
  unfolding field_pieces
  fields-held m sh e at h = step sh.first _ (λ at h. step sh.second _ (λ at h. step sh.third (pieces_of m e sh.fourth) (λ at h. more (held m e sh.fourth at h) none) at h) at h) at h
    where
      step : (x : Field) {xs : List Field} (qs : List Piece) → ((at : ℕ) → Sound s text qs at → AllHeld text s m e xs at (at + size qs))
          → (at : ℕ) → Sound s text (pieces_of m e x ++ qs) at → AllHeld text s m e (x ∷ xs) at (at + size (pieces_of m e x ++ qs))
      step x {xs} qs go at h =
          let l : at + size (pieces_of m e x) + size qs ≡ at + size (pieces_of m e x ++ qs) = omega (arith, size-append (pieces_of m e x) qs) in
          more (held m e x at (sound-left s text (pieces_of m e x) qs at h))
          (subst (λ (n : ℕ). AllHeld text s m e xs (at + size (pieces_of m e x)) n) l (go (at + size (pieces_of m e x)) (sound-right s text (pieces_of m e x) qs at h)))

  -- ---- heads

  key-held : (c : Due) (e : Entry) (at : ℕ) → Sound s text (key_pieces c e) at → Held text s 0 e (key_field c) at (at + size (key_pieces c e))
  key-held items e at h = held 0 e f.Nothing at h
  key-held pairs e at h = held 0 e (f.Id 1) at h
  key-held h.forms e at h = held 0 e f.Nothing at h
  key-held (columns m) e at h = held 0 e (f.Id 1) at h

  same-objects : (c : Due) → objects_due c ≡ objects_in c
  same-objects items = refl
  same-objects pairs = refl
  same-objects h.forms = refl
  same-objects (columns m) = refl

  head-carries : (c : Due) (e : Entry) (depth at : ℕ) → Sound s text (head_pieces c e) at → Carries text s c e (asks (shape_of c (kind_of e)) depth at (at + size (key_pieces c e) + 4) e) (at + size (head_pieces c e))
  unfolding head_pieces faults size
  head-carries c e depth at h =
      let key : List Piece = key_pieces c e in
      let sh : Shape = shape_of c (kind_of e) in
      let fs : List Piece = field_pieces (objects_due c) sh e in
      let x : ℕ = pick sh.known 0 4 in
      let r = sound-right s text key (number 4 (kind_of e) x ∷ fs) at h in
      let g = begins s text (kind_of e) x fs (at + size key) r.fit.0 r.stands in
      let behind : Sound s text fs (at + size key + 4) = record { fit = r.fit.1; none = (first-inv x (fault text fs) r.none).1; stands = g.behind } in
      let l : at + size key + 4 + size fs ≡ at + size (key ++ (number 4 (kind_of e) x ∷ fs)) = omega (arith, size-append key (number 4 (kind_of e) x ∷ fs)) in record {
        key_end = at + size key;
        key = key-held c e at (sound-left s text key (number 4 (kind_of e) x ∷ fs) at h);
        kind = g.number_is;
        fields = subst (λ (m : ℕ). AllHeld text s m e (fields_of sh) (at + size key + 4) (at + size (key ++ (number 4 (kind_of e) x ∷ fs)))) (same-objects c)
            (subst (λ (n : ℕ). AllHeld text s (objects_due c) e (fields_of sh) (at + size key + 4) n) l (fields-held (objects_due c) sh e (at + size key + 4) behind));
      }

  members-carried : (es : List Entry) (st : Stack) (at : ℕ) → Sound s text (member_pieces es st) at → at + size (member_pieces es st) ≡ length s → ending es st ≡ 0 → Carried text s es st (asked es st at) at
  unfolding member_pieces ending asked size
  members-carried [] [] at h last z = over (sym (add-zero at) ∙ last)
  members-carried [] (x ∷ st) at h last z = absurd (none_left (leb (suc (length st)) deepest) z)
    where
      none_left : (t : Bool) → ◌≡◌ {A = ℕ} (pick t 2 10) 0 → ⊥
      none_left true e = absurd (omega (arith, e))
      none_left false e = absurd (omega (arith, e))
  members-carried (e ∷ es) [] at h last z = absurd (omega (arith, z))
  members-carried (e ∷ es) (x ∷ st) at h last z = go (leb (suc (length st)) deepest) h last z (λ q. members-carried es (next (x ∷ st) e) q)
    where
      go : (t : Bool) → Sound s text (pick t (head_pieces x.0 e ++ member_pieces es (next (x ∷ st) e)) []) at → at + size (pick t (head_pieces x.0 e ++ member_pieces es (next (x ∷ st) e)) []) ≡ length s → pick t (ending es (next (x ∷ st) e)) 10 ≡ 0
          → ((q : ℕ) → Sound s text (member_pieces es (next (x ∷ st) e)) q → q + size (member_pieces es (next (x ∷ st) e)) ≡ length s → ending es (next (x ∷ st) e) ≡ 0 → Carried text s es (next (x ∷ st) e) (asked es (next (x ∷ st) e) q) q)
          → Carried text s (e ∷ es) (x ∷ st) (asks (shape_of x.0 (kind_of e)) (suc (length st)) at (at + size (key_pieces x.0 e) + 4) e ∷ asked es (next (x ∷ st) e) (at + size (head_pieces x.0 e))) at
      go true h last z ih =
          member refl (head-carries x.0 e (suc (length st)) at (sound-left s text (head_pieces x.0 e) (member_pieces es (next (x ∷ st) e)) at h))
          (ih (at + size (head_pieces x.0 e)) (sound-right s text (head_pieces x.0 e) (member_pieces es (next (x ∷ st) e)) at h)
          (omega (arith, last, size-append (head_pieces x.0 e) (member_pieces es (next (x ∷ st) e)))) z)
      go false h last z ih = absurd (omega (arith, z))

  -- ---- the file

  root-carried : (e : Entry) (es : List Entry) → Sound s text (pieces (e ∷ es)) 0 → size (pieces (e ∷ es)) ≡ length s → ended (e ∷ es) ≡ 0 → FileCarried text s (e ∷ es) (asked_heads (e ∷ es))
  unfolding pieces root_pieces ended asked_heads faults size
  root-carried e es h last z =
      let fs : List Piece = field_pieces 0 object e in
      let x : ℕ = pick (eqb (kind_of e) (chars "Objc")) 0 4 in
      let rp : List Piece = number 4 16 x ∷ fs in
      let mp : List Piece = member_pieces es (root_stack e) in
      let r = sound-left s text rp mp 0 h in
      let g = begins s text 16 x fs 0 r.fit.0 r.stands in
      let behind : Sound s text fs 4 = record { fit = r.fit.1; none = (first-inv x (fault text fs) r.none).1; stands = g.behind } in record {
        end = 4 + size fs;
        fields = fields-held 0 object e 4 behind;
        members = members-carried es (root_stack e) (4 + size fs) (subst (λ (n : ℕ). Sound s text mp n) (zero-add (4 + size fs)) (sound-right s text rp mp 0 h)) (omega (arith, last, size-append rp mp)) z;
      }

pub file-carried : (text : List ℕ) → Bytes text → (es : List Entry) → Fits text (pieces es) → fault text (pieces es) ≡ 0 → ended es ≡ 0 → FileCarried text (made text es) es (asked_heads es)
unfolding ended
file-carried text b [] fit n z = absurd (omega (arith, z))
file-carried text b (e ∷ es) fit n z =
    root-carried (made text (e ∷ es)) text b e es (record { fit = fit; none = n; stands = at-whole (made text (e ∷ es)) }) (sym (bytes-length text (pieces (e ∷ es)) fit)) z
