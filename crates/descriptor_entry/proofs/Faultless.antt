-- Entries without a fault fit their fields. Assumes nothing.
use Prim.Native.Nat.{ℕ, zero, suc, ◌+◌, ◌-◌, ◌*◌, ◌/◌, ◌^◌, ◌≤◌, ◌<◌}
use mathlib.Core.Path.{◌≡◌, refl, sym, ap, ◌∙◌, subst}
use mathlib.Core.List.{List, [], ◌∷◌, ◌++◌}
use mathlib.Core.Bool.{Bool, true, false}
use lib.Dec.{leb}
use lib.ListN.{length, get_or, take, drop, length-take, length-drop}
use lib.Seq.{get_or-drop}
use lib.Ieee.{binary64, of_bits}
use lib.Ieee.Scale.{finite}
use borrow.Author.Tests.{leb-true}
use native.Mathlib.Omega.{arith}
use Rattle.algebra.specs.Numbers.{num, counted}
use Rattle.algebra.specs.Table.{row_at, rows}
use Rattle.algebra.specs.Reader.{Res, ok, refuse, then, pick, field, body, each, number_of}
use Rattle.algebra.specs.Store.{part}
use Rattle.algebra.specs.Faults.{first_of, faults}
use Rattle.algebra.proofs.Tells.{first-inv, pick-none}
use Rattle.descriptor.specs.Reading.{double}
use Rattle.descriptor_heads.specs.Heads.{Due, items, pairs, forms, columns, Stack, deepest}
use Rattle.descriptor_entry.specs.declared.Field.{Field}
use Rattle.descriptor_entry.specs.declared.Field.TheVariants as f
use Rattle.descriptor_entry.specs.declared.Shape.{Shape}
use Rattle.descriptor_entry.specs.Pieces.{Piece, number, fault, fault_of, Fits}
use Rattle.descriptor_entry.specs.Shapes.{width, Entry, number_in, kind_of, wide_of, id_length, pieces_of, object, shape_of}
use Rattle.descriptor_entry.specs.Entries.{Words, given, key_pieces, objects_due, field_pieces, head_pieces, root_pieces, next, member_pieces, root_stack, pieces}
use Rattle.descriptor_entry.proofs.Laws.{faults-append, fits-join}

-- a part of a list of words
small-part : (l : List ℕ) (n i : ℕ) → ((j : ℕ) → get_or l j 0 < 256 ^ 4) → get_or (take n l) i 0 < 256 ^ 4
small-part l zero i h = omega arith
small-part [] (suc n) i h = omega arith
small-part (x ∷ l) (suc n) zero h = h 0
small-part (x ∷ l) (suc n) (suc i) h = small-part l n i (λ j. h (suc j))

-- a part that lies in the text is as long as it is given
part-long : (text : List ℕ) (first n : ℕ) → n ≤ length text - first → length (part text first n) ≡ n
part-long text first n h = simp (length-take, length-drop) (omega arith)

body-inside : (w n : ℕ) (text : List ℕ) (first : ℕ) → number_of (body w n text first) ≡ 0 → n * w ≤ length text - first
unfolding body
body-inside w n text first e = go (leb (n * w) (length text - first)) refl _ _ e
  where
    go : (t : Bool) → leb (n * w) (length text - first) ≡ t → (l : List ℕ) (q : ℕ) → number_of (pick t (ok l q) (refuse 2 first 0 0)) ≡ 0 → n * w ≤ length text - first
    go true h l q z = leb-true _ _ h
    go false h l q z = absurd (omega arith)

-- ---- doubles

data Doubled (text : List ℕ) (first : ℕ) : Type 0 where
  sound : double text first ≡ ok tt (first + 8) → 8 ≤ length text - first → Doubled text first
  wrong : (x p r g : ℕ) → double text first ≡ refuse x p r g → 0 < x → Doubled text first

doubled : (text : List ℕ) (first : ℕ) → Doubled text first
unfolding double field
doubled text first = go (leb 8 (length text - first)) refl (finite (of_bits binary64 (num 8 text first))) refl
  where
    go : (t : Bool) → leb 8 (length text - first) ≡ t → (u : Bool) → finite (of_bits binary64 (num 8 text first)) ≡ u → Doubled text first
    go true h true k = sound (rw h (rw k)) (leb-true _ _ h)
    go true h false k = wrong 5 first 0 0 (rw h (rw k)) (omega arith)
    go false h u k = wrong 2 first 0 0 (rw h) (omega arith)

number-made : {A B : Type 0} (m : Res A) (g : A → B) → number_of (then m (λ a q. ok (g a) q)) ≡ number_of m
number-made (ok a q) g = refl
number-made (refuse x p r f) g = refl

doubles-inside : (n i : ℕ) (text : List ℕ) (first : ℕ) → number_of (each n i (λ i. double) text first) ≡ 0 → 8 * n ≤ length text - first
unfolding each
doubles-inside zero i text first e = omega arith
doubles-inside (suc n) i text first e = go (doubled text first) (doubles-inside n (i + 1) text (first + 8))
  where
    go : Doubled text first → (number_of (each n (i + 1) (λ i. double) text (first + 8)) ≡ 0 → 8 * n ≤ length text - (first + 8)) → 8 * suc n ≤ length text - first
    go (sound d l) ih =
        let z : number_of (each n (i + 1) (λ i. double) text (first + 8)) ≡ 0 =
        sym (ap number_of (ap (λ (m : Res Unit). then m (λ a next. then (each n (i + 1) (λ i. double) text next) (λ more end. ok (a ∷ more) end))) d) ∙ number-made (each n (i + 1) (λ i. double) text (first + 8)) (λ more. tt ∷ more)) ∙ e in
        omega (arith, ih z, l)
    go (wrong x p r g d l) ih =
        let z : x ≡ 0 = sym (ap number_of (ap (λ (m : Res Unit). then m (λ a next. then (each n (i + 1) (λ i. double) text next) (λ more end. ok (a ∷ more) end))) d)) ∙ e in
        absurd (omega (arith, z, l))

abbrev pub AllWords : List Entry → Type 0
AllWords [] = Unit {0}
AllWords (e ∷ es) = Words e × AllWords es

-- ---- fields

module _ (text : List ℕ) where
  -- two pieces
  two : (p q : Piece) → fault text (p ∷ q ∷ []) ≡ 0 → (fault_of text p ≡ 0) × (fault_of text q ≡ 0)
  unfolding faults
  two p q e = let i = first-inv (fault_of text p) (first_of (fault_of text q) 0) e in (i.0, (first-inv (fault_of text q) 0 i.1).0)

  one : (p : Piece) → fault text (p ∷ []) ≡ 0 → fault_of text p ≡ 0
  unfolding faults
  one p e = (first-inv (fault_of text p) 0 e).0

  wide-small : (e : Entry) → Words e → wide_of e < 256 ^ 8
  wide-small e w = omega (arith, w 12, w 13)

  field_fits : (m : ℕ) (e : Entry) → Words e → (x : Field) → fault text (pieces_of m e x) ≡ 0 → Fits text (pieces_of m e x)
  field_fits m e w f.Nothing z = tt
  field_fits m e w (f.Word i) z = (w i, tt)
  field_fits m e w f.Measure z = (w 11, tt)
  field_fits m e w f.ArrayMeasure z = (w 11, tt)
  field_fits m e w f.Flag z =
      let l : number_in e 13 ≤ 1 = leb-true _ _ (pick-none (leb (number_in e 13) 1) 5 (omega arith) (one (number 1 (number_in e 13) (pick (leb (number_in e 13) 1) 0 5)) z)) in
      (omega (arith, l), tt)
  field_fits m e w f.Wide z = (wide-small e w, tt)
  field_fits m e w f.Double z = (wide-small e w, tt)
  field_fits m e w (f.Id i) z =
      let n : ℕ = id_length (number_in e i) in
      let l = body-inside 1 n text (number_in e (i + 1)) (two _ _ z).1 in
      (w i, (part-long text (number_in e (i + 1)) n (omega (arith, l)), tt))
  field_fits m e w (f.Text i) z =
      let n : ℕ = number_in e i in
      let l = body-inside 2 n text (number_in e (i + 1)) (first-inv _ _ (two _ _ z).1).0 in
      (w i, (part-long text (number_in e (i + 1)) (2 * n) (omega (arith, l)), tt))
  field_fits m e w (f.Run i) z =
      let n : ℕ = number_in e i in
      let l = body-inside 1 n text (number_in e (i + 1)) (two _ _ z).1 in
      (w i, (part-long text (number_in e (i + 1)) n (omega (arith, l)), tt))
  field_fits m e w (f.Doubles i) z =
      let n : ℕ = number_in e i in
      let l = doubles-inside n 0 text (number_in e (i + 1)) (two _ _ z).1 in
      (w i, (part-long text (number_in e (i + 1)) (8 * n) l, tt))

  -- pieces one after the other
  append-fits : (ps qs : List Piece) → (fault text ps ≡ 0 → Fits text ps) → (fault text qs ≡ 0 → Fits text qs) → fault text (ps ++ qs) ≡ 0 → Fits text (ps ++ qs)
  append-fits ps qs a b z = let i = first-inv (fault text ps) (fault text qs) (sym (faults-append (fault_of text) ps qs) ∙ z) in fits-join text ps qs (a i.0) (b i.1)

  fields_fit : (m : ℕ) (sh : Shape) (e : Entry) → Words e → fault text (field_pieces m sh e) ≡ 0 → Fits text (field_pieces m sh e)
  unfolding field_pieces
  fields_fit m sh e w z =
      append-fits (pieces_of m e sh.first) _ (field_fits m e w sh.first)
      (append-fits (pieces_of m e sh.second) _ (field_fits m e w sh.second)
      (append-fits (pieces_of m e sh.third) (pieces_of m e sh.fourth) (field_fits m e w sh.third) (field_fits m e w sh.fourth))) z

  number_fits : (w v x : ℕ) (ps : List Piece) → v < 256 ^ w → (fault text ps ≡ 0 → Fits text ps) → fault text (number w v x ∷ ps) ≡ 0 → Fits text (number w v x ∷ ps)
  unfolding faults
  number_fits w v x ps small a z = (small, a (first-inv x (fault text ps) z).1)

  key_fits : (c : Due) (e : Entry) → Words e → fault text (key_pieces c e) ≡ 0 → Fits text (key_pieces c e)
  key_fits items e w z = tt
  key_fits pairs e w z = field_fits 0 e w (f.Id 1) z
  key_fits forms e w z = tt
  key_fits (columns m) e w z = field_fits 0 e w (f.Id 1) z

  pub head-fits : (c : Due) (e : Entry) → Words e → fault text (head_pieces c e) ≡ 0 → Fits text (head_pieces c e)
  unfolding head_pieces
  head-fits c e w z =
      let ps : List Piece = field_pieces (objects_due c) (shape_of c (kind_of e)) e in
      let x : ℕ = pick (shape_of c (kind_of e)).known 0 4 in
      append-fits (key_pieces c e) (number 4 (kind_of e) x ∷ ps) (key_fits c e w) (number_fits 4 (kind_of e) x ps (w 0) (fields_fit (objects_due c) (shape_of c (kind_of e)) e w)) z

  pub root-fits : (e : Entry) → Words e → fault text (root_pieces e) ≡ 0 → Fits text (root_pieces e)
  unfolding root_pieces
  root-fits e w z = number_fits 4 16 _ (field_pieces 0 object e) (omega arith) (fields_fit 0 object e w) z

  -- ---- entries

  members-fit : (es : List Entry) → AllWords es → (st : Stack) → fault text (member_pieces es st) ≡ 0 → Fits text (member_pieces es st)
  unfolding member_pieces
  members-fit [] w st z = tt
  members-fit (e ∷ es) w [] z = tt
  members-fit (e ∷ es) w (x ∷ st) z = go (leb (suc (length st)) deepest) (members-fit es w.1 (next (x ∷ st) e)) z
    where
      go : (t : Bool) → (fault text (member_pieces es (next (x ∷ st) e)) ≡ 0 → Fits text (member_pieces es (next (x ∷ st) e))) → fault text (pick t (head_pieces x.0 e ++ member_pieces es (next (x ∷ st) e)) []) ≡ 0 → Fits text (pick t (head_pieces x.0 e ++ member_pieces es (next (x ∷ st) e)) [])
      go true ih y = append-fits (head_pieces x.0 e) (member_pieces es (next (x ∷ st) e)) (head-fits x.0 e w.0) ih y
      go false ih y = tt

  pub pieces-fit : (es : List Entry) → AllWords es → fault text (pieces es) ≡ 0 → Fits text (pieces es)
  unfolding pieces
  pieces-fit [] w z = tt
  pieces-fit (e ∷ es) w z = append-fits (root_pieces e) (member_pieces es (root_stack e)) (root-fits e w.0) (members-fit es w.1 (root_stack e)) z

-- the entries of a run of words
rows_words : (run : List ℕ) → Words run → (n k : ℕ) → AllWords (rows width (λ row. row) run n k)
unfolding counted
rows_words run w zero k = tt
rows_words run w (suc n) k = (λ i. row_small i, rows_words run w n (k + 1))
  where
    row_small : (i : ℕ) → get_or (row_at width run k) i 0 < 256 ^ 4
    row_small i = small-part (drop (width * k) run) width i (λ j. subst (λ (x : ℕ). x < 256 ^ 4) (sym (get_or-drop (width * k) run j 0)) (w (width * k + j)))

pub given-words : (run : List ℕ) → Words run → AllWords (given run)
given-words run w = rows_words run w (length run / width) 0
