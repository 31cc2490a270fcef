-- A given book that fits: its length and its first fault are those of the book that is written. Assumes nothing.
use Prim.Native.Nat.{ℕ, ◌+◌, ◌*◌, ◌-◌, ◌^◌, ◌≤◌, ◌<◌}
use mathlib.Core.Path.{◌≡◌, sym, ap, ap₂, ◌∙◌, subst}
use mathlib.Core.List.{List, [], ◌∷◌}
use lib.Dec.{leb}
use lib.ListN.{length}
use lib.Seq.{length-take-le}
use borrow.Author.Tests.{leb-true, le-leb}
use native.Mathlib.Omega.{arith}
use native.Mathlib.Nat.{lt_of_not-le}
use native.Mathlib.Decide.{ℕ_discrete, dec_le}
use Rattle.algebra.specs.Numbers.{Bytes, All}
use Rattle.algebra.specs.Reader.{pick, limit}
use Rattle.algebra.specs.Faults.{first_of, faults}
use Rattle.algebra.proofs.Places.{length-nums, nums-lt}
use Rattle.algebra.proofs.Exact.{all_map, all_both, length-map}
use Rattle.algebra.proofs.Tells.{first-zero, first-none, first-inv, pick-none, faults-inv, faults-none, faults-from}
use Rattle.algebra.proofs.Firsts.{test-holds, all-image}
use Rattle.acb.specs.Grammar.{Ending, tagged, other, String, AllowedRecord}
use Rattle.acb.specs.Reading.{components_of}
use Rattle.acb_judge.specs.Answer.{HeaderPlaces}
use Rattle.acb.specs.Faults as a
use Rattle.acb.specs.Faults.{ending_fault, EndingFits, book_fault, BookFits}
use Rattle.acb_writing.specs.Writing.{units_within, components_in, colour_in, book_in, sizes, string_size, size_within, size, text_fault, byte_fault, colour_fault, other_fault, ink_fault, fault}
use Rattle.acb.specs.Row.{RecordRow}
use Rattle.acb_write_judge.proofs.Judging.{text_in, text-cut, head-fine}
use Rattle.acb.proofs.Laws.{components-some}
use Rattle.acb_write.proofs.Puts.{Shaped, length-file}
use Rattle.acb_roundtrip.specs.Tie.{Headed, made, TextFitting, Fitting, BookFitting}

-- ---- lists of faults and of sizes

all_none : {A : Type 0} (f : A → ℕ) (l : List A) → All (λ k a. f a ≡ 0) 0 l → faults f l ≡ 0
all_none f l h = sym (faults-from f 0 l) ∙ faults-none (λ k. f) 0 l h

none-all : {A : Type 0} (f : A → ℕ) (l : List A) → faults f l ≡ 0 → All (λ k a. f a ≡ 0) 0 l
none-all f l e = faults-inv (λ k. f) 0 l (faults-from f 0 l ∙ e)

sizes-each : {A : Type 0} (f : A → ℕ) (m i : ℕ) (l : List A) → sizes f l ≤ m → All (λ k a. f a ≤ m) i l
unfolding sizes
sizes-each f m i [] h = tt
sizes-each f m i (a ∷ l) h = (omega arith, sizes-each f m (i + 1) l (omega arith))

byte_small : (v : ℕ) → byte_fault v ≡ 0 → v < 256
byte_small v e = omega (arith, leb-true v 255 (pick-none (leb v 255) 5 (omega arith) e))

small-byte : (v : ℕ) → v < 256 → byte_fault v ≡ 0
small-byte v h = rw (le-leb v 255 (omega arith))

bytes-none : (l : List ℕ) → All (λ i b. b < 256) 0 l → faults byte_fault l ≡ 0
bytes-none l h = all_none byte_fault l (all_map (λ i b. b < 256) (λ i b. byte_fault b ≡ 0) (λ i b k. small-byte b k) 0 l h)

none-bytes : (l : List ℕ) → faults byte_fault l ≡ 0 → All (λ i b. b < 256) 0 l
none-bytes l e = all_map (λ i b. byte_fault b ≡ 0) (λ i b. b < 256) (λ i b k. byte_small b k) 0 l (none-all byte_fault l e)

-- ---- the tag

ending-fits : (t : Ending) → ending_fault t ≡ 0 → EndingFits t
ending-fits (tagged t) e = tt
ending-fits (other v) e = absurd (omega arith)

-- ---- a string

module _ (text : List ℕ) where
  text-sound : (l : ℕ × ℕ) → TextFitting text l → text_fault text l ≡ 0
  text-sound l f = sym (text_in text l (elim (ℕ_discrete l.1 0) [
    | yes z ↦ omega arith
    | no z ↦ omega (arith, f.inside (omega arith))
  ]))

  sound-text : (l : ℕ × ℕ) → text_fault text l ≡ 0 → string_size l ≤ limit → TextFitting text l
  sound-text l e h = record {
    counted = omega arith;
    inside = λ k. elim (dec_le (2 * l.1) (length text - l.0)) [
      | yes r ↦ omega arith
      | no r ↦ absurd (omega (arith, e, text-cut text l (lt_of_not-le r)))
    ];
  }

  text-string : Bytes text → (l : ℕ × ℕ) → TextFitting text l → String (units_within text l)
  text-string bytes l f = record { counted = subst (λ (k : ℕ). k < 256 ^ 4) (sym (length-nums 2 l.1 text l.0)) f.counted; units = nums-lt 2 text bytes l.1 l.0 0 }

  -- ---- a record

  module _ (n : ℕ) where
    record-sound : (g : RecordRow) → Fitting text n g → colour_fault text n g ≡ 0
    unfolding colour_fault
    record-sound g f =
        first-none (text_fault text g.name) _ (text-sound g.name f.named)
        ∙ first-none (faults byte_fault g.code) _ (bytes-none g.code f.code_small) ∙ bytes-none (components_in n g) f.components_small

    sound-record : (g : RecordRow) → Shaped g → colour_fault text n g ≡ 0 → size_within n g ≤ limit → Fitting text n g
    unfolding colour_fault
    sound-record g s e h =
        let x = first-inv (text_fault text g.name) (first_of (faults byte_fault g.code) (faults byte_fault (components_in n g))) e in
        let y = first-inv (faults byte_fault g.code) (faults byte_fault (components_in n g)) x.1 in record {
          named = sound-text g.name x.0 (omega arith);
          six = s.0;
          code_small = none-bytes g.code y.0;
          four = s.1;
          components_small = none-bytes (components_in n g) y.1;
        }

    record-swatch : Bytes text → n ≤ 4 → (g : RecordRow) → Fitting text n g → AllowedRecord n (colour_in text n g)
    record-swatch bytes few g f = record {
      name = text-string bytes g.name f.named;
      code = record { count = f.six; each = f.code_small };
      components = record { count = length-take-le n g.components (omega (arith, f.four)); each = f.components_small };
    }

-- ---- the book

module _ (text : List ℕ) (h : HeaderPlaces) (t : Ending) (gs : List RecordRow) where
  module _ (f : BookFitting text h t gs) where
    shaped : All (λ k g. Shaped g) 0 gs
    shaped = all_map (λ k g. Fitting text (components_of h.space) g) (λ k g. Shaped g) (λ k g r. (r.six, r.four)) 0 gs f.records

    -- what is made is as long as the writer says
    pub length-made : length (made text h t gs) ≡ size h t gs
    length-made = length-file text h t gs shaped

    pub book-fits : Bytes text → BookFits (book_in text h t gs)
    book-fits bytes =
        let m : ℕ = components_of h.space in record {
          identifier = f.headed.identifier_small;
          four = length-map (units_within text) h.texts ∙ f.headed.four;
          texts = all-image (units_within text) (λ k us. String us) 0 h.texts (all_map (λ k l. TextFitting text l) (λ k l. String (units_within text l)) (λ k l r. text-string text bytes l r) 0 h.texts f.strings);
          count = subst (λ (k : ℕ). k < 256 ^ 2) (sym (length-map (colour_in text m) gs)) f.count;
          size = f.headed.size_small;
          offset = f.headed.offset_small;
          space = f.headed.space_small;
          colours = all-image (colour_in text m) (λ k c. AllowedRecord m c) 0 gs (all_map (λ k g. Fitting text m g) (λ k g. AllowedRecord m (colour_in text m g)) (λ k g r. record-swatch text m bytes (components-some h.space).1 g r) 0 gs f.records);
          tag = f.tag;
        }

    -- the writer's first fault is that of the book
    other-same : other_fault text h t gs ≡ pick (leb (length (made text h t gs)) limit) (book_fault (book_in text h t gs)) 1
    unfolding other_fault book_fault
    other-same =
        let m : ℕ = components_of h.space in
        let ts : faults (text_fault text) h.texts ≡ 0 = all_none (text_fault text) h.texts (all_map (λ k l. TextFitting text l) (λ k l. text_fault text l ≡ 0) (λ k l r. text-sound text l r) 0 h.texts f.strings) in
        let rs : faults (colour_fault text m) gs ≡ 0 = all_none (colour_fault text m) gs (all_map (λ k g. Fitting text m g) (λ k g. colour_fault text m g ≡ 0) (λ k g r. record-sound text m g r) 0 gs f.records) in
        ap₂ (λ (k x : ℕ). pick (leb k limit) x 1) (sym length-made)
        (ap₂ (λ (x y : ℕ). first_of x y) (ap₂ (λ (x n : ℕ). a.head_fault x n h.size h.space) ts (sym (length-map (colour_in text m) gs))) (first-none (faults (colour_fault text m) gs) (ending_fault t) rs))

    pub fault-same : fault text h t gs ≡ pick (leb (length (made text h t gs)) limit) (book_fault (book_in text h t gs)) 1
    unfolding fault
    fault-same = ap (first_of (other_fault text h t gs)) (all_none (ink_fault t) gs f.inked) ∙ first-zero (other_fault text h t gs) ∙ other-same

  -- a book without a fault fits
  pub faultless-fit : Headed h → All (λ k g. Shaped g) 0 gs → fault text h t gs ≡ 0 → BookFitting text h t gs
  unfolding fault other_fault
  faultless-fit hd s e =
      let m : ℕ = components_of h.space in
      let w = first-inv (other_fault text h t gs) (faults (ink_fault t) gs) e in
      let x = test-holds (leb (size h t gs) limit) _ 1 (omega arith) w.0 in
      let short : size h t gs ≤ limit = leb-true (size h t gs) limit x.0 in
      let a = first-inv _ (first_of (faults (colour_fault text m) gs) (ending_fault t)) x.1 in
      let y = first-inv (faults (colour_fault text m) gs) (ending_fault t) a.1 in
      let z = head-fine text h (length gs) a.0 in
      let P : ℕ → ℕ × ℕ → Type 0 = λ k l. (text_fault text l ≡ 0) × (string_size l ≤ limit) in
      let Q : ℕ → RecordRow → Type 0 = λ k g. Shaped g × ((colour_fault text m g ≡ 0) × (size_within m g ≤ limit)) in
      record {
        headed = hd;
        strings = all_map P (λ k l. TextFitting text l) (λ k l r. sound-text text l r.0 r.1) 0 h.texts
            (all_both (λ k l. text_fault text l ≡ 0) (λ k l. string_size l ≤ limit) 0 h.texts (none-all (text_fault text) h.texts z.0) (sizes-each string_size limit 0 h.texts (omega arith)));
        count = omega (arith, z.1);
        records = all_map Q (λ k g. Fitting text m g) (λ k g r. sound-record text m g r.0 r.1.0 r.1.1) 0 gs
            (all_both (λ k g. Shaped g) (λ k g. (colour_fault text m g ≡ 0) × (size_within m g ≤ limit)) 0 gs s
            (all_both (λ k g. colour_fault text m g ≡ 0) (λ k g. size_within m g ≤ limit) 0 gs (none-all (colour_fault text m) gs y.0) (sizes-each (size_within m) limit 0 gs (omega arith))));
        tag = ending-fits t y.1;
        inked = none-all (ink_fault t) gs w.1;
      }
