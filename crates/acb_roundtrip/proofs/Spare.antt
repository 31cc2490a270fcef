-- Records that differ only in a spare component are the same to a writer. Assumes nothing.
use Prim.Native.Nat.{ℕ, suc, ◌+◌, ◌*◌}
use mathlib.Core.Path.{◌≡◌, refl, ap, ap₂}
use mathlib.Core.List.{List, [], ◌∷◌, map}
use lib.Dec.{leb, eqb}
use lib.ListN.{length}
use Rattle.algebra.specs.Reader.{pick, limit}
use Rattle.algebra.specs.Faults.{first_of, faults}
use Rattle.algebra.specs.Writing.{needs, writes}
use Rattle.acb.specs.Grammar.{Colour, Ending, tagged, other, file_bytes}
use Rattle.acb.specs.Reading.{components_of}
use Rattle.acb.specs.Faults.{ending_fault}
use Rattle.acb_judge.specs.Answer.{HeaderPlaces}
use Rattle.acb_writing.specs.Writing.{units_within, colour_in, sizes, size_within, ending_size, head_size, text_fault, byte_fault, head_fault, colour_fault, other_fault, ink_fault, fault, needed, written}
use Rattle.colour.specs.Inks.{ink_number}
use Rattle.acb.specs.Row.{RecordRow, tag_ink}
use Rattle.acb_roundtrip.specs.Tie.{Alike, AllAlike}

ink-alike : (t : Ending) (g h : RecordRow) → g.ink ≡ h.ink → ink_fault t g ≡ ink_fault t h
ink-alike (tagged t) g h e = ap (λ (k : ℕ). pick (eqb k (ink_number (tag_ink t))) 0 14) e
ink-alike (other v) g h e = refl

module _ (text : List ℕ) (n : ℕ) where
  pub colour-alike : (g h : RecordRow) → Alike n g h → colour_in text n g ≡ colour_in text n h
  colour-alike g h x = λ i. record { name = units_within text (x.same_name i); code = x.same_code i; components = x.same_components i }

  pub fault-alike : (g h : RecordRow) → Alike n g h → colour_fault text n g ≡ colour_fault text n h
  unfolding colour_fault
  fault-alike g h x = λ i. first_of (text_fault text (x.same_name i)) (first_of (faults byte_fault (x.same_code i)) (faults byte_fault (x.same_components i)))

  pub size-alike : (g h : RecordRow) → Alike n g h → size_within n g ≡ size_within n h
  size-alike g h x = ap (λ (l : ℕ × ℕ). 4 + 2 * l.1 + (6 + n)) x.same_name

  -- ---- all of them

  colours-alike : (gs hs : List RecordRow) → AllAlike n gs hs → map (colour_in text n) gs ≡ map (colour_in text n) hs
  colours-alike [] [] x = refl
  colours-alike [] (h ∷ hs) x = absurd x
  colours-alike (g ∷ gs) [] x = absurd x
  colours-alike (g ∷ gs) (h ∷ hs) x = ap₂ (λ (c : Colour) (cs : List Colour). c ∷ cs) (colour-alike g h x.0) (colours-alike gs hs x.1)

  faults-alike : (gs hs : List RecordRow) → AllAlike n gs hs → faults (colour_fault text n) gs ≡ faults (colour_fault text n) hs
  unfolding faults
  faults-alike [] [] x = refl
  faults-alike [] (h ∷ hs) x = absurd x
  faults-alike (g ∷ gs) [] x = absurd x
  faults-alike (g ∷ gs) (h ∷ hs) x = ap₂ (λ (a b : ℕ). first_of a b) (fault-alike g h x.0) (faults-alike gs hs x.1)

  sizes-alike : (gs hs : List RecordRow) → AllAlike n gs hs → sizes (size_within n) gs ≡ sizes (size_within n) hs
  unfolding sizes
  sizes-alike [] [] x = refl
  sizes-alike [] (h ∷ hs) x = absurd x
  sizes-alike (g ∷ gs) [] x = absurd x
  sizes-alike (g ∷ gs) (h ∷ hs) x = ap₂ (λ (a b : ℕ). a + b) (size-alike g h x.0) (sizes-alike gs hs x.1)

  length-alike : (gs hs : List RecordRow) → AllAlike n gs hs → length gs ≡ length hs
  length-alike [] [] x = refl
  length-alike [] (h ∷ hs) x = absurd x
  length-alike (g ∷ gs) [] x = absurd x
  length-alike (g ∷ gs) (h ∷ hs) x = ap suc (length-alike gs hs x.1)

module _ (text : List ℕ) (h : HeaderPlaces) (t : Ending) (gs hs : List RecordRow) (x : AllAlike (components_of h.space) gs hs) where
  abbrev m : ℕ
  m = components_of h.space

  inks-alike : (gs hs : List RecordRow) → AllAlike m gs hs → faults (ink_fault t) gs ≡ faults (ink_fault t) hs
  unfolding faults
  inks-alike [] [] x = refl
  inks-alike [] (h ∷ hs) x = absurd x
  inks-alike (g ∷ gs) [] x = absurd x
  inks-alike (g ∷ gs) (h ∷ hs) x = ap₂ (λ (a b : ℕ). first_of a b) (ink-alike t g h x.0.same_ink) (inks-alike gs hs x.1)

  first_alike : fault text h t gs ≡ fault text h t hs
  unfolding fault other_fault
  first_alike = λ i. first_of (pick (leb (head_size h + sizes-alike text m gs hs x i + ending_size t) limit) (first_of (head_fault text h (length-alike text m gs hs x i)) (first_of (faults-alike text m gs hs x i) (ending_fault t))) 1) (inks-alike gs hs x i)

  pub needed-alike : needed text h t gs ≡ needed text h t hs
  needed-alike = λ i. needs (first_alike i) (head_size h + sizes-alike text m gs hs x i + ending_size t)

  pub written-alike : (out : List ℕ) → written text h t gs out ≡ written text h t hs out
  written-alike out = λ i. writes (first_alike i) (head_size h + sizes-alike text m gs hs x i + ending_size t)
      (file_bytes (record {
        identifier = h.identifier;
        texts = map (units_within text) h.texts;
        size = h.size;
        offset = h.offset;
        space = h.space;
        colours = colours-alike text m gs hs x i;
        tag = t;
      })) out
