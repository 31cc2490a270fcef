-- The records of an accepted file, from a table to a writer. Assumes nothing.
use Prim.Native.Nat.{ℕ, zero, suc, ◌+◌, ◌*◌, ◌^◌, ◌≤◌, ◌<◌}
use mathlib.Core.Path.{◌≡◌, refl, sym, ap, ap₂, ◌∙◌, subst}
use mathlib.Core.List.{List, [], ◌∷◌, map}
use lib.Dec.{leb}
use lib.ListN.{length}
use native.Mathlib.Omega.{arith}
use borrow.Author.Tests.{eq-eqb}
use Rattle.algebra.specs.Numbers.{nums, Bytes, All}
use Rattle.algebra.specs.Reader.{Reader, ok, field, body, each, limit}
use Rattle.algebra.specs.Text.{Name}
use Rattle.algebra.proofs.Places.{length-nums}
use Rattle.algebra.proofs.Inverse.{then-inv, pick_inv, body-inv, ok-value, each_none, each-inv}
use Rattle.algebra.proofs.Exact.{all_map, all_both, length-map}
use Rattle.algebra.proofs.Firsts.{all-image, all-source}
use Rattle.acb.specs.Grammar.{Colour, tagged, Book, String, AllowedRecord, Allowed, File, file}
use Rattle.acb.specs.Reading.{string, Entry, colour, components_of, Header, strings, numbers, opening, header, closing, Contents, book, acb, colour_of, book_of}
use Rattle.acb_judge.specs.Answer.{text_place, header_places}
use Rattle.acb.proofs.Row.{six-back, four-back}
use Rattle.acb.proofs.Laws.{components-some, space-components, space_small}
use Rattle.acb.proofs.RoundTrip.{accepted-allowed}
use Rattle.acb_writing.specs.Writing.{units_within, colour_in, book_in, ink_fault}
use Rattle.colour.specs.Inks.{ink_number}
use Rattle.acb.specs.Row.{given_of, tag_ink, stated}
use Rattle.acb_roundtrip.specs.Tie.{tabled, TextFitting, Fitting, BookFitting}

-- ---- the strings and names of an accepted file lie in it

pub record NameIn (s : List ℕ) (nm : Name) : Type 0 where
  pub are : nums 2 (length nm.units) s nm.first ≡ nm.units
  pub inside : 0 < length nm.units → nm.first + 2 * length nm.units ≤ length s

string-lies : (s : List ℕ) (at : ℕ) (nm : Name) (q : ℕ) → string s at ≡ ok nm q → NameIn s nm
unfolding string
string-lies s at nm q e =
    let t = then-inv (field 4 s at) _ e in
    let u = then-inv (body 2 t.0 s t.1) _ t.3 in
    let b = body-inv 2 s t.1 t.0 u.2 in
    let l : length u.0 ≡ t.0 = ap length (sym b.1) ∙ length-nums 2 t.0 s t.1 in
    subst (λ (x : Name). NameIn s x) (ok-value u.3) (record {
      are = ap (λ (k : ℕ). nums 2 k s t.1) l ∙ b.1;
      inside = λ h. omega (arith, b.0, l);
    })

-- what holds of every item that is read holds of all
each_all : {A : Type 0} (p : ℕ → Reader A) (s : List ℕ) (P : A → Type 0) → ((i at : ℕ) (a : A) (q : ℕ) → p i s at ≡ ok a q → P a)
    → (n i at j : ℕ) (l : List A) (q : ℕ) → each n i p s at ≡ ok l q → All (λ k a. P a) j l
each_all p s P h zero i at j l q e = subst (λ x. All (λ k a. P a) j x) (each_none p s i at e).0 tt
each_all p s P h (suc n) i at j l q e =
    let t = each-inv p s n i at e in
    subst (λ x. All (λ k a. P a) j x) t.5 (h i at t.0 t.1 t.3, each_all p s P h n (i + 1) t.1 (j + 1) t.2 q t.4)

module _ (s : List ℕ) where
  colour-lies : (n at : ℕ) (e : Entry) (q : ℕ) → colour n s at ≡ ok e q → NameIn s e.name
  unfolding colour
  colour-lies n at e q h =
      let a = then-inv (string s at) _ h in
      let b = then-inv (body 1 6 s a.1) _ a.3 in
      let c = then-inv (each n 0 (λ i. field 1) s b.1) _ b.3 in
      subst (λ (x : Entry). NameIn s x.name) (ok-value c.3) (string-lies s at a.0 a.1 a.2)

  header-lies : (at : ℕ) (h : Header) (q : ℕ) → header s at ≡ ok h q → All (λ k nm. NameIn s nm) 0 h.texts
  unfolding header strings
  header-lies at h q e =
      let a = then-inv (opening s at) _ e in
      let b = then-inv (strings s a.1) _ a.3 in
      let c = then-inv (numbers s b.1) _ b.3 in
      subst (λ (x : Header). All (λ k nm. NameIn s nm) 0 x.texts) (ok-value c.3)
      (each_all (λ k. string) s (NameIn s) (λ i p nm r g. string-lies s p nm r g) 4 0 a.1 0 b.0 b.1 b.2)

  pub all_lie : {c : Contents} {q : ℕ} → acb s ≡ ok c q → All (λ k nm. NameIn s nm) 0 c.header.texts × All (λ k e. NameIn s e.name) 0 c.entries
  unfolding acb book
  all_lie e =
      let p = pick_inv (leb (length s) limit) (book s 0) 1 0 0 0 e in
      let t = then-inv (header s 0) _ p.1 in
      let n : ℕ = components_of t.0.numbers.space in
      let u = then-inv (each t.0.numbers.count 0 (λ i. colour n) s t.1) _ t.3 in
      let v = then-inv (closing s u.1) _ u.3 in
      subst (λ (x : Contents). All (λ k nm. NameIn s nm) 0 x.header.texts × All (λ k e. NameIn s e.name) 0 x.entries) (ok-value v.3)
      (header-lies 0 t.0 t.1 t.2, each_all (λ i. colour n) s (λ e. NameIn s e.name) (λ i at e r g. colour-lies n at e r g) t.0.numbers.count 0 t.1 0 u.0 u.1 u.2)

-- ---- the book of an accepted file, as it is given

-- what holds of every value holds of all
all-fit-by : {A : Type 0} (P : A → Type 0) → ((a : A) → P a) → (i : ℕ) (l : List A) → All (λ k a. P a) i l
all-fit-by P h i [] = tt
all-fit-by P h i (a ∷ l) = (h a, all-fit-by P h (i + 1) l)

module _ (s : List ℕ) (n : ℕ) (few : n ≤ 4) where
  abbrev Sound : Entry → Type 0
  Sound e = NameIn s e.name × AllowedRecord n (colour_of e)

  colour-back : (k : ℕ) (e : Entry) → Sound e → colour_in s n (stated k (given_of e)) ≡ colour_of e
  colour-back k e h =
      let a = h.0.are in
      let b = six-back e.code h.1.code.count in
      let c = four-back n e.components few h.1.components.count in
      λ i. record { name = a i; code = b i; components = c i }

  colours-back : (k i : ℕ) (es : List Entry) → All (λ k e. Sound e) i es → map (colour_in s n) (map (λ e. stated k (given_of e)) es) ≡ map colour_of es
  colours-back k i [] h = refl
  colours-back k i (e ∷ es) h = ap₂ (λ (x : Colour) (xs : List Colour). x ∷ xs) (colour-back k e h.0) (colours-back k (i + 1) es h.1)

  taken-fits : (k : ℕ) (e : Entry) → Sound e → Fitting s n (stated k (given_of e))
  taken-fits k e h = record {
    named = record { counted = h.1.name.counted; inside = h.0.inside };
    six = refl;
    code_small = subst (λ (l : List ℕ). All (λ i b. b < 256) 0 l) (sym (six-back e.code h.1.code.count)) h.1.code.each;
    four = refl;
    components_small = subst (λ (l : List ℕ). All (λ i b. b < 256) 0 l) (sym (four-back n e.components few h.1.components.count)) h.1.components.each;
  }

texts-back : (s : List ℕ) (i : ℕ) (ts : List Name) → All (λ k nm. NameIn s nm) i ts → map (units_within s) (map text_place ts) ≡ map (λ (nm : Name). nm.units) ts
texts-back s i [] h = refl
texts-back s i (nm ∷ ts) h = ap₂ (λ (x : List ℕ) (xs : List (List ℕ)). x ∷ xs) h.0.are (texts-back s (i + 1) ts h.1)

texts-fit : (s : List ℕ) (nm : Name) → NameIn s nm → String nm.units → TextFitting s (text_place nm)
texts-fit s nm h k = record { counted = k.counted; inside = h.inside }

allowed-in : {b : Book} {s : List ℕ} → File b s → Allowed b
allowed-in (file allowed short) = allowed

module _ (s : List ℕ) (bytes : Bytes s) {c : Contents} {q : ℕ} (e : acb s ≡ ok c q) where
  allowed : Allowed (book_of c)
  allowed = allowed-in (accepted-allowed bytes e).0

  abbrev n : ℕ
  n = components_of c.header.numbers.space

  abbrev tagged-ink : ℕ
  tagged-ink = ink_number (tag_ink c.tag)

  swatches : All (λ k x. AllowedRecord n x) 0 (map colour_of c.entries)
  swatches = subst (λ (m : ℕ). All (λ k x. AllowedRecord m x) 0 (map colour_of c.entries)) (sym (space-components allowed.space)) allowed.colours

  sounds : All (λ k x. NameIn s x.name × AllowedRecord n (colour_of x)) 0 c.entries
  sounds = all_both (λ k x. NameIn s x.name) (λ k x. AllowedRecord n (colour_of x)) 0 c.entries (all_lie s e).1 (all-source colour_of (λ k x. AllowedRecord n x) 0 c.entries swatches)

  -- it is the book that was read
  pub given-book : book_in s (header_places c.header) (tagged c.tag) (tabled c) ≡ book_of c
  given-book =
      let a = texts-back s 0 c.header.texts (all_lie s e).0 in
      let b = colours-back s n (components-some c.header.numbers.space).1 tagged-ink 0 c.entries sounds in
      λ i. record {
        identifier = c.header.identifier;
        texts = a i;
        size = c.header.numbers.size;
        offset = c.header.numbers.offset;
        space = c.header.numbers.space;
        colours = b i;
        tag = tagged c.tag;
      }

  -- it fits
  pub given-fit : BookFitting s (header_places c.header) (tagged c.tag) (tabled c)
  given-fit = record {
    headed = record {
      four = length-map text_place c.header.texts ∙ sym (length-map (λ (nm : Name). nm.units) c.header.texts) ∙ allowed.four;
      identifier_small = allowed.identifier;
      size_small = allowed.size.1;
      offset_small = allowed.offset;
      space_small = space_small allowed.space;
    };
    strings = all-image text_place (λ k l. TextFitting s l) 0 c.header.texts
        (all_map (λ k nm. NameIn s nm × String nm.units) (λ k nm. TextFitting s (text_place nm)) (λ k nm h. texts-fit s nm h.0 h.1) 0 c.header.texts
        (all_both (λ k nm. NameIn s nm) (λ k nm. String nm.units) 0 c.header.texts (all_lie s e).0 (all-source (λ (nm : Name). nm.units) (λ k us. String us) 0 c.header.texts allowed.texts)));
    count = subst (λ (k : ℕ). k < 256 ^ 2) (length-map colour_of c.entries ∙ sym (length-map (λ e. stated tagged-ink (given_of e)) c.entries)) allowed.count;
    records = all-image (λ e. stated tagged-ink (given_of e)) (λ k g. Fitting s n g) 0 c.entries
        (all_map (λ k x. NameIn s x.name × AllowedRecord n (colour_of x)) (λ k x. Fitting s n (stated tagged-ink (given_of x))) (λ k x h. taken-fits s n (components-some c.header.numbers.space).1 tagged-ink x h) 0 c.entries sounds);
    tag = tt;
    inked = all-image (λ e. stated tagged-ink (given_of e)) (λ k g. ink_fault (tagged c.tag) g ≡ 0) 0 c.entries (all-fit-by (λ x. ink_fault (tagged c.tag) (stated tagged-ink (given_of x)) ≡ 0) (λ x. rw (eq-eqb tagged-ink tagged-ink refl)) 0 c.entries);
  }
