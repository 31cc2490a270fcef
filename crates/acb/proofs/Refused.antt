-- What is promised of damaged ACB files: by which number they are refused, and where. Assumes nothing.
use Prim.Native.Nat.{ℕ, ◌+◌, ◌^◌, ◌≤◌, ◌<◌}
use mathlib.Core.Path.{◌≡◌, refl, sym, ap, ◌∙◌, subst, subst₂}
use mathlib.Core.List.{List, ◌++◌, append_assoc, append-nil}
use lib.ListN.{length, take, length-append}
use lib.Seq.{length-take-le, take_at}
use borrow.Author.Tests.{le-leb, lt-leb}
use native.Mathlib.Omega.{arith}
use native.Mathlib.Nat.{zero-add}
use Rattle.algebra.specs.Chars.{chars}
use Rattle.algebra.specs.Numbers.{be, joined, At, Bytes, All}
use Rattle.algebra.specs.Reader.{ok, refuse, each}
use Rattle.algebra.specs.Cut.{not_whole, Stub}
use Rattle.algebra.proofs.Places.{length-be, bytes-append}
use Rattle.algebra.proofs.Cuts.{stub-take, bytes_take}
use Rattle.algebra.proofs.Stops.{each-stops}
use Rattle.algebra.proofs.Tails.{Tail, tail-left, tail-after, whole-tail}
use Rattle.acb.specs.Grammar.{Tag, none, spot, process, Ending, tagged, Book, String, AllowedRecord, Allowed, File, file, bytes_of_string, colour_bytes, tag_bytes, ending_bytes, head_bytes, file_bytes}
use Rattle.acb.specs.Reading.{string, colour, components_of, Numbers, opening, strings, header, Contents, closing, book, acb, book_of}
use Rattle.acb.specs.Widths.{head_widths, colour_widths, ending_widths, file_widths}
use Rattle.acb.specs.Damaged.{CutString, DamagedNumbers, CutColour, DamagedEnd, opened, strings_end, counting, ending, tag_at, Damaged, wrong_opening, string_cut, wrong_numbers, record_cut, wrong_end, left_over, untagged}
use Rattle.acb.proofs.Laws.{Top, top_bytes, Headed, space-components, string-exact, opening-exact, strings-exact, header-exact, colour-exact}
use Rattle.acb.proofs.Whole.{top_in, head-parts, allowed-headed, bytes-file, book-to, allowed-parts, file-reads}
use Rattle.acb.proofs.Turns.{opening-stops, string-stops, numbers-stop, colour-stops, end-stops}
use Rattle.acb.proofs.Cut.{book-cut}

-- ---- longer than the limit: 1 at 0, whatever stands there
pub long-refused : (s : List ℕ) → 16777216 < length s → acb s ≡ refuse 1 0 0 0
unfolding acb
long-refused s long = simp (lt-leb (length s) 16777216 long)

-- ---- damaged

-- behind signature, version and identifier
module _ (i : ℕ) (ts : List (List ℕ)) (x : List ℕ) (small : i < 256 ^ 2) (texts : All (λ k us. String us) 0 ts) (bytes : Bytes (opened i ts x)) where
  abbrev s : List ℕ
  s = opened i ts x

  abbrev t : List ℕ
  t = joined bytes_of_string ts

  opens : (opening s 0 ≡ ok i 8) × Tail s 8 (t ++ x)
  unfolding opened be
  opens =
      let o : List ℕ = be 4 (chars "8BCB") ++ (be 2 1 ++ be 2 i) in
      let w : Tail s 0 (o ++ (t ++ x)) = whole-tail s in
      let r = (opening-exact s bytes).reads 0 i small (tail-left s 0 o (t ++ x) w) in
      (r.1 ∙ ap (λ (k : ℕ). ok k 8) r.2, tail-after s 0 o (t ++ x) 8 refl w)

  behind : Tail s (strings_end ts) x
  unfolding strings_end
  behind = tail-after s 8 t x (8 + length t) refl opens.1

  string-refused : {p : ℕ} → length ts < 4 → CutString x p → book s 0 ≡ refuse 2 (strings_end ts + p) 0 0
  unfolding book header strings strings_end
  string-refused {p} few d =
      let a = opens in
      let b : each 4 0 (λ k. string) s 8 ≡ refuse 2 (8 + length t + p) 0 0 =
      each-stops {p = λ k. string} {Ok = λ k us. String us} (λ k. string-exact s bytes) 4 0 8 ts few texts (tail-left s 8 t x a.1) (string-stops s (8 + length t) d behind) in
      rw a.0 (rw b)

  numbers-refused : {z p : ℕ} → length ts ≡ 4 → DamagedNumbers x z p → book s 0 ≡ refuse z (strings_end ts + p) 0 0
  unfolding book header strings_end
  numbers-refused four d =
      let a = opens in
      let b = (strings-exact s bytes).reads 8 ts (four, texts) (tail-left s 8 t x a.1) in
      rw a.0 (rw b.1 (rw (numbers-stop s (8 + length t) d behind)))

-- behind a header: records, and then one that is cut
module _ (b : Book) (a : Allowed b) (n : ℕ) (x : List ℕ) where
  -- the header that counts n
  abbrev d : Top
  d = record { identifier = b.identifier; texts = b.texts; numbers = record { count = n; size = b.size; offset = b.offset; space = b.space } }

  abbrev l : List ℕ
  l = joined colour_bytes b.colours

  counting-parts : counting n b x ≡ top_bytes d ++ (l ++ x)
  unfolding counting opened
  counting-parts = sym (simp append_assoc refl)

  -- another count is as long
  length-counting : length (top_bytes d) ≡ length (head_bytes b)
  length-counting =
      let m : ℕ = length b.colours in
      let o : List ℕ = be 4 (chars "8BCB") ++ (be 2 1 ++ be 2 b.identifier) in
      let ts : List ℕ = joined bytes_of_string b.texts in
      let r : List ℕ = be 2 b.size ++ (be 2 b.offset ++ be 2 b.space) in
      let long : (k : ℕ) → length (o ++ (ts ++ (be 2 k ++ r))) ≡ length o + length ts + 2 + length r = λ k. omega (arith, length-append o (ts ++ (be 2 k ++ r)), length-append ts (be 2 k ++ r), length-append (be 2 k) r, length-be 2 k) in
      long n ∙ sym (long m) ∙ sym (ap length (head-parts b))

  record-refused : {p : ℕ} → n < 256 ^ 2 → length b.colours < n → CutColour a.components x p → Bytes (counting n b x) → book (counting n b x) 0 ≡ refuse 2 (tag_at b + p) 0 0
  unfolding book tag_at
  record-refused {p} small few cut bytes =
      let s : List ℕ = counting n b x in
      let q : ℕ = length (top_bytes d) in
      let sound : Headed d = let h = allowed-headed b a in record { identifier = a.identifier; four = a.four; texts = a.texts; numbers = record { count = small; size = a.size; offset = a.offset; space = h.numbers.space } } in
      let t : Tail s 0 (top_bytes d ++ (l ++ x)) = subst (λ (y : List ℕ). Tail s 0 y) counting-parts (whole-tail s) in
      let r = (header-exact s bytes).reads 0 d sound (tail-left s 0 (top_bytes d) (l ++ x) t) in
      let ns : r.0.numbers ≡ d.numbers = ap (λ (y : Top). y.numbers) r.2 in
      let m : ℕ = components_of r.0.numbers.space in
      let c : m ≡ a.components = ap (λ (y : Numbers). components_of y.space) ns ∙ space-components a.space in
      let k : r.0.numbers.count ≡ n = ap (λ (y : Numbers). y.count) ns in
      let tq : Tail s q (l ++ x) = tail-after s 0 (top_bytes d) (l ++ x) q (zero-add q) t in
      let stop : colour m s (q + length l) ≡ refuse 2 (q + length l + p) 0 0 = colour-stops s bytes m (q + length l) (subst (λ (y : ℕ). CutColour y x p) (sym c) cut) (tail-after s q l x (q + length l) refl tq) in
      let y : each r.0.numbers.count 0 (λ i. colour m) s q ≡ refuse 2 (q + length l + p) 0 0 =
      each-stops {p = λ i. colour m} {Ok = λ i c. AllowedRecord m c} (λ i. colour-exact s bytes m) r.0.numbers.count 0 q b.colours (omega arith) (subst (λ (y : ℕ). All (λ i c. AllowedRecord y c) 0 b.colours) (sym c) a.colours) (tail-left s q l x tq) stop in
      rw (r.1 ∙ ap (λ (k : ℕ). ok r.0 k) (zero-add q)) (rw y (ap (λ (k : ℕ). refuse 2 (k + length l + p) 0 0) length-counting))

-- behind the records
end_refused : (b : Book) → Allowed b → (x : List ℕ) {z p : ℕ} → DamagedEnd x z p → Bytes (ending b x) → book (ending b x) 0 ≡ refuse z (tag_at b + p) 0 0
unfolding ending tag_at
end_refused b a x {z} {p} d bytes =
    let s : List ℕ = ending b x in
    let h : List ℕ = head_bytes b in
    let l : List ℕ = joined colour_bytes b.colours in
    let q : ℕ = length h + length l in
    let w : Tail s 0 (h ++ (l ++ x)) = whole-tail s in
    let r = book-to b a s bytes x (subst (λ (y : List ℕ). At s 0 (y ++ (l ++ x))) (head-parts b) w.stands) in
    let t : Tail s q x = tail-after s (length h) l x q refl (tail-after s 0 h (l ++ x) (length h) (zero-add (length h)) w) in
    let e : closing s (length (top_bytes (top_in b)) + length l) ≡ refuse z (q + p) 0 0 = ap (λ (y : List ℕ). closing s (length y + length l)) (sym (head-parts b)) ∙ end-stops s bytes q d t in
    r.3 ∙ rw e

book-stops : {s : List ℕ} {z p : ℕ} → Damaged s z p → Bytes s → book s 0 ≡ refuse z p 0 0
unfolding book header
book-stops (wrong_opening s z p d) bytes = rw (opening-stops s d (whole-tail s))
book-stops (string_cut i before x p small few texts d) bytes = string-refused i before x small texts bytes few d
book-stops (wrong_numbers i ts x z p small four texts d) bytes = numbers-refused i ts x small texts bytes four d
book-stops (record_cut n b x p a small few d) bytes = record-refused b a n x small few d bytes
book-stops (wrong_end b x z p a d) bytes = end_refused b a x d bytes

-- a damaged book is refused by its number and at its place
pub damaged-refused : {s : List ℕ} {z p : ℕ} → Damaged s z p → Bytes s → length s ≤ 16777216 → acb s ≡ refuse z p 0 0
unfolding acb
damaged-refused {s} d bytes short = simp (le-leb (length s) 16777216 short) (book-stops d bytes)

tag-eight : (t : Tag) → (t ≡ none → ⊥) → length (tag_bytes t) ≡ 8
tag-eight none ne = absurd (ne refl)
tag-eight spot ne = length-be 8 (chars "spflspot")
tag-eight process ne = length-be 8 (chars "spflproc")

-- bytes behind a book with a tag: 6 where they begin
pub left-over-refused : {b : Book} {w : List ℕ} → File b w → (b.tag ≡ tagged none → ⊥) → (x : List ℕ) → Bytes x → 0 < length x → length (w ++ x) ≤ 16777216 → acb (w ++ x) ≡ refuse 6 (length w) 0 0
unfolding file_bytes ending tag_at
left-over-refused (file {b} a short) more x h some fits =
    let w : List ℕ = file_bytes b in
    let t : List ℕ = head_bytes b in
    let l : List ℕ = joined colour_bytes b.colours in
    let g : List ℕ = tag_bytes a.ends in
    let ne : a.ends ≡ none → ⊥ = λ z. more (a.tag ∙ ap tagged z) in
    let e : w ≡ t ++ (l ++ g) = ap (λ (z : Ending). t ++ (l ++ ending_bytes z)) a.tag in
    let i : w ++ x ≡ ending b (g ++ x) = ap (λ (z : List ℕ). z ++ x) e ∙ append_assoc t (l ++ g) x ∙ ap (λ (z : List ℕ). t ++ z) (append_assoc l g x) in
    let n : tag_at b + 8 ≡ length w = omega (arith, ap length e, length-append t (l ++ g), length-append l g, tag-eight a.ends ne) in
    damaged-refused (subst₂ (λ (y : List ℕ) (k : ℕ). Damaged y 6 k) (sym i) n (wrong_end b (g ++ x) 6 8 a (left_over a.ends x ne some))) (bytes-append w x (bytes-file b) h) fits

-- ---- cuts

-- a book, cut anywhere but where its tag would begin: 2 at the first field that is not whole
pub cut-refused : {b : Book} {w : List ℕ} → File b w → (c : ℕ) → c < length w → (c ≡ tag_at b → ⊥) → acb (take c w) ≡ refuse 2 (not_whole (file_widths b) 0 c) 0 0
unfolding acb tag_at file_widths
cut-refused (file {b} a short) c h other =
    let w : List ℕ = file_bytes b in
    let s : List ℕ = take c w in
    let n : length s ≡ c = length-take-le c w (omega arith) in
    let e : length (head_bytes b) ≡ length (top_bytes (top_in b)) = ap length (head-parts b) in
    simp (le-leb (length s) 16777216 (omega arith)) (book-cut s (bytes_take c w (bytes-file b)) b a (subst (λ (z : List ℕ). Stub s 0 z) (allowed-parts b a) (stub-take w c h)) (λ z. other (omega arith))
    ∙ ap (λ (z : Ending). refuse 2 (not_whole (head_widths b ++ (joined colour_widths b.colours ++ ending_widths z)) 0 (length s)) 0 0) (sym a.tag)
    ∙ ap (λ (k : ℕ). refuse 2 (not_whole (file_widths b) 0 k) 0 0) n)

-- cut where its tag begins it is accepted, and read as the book without a tag
pub cut-at-tag-accepted : {b : Book} {w : List ℕ} → File b w → (c : Contents) × (acb (take (tag_at b) w) ≡ ok c (tag_at b)) × (book_of c ≡ untagged b)
unfolding file_bytes head_bytes tag_at
cut-at-tag-accepted (file {b} a short) =
    let t : List ℕ = head_bytes b in
    let l : List ℕ = joined colour_bytes b.colours in
    let g : List ℕ = ending_bytes b.tag in
    let u : List ℕ = file_bytes (untagged b) in
    let n : length (t ++ l) ≡ tag_at b = length-append t l in
    let e : take (tag_at b) (file_bytes b) ≡ t ++ l = ap (take (tag_at b)) (sym (append_assoc t l g)) ∙ take_at (t ++ l) g (tag_at b) n in
    let f : u ≡ t ++ l = ap (λ (z : List ℕ). t ++ z) (append-nil l) in
    let fits : length u ≤ 16777216 = omega (arith, ap length f, length-append t l, length-append t (l ++ g), length-append l g) in
    let ok-u : Allowed (untagged b) = record {
      identifier = a.identifier;
      four = a.four;
      texts = a.texts;
      count = a.count;
      size = a.size;
      offset = a.offset;
      components = a.components;
      space = a.space;
      colours = a.colours;
      ends = none;
      tag = refl;
    } in
    let r = file-reads (untagged b) ok-u fits in
    let m : length u ≡ tag_at b = ap length f ∙ n in
    (r.0, ap acb (e ∙ sym f) ∙ r.1 ∙ ap (λ (k : ℕ). ok r.0 k) m, r.2)
