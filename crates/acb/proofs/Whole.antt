-- A whole file: the grammar's bytes are read, and what was read is the grammar's bytes. Assumes nothing.
use Prim.Native.Nat.{ℕ, ◌+◌, ◌^◌, ◌≤◌, ◌<◌}
use mathlib.Core.Path.{◌≡◌, refl, sym, ap, ap₂, ◌∙◌, subst}
use mathlib.Core.List.{List, [], ◌++◌, map, append_assoc}
use mathlib.Core.Bool.{Bool, true, false}
use lib.Dec.{leb, eqb}
use lib.ListN.{length, length-append}
use borrow.Author.Tests.{eqb-true, eq-eqb, ne_eqb, le-leb, leb-true}
use native.Mathlib.Omega.{arith}
use native.Mathlib.Nat.{add-zero, zero-add}
use Rattle.algebra.specs.Chars.{chars}
use Rattle.algebra.specs.Numbers.{be, joined, At, Bytes, All}
use Rattle.algebra.specs.Reader.{Res, ok, pick, then, judged, each, ended}
use Rattle.algebra.specs.Text.{Name}
use Rattle.algebra.specs.Algebra.{Exact}
use Rattle.algebra.proofs.Places.{length-be, at_in, at_next, at_left, at_after, at_all, at-whole, bytes-nil, bytes-append, bytes-be, bytes-joined}
use Rattle.algebra.proofs.Inverse.{then-inv, pick_inv, unless-fine, ended-inv, ok-value, ok-place}
use Rattle.algebra.proofs.Exact.{judged-exact, each-exact}
use Rattle.acb.specs.Grammar.{Colour, Tag, none, spot, process, Ending, tagged, other, Book, Space, AllowedRecord, bytes_of_string, colour_bytes, tag_bytes, ending_bytes, head_bytes, file_bytes, Allowed, File, file}
use Rattle.acb.specs.Reading.{Entry, colour, colour_of, components_of, Numbers, Header, header, is_tag, tag_of, tag, closing, Contents, book, acb, book_of}
use Rattle.acb.proofs.Laws.{tag-fine, space-components, colour-exact, number_bytes, Top, top_of, Headed, top_bytes, header-exact}

-- ---- the header of a book

abbrev pub numbers_of : Book → Numbers
numbers_of b = record { count = length b.colours; size = b.size; offset = b.offset; space = b.space }

abbrev pub top_in : Book → Top
top_in b = record { identifier = b.identifier; texts = b.texts; numbers = numbers_of b }

pub head-parts : (b : Book) → head_bytes b ≡ top_bytes (top_in b)
unfolding head_bytes
head-parts b =
    let r : List ℕ = joined bytes_of_string b.texts ++ number_bytes (numbers_of b) in
    sym (append_assoc (be 4 (chars "8BCB")) (be 2 1 ++ be 2 b.identifier) r ∙ ap (λ (l : List ℕ). be 4 (chars "8BCB") ++ l) (append_assoc (be 2 1) (be 2 b.identifier) r))

pub allowed-headed : (b : Book) → Allowed b → Headed (top_in b)
allowed-headed b a = record {
  identifier = a.identifier;
  four = a.four;
  texts = a.texts;
  numbers = record { count = a.count; size = a.size; offset = a.offset; space = subst (Space b.space) (sym (space-components a.space)) a.space };
}

-- ---- the closing tag

at_none : (s : List ℕ) (at : ℕ) → at ≤ length s → At s at []
unfolding At
at_none s at le = le

pub bytes-tag : (t : Tag) → Bytes (tag_bytes t)
bytes-tag none = bytes-nil
bytes-tag spot = bytes-be 8 (chars "spflspot")
bytes-tag process = bytes-be 8 (chars "spflproc")

pub bytes-ending : (e : Ending) → Bytes (ending_bytes e)
bytes-ending (tagged t) = bytes-tag t
bytes-ending (other v) = bytes-be 8 v

pub tag_is : (v : ℕ) → is_tag v ≡ true → tag_bytes (tag_of v) ≡ be 8 v
tag_is v h = go (eqb v (chars "spflspot")) (eqb v (chars "spflproc")) refl refl h
  where
    go : (a b : Bool) → eqb v (chars "spflspot") ≡ a → eqb v (chars "spflproc") ≡ b → pick a true b ≡ true → tag_bytes (pick a spot process) ≡ be 8 v
    go true b p q e = ap (be 8) (sym (eqb-true v (chars "spflspot") p))
    go false true p q e = ap (be 8) (sym (eqb-true v (chars "spflproc") q))
    go false false p q e = let z : ◌≡◌ {A = ℕ} 0 1 = cc in absurd (omega arith)

module _ (s : List ℕ) (bytes : Bytes s) where
  -- a tag that is there and ends the file
  tag-reads : (v : ℕ) → v < 256 ^ 8 → is_tag v ≡ true → (at : ℕ) → At s at (be 8 v) → at + length (be 8 v) ≡ length s → closing s at ≡ ok (tag_of v) (length s)
  unfolding closing ended
  tag-reads v small known at h end =
      let l : length (be 8 v) ≡ 8 = length-be 8 v in
      let x = (judged-exact s bytes 8 tag).reads at v (small, tag-fine v known) h in
      let x2 : judged 8 tag s at ≡ ok v (length s) = x.1 ∙ ap₂ (λ (a q : ℕ). ok a q) x.2 end in
      rw (ne_eqb at (length s) (λ z. omega arith)) (rw x2 (rw (eq-eqb (length s) (length s) refl)))

  pub closing-reads : (t : Tag) (at : ℕ) → At s at (tag_bytes t) → at + length (tag_bytes t) ≡ length s → closing s at ≡ ok t (length s)
  unfolding closing
  closing-reads none at h end = let e : at ≡ length s = sym (add-zero at) ∙ end in rw (eq-eqb at (length s) e) (ap (λ (k : ℕ). ok none k) e)
  closing-reads spot at h end = tag-reads (chars "spflspot") (omega arith) refl at h end
  closing-reads process at h end = tag-reads (chars "spflproc") (omega arith) refl at h end

  pub closing-writes : (at : ℕ) → at ≤ length s → (t : Tag) (q : ℕ) → closing s at ≡ ok t q → At s at (tag_bytes t) × (at + length (tag_bytes t) ≡ length s) × (q ≡ length s)
  unfolding closing
  closing-writes at le t q e = go (eqb at (length s)) refl e
    where
      go : (b : Bool) → eqb at (length s) ≡ b → pick b (ok none at) (then (judged 8 tag s at) (λ t q. ended (tag_of t) s q)) ≡ ok t q → At s at (tag_bytes t) × (at + length (tag_bytes t) ≡ length s) × (q ≡ length s)
      go true p k =
          let end : at ≡ length s = eqb-true at (length s) p in
          subst (λ (y : Tag). At s at (tag_bytes y) × (at + length (tag_bytes y) ≡ length s) × (q ≡ length s)) (ok-value k) (at_none s at le, add-zero at ∙ end, sym (ok-place k) ∙ end)
      go false p k =
          let u = then-inv (judged 8 tag s at) _ k in
          let x = (judged-exact s bytes 8 tag).writes at le u.0 u.1 u.2 in
          let z = ended-inv (tag_of u.0) s u.1 u.3 in
          let w : tag_bytes (tag_of u.0) ≡ be 8 u.0 = tag_is u.0 (unless-fine (is_tag u.0) _ x.0.1) in
          subst (λ (y : Tag). At s at (tag_bytes y) × (at + length (tag_bytes y) ≡ length s) × (q ≡ length s)) z.1 (
            subst (λ (l : List ℕ). At s at l) (sym w) x.1,
            ap (λ (l : List ℕ). at + length l) w ∙ x.2 ∙ z.0,
            sym z.2 ∙ z.0,
          )

-- ---- what is written is bytes

pub bytes-string : (us : List ℕ) → Bytes (bytes_of_string us)
unfolding bytes_of_string
bytes-string us = bytes-append (be 4 (length us)) (joined (be 2) us) (bytes-be 4 (length us)) (bytes-joined (be 2) (bytes-be 2) us)

bytes-colour : (c : Colour) → Bytes (colour_bytes c)
unfolding colour_bytes
bytes-colour c =
    let k : List ℕ = joined (be 1) c.components in
    bytes-append (bytes_of_string c.name) (joined (be 1) c.code ++ k) (bytes-string c.name) (bytes-append (joined (be 1) c.code) k (bytes-joined (be 1) (bytes-be 1) c.code) (bytes-joined (be 1) (bytes-be 1) c.components))

pub bytes-head : (b : Book) → Bytes (head_bytes b)
bytes-head b =
    let n : Numbers = numbers_of b in
    let t : List ℕ = joined bytes_of_string b.texts in
    let o : List ℕ = be 2 1 ++ be 2 b.identifier in
    let l3 : List ℕ = be 2 n.offset ++ be 2 n.space in
    let l2 : List ℕ = be 2 n.size ++ l3 in
    subst Bytes (sym (head-parts b))
    (bytes-append (be 4 (chars "8BCB") ++ o) (t ++ number_bytes n) (bytes-append (be 4 (chars "8BCB")) o (bytes-be 4 (chars "8BCB")) (bytes-append (be 2 1) (be 2 b.identifier) (bytes-be 2 1) (bytes-be 2 b.identifier)))
    (bytes-append t (number_bytes n) (bytes-joined bytes_of_string bytes-string b.texts)
    (bytes-append (be 2 n.count) l2 (bytes-be 2 n.count) (bytes-append (be 2 n.size) l3 (bytes-be 2 n.size) (bytes-append (be 2 n.offset) (be 2 n.space) (bytes-be 2 n.offset) (bytes-be 2 n.space))))))

pub bytes-colours : (cs : List Colour) → Bytes (joined colour_bytes cs)
bytes-colours cs = bytes-joined colour_bytes bytes-colour cs

pub bytes-file : (b : Book) → Bytes (file_bytes b)
unfolding file_bytes
bytes-file b =
    let l : List ℕ = joined colour_bytes b.colours in
    bytes-append (head_bytes b) (l ++ ending_bytes b.tag) (bytes-head b) (bytes-append l (ending_bytes b.tag) (bytes-colours b.colours) (bytes-ending b.tag))

-- ---- the grammar's bytes are read

module _ (s : List ℕ) (bytes : Bytes s) (n : ℕ) where
  pub colours-exact : (k : ℕ) → Exact s (each k 0 (λ i. colour n)) (map colour_of) (λ cs. (length cs ≡ k) × All (λ i c. AllowedRecord n c) 0 cs) (joined colour_bytes)
  colours-exact k = each-exact {p = λ i. colour n} {Ok = λ i c. AllowedRecord n c} (λ i. colour-exact s bytes n) k 0

module _ (b : Book) (a : Allowed b) where
  abbrev same-book : Header → List Entry → Type 0
  same-book h es = (top_of h ≡ top_in b) × (map colour_of es ≡ b.colours)

  book-is : (h : Header) (p : ℕ) (es : List Entry) → same-book h es → book_of (record { header = h; first = p; entries = es; tag = a.ends }) ≡ b
  book-is h p es e =
      ap₂ (λ (t : Top) (cs : List Colour). record { identifier = t.identifier; texts = t.texts; size = t.numbers.size; offset = t.numbers.offset; space = t.numbers.space; colours = cs; tag = tagged a.ends }) e.0 e.1
      ∙ ap (λ (g : Ending). record { identifier = b.identifier; texts = b.texts; size = b.size; offset = b.offset; space = b.space; colours = b.colours; tag = g }) (sym a.tag)

  -- where the header and the records stand they are read, and then what follows them
  pub book-to : (s : List ℕ) → Bytes s → (x : List ℕ) → At s 0 (top_bytes (top_in b) ++ (joined colour_bytes b.colours ++ x))
      → (h : Header) × (es : List Entry) × same-book h es
      × (book s 0 ≡ then (closing s (length (top_bytes (top_in b)) + length (joined colour_bytes b.colours))) (λ t end. ok (record { header = h; first = length (top_bytes (top_in b)); entries = es; tag = t }) end))
  unfolding book
  book-to s bytes x h =
      let t : List ℕ = top_bytes (top_in b) in
      let l : List ℕ = joined colour_bytes b.colours in
      let p : ℕ = length t in
      let z : 0 + length t ≡ p = zero-add (length t) in
      let r = (header-exact s bytes).reads 0 (top_in b) (allowed-headed b a) (at_left s 0 t (l ++ x) h) in
      let hd : Header = r.0 in
      let h1 = at_after s 0 t (l ++ x) p z h in
      let ns : hd.numbers ≡ numbers_of b = ap (λ (y : Top). y.numbers) r.2 in
      let n : components_of hd.numbers.space ≡ a.components = ap (λ (y : Numbers). components_of y.space) ns ∙ space-components a.space in
      let k : length b.colours ≡ hd.numbers.count = sym (ap (λ (y : Numbers). y.count) ns) in
      let fit : All (λ i c. AllowedRecord (components_of hd.numbers.space) c) 0 b.colours = subst (λ (m : ℕ). All (λ i c. AllowedRecord m c) 0 b.colours) (sym n) a.colours in
      let y = (colours-exact s bytes (components_of hd.numbers.space) hd.numbers.count).reads p b.colours (k, fit) (at_left s p l x h1) in
      let e : header s 0 ≡ ok hd p = r.1 ∙ ap (λ (m : ℕ). ok hd m) z in
      (hd, y.0, (r.2, y.2), rw e (rw y.1))

  book-reads : (s : List ℕ) → Bytes s → At s 0 (top_bytes (top_in b) ++ (joined colour_bytes b.colours ++ tag_bytes a.ends))
      → length (top_bytes (top_in b) ++ (joined colour_bytes b.colours ++ tag_bytes a.ends)) ≡ length s → (c : Contents) × (book s 0 ≡ ok c (length s)) × (book_of c ≡ b)
  book-reads s bytes h len =
      let t : List ℕ = top_bytes (top_in b) in
      let l : List ℕ = joined colour_bytes b.colours in
      let g : List ℕ = tag_bytes a.ends in
      let x = book-to s bytes g h in
      let q : ℕ = length t + length l in
      let end : q + length g ≡ length s = omega (arith, length-append t (l ++ g), length-append l g) in
      let h1 : At s q g = at_after s (length t) l g q refl (at_after s 0 t (l ++ g) (length t) (zero-add (length t)) h) in
      let z = closing-reads s bytes a.ends q h1 end in
      (record { header = x.0; first = length t; entries = x.1; tag = a.ends }, x.3 ∙ ap (λ (m : Res Tag). then m (λ t end. ok (record { header = x.0; first = length (top_bytes (top_in b)); entries = x.1; tag = t }) end)) z, book-is x.0 (length t) x.1 x.2)

pub file-parts : (b : Book) → file_bytes b ≡ top_bytes (top_in b) ++ (joined colour_bytes b.colours ++ ending_bytes b.tag)
unfolding file_bytes
file-parts b = ap (λ (l : List ℕ). l ++ (joined colour_bytes b.colours ++ ending_bytes b.tag)) (head-parts b)

-- the same of an allowed book, which ends as a file may
pub allowed-parts : (b : Book) (a : Allowed b) → file_bytes b ≡ top_bytes (top_in b) ++ (joined colour_bytes b.colours ++ tag_bytes a.ends)
allowed-parts b a = file-parts b ∙ ap (λ (g : Ending). top_bytes (top_in b) ++ (joined colour_bytes b.colours ++ ending_bytes g)) a.tag

pub file-reads : (b : Book) → Allowed b → length (file_bytes b) ≤ 16777216 → (c : Contents) × (acb (file_bytes b) ≡ ok c (length (file_bytes b))) × (book_of c ≡ b)
unfolding acb
file-reads b a short =
    let s : List ℕ = file_bytes b in
    let x = book-reads b a s (bytes-file b) (subst (λ (l : List ℕ). At s 0 l) (allowed-parts b a) (at-whole s)) (sym (ap length (allowed-parts b a))) in
    (x.0, simp (le-leb (length s) 16777216 short) x.1, x.2)

-- ---- what was read is the grammar's bytes

module _ (s : List ℕ) (bytes : Bytes s) where
  book-writes : length s ≤ 16777216 → (c : Contents) (q : ℕ) → book s 0 ≡ ok c q → File (book_of c) s × (q ≡ length s)
  unfolding book
  book-writes short c q e =
      let t = then-inv (header s 0) _ e in
      let hd : Header = t.0 in
      let x = (header-exact s bytes).writes 0 (omega arith) hd t.1 t.2 in
      let n : ℕ = components_of hd.numbers.space in
      let u = then-inv (each hd.numbers.count 0 (λ i. colour n) s t.1) _ t.3 in
      let y = (colours-exact s bytes n hd.numbers.count).writes t.1 (omega (arith, at_in s 0 (top_bytes (top_of hd)) x.1, x.2)) u.0 u.1 u.2 in
      let cs : List Colour = map colour_of u.0 in
      let l : List ℕ = joined colour_bytes cs in
      let v = then-inv (closing s u.1) _ u.3 in
      let z = closing-writes s bytes u.1 (omega (arith, at_in s t.1 l y.1, y.2)) v.0 v.1 v.2 in
      go hd t.1 u.0 u.1 v.0 x y (z.0, z.1) (ok-value v.3) (sym (ok-place v.3) ∙ z.2)
    where
      go : (hd : Header) (p : ℕ) (es : List Entry) (r : ℕ) (ending : Tag) → Headed (top_of hd) × At s 0 (top_bytes (top_of hd)) × (0 + length (top_bytes (top_of hd)) ≡ p)
          → ((length (map colour_of es) ≡ hd.numbers.count) × All (λ i k. AllowedRecord (components_of hd.numbers.space) k) 0 (map colour_of es)) × At s p (joined colour_bytes (map colour_of es)) × (p + length (joined colour_bytes (map colour_of es)) ≡ r)
          → At s r (tag_bytes ending) × (r + length (tag_bytes ending) ≡ length s)
          → record { header = hd; first = p; entries = es; tag = ending } ≡ c → q ≡ length s → File (book_of c) s × (q ≡ length s)
      go hd p es r ending x y z is end =
          let d : Contents = record { header = hd; first = p; entries = es; tag = ending } in
          let b : Book = book_of d in
          let l : List ℕ = joined colour_bytes b.colours in
          let g : List ℕ = tag_bytes ending in
          let same : top_of hd ≡ top_in b = ap (λ (k : ℕ). record { identifier = hd.identifier; texts = map (λ (nm : Name). nm.units) hd.texts; numbers = record { count = k; size = hd.numbers.size; offset = hd.numbers.offset; space = hd.numbers.space } }) (sym y.0.0) in
          let t : List ℕ = top_bytes (top_in b) in
          let ht : At s 0 t = subst (λ (w : Top). At s 0 (top_bytes w)) same x.1 in
          let lt : 0 + length t ≡ p = ap (λ (w : Top). 0 + length (top_bytes w)) (sym same) ∙ x.2 in
          let tail : At s p (l ++ g) = at_next s p l g r y.2 y.1 z.0 in
          let whole : At s 0 (t ++ (l ++ g)) = at_next s 0 t (l ++ g) p lt ht tail in
          let len : length (t ++ (l ++ g)) ≡ length s = omega (arith, length-append t (l ++ g), length-append l g, lt, y.2, z.1) in
          let made : s ≡ file_bytes b = at_all s (t ++ (l ++ g)) whole len ∙ sym (file-parts b) in
          let n = x.0.numbers in
          let allowed : Allowed b = record {
            identifier = x.0.identifier;
            four = x.0.four;
            texts = x.0.texts;
            count = subst (λ (k : ℕ). k < 256 ^ 2) (sym y.0.0) n.count;
            size = n.size;
            offset = n.offset;
            components = components_of hd.numbers.space;
            space = n.space;
            colours = y.0.1;
            ends = ending;
            tag = refl;
          } in
          (subst (λ (k : Contents). File (book_of k) s) is (subst (File b) (sym made) (file allowed (omega (arith, short, ap length made)))), end)

  pub file-writes : (c : Contents) (q : ℕ) → acb s ≡ ok c q → File (book_of c) s × (q ≡ length s)
  unfolding acb
  file-writes c q e = let i = pick_inv (leb (length s) 16777216) (book s 0) _ _ _ _ e in book-writes (leb-true (length s) 16777216 i.0) c q i.1
