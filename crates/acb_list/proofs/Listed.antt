-- Records, pages, and their lines. Assumes nothing.
use Prim.Native.Nat.{ℕ, zero, suc, ◌+◌, ◌-◌, ◌*◌, ◌≤◌, ◌<◌}
use mathlib.Core.Path.{◌≡◌, refl, sym, ap, ap₂, ◌∙◌, subst}
use mathlib.Core.List.{List, [], ◌∷◌, ◌++◌, map}
use mathlib.Core.Bool.{Bool, true}
use lib.ListN.{length, drop}
use lib.Dec.{leb}
use borrow.Author.Tests.{le-leb, eq-eqb, ne_eqb}
use native.Mathlib.Omega.{arith}
use Rattle.algebra.specs.Numbers.{joined, Bytes, All}
use Rattle.algebra.specs.Reader.{Res, ok, refuse, pick}
use Rattle.algebra.specs.Table.{Verdict, accepted, refused as refusedFile, filled}
use Rattle.algebra.proofs.Exact.{length-map}
use Rattle.algebra.proofs.Firsts.{all-source}
use Rattle.acb.specs.Grammar.{Book, AllowedRecord, Allowed, File, file}
use Rattle.acb.specs.Reading.{Entry, Contents, components_of, acb, colour_of, book_of}
use Rattle.colour.specs.Inks.{ink_number}
use Rattle.acb.specs.Row.{RecordRow, width, numbers, given_of, tag_ink, stated, records_of}
use Rattle.acb.proofs.Row.{six-back, four-back}
use Rattle.acb.proofs.Laws.{components-some, space-components}
use Rattle.acb.proofs.RoundTrip.{accepted-allowed, thirteen-each}
use Rattle.acb_judge.specs.Answer.{Report, report}
use Rattle.acb_read.specs.Walked.{walked}
use Rattle.acb_read.proofs.Walking.{walked_all}
use Rattle.acb_shown_file.specs.View.{dummy, dummies_in}
use Rattle.acb_shown_file.proofs.Listed.{table-dummies}
use Rattle.walk.specs.Names.{name_part}
use Rattle.listing.specs.Buffer.{Buffer, put_all}
use Rattle.listing.specs.Text.{ascii, decimal, word, name, lines, refusal}
use Rattle.listing.proofs.Putting.{put-append, lines-turn, lines_none}
use Rattle.acb_list.specs.Listing.{heading, texts, line, pages_from, pages, listing}
use Rattle.acb_list.specs.scaffold.Parts.{given_line}

-- ---- lines of records

module _ (f : ℕ → RecordRow → List ℕ) (all o : Buffer) (i : ℕ) {gs : List RecordRow} (inv : all ≡ put_all o (lines f i gs)) where
  pub line-put : {g : RecordRow} {more : List RecordRow} → gs ≡ g ∷ more → {q : Buffer} → q ≡ put_all o (f i g) → all ≡ put_all q (lines f (i + 1) more)
  line-put {g} {more} e h = lines-turn f all o i g more (inv ∙ ap (λ (l : List RecordRow). put_all o (lines f i l)) e) h

  pub lines-put : gs ≡ [] → all ≡ o
  lines-put e = lines_none f all o i (inv ∙ ap (λ (l : List RecordRow). put_all o (lines f i l)) e)

-- the records that steps give have the lines of those that were read
module _ (s : List ℕ) (n : ℕ) (few : n ≤ 4) where
  same_line : (i : ℕ) (e : Entry) → AllowedRecord n (colour_of e) → given_line s n i (given_of e) ≡ line s i e
  same_line i e h =
      ap₂ (λ (cs ks : List ℕ). decimal i ++ (ascii " " ++ name cs ++ joined word ks ++ ascii " " ++ name (name_part s e.name.first (length e.name.units)) ++ ascii "\n"))
      (six-back e.code h.code.count) (four-back n e.components few h.components.count)

  same_lines : (i j : ℕ) (es : List Entry) → All (λ k e. AllowedRecord n (colour_of e)) j es → lines (given_line s n) i (map given_of es) ≡ lines (line s) i es
  unfolding lines
  same_lines i j [] h = refl
  same_lines i j (e ∷ es) h = ap₂ (λ (x y : List ℕ). x ++ y) (same_line i e h.0) (same_lines (i + 1) (j + 1) es h.1)

allowed-in : {b : Book} {s : List ℕ} → File b s → Allowed b
allowed-in (file allowed short) = allowed

read-lines : (s : List ℕ) → Bytes s → {c : Contents} {q : ℕ} → acb s ≡ ok c q
    → lines (given_line s (components_of c.header.numbers.space)) 0 (walked c.header.numbers.space s c.first (length c.entries)) ≡ lines (line s) 0 c.entries
read-lines s bytes {c} {q} e =
    let x : ℕ = c.header.numbers.space in
    let a : Allowed (book_of c) = allowed-in (accepted-allowed bytes e).0 in
    let w = subst (λ (m : ℕ). All (λ k y. AllowedRecord m y) 0 (map colour_of c.entries)) (sym (space-components a.space)) a.colours in
    ap (lines (given_line s (components_of x)) 0) (walked_all s e)
    ∙ same_lines s (components_of x) (components-some x).1 0 0 c.entries (all-source colour_of (λ k y. AllowedRecord (components_of x) y) 0 c.entries w)

-- ---- pages

module _ (f : ℕ → List ℕ) (size : ℕ) (all o : Buffer) where
  none_left : (k p left : ℕ) → left ≡ 0 → pages_from f size k p left ≡ []
  unfolding pages_from
  none_left zero p left e = refl
  none_left (suc k) p left e = rw (eq-eqb left 0 e)

  pub pages-none : (k p left : ℕ) → left ≡ 0 → all ≡ put_all o (pages_from f size k p left) → all ≡ o
  unfolding put_all
  pages-none k p left h e = e ∙ ap (λ (l : List ℕ). put_all o l) (none_left k p left h)

  one-page : (k p left : ℕ) → 0 < left → pages_from f size (suc k) p left ≡ f p ++ pages_from f size k (p + 1) (left - size)
  unfolding pages_from
  one-page k p left h = rw (ne_eqb left 0 (λ e. omega arith))

  pub pages-turn : (count p left : ℕ) {q : Buffer} → 0 < left → p < count → all ≡ put_all o (pages_from f size (count - p) p left) → q ≡ put_all o (f p) → all ≡ put_all q (pages_from f size (count - (p + 1)) (p + 1) (left - size))
  pages-turn count p left {q} h j e g =
      let z : count - p ≡ suc (count - (p + 1)) = omega arith in
      e ∙ ap (λ (k : ℕ). put_all o (pages_from f size k p left)) z ∙ ap (put_all o) (one-page (count - (p + 1)) p left h)
      ∙ put-append o (f p) (pages_from f size (count - (p + 1)) (p + 1) (left - size)) ∙ ap (λ (b : Buffer). put_all b (pages_from f size (count - (p + 1)) (p + 1) (left - size))) (sym g)

-- ---- the whole listing, where the table has room for the records of the longest input

module _ (s t u : List ℕ) (room : width * 5041 ≤ length t) (bytes : Bytes s) (short : length s ≤ 65536) where
  abbrev read : Res Contents → Verdict Report × List ℕ
  read m = filled width numbers records_of report m t

  fits : (c : Contents) (q : ℕ) → acb s ≡ ok c q → leb (width * length (records_of c)) (length t) ≡ true
  fits c q e =
      let n : length (records_of c) ≡ length c.entries = length-map (λ e. stated (ink_number (tag_ink c.tag)) (given_of e)) c.entries in
      le-leb (width * length (records_of c)) (length t) (omega (arith, n, length-map colour_of c.entries, thirteen-each (accepted-allowed bytes e).0))

  -- what reading into the table says of a book that was read
  filled-all : (v : Verdict Report) (c : Contents) (q : ℕ) → acb s ≡ ok c q → (v, u) ≡ read (ok c q) → ◌≡◌ {A = Verdict Report × List ℕ} (v, u) (accepted (report c), joined numbers (records_of c) ++ drop (width * length (records_of c)) t)
  filled-all v c q e h = h ∙ ap (λ (b : Bool). pick b (accepted (report c), joined numbers (records_of c) ++ drop (width * length (records_of c)) t) (refusedFile 11 0 0 0, t)) (fits c q e)

  pub listed-refused : {x p r f : ℕ} → (refusedFile x p r f, u) ≡ read (acb s) → refusal x p ≡ listing s (acb s)
  listed-refused {x} {p} {r} {f} e = go (acb s) refl e
    where
      go : (m : Res Contents) → acb s ≡ m → (refusedFile x p r f, u) ≡ read m → refusal x p ≡ listing s m
      go (ok c q) g h =
          let y = ap (λ (w : Verdict Report × List ℕ). w.0) (filled-all (refusedFile x p r f) c q g h) in
          let z : ◌≡◌ {A = ℕ} 0 1 = cc in
          absurd (omega arith)
      go (refuse y k r' f') g h =
          let z : refusedFile x p r f ≡ refusedFile y k r' f' = ap (λ (w : Verdict Report × List ℕ). w.0) h in
          let a : x ≡ y = cc in
          let b : p ≡ k = cc in
          ap₂ refusal a b

  -- the same text from what the code was told
  abbrev told-book : Report → List ℕ → List ℕ
  told-book b ls = heading b.header b.tag b.count ++ texts s b.header.texts ++ ls ++ pages b.count b.header.size b.header.offset (dummies_in u b.count) ++ ascii "end\n"

  abbrev told-lines : Report → List ℕ
  told-lines b = lines (given_line s (components_of b.header.space)) 0 (walked b.header.space s b.first b.count)

  pub listed-accepted : {b : Report} → (accepted b, u) ≡ read (acb s) → told-book b (told-lines b) ≡ listing s (acb s)
  listed-accepted {b} e = go (acb s) refl e
    where
      go : (m : Res Contents) → acb s ≡ m → (accepted b, u) ≡ read m → told-book b (told-lines b) ≡ listing s m
      go (ok c q) k f =
          let w = filled-all (accepted b) c q k f in
          let y : accepted b ≡ accepted (report c) = ap (λ (w : Verdict Report × List ℕ). w.0) w in
          let a : b ≡ report c = cc in
          let table : u ≡ joined numbers (records_of c) ++ drop (width * length (records_of c)) t = ap (λ (w : Verdict Report × List ℕ). w.1) w in
          let ds : dummies_in u (length c.entries) ≡ map dummy c.entries = ap (λ (v : List ℕ). dummies_in v (length c.entries)) table ∙ table-dummies c (drop (width * length (records_of c)) t) in
          ap (λ (r : Report). told-book r (told-lines r)) a ∙ ap (told-book (report c)) (read-lines s bytes k)
          ∙ ap (λ (l : List Bool). heading (report c).header c.tag (length c.entries) ++ texts s (report c).header.texts ++ lines (line s) 0 c.entries ++ pages (length c.entries) c.header.numbers.size c.header.numbers.offset l ++ ascii "end\n") ds
      go (refuse x y r z) k f = let w = ap (λ (w : Verdict Report × List ℕ). w.0) f in let v : ◌≡◌ {A = ℕ} 0 1 = cc in absurd (omega arith)
