-- Where a section lies, a block's name in it, and the lines. Assumes nothing.
use Prim.Native.Nat.{ℕ, zero, suc, ◌+◌, ◌-◌, ◌≤◌, ◌<◌}
use mathlib.Core.Path.{◌≡◌, refl, sym, ap, ap₂, ◌∙◌, subst}
use mathlib.Core.List.{List, ◌∷◌, ◌++◌}
use mathlib.Core.Bool.{Bool, true, false}
use lib.Dec.{leb, eqb}
use lib.ListN.{length, get_or, take, drop}
use lib.Seq.{drop-cons}
use borrow.Author.Tests.{le-leb, lt-leb, eq-eqb, ne_eqb, leb-true, eqb-true, eqb-false}
use denote.Enum.Bare.{sameb}
use Rattle.fault.specs.Fault.{number_of}
use Rattle.fault.specs.declared.Fault.{Fault}
use Rattle.fault.specs.declared.Fault.TheVariants as kind
use Rattle.fault.specs.contracts.Fault.{the_type}
use native.Mathlib.Omega.{arith}
use native.Mathlib.Numerals.{add-one}
use Rattle.algebra.specs.Chars.{chars}
use Rattle.algebra.specs.Numbers.{nums}
use Rattle.algebra.specs.Reader.{Res, ok, refuse, then, pick, field, body, judged, map_res, or_zero}
use Rattle.algebra.specs.Store.{part}
use Rattle.algebra.specs.Table.{Verdict, accepted, refused, verdict}
use Rattle.algebra.proofs.Laws.{num-1}
use Rattle.algebra.proofs.Inverse.{clash, ok-value, then-inv, field-inv, judged-inv, body-inv}
use Rattle.algebra.proofs.Places.{length-nums}
use Rattle.resource.specs.Reading.{Part, Entry, block_part, pad, padded_part, sized_part, is_signature, block, resources}
use Rattle.resource.specs.Rows.{to_record}
use Rattle.resource.specs.declared.Record.{Record}
use Rattle.resource.proofs.Lies.{block-lies}
use Rattle.resource.proofs.Placed.{refused-placed}
use Rattle.resource.proofs.Whole.{block-moves, blocks-ok}
use Rattle.resource_document.specs.Reading.{document}
use Rattle.resource_document.proofs.Inside.{section-inside}
use Rattle.resource_judge.proofs.Judging.{map-ok}
use Rattle.resource_read.specs.scaffold.Parts.{rest, entries_of, Sound}
use Rattle.resource_read.proofs.Answers.{refused-of, accepted-of, part_of}
use Rattle.resource_read.proofs.Going.{none-counted, turned}
use Rattle.listing.specs.Buffer.{Buffer, put_all}
use Rattle.listing.specs.Text.{ascii, decimal, word, name, lines, refusal}
use Rattle.listing.proofs.Putting.{lines-turn, lines_none}
use Rattle.resource_list.specs.Listing.{heading, line, section, most, is_document, reached, section_of, listed}
use Rattle.resource_list.specs.scaffold.Parts.{shown, Lying}

-- a name as a part of the section, as the code lends it
pub put-part : (s : List ℕ) (from k : ℕ) (o : Buffer) {p : Buffer} → p ≡ put_all o (name (take (from + k - from) (drop from s))) → p ≡ put_all o (name (part s from k))
put-part s from k o e = e ∙ ap (λ (l : List ℕ). put_all o (name l)) (part_of s from k)

-- ---- whether a field was cut

cut-number : (f : Fault) → sameb the_type f kind.Short ≡ eqb (number_of f) 2
cut-number kind.TooLong = refl
cut-number kind.Short = refl
cut-number kind.WrongTag = refl
cut-number kind.Unknown = refl
cut-number kind.OutOfRange = refl
cut-number kind.LeftOver = refl
cut-number kind.ListsDiffer = refl
cut-number kind.BadlyClosed = refl
cut-number kind.Unbalanced = refl
cut-number kind.TooDeep = refl
cut-number kind.NoRoom = refl
cut-number kind.NoRecord = refl
cut-number kind.WrongLength = refl
cut-number kind.NoCounterpart = refl

pub cut-is : (f : Fault) {b : Bool} → b ≡ sameb the_type f kind.Short → b ≡ true → number_of f ≡ 2
cut-is f e t = eqb-true (number_of f) 2 (sym (cut-number f) ∙ sym e ∙ t)

pub cut-not : (f : Fault) {b : Bool} → b ≡ sameb the_type f kind.Short → b ≡ false → number_of f ≡ 2 → ⊥
cut-not f e t = eqb-false (number_of f) 2 (sym (cut-number f) ∙ sym e ∙ t)

-- ---- where the section of a document lies

module _ (n : ℕ) (m : Verdict (ℕ × ℕ)) where
  pub reached-there : {p k : ℕ} → accepted (p, k) ≡ m → p + k ≤ most → accepted (p, k) ≡ reached n m
  reached-there {p} {k} e h = sym (ap (reached n) (sym e) ∙ simp (le-leb (p + k) most h))

  pub reached-past : {p k : ℕ} → accepted (p, k) ≡ m → most < p + k → refused 1 0 0 0 ≡ reached n m
  reached-past {p} {k} e h = sym (ap (reached n) (sym e) ∙ simp (lt-leb (p + k) most h))

  pub refused-short : {x p : ℕ} → refused x p 0 0 ≡ m → n ≤ most → refused x p 0 0 ≡ reached n m
  refused-short e h = sym (ap (reached n) (sym e) ∙ simp (le-leb n most h))

  pub cut-long : {x p : ℕ} → refused x p 0 0 ≡ m → most < n → x ≡ 2 → refused 1 0 0 0 ≡ reached n m
  cut-long {x} e h two = sym (ap (reached n) (sym e) ∙ simp (lt-leb n most h, eq-eqb x 2 two))

  pub refused-long : {x p : ℕ} → refused x p 0 0 ≡ m → most < n → (x ≡ 2 → ⊥) → refused x p 0 0 ≡ reached n m
  refused-long {x} e h other = sym (ap (reached n) (sym e) ∙ simp (lt-leb n most h, ne_eqb x 2 other))

-- a section that was found lies inside
pub found_inside : (s : List ℕ) {p k : ℕ} → accepted (p, k) ≡ verdict (λ v. v) (document s) → p + k ≤ length s
found_inside s {p} {k} e = go (document s) refl e
  where
    go : (m : Res (ℕ × ℕ)) → document s ≡ m → accepted (p, k) ≡ verdict (λ v. v) m → p + k ≤ length s
    go (ok v q) h f =
        let i = section-inside s h in
        let a : v ≡ (p, k) = cc in
        omega (arith, i.0, ap (λ (w : ℕ × ℕ). w.0 + w.1) a)
    go (refuse x y r f) h g = let z : ◌≡◌ {A = ℕ} 0 1 = cc in absurd (omega arith)

-- ---- where the section of an input lies

module _ (s : List ℕ) where
  -- a document
  pub of-document : {v : ℕ} {w : Verdict (ℕ × ℕ)} → v ≡ or_zero (field 4 s 0) → v ≡ chars "8BPS" → w ≡ reached (length s) (verdict (λ v. v) (document s)) → w ≡ section_of s
  of-document e is f = let d : or_zero (field 4 s 0) ≡ (chars "8BPS") = sym e ∙ is in f ∙ sym (simp (eq-eqb (or_zero (field 4 s 0)) (chars "8BPS") d))

  module _ {v : ℕ} (e : v ≡ or_zero (field 4 s 0)) (other : v ≡ chars "8BPS" → ⊥) where
    none : eqb (or_zero (field 4 s 0)) (chars "8BPS") ≡ false
    none = ne_eqb (or_zero (field 4 s 0)) (chars "8BPS") (λ d. other (e ∙ d))

    pub of-long : most < length s → refused 1 0 0 0 ≡ section_of s
    of-long h = sym (simp (none, lt-leb (length s) most h))

    pub of-section : length s ≤ most → accepted (0, length s) ≡ section_of s
    of-section h = sym (simp (none, le-leb (length s) most h))

  -- it ends inside the input, and within what is listed
  reached-inside : (m : Res (ℕ × ℕ)) → document s ≡ m → {p k : ℕ} → accepted (p, k) ≡ reached (length s) (verdict (λ v. v) m) → (p + k ≤ length s) × (p + k ≤ most)
  reached-inside (ok v q) h {p} {k} e = go (leb (v.0 + v.1) most) refl e
    where
      go : (b : Bool) → leb (v.0 + v.1) most ≡ b → accepted (p, k) ≡ pick b (accepted v) (refused 1 0 0 0) → (p + k ≤ length s) × (p + k ≤ most)
      go true g f =
          let i = section-inside s h in
          let a : v ≡ (p, k) = cc in
          let sum : v.0 + v.1 ≡ p + k = ap (λ (w : ℕ × ℕ). w.0 + w.1) a in
          (omega (arith, i.0), omega (arith, leb-true (v.0 + v.1) most g))
      go false g f = let z : ◌≡◌ {A = ℕ} 0 1 = cc in absurd (omega arith)
  reached-inside (refuse x y r f) h {p} {k} e = go (leb (length s) most) (eqb x 2) e
    where
      go : (a b : Bool) → ◌≡◌ {A = Verdict (ℕ × ℕ)} (accepted (p, k)) (pick a (refused x y r f) (pick b (refused 1 0 0 0) (refused x y r f))) → (p + k ≤ length s) × (p + k ≤ most)
      go true b g = let z : ◌≡◌ {A = ℕ} 0 1 = cc in absurd (omega arith)
      go false true g = let z : ◌≡◌ {A = ℕ} 0 1 = cc in absurd (omega arith)
      go false false g = let z : ◌≡◌ {A = ℕ} 0 1 = cc in absurd (omega arith)

  pub section-ends : {p k : ℕ} → accepted (p, k) ≡ section_of s → (p + k ≤ length s) × (p + k ≤ most)
  section-ends {p} {k} e = go (is_document s) (leb (length s) most) refl e
    where
      go : (a b : Bool) → leb (length s) most ≡ b → accepted (p, k) ≡ pick a (reached (length s) (verdict (λ v. v) (document s))) (pick b (accepted (0, length s)) (refused 1 0 0 0)) → (p + k ≤ length s) × (p + k ≤ most)
      go true b h f = reached-inside (document s) refl f
      go false true h f =
          let v : ℕ × ℕ = (0, length s) in
          let w : ℕ × ℕ = (p, k) in
          let a : v ≡ w = cc in
          let sum : 0 + length s ≡ p + k = ap (λ (w : ℕ × ℕ). w.0 + w.1) a in
          (omega arith, omega (arith, leb-true (length s) most h))
      go false false h f = let z : ◌≡◌ {A = ℕ} 0 1 = cc in absurd (omega arith)

-- ---- a block's name

-- belongs in algebra: bytes one after the other are a part of the file
pub nums-part : (s : List ℕ) (n at : ℕ) → at + n ≤ length s → nums 1 n s at ≡ part s at n
unfolding nums
nums-part s zero at h = refl
nums-part s (suc n) at h =
    ap₂ (λ (x : ℕ) (l : List ℕ). x ∷ l) (num-1 s at) (nums-part s n (at + 1) (omega arith))
    ∙ ap (λ (k : ℕ). get_or s at 0 ∷ take n (drop k s)) (add-one at)
    ∙ sym (ap (take (suc n)) (drop-cons s at 0 (omega arith)))

module _ (s : List ℕ) where
  run-part : (n at : ℕ) {p : Part} {q : ℕ} → at ≤ length s → block_part n s at ≡ ok p q → part s p.first (length p.bytes) ≡ p.bytes
  unfolding block_part
  run-part n at {p} {q} le e = go (body 1 n s at) refl e
    where
      go : (m : Res (List ℕ)) → body 1 n s at ≡ m → map_res (λ b. record { first = at; bytes = b }) m ≡ ok p q → part s p.first (length p.bytes) ≡ p.bytes
      go (ok l r) h g =
          let i = body-inv 1 s at n h in
          let n-is : n ≡ length l = sym (length-nums 1 n s at) ∙ ap length i.1 in
          let is : part s at (length l) ≡ l = ap (λ (k : ℕ). part s at k) (sym n-is) ∙ sym (nums-part s n at (omega (arith, i.0))) ∙ i.1 in
          subst (λ (x : Part). part s x.first (length x.bytes) ≡ x.bytes) (ok-value g) is
      go (refuse x y r f) h g = clash g

  counted-part : (w k at : ℕ) {p : Part} {q : ℕ} → at ≤ length s → sized_part w k s at ≡ ok p q → part s p.first (length p.bytes) ≡ p.bytes
  unfolding padded_part
  counted-part w k at le e =
      let a = then-inv (field w s at) _ e in
      let i = field-inv w s at a.2 in
      let b = then-inv (block_part a.0 s a.1) _ a.3 in
      let c = then-inv (pad (k + a.0) s b.1) _ b.3 in
      subst (λ (x : Part). part s x.first (length x.bytes) ≡ x.bytes) (ok-value c.3) (run-part a.0 a.1 (omega (arith, i.0, i.2)) b.2)

  -- the name that was read is what stands at its place
  block-name : (at : ℕ) {e : Entry} {q : ℕ} → at ≤ length s → block s at ≡ ok e q → part s e.name.first (length e.name.bytes) ≡ e.name.bytes
  unfolding block
  block-name at {e} le h =
      let a = then-inv (judged 4 is_signature s at) _ h in
      let i = judged-inv 4 s at is_signature a.2 in
      let b = then-inv (field 2 s a.1) _ a.3 in
      let j = field-inv 2 s a.1 b.2 in
      let c = then-inv (sized_part 1 1 s b.1) _ b.3 in
      let d = then-inv (sized_part 4 0 s c.1) _ c.3 in
      let nm : c.0 ≡ e.name = ap (λ (x : Entry). x.name) (ok-value d.3) in
      subst (λ (x : Part). part s x.first (length x.bytes) ≡ x.bytes) nm (counted-part 1 1 b.1 (omega (arith, i.0, i.2, j.0, j.2)) c.2)

-- ---- a loop over the blocks of an accepted section, which begins at `first`

module _ (s : List ℕ) (first : ℕ) (ends : first + length s ≤ most) (at : ℕ) (fit : Sound s at) where
  pub lines_end : (all o : Buffer) (i : ℕ) → length (rest s at) ≡ 0 → all ≡ put_all o (lines (line first) i (rest s at)) → all ≡ o
  lines_end all o i e f = lines_none (line first) all o i (f ∙ ap (λ (l : List Entry). put_all o (lines (line first) i l)) (none-counted (rest s at) e))

  module _ (more : at < length s) {r : Record} {q : ℕ} (h : ok r q ≡ map_res to_record (block s at)) where
    -- the block's record, where its parts lie, and what is left
    pub record Listed : Type 0 where
      pub entry : Entry
      pub line-is : (i : ℕ) → shown s first i r ≡ line first i entry
      pub lying : Lying s first r
      pub all : rest s at ≡ entry ∷ rest s q
      pub sound : Sound s q
      pub moved : at < q

    pub listed_next : Listed
    listed_next =
        let t = turned s at fit more h in
        let x = map-ok to_record (block s at) (sym h) in
        let e : Entry = x.0 in
        let w = block-moves s at e q fit.inside x.1 in
        let l = block-lies s at x.1 in
        let y : Lying s first (to_record e) = record { name = omega (arith, l.0.name, l.1, w.1); payload = omega (arith, l.0.payload, l.1, w.1) } in record {
          entry = e;
          line-is =
              λ i. ap (shown s first i) (sym x.2)
              ∙ ap (λ (b : List ℕ). decimal i ++ word e.id ++ ascii " " ++ name b ++ word (first + e.payload.first) ++ word (length e.payload.bytes) ++ ascii "\n") (block-name s at fit.inside x.1);
          lying = subst (Lying s first) x.2 y;
          all = ap entries_of (blocks-ok s at fit.inside (λ z. omega arith) e q x.1 ∙ ap (λ (m : Res (List Entry)). then m (λ es end. ok (e ∷ es) end)) t.sound.reads);
          sound = t.sound;
          moved = t.moved;
        }

    pub lines_next : (x : Listed) (all o : Buffer) (i : ℕ) {p : Buffer} → all ≡ put_all o (lines (line first) i (rest s at)) → p ≡ put_all o (shown s first i r) → all ≡ put_all p (lines (line first) (i + 1) (rest s q))
    lines_next x all o i e f =
        lines-turn (line first) all o i x.entry (rest s q) (e ∙ ap (λ (l : List Entry). put_all o (lines (line first) i l)) x.all) (f ∙ ap (put_all o) (x.line-is i))

-- ---- a section

module _ (s : List ℕ) (first : ℕ) where
  pub refused-inside : {x p : ℕ} → refused x p 0 0 ≡ verdict length (resources s) → p ≤ length s
  refused-inside e = (refused-placed s (refused-of (resources s) e)).1

  pub section-refused : {x p : ℕ} → refused x p 0 0 ≡ verdict length (resources s) → refusal x (first + p) ≡ section first (resources s)
  section-refused e = sym (ap (section first) (refused-of (resources s) e))

  pub section-accepted : {n : ℕ} → accepted n ≡ verdict length (resources s) → heading n ++ lines (line first) 0 (rest s 0) ++ ascii "end\n" ≡ section first (resources s)
  section-accepted v =
      let a = accepted-of s v in
      ap (λ (k : ℕ). heading k ++ lines (line first) 0 (rest s 0) ++ ascii "end\n") (sym a.count) ∙ sym (ap (section first) a.reads)

-- ---- the input

module _ (s : List ℕ) where
  pub input-refused : {x p : ℕ} → refused x p 0 0 ≡ section_of s → refusal x p ≡ listed s (section_of s)
  input-refused e = ap (listed s) e

  pub input-section : {p k : ℕ} → accepted (p, k) ≡ section_of s → section p (resources (take (p + k - p) (drop p s))) ≡ listed s (section_of s)
  input-section {p} {k} e = ap (λ (l : List ℕ). section p (resources l)) (part_of s p k) ∙ ap (listed s) e
