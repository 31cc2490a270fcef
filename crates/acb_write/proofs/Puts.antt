-- Stores one after the other, on plain values. Assumes nothing.
use Rattle.algebra.specs.Chars.{chars}
use Rattle.algebra.proofs.Counted.{counted-end, counted_start, counted-turn, length-counted}
use Prim.Native.Nat.{ℕ, zero, suc, ◌+◌, ◌*◌, ◌-◌, ◌%◌, ◌≤◌, ◌<◌}
use mathlib.Core.Path.{◌≡◌, refl, sym, ap, ap₂, ◌∙◌}
use mathlib.Core.List.{List, [], ◌∷◌, ◌++◌, map}
use lib.ListN.{length, get_or, drop, set, length-append}
use Rattle.std.proofs.Math.Seq.{drop-cons}
use Rattle.std.proofs.lemmas.List.{drop_all}
use native.Mathlib.Nat.{add-zero}
use lib.Seq.{sets, sets-eq, length-take-le}
use borrow.Author.Tests.{ne_eqb}
use native.Mathlib.Omega.{arith}
use native.Mathlib.Decide.{ℕ_discrete}
use Rattle.algebra.specs.Numbers.{counted, be, nums, joined, Bytes, All}
use Rattle.algebra.specs.Store.{stored, part}
use Rattle.algebra.proofs.Places.{length-be, length-bes, length-nums, part-nums}
use Rattle.algebra.proofs.Exact.{length-map}
use Rattle.algebra.proofs.Storing.{as-sets, peel, peel-be, length-kept}
use Rattle.acb.specs.Grammar.{Tag, none, spot, process, Ending, tagged, other, bytes_of_string, colour_bytes, tag_bytes, ending_bytes, head_bytes, file_bytes}
use Rattle.acb.specs.Reading.{components_of}
use Rattle.acb_judge.specs.Answer.{HeaderPlaces}
use Rattle.acb_writing.specs.Writing.{units_within, components_in, colour_in, book_in, sizes, string_size, size_within, tag_size, ending_size, head_size, size, text_fault}
use Rattle.algebra.specs.Table.{rows}
use Rattle.acb.specs.Row.{RecordRow, width, taken}
use Rattle.acb_write_judge.specs.scaffold.Parts.{given_at, start, number_bytes, heading_bytes}
use Rattle.acb_write_judge.proofs.Judging.{text-inside}
use Rattle.acb.proofs.Laws.{components-some}

-- ---- a string

pub length-string : (text : List ℕ) (l : ℕ × ℕ) → length (bytes_of_string (units_within text l)) ≡ string_size l
unfolding bytes_of_string
length-string text l =
    let us : List ℕ = units_within text l in
    omega (arith, length-append (be 4 (length us)) (joined (be 2) us), length-be 4 (length us), length-bes 2 us, length-nums 2 l.1 text l.0)

module _ (text : List ℕ) (b : Bytes text) (l : ℕ × ℕ) (f : text_fault text l ≡ 0) (from k : ℕ) (w : from ≡ start l) (e : k ≡ 2 * l.1) where
  -- the bytes of its units, from where its copy starts
  string-part : part text (start l) k ≡ joined (be 2) (units_within text l)
  unfolding nums joined
  string-part = elim (ℕ_discrete l.1 0) [
    | yes z ↦ let k0 : k ≡ 0 = omega arith in rw (k0, z)
    | no z ↦ let i = inside z in rw (ne_eqb l.1 0 z) (part-nums 2 text b l.1 l.0 k (omega arith) (omega arith))
  ]
    where
      inside : (l.1 ≡ 0 → ⊥) → l.0 + 2 * l.1 ≤ length text
      inside z = rw (ne_eqb l.1 0 z) at (text-inside text l f)

  pub put-string : (out o₁ o₂ : List ℕ) (at : ℕ) → at + string_size l ≤ length out → o₁ ≡ stored out at (be 4 l.1) → o₂ ≡ stored o₁ (at + 4) (part text from (from + k - from))
      → o₂ ≡ sets out at (bytes_of_string (units_within text l))
  unfolding bytes_of_string
  put-string out o₁ o₂ at h e₁ e₂ =
      let us : List ℕ = units_within text l in
      let m : length us ≡ l.1 = length-nums 2 l.1 text l.0 in
      let l₁ : length o₁ ≡ length out = length-kept o₁ out at (be 4 l.1) e₁ in
      let z : length (joined (be 2) us) ≡ 2 * l.1 = omega (arith, length-bes 2 us, m) in
      let x : from + k - from ≡ k = omega arith in
      as-sets o₂ o₁ (at + 4) (joined (be 2) us) (2 * l.1) (e₂ ∙ ap₂ (λ (a b : ℕ). stored o₁ (at + 4) (part text a b)) w x ∙ ap (stored o₁ (at + 4)) string-part) z (omega arith)
      ∙ sym (peel-be 4 (length us) out o₁ (joined (be 2) us) at (at + 4) refl (omega arith) (e₁ ∙ ap (λ (n : ℕ). stored out at (be 4 n)) (sym m)))

-- ---- a record

-- numbers stored one by one, as a byte each
one-byte : (x : ℕ) → be 1 x ≡ x % 256 ∷ []
unfolding be
one-byte x = refl

module _ (all out l : List ℕ) (at i : ℕ) where
  pub bytes-start : all ≡ sets out at (joined (be 1) l) → all ≡ sets out (at + 0) (joined (be 1) (drop 0 l))
  bytes-start e = e ∙ ap (λ (k : ℕ). sets out k (joined (be 1) l)) (sym (add-zero at))

  module _ (e : all ≡ sets out (at + i) (joined (be 1) (drop i l))) where
    pub bytes-turn : i < length l → all ≡ sets (set out (at + i) (get_or l i 0 % 256)) (at + (i + 1)) (joined (be 1) (drop (i + 1) l))
    unfolding joined
    bytes-turn h =
        let a : suc (at + i) ≡ at + (i + 1) = omega arith in
        let b : suc i ≡ i + 1 = omega arith in
        e ∙ ap (λ (k : List ℕ). sets out (at + i) (joined (be 1) k)) (drop-cons l i 0 h)
        ∙ ap (λ (k : List ℕ). sets out (at + i) (k ++ joined (be 1) (drop (suc i) l))) (one-byte (get_or l i 0))
        ∙ ap₂ (λ (x y : ℕ). sets (set out (at + i) (get_or l i 0 % 256)) x (joined (be 1) (drop y l))) a b

    pub bytes-end : length l ≤ i → out ≡ all
    unfolding joined
    bytes-end h = sym (e ∙ ap (λ (k : List ℕ). sets out (at + i) (joined (be 1) k)) (drop_all i l h))

module _ (text : List ℕ) (n : ℕ) (g : RecordRow) (six : length g.code ≡ 6) where
  pub put-colour : (out o₁ o₂ o₃ : List ℕ) (at p : ℕ) → p ≡ at + string_size g.name → o₁ ≡ sets out at (bytes_of_string (units_within text g.name)) → o₂ ≡ sets o₁ p (joined (be 1) g.code)
      → o₃ ≡ sets o₂ (p + 6) (joined (be 1) (components_in n g)) → o₃ ≡ sets out at (colour_bytes (colour_in text n g))
  unfolding colour_bytes
  put-colour out o₁ o₂ o₃ at p w e₁ e₂ e₃ =
      let m : length (joined (be 1) g.code) ≡ 6 = omega (arith, length-bes 1 g.code) in
      e₃ ∙ sym (
      peel out o₁ (bytes_of_string (units_within text g.name)) _ at (string_size g.name) p (length-string text g.name) (sym w) e₁
      ∙ peel o₁ o₂ (joined (be 1) g.code) (joined (be 1) (components_in n g)) p 6 (p + 6) m refl e₂)

  pub length-colour : length (components_in n g) ≡ n → length (colour_bytes (colour_in text n g)) ≡ size_within n g
  unfolding colour_bytes
  length-colour z =
      let s : List ℕ = bytes_of_string (units_within text g.name) in
      let a : List ℕ = joined (be 1) g.code in
      let c : List ℕ = joined (be 1) (components_in n g) in
      omega (arith, length-append s (a ++ c), length-append a c, length-string text g.name, length-bes 1 g.code, length-bes 1 (components_in n g))

-- ---- a loop that stores the records of a run

-- six code numbers and four components, as in every record of a run
abbrev pub Shaped : RecordRow → Type 0
Shaped g = (length g.code ≡ 6) × (length g.components ≡ 4)

pub givens-shaped : (run : List ℕ) (n k i : ℕ) → All (λ j g. Shaped g) i (rows width taken run n k)
unfolding counted
givens-shaped run zero k i = tt
givens-shaped run (suc n) k i = ((refl, refl), givens-shaped run n (k + 1) (i + 1))

module _ (text : List ℕ) (m : ℕ) (few : m ≤ 4) where
  length-shaped : (g : RecordRow) → Shaped g → length (colour_bytes (colour_in text m g)) ≡ size_within m g
  length-shaped g s = length-colour text m g s.0 (length-take-le m g.components (omega (arith, s.1)))

  length-colours : (i : ℕ) (gs : List RecordRow) → All (λ k g. Shaped g) i gs → length (joined colour_bytes (map (colour_in text m) gs)) ≡ sizes (size_within m) gs
  unfolding joined sizes
  length-colours i [] h = refl
  length-colours i (g ∷ gs) h = omega (arith, length-append (colour_bytes (colour_in text m g)) (joined colour_bytes (map (colour_in text m) gs)), length-shaped g h.0, length-colours (i + 1) gs h.1)

module _ (run text : List ℕ) (m : ℕ) where
  module _ (all out : List ℕ) (n i at : ℕ) where
    pub puts-start : all ≡ sets out at (joined colour_bytes (map (colour_in text m) (rows width taken run n 0))) → all ≡ sets out at (joined colour_bytes (map (colour_in text m) (rows width taken run (n - 0) 0)))
    puts-start e = e ∙ ap (λ (gs : List RecordRow). sets out at (joined colour_bytes (map (colour_in text m) gs))) (counted_start (given_at run) n)

    module _ (inv : all ≡ sets out at (joined colour_bytes (map (colour_in text m) (rows width taken run (n - i) i)))) where
      pub puts-turn : m ≤ 4 → i < n → (o : List ℕ) (q : ℕ) → q ≡ at + size_within m (given_at run i) → (g : RecordRow) → g ≡ given_at run i → o ≡ sets out at (colour_bytes (colour_in text m g))
          → all ≡ sets o q (joined colour_bytes (map (colour_in text m) (rows width taken run (n - (i + 1)) (i + 1))))
      unfolding joined
      puts-turn few h o q w g z s =
          inv ∙ ap (λ (gs : List RecordRow). sets out at (joined colour_bytes (map (colour_in text m) gs))) (counted-turn (given_at run) n i h)
          ∙ peel out o (colour_bytes (colour_in text m (given_at run i))) (joined colour_bytes (map (colour_in text m) (rows width taken run (n - (i + 1)) (i + 1)))) at (size_within m (given_at run i)) q (length-shaped text m few (given_at run i) (refl, refl)) (sym w)
          (s ∙ ap (λ (x : RecordRow). sets out at (colour_bytes (colour_in text m x))) z)

      pub puts-end : n ≤ i → out ≡ all
      unfolding joined
      puts-end h = sym (inv ∙ ap (λ (gs : List RecordRow). sets out at (joined colour_bytes (map (colour_in text m) gs))) (counted-end (given_at run) n i h))

-- ---- the header

length-texts : (text : List ℕ) (ls : List (ℕ × ℕ)) → length (joined bytes_of_string (map (units_within text) ls)) ≡ sizes string_size ls
unfolding joined sizes
length-texts text [] = refl
length-texts text (l ∷ ls) = omega (arith, length-append (bytes_of_string (units_within text l)) (joined bytes_of_string (map (units_within text) ls)), length-string text l, length-texts text ls)

pub put-texts : (text : List ℕ) (a b c d : ℕ × ℕ) (o₀ o₁ o₂ o₃ o₄ : List ℕ) (at p q r : ℕ)
    → o₁ ≡ sets o₀ at (bytes_of_string (units_within text a)) → p ≡ at + string_size a → o₂ ≡ sets o₁ p (bytes_of_string (units_within text b)) → q ≡ p + string_size b
    → o₃ ≡ sets o₂ q (bytes_of_string (units_within text c)) → r ≡ q + string_size c → o₄ ≡ sets o₃ r (bytes_of_string (units_within text d))
    → o₄ ≡ sets o₀ at (joined bytes_of_string (map (units_within text) (a ∷ b ∷ c ∷ d ∷ [])))
unfolding joined
put-texts text a b c d o₀ o₁ o₂ o₃ o₄ at p q r e₁ x e₂ y e₃ z e₄ = sym (
    peel o₀ o₁ (bytes_of_string (units_within text a)) _ at (string_size a) p (length-string text a) (sym x) e₁
    ∙ peel o₁ o₂ (bytes_of_string (units_within text b)) _ p (string_size b) q (length-string text b) (sym y) e₂
    ∙ peel o₂ o₃ (bytes_of_string (units_within text c)) _ q (string_size c) r (length-string text c) (sym z) e₃
    ∙ peel o₃ o₄ (bytes_of_string (units_within text d)) [] r (string_size d) (r + string_size d) (length-string text d) refl e₄)

module _ (h : HeaderPlaces) (count : ℕ) where
  pub put-numbers : (o₀ o₁ o₂ o₃ o₄ : List ℕ) (at : ℕ) → at + 8 ≤ length o₀ → o₁ ≡ stored o₀ at (be 2 count) → o₂ ≡ stored o₁ (at + 2) (be 2 h.size)
      → o₃ ≡ stored o₂ (at + 4) (be 2 h.offset) → o₄ ≡ stored o₃ (at + 6) (be 2 h.space) → o₄ ≡ sets o₀ at (number_bytes h count)
  put-numbers o₀ o₁ o₂ o₃ o₄ at k e₁ e₂ e₃ e₄ =
      let l₁ = length-kept o₁ o₀ at (be 2 count) e₁ in
      let l₂ = length-kept o₂ o₁ (at + 2) (be 2 h.size) e₂ in
      let l₃ = length-kept o₃ o₂ (at + 4) (be 2 h.offset) e₃ in
      as-sets o₄ o₃ (at + 6) (be 2 h.space) 2 e₄ (length-be 2 h.space) (omega arith)
      ∙ sym (
      peel-be 2 count o₀ o₁ _ at (at + 2) refl (omega arith) e₁
      ∙ peel-be 2 h.size o₁ o₂ _ (at + 2) (at + 4) (omega arith) (omega arith) e₂
      ∙ peel-be 2 h.offset o₂ o₃ (be 2 h.space) (at + 4) (at + 6) (omega arith) (omega arith) e₃)

  length-numbers : length (number_bytes h count) ≡ 8
  length-numbers =
      let c : List ℕ = be 2 count in
      let z : List ℕ = be 2 h.size in
      let o : List ℕ = be 2 h.offset in
      let x : List ℕ = be 2 h.space in
      omega (arith, length-append c (z ++ (o ++ x)), length-append z (o ++ x), length-append o x, length-be 2 count, length-be 2 h.size, length-be 2 h.offset, length-be 2 h.space)

  module _ (text : List ℕ) where
    length-heading : length (heading_bytes text h count) ≡ head_size h
    length-heading =
        let i : List ℕ = be 2 h.identifier in
        let ts : List ℕ = joined bytes_of_string (map (units_within text) h.texts) in
        let ns : List ℕ = number_bytes h count in
        omega (arith, length-append (be 4 (chars "8BCB")) (be 2 1 ++ (i ++ (ts ++ ns))), length-append (be 2 1) (i ++ (ts ++ ns)), length-append i (ts ++ ns), length-append ts ns, length-be 4 (chars "8BCB"), length-be 2 1, length-be 2 h.identifier, length-texts text h.texts, length-numbers)

    pub put-head : (o₀ o₁ o₂ o₃ o₄ o₅ : List ℕ) (p : ℕ) → head_size h ≤ length o₀ → o₁ ≡ stored o₀ 0 (be 4 (chars "8BCB")) → o₂ ≡ stored o₁ 4 (be 2 1) → o₃ ≡ stored o₂ 6 (be 2 h.identifier)
        → o₄ ≡ sets o₃ 8 (joined bytes_of_string (map (units_within text) h.texts)) → p ≡ 8 + sizes string_size h.texts → o₅ ≡ sets o₄ p (number_bytes h count) → o₅ ≡ sets o₀ 0 (heading_bytes text h count)
    put-head o₀ o₁ o₂ o₃ o₄ o₅ p k e₁ e₂ e₃ e₄ w e₅ =
        let l₁ = length-kept o₁ o₀ 0 (be 4 (chars "8BCB")) e₁ in
        let l₂ = length-kept o₂ o₁ 4 (be 2 1) e₂ in
        e₅ ∙ sym (
        peel-be 4 (chars "8BCB") o₀ o₁ _ 0 4 refl (omega arith) e₁
        ∙ peel-be 2 1 o₁ o₂ _ 4 6 refl (omega arith) e₂
        ∙ peel-be 2 h.identifier o₂ o₃ _ 6 8 refl (omega arith) e₃
        ∙ peel o₃ o₄ (joined bytes_of_string (map (units_within text) h.texts)) (number_bytes h count) 8 (sizes string_size h.texts) p (length-texts text h.texts) (sym w) e₄)

-- ---- the closing tag

-- its eight bytes as two numbers
module _ (o₀ o₁ o₂ : List ℕ) (at : ℕ) (room : at + 8 ≤ length o₀) (e₁ : o₁ ≡ stored o₀ at (be 4 (chars "spfl"))) where
  both : (v : ℕ) → o₂ ≡ stored o₁ (at + 4) (be 4 v) → o₂ ≡ sets o₀ at (be 4 (chars "spfl") ++ be 4 v)
  both v e₂ =
      let l₁ = length-kept o₁ o₀ at (be 4 (chars "spfl")) e₁ in
      as-sets o₂ o₁ (at + 4) (be 4 v) 4 e₂ (length-be 4 v) (omega arith) ∙ sym (peel-be 4 (chars "spfl") o₀ o₁ (be 4 v) at (at + 4) refl (omega arith) e₁)

  pub put-spot : o₂ ≡ stored o₁ (at + 4) (be 4 (chars "spot")) → o₂ ≡ sets o₀ at (be 8 (chars "spflspot"))
  unfolding be
  put-spot e₂ = both (chars "spot") e₂

  pub put-process : o₂ ≡ stored o₁ (at + 4) (be 4 (chars "proc")) → o₂ ≡ sets o₀ at (be 8 (chars "spflproc"))
  unfolding be
  put-process e₂ = both (chars "proc") e₂

length-tag : (t : Tag) → length (tag_bytes t) ≡ tag_size t
length-tag none = refl
length-tag spot = length-be 8 (chars "spflspot")
length-tag process = length-be 8 (chars "spflproc")

length-ending : (t : Ending) → length (ending_bytes t) ≡ ending_size t
length-ending (tagged t) = length-tag t
length-ending (other v) = length-be 8 v

-- ---- the whole file

module _ (text : List ℕ) (h : HeaderPlaces) (t : Ending) (gs : List RecordRow) where
  heading-is : head_bytes (book_in text h t gs) ≡ heading_bytes text h (length gs)
  unfolding head_bytes
  heading-is = ap (heading_bytes text h) (length-map (colour_in text (components_of h.space)) gs)

  length-head : length (head_bytes (book_in text h t gs)) ≡ head_size h
  length-head = ap length heading-is ∙ length-heading h (length gs) text

  -- the file is as long as the writer says
  pub length-file : All (λ k g. Shaped g) 0 gs → length (file_bytes (book_in text h t gs)) ≡ size h t gs
  unfolding file_bytes
  length-file s =
      let m : ℕ = components_of h.space in
      let a : List ℕ = head_bytes (book_in text h t gs) in
      let b : List ℕ = joined colour_bytes (map (colour_in text m) gs) in
      omega (arith, length-append a (b ++ ending_bytes t), length-append b (ending_bytes t), length-head, length-colours text m (components-some h.space).1 0 gs s, length-ending t)

module _ (run text : List ℕ) (h : HeaderPlaces) (t : Ending) (n : ℕ) where
  pub put-file : (m : ℕ) → m ≡ components_of h.space → (o₀ o₁ o₂ o₃ : List ℕ) (p q : ℕ) → o₁ ≡ sets o₀ 0 (heading_bytes text h n) → p ≡ head_size h
      → o₂ ≡ sets o₁ p (joined colour_bytes (map (colour_in text m) (rows width taken run n 0))) → q ≡ p + sizes (size_within m) (rows width taken run n 0)
      → o₃ ≡ sets o₂ q (ending_bytes t) → o₃ ≡ sets o₀ 0 (file_bytes (book_in text h t (rows width taken run n 0)))
  unfolding file_bytes
  put-file m w o₀ o₁ o₂ o₃ p q e₁ x e₂ y e₃ =
      let gs : List RecordRow = rows width taken run n 0 in
      let k : ℕ = components_of h.space in
      let s : head_bytes (book_in text h t gs) ≡ heading_bytes text h n = heading-is text h t gs ∙ ap (heading_bytes text h) (length-counted (given_at run) n 0) in
      let u : 0 + head_size h ≡ p = omega arith in
      let v : p + sizes (size_within k) gs ≡ q = omega (arith, ap (λ (j : ℕ). sizes (size_within j) gs) w) in
      e₃ ∙ sym (
      peel o₀ o₁ (head_bytes (book_in text h t gs)) _ 0 (head_size h) p (length-head text h t gs) u (e₁ ∙ ap (sets o₀ 0) (sym s))
      ∙ peel o₁ o₂ (joined colour_bytes (map (colour_in text k) gs)) (ending_bytes t) p (sizes (size_within k) gs) q (length-colours text k (components-some h.space).1 0 gs (givens-shaped run n 0 0)) v
      (e₂ ∙ ap (λ (j : ℕ). sets o₁ p (joined colour_bytes (map (colour_in text j) gs))) w))

  -- a file stored in front of what was there
  pub file-front : (out o : List ℕ) → size h t (rows width taken run n 0) ≤ length out → o ≡ sets out 0 (file_bytes (book_in text h t (rows width taken run n 0)))
      → o ≡ file_bytes (book_in text h t (rows width taken run n 0)) ++ drop (size h t (rows width taken run n 0)) out
  file-front out o k e =
      let l : List ℕ = file_bytes (book_in text h t (rows width taken run n 0)) in
      let m : length l ≡ size h t (rows width taken run n 0) = length-file text h t (rows width taken run n 0) (givens-shaped run n 0 0) in
      let z : 0 + length l ≡ size h t (rows width taken run n 0) = omega arith in
      e ∙ sets-eq l out 0 (omega arith) ∙ ap (λ (j : ℕ). l ++ drop j out) z
