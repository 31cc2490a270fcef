-- What a record of a file shows, on plain values. Assumes nothing.
use Prim.Native.Nat.{ℕ, zero, suc, ◌+◌, ◌*◌, ◌-◌, ◌≤◌, ◌<◌}
use mathlib.Core.Path.{◌≡◌, refl, sym, ap, ap₂, ◌∙◌, subst}
use mathlib.Core.List.{List, [], ◌∷◌, ◌++◌, map}
use mathlib.Core.Bool.{Bool}
use lib.IntN.{ℤ, pos}
use lib.ListN.{length, get_or, take, drop, length-append, length-take, length-drop, get_or-map}
use lib.Seq.{sets, sets-eq}
use lib.Dec.{leb, eqb}
use borrow.Author.Tests.{le-leb, lt-leb, leb-true, lt-ltb, le-ltb}
use native.Mathlib.Omega.{arith}
use Rattle.algebra.specs.Reader.{Res, Reader, ok, refuse, pick, each, body, field, limit}
use Rattle.algebra.specs.Text.{Name}
use Rattle.algebra.specs.Store.{part, stored}
use Rattle.algebra.proofs.Inverse.{ok-value, then-inv, pick_inv, field-inv, body-inv, each-inv}
use Rattle.algebra.proofs.Places.{length-nums}
use Rattle.algebra.proofs.Stores.{stored-in, stored-append, length-stored}
use Rattle.acb.specs.Grammar.{Tag}
use Rattle.acb.specs.Reading.{string, Entry, components_of, Header, opening, strings, numbers, header, closing, colour, Contents, book, acb}
use Rattle.algebra.specs.Table.{Verdict, accepted, refused, verdict, record_at}
use Rattle.algebra.proofs.Table.{refused-of}
use Rattle.acb.specs.Row.{four}
use Rattle.acb_judge.specs.Answer.{HeaderPlaces, text_place, header_places, Report, reported, report}
use Rattle.acb_read.specs.Table.{entries_of, blank, name_bytes_in}
use Rattle.acb_read.specs.Answer as read
use Rattle.acb_shown_values.specs.Texts.{shown_start, shown_text}
use Rattle.acb_shown_values.specs.Components.{shown_component}
use Rattle.acb_shown_file.specs.View.{CountAnswer, counted, refusal, values_of, no_values, shown_at, no_name, bytes_of, full_name, full_length, puts, full_name_at}

-- ---- three runs stored one after the other

pub three-stored : (out a b c o₁ o₂ o₃ : List ℕ) → length a + length b + length c ≤ length out → o₁ ≡ stored out 0 a → o₂ ≡ stored o₁ (length a) b → o₃ ≡ stored o₂ (length a + length b) c → o₃ ≡ sets out 0 (a ++ (b ++ c))
three-stored out a b c o₁ o₂ o₃ h e₁ e₂ e₃ =
    let k : length o₁ ≡ length out = ap length e₁ ∙ length-stored out 0 a in
    let m : length (b ++ c) ≡ length b + length c = length-append b c in
    let n : length (a ++ (b ++ c)) ≡ length a + length (b ++ c) = length-append a (b ++ c) in
    e₃ ∙ ap (λ (o : List ℕ). stored o (length a + length b) c) e₂
    ∙ sym (stored-append o₁ (length a) b c (length a + length b) (omega arith) refl)
    ∙ ap (λ (o : List ℕ). stored o (length a) (b ++ c)) e₁
    ∙ sym (stored-append out 0 a (b ++ c) (length a) (omega arith) (omega arith))
    ∙ stored-in out 0 (a ++ (b ++ c)) (omega arith)

-- ---- a part of a file by its ends

pub text-part : (s : List ℕ) (at units end : ℕ) → end ≡ at + 2 * units → shown_text (take (end - at) (drop at s)) ≡ shown_text (part s at (2 * units))
text-part s at units end e = let n : end - at ≡ 2 * units = omega arith in ap (λ (k : ℕ). shown_text (take k (drop at s))) n

-- ---- the strings of the header lie in the file

string-inside : (s : List ℕ) (at : ℕ) {nm : Name} {q : ℕ} → string s at ≡ ok nm q → nm.first + 2 * length nm.units ≤ length s
unfolding string
string-inside s at {nm} {q} e =
    let t = then-inv (field 4 s at) _ e in
    let x = field-inv 4 s at t.2 in
    let u = then-inv (body 2 t.0 s t.1) _ t.3 in
    let y = body-inv 2 s t.1 t.0 u.2 in
    let z = ok-value u.3 in
    let l : length u.0 ≡ t.0 = ap length (sym y.1) ∙ length-nums 2 t.0 s t.1 in
    subst (λ (k : Name). k.first + 2 * length k.units ≤ length s) z (omega (arith, x.0, x.2, y.0, l))

-- what holds of all that a reader reads holds of each item of a row
pub each-has : {A : Type 0} (p : Reader A) (s : List ℕ) (d : A) (P : A → Type 0) → ((at : ℕ) (a : A) (q : ℕ) → p s at ≡ ok a q → P a)
    → (n i at : ℕ) {vs : List A} {q : ℕ} → each n i (λ k. p) s at ≡ ok vs q → (k : ℕ) → k < n → P (get_or vs k d)
each-has p s d P f zero i at e k h = absurd (omega arith)
each-has p s d P f (suc n) i at e zero h = let t = each-inv (λ k. p) s n i at e in subst (λ l. P (get_or l 0 d)) t.5 (f at t.0 t.1 t.3)
each-has p s d P f (suc n) i at e (suc k) h = let t = each-inv (λ k. p) s n i at e in subst (λ l. P (get_or l (suc k) d)) t.5 (each-has p s d P f n (i + 1) t.1 t.4 k (omega arith))

-- and so what holds of every string holds of each text of the header
pub texts-have : (s : List ℕ) (P : Name → Type 0) → ((at : ℕ) (nm : Name) (q : ℕ) → string s at ≡ ok nm q → P nm) → {c : Contents} {q : ℕ} → acb s ≡ ok c q → (k : ℕ) → k < 4 → P (get_or c.header.texts k no_name)
unfolding acb book header strings
texts-have s P f {c} {q} e k h =
    let i = pick_inv (leb (length s) limit) (book s 0) 1 0 0 0 e in
    let t = then-inv (header s 0) _ i.1 in
    let o = then-inv (opening s 0) _ t.2 in
    let u = then-inv (strings s o.1) _ o.3 in
    let v = then-inv (numbers s u.1) _ u.3 in
    let a = each-has string s no_name P f 4 0 o.1 u.2 k h in
    let w = then-inv (each t.0.numbers.count 0 (λ i. colour (components_of t.0.numbers.space)) s t.1) _ t.3 in
    let x = then-inv (closing s w.1) _ w.3 in
    let y : u.0 ≡ c.header.texts = ap (λ (h : Header). h.texts) (ok-value v.3) ∙ ap (λ (c : Contents). c.header.texts) (ok-value x.3) in
    subst (λ (l : List Name). P (get_or l k no_name)) y a

texts-inside : (s : List ℕ) {c : Contents} {q : ℕ} → acb s ≡ ok c q → (k : ℕ) → k < 4 → (get_or c.header.texts k no_name).first + 2 * length (get_or c.header.texts k no_name).units ≤ length s
texts-inside s e k h = texts-have s (λ (nm : Name). nm.first + 2 * length nm.units ≤ length s) (λ at nm q r. string-inside s at r) e k h

accepted-short : (s : List ℕ) {c : Contents} {q : ℕ} → acb s ≡ ok c q → length s ≤ limit
unfolding acb
accepted-short s e = leb-true (length s) limit (pick_inv (leb (length s) limit) (book s 0) 1 0 0 0 e).0

-- ---- an accepted file by what was told of it

pub record Opened (s : List ℕ) (h : HeaderPlaces) (n : ℕ) : Type 0 where
  pub contents : Contents
  pub end : ℕ
  pub is : acb s ≡ ok contents end
  pub short : length s ≤ limit
  pub count : n ≡ length contents.entries
  pub space : h.space ≡ contents.header.numbers.space
  pub texts : h.texts ≡ map text_place contents.header.texts

pub opened : (s : List ℕ) {h : HeaderPlaces} {t : Tag} {n p : ℕ} → accepted (reported h n p t) ≡ verdict report (acb s) → Opened s h n
opened s {h} {t} {n} {p} e = go (acb s) refl e
  where
    go : (m : Res Contents) → acb s ≡ m → accepted (reported h n p t) ≡ verdict report m → Opened s h n
    go (ok c q) d k =
        let w : reported h n p t ≡ report c = cc in
        let l : n ≡ length c.entries = ap (λ (x : Report). x.count) w in
        let g : h ≡ header_places c.header = ap (λ (x : Report). x.header) w in
        record { contents = c; end = q; is = d; short = accepted-short s d; count = l; space = ap (λ (x : HeaderPlaces). x.space) g; texts = ap (λ (x : HeaderPlaces). x.texts) g }
    go (refuse y q r f) d k = let z : ◌≡◌ {A = ℕ} 0 1 = cc in absurd (omega arith)

-- text k of the header, by where it was told to lie
module _ (s : List ℕ) {h : HeaderPlaces} {n : ℕ} (o : Opened s h n) (k : ℕ) (few : k < 4) {p u : ℕ} (e : get_or h.texts k (0, 0) ≡ (p, u)) where
  text-lies : text_place (get_or o.contents.header.texts k no_name) ≡ (p, u)
  text-lies = sym (get_or-map text_place o.contents.header.texts k no_name) ∙ ap (λ (l : List (ℕ × ℕ)). get_or l k (0, 0)) (sym o.texts) ∙ e

  pub text-inside : p + 2 * u ≤ length s
  text-inside =
      let a : (get_or o.contents.header.texts k no_name).first ≡ p = ap (λ (x : ℕ × ℕ). x.0) text-lies in
      let b : length (get_or o.contents.header.texts k no_name).units ≡ u = ap (λ (x : ℕ × ℕ). x.1) text-lies in
      omega (arith, texts-inside s o.is k few)

  pub text-bytes : part s p (2 * u) ≡ bytes_of s (get_or o.contents.header.texts k no_name)
  text-bytes = ap (λ (x : ℕ × ℕ). part s x.0 (2 * x.1)) (sym text-lies)

-- ---- record i of an opened file

module _ (s : List ℕ) {h : HeaderPlaces} {n : ℕ} (o : Opened s h n) (i : ℕ) where
  abbrev pub entry : Entry
  entry = get_or o.contents.entries i blank

  pub entry_found : i < n → record_at entries_of blank i (acb s) ≡ accepted entry
  entry_found l = let c = o.count in ap (record_at entries_of blank i) o.is ∙ rw (lt-ltb i (length o.contents.entries) (omega arith))

  -- it is no refusal
  pub entry-there : i < n → (x p : ℕ) → refused x p 0 0 ≡ (read.record_places (record_at entries_of blank i (acb s))).name → ⊥
  entry-there l x p e = let z = e ∙ ap (λ (v : Verdict Entry). (read.record_places v).name) (entry_found l) in cc

  -- ---- answers

  pub length_none : n ≤ i → refusal 12 0 ≡ full_length s i (acb s)
  length_none l = let c = o.count in sym (ap (full_length s i) o.is ∙ rw (le-ltb i (length o.contents.entries) (omega arith)))

  pub name-none : n ≤ i → (out : List ℕ) → (refusal 12 0, out) ≡ full_name_at s i (acb s) out
  name-none l out = let c = o.count in sym (ap (λ m. full_name_at s i m out) o.is ∙ rw (le-ltb i (length o.contents.entries) (omega arith)))

  pub values-none : n ≤ i → (no_values, refusal 12 0) ≡ shown_at i (acb s)
  values-none l = let c = o.count in sym (ap (shown_at i) o.is ∙ rw (le-ltb i (length o.contents.entries) (omega arith)))

  pub values-are : i < n → (ks : List ℕ) → ks ≡ (read.record_places (record_at entries_of blank i (acb s))).components → (values_of h.space ks, counted (components_of h.space)) ≡ shown_at i (acb s)
  values-are l ks e =
      let c = o.count in
      let f : ks ≡ four entry.components 0 = e ∙ ap (λ w. (read.record_places w).components) (entry_found l) in
      ap₂ (λ (x : ℕ) (k : List ℕ). (values_of x k, counted (components_of x))) o.space f
      ∙ sym (ap (shown_at i) o.is ∙ rw (lt-ltb i (length o.contents.entries) (omega arith)))

-- ---- the full name of record i, by its parts

part-short : (s : List ℕ) (p k : ℕ) → length (part s p k) ≤ length s
part-short s p k = omega (arith, length-take k (drop p s), length-drop p s)

shown-short : (l : List ℕ) → length (shown_text l) ≤ length l
shown-short l = omega (arith, length-drop (shown_start l) l)

module _ (s : List ℕ) {h : HeaderPlaces} {n : ℕ} (o : Opened s h n) (i : ℕ) (there : i < n) {p u p' u' : ℕ} (x : get_or h.texts 1 (0, 0) ≡ (p, u)) (y : get_or h.texts 2 (0, 0) ≡ (p', u'))
    (a b c : List ℕ) (ea : a ≡ shown_text (part s p (2 * u))) (eb : b ≡ name_bytes_in s (record_at entries_of blank i (acb s))) (ec : c ≡ shown_text (part s p' (2 * u'))) where
  full : List ℕ
  full = full_name s o.contents (entry s o i)

  named : b ≡ bytes_of s (entry s o i).name
  named = eb ∙ ap (name_bytes_in s) (entry_found s o i there)

  whole : a ++ (b ++ c) ≡ full
  unfolding full_name full
  whole = ap₂ (λ (j k : List ℕ). j ++ k) (ea ∙ ap shown_text (text-bytes s o 1 (omega arith) x)) (ap₂ (λ (j k : List ℕ). j ++ k) named (ec ∙ ap shown_text (text-bytes s o 2 (omega arith) y)))

  sum : length a + length b + length c ≡ length full
  sum = let e = ap length whole in omega (arith, length-append a (b ++ c), length-append b c)

  -- no part is longer than the file
  pub parts-small : (length a ≤ limit) × (length b ≤ limit) × (length c ≤ limit)
  parts-small =
      let k = o.short in (
        omega (arith, ap length ea, shown-short (part s p (2 * u)), part-short s p (2 * u)),
        omega (arith, ap length named, part-short s (entry s o i).name.first (2 * length (entry s o i).name.units)),
        omega (arith, ap length ec, shown-short (part s p' (2 * u')), part-short s p' (2 * u')),
      )

  in-length : full_length s i (acb s) ≡ counted (length full)
  unfolding full
  in-length = let k = o.count in ap (full_length s i) o.is ∙ rw (lt-ltb i (length o.contents.entries) (omega arith))

  in-name : (out : List ℕ) → full_name_at s i (acb s) out ≡ puts full out
  unfolding full
  in-name out = let k = o.count in ap (λ m. full_name_at s i m out) o.is ∙ rw (lt-ltb i (length o.contents.entries) (omega arith))

  pub full-length : counted (length a + length b + length c) ≡ full_length s i (acb s)
  full-length = ap counted sum ∙ sym in-length

  -- in lent bytes: no room, or stored from their start
  pub full-short : (out : List ℕ) → length out < length a + length b + length c → (refusal 11 0, out) ≡ full_name_at s i (acb s) out
  full-short out l = let e = sum in sym (in-name out ∙ rw (lt-leb (length full) (length out) (omega arith)))

  pub full_put : (out out' : List ℕ) → length a + length b + length c ≤ length out → out' ≡ sets out 0 (a ++ (b ++ c)) → (counted (length a + length b + length c), out') ≡ full_name_at s i (acb s) out
  full_put out out' l e =
      let k = sum in
      let z : 0 + length full ≡ length full = omega arith in
      let w : out' ≡ full ++ drop (length full) out = e ∙ ap (sets out 0) whole ∙ sets-eq full out 0 (omega arith) ∙ ap (λ (m : ℕ). full ++ drop m out) z in
      ap₂ (λ (m : ℕ) (d : List ℕ). (counted m, d)) sum w ∙ sym (in-name out ∙ rw (le-leb (length full) (length out) (omega arith)))

-- a refused file
module _ (m : Res Contents) (i : ℕ) {x p r f : ℕ} (e : refused x p r f ≡ verdict report m) where
  pub length-refused : (s : List ℕ) → refusal x p ≡ full_length s i m
  length-refused s = sym (ap (full_length s i) (refused-of report m e))

-- ---- the shown components of a record of a space, one by one

pub values-by : (x : ℕ) (ks : List ℕ) (t : Bool) → eqb (components_of x) 4 ≡ t → {a b c d : ℤ} {n : ℕ} → a ≡ shown_component x 0 (get_or ks 0 0) → b ≡ shown_component x 1 (get_or ks 1 0) → c ≡ shown_component x 2 (get_or ks 2 0)
    → d ≡ pick t (shown_component x 3 (get_or ks 3 0)) (pos 0) → n ≡ components_of x → ◌≡◌ {A = List ℤ × CountAnswer} (a ∷ b ∷ c ∷ d ∷ [], counted n) (values_of x ks, counted (components_of x))
values-by x ks t e ea eb ec ed en =
    let f = ed ∙ ap (λ (y : Bool). pick y (shown_component x 3 (get_or ks 3 0)) (pos 0)) (sym e) in
    λ i. (ea i ∷ eb i ∷ ec i ∷ f i ∷ [], counted (en i))
