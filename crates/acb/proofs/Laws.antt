-- The reader's parts accept exactly the grammar's bytes. Assumes nothing.
use Prim.Native.Nat.{ℕ, ◌+◌, ◌^◌, ◌≤◌, ◌<◌}
use mathlib.Core.Path.{◌≡◌, refl, sym, ap, ap₂, ◌∙◌, subst}
use mathlib.Core.List.{List, [], ◌++◌, map, append-nil}
use mathlib.Core.Bool.{Bool, true, false}
use lib.Dec.{ltb, eqb}
use lib.ListN.{length, length-append}
use borrow.Author.Tests.{eqb-true, ltb-true, lt-ltb}
use native.Mathlib.Omega.{arith}
use Rattle.algebra.specs.Chars.{chars}
use Rattle.algebra.specs.Numbers.{be, joined, At, Bytes, All}
use Rattle.algebra.specs.Reader.{Reader, ok, pick, field, body, fine, judged, give, ◌>>=◌, each}
use Rattle.algebra.specs.Text.{Name}
use Rattle.algebra.specs.Algebra.{Exact}
use Rattle.algebra.proofs.Places.{at_in, at_left, at_right, at_next}
use Rattle.algebra.proofs.Inverse.{then-inv, unless-fine, ok-value, ok-place}
use Rattle.algebra.proofs.Exact.{all_map, map-id, judged-exact, body-exact, same-exact, give-exact, each-exact}
use Rattle.algebra.proofs.Sequence.{field-exact, only-exact, then-exact}
use Rattle.acb.specs.Grammar.{Colour, Space, rgb, cmyk, lab, String, Octets, AllowedRecord, bytes_of_string, colour_bytes}
use Rattle.acb.specs.Reading.{string, Entry, colour, is_space, components_of, page_size, space, Numbers, Header, signature, version, opening, strings, numbers, header, colour_of, is_tag, tag}

-- the same by another name of what was read
view-exact : {A B : Type 0} {s : List ℕ} {p : Reader A} {view : A → B} {Ok : B → Type 0} {ser : B → List ℕ} → Exact s p view Ok ser → (see : A → B) → ((a : A) → view a ≡ see a) → Exact s p see Ok ser
view-exact {A} {B} {s} {p} {view} {Ok} {ser} x see same = record {
  reads = λ at b fit h. let r = x.reads at b fit h in (r.0, r.1, sym (same r.0) ∙ r.2);
  writes = λ at le a q e. subst (λ (b : B). Ok b × At s at (ser b) × (at + length (ser b) ≡ q)) (same a) (x.writes at le a q e);
}

-- ---- the reader's spaces and the grammar's

pub space-is : {x n : ℕ} → Space x n → is_space x ≡ true
space-is rgb = refl
space-is cmyk = refl
space-is lab = refl

pub space-components : {x n : ℕ} → Space x n → components_of x ≡ n
space-components rgb = refl
space-components cmyk = refl
space-components lab = refl

-- a space has three components or four
pub components-some : (x : ℕ) → (3 ≤ components_of x) × (components_of x ≤ 4)
components-some x = go (eqb x 2)
  where
    go : (b : Bool) → (3 ≤ pick b 4 3) × (pick b 4 3 ≤ 4)
    go true = (omega arith, omega arith)
    go false = (omega arith, omega arith)

pub space_small : {x n : ℕ} → Space x n → x < 256 ^ 2
space_small rgb = omega arith
space_small cmyk = omega arith
space_small lab = omega arith

pub is-space : (x : ℕ) → is_space x ≡ true → Space x (components_of x)
is-space x h = go (eqb x 0) (eqb x 2) refl refl h
  where
    at-space : (v n : ℕ) → Space v n → eqb x v ≡ true → Space x (components_of x)
    at-space v n sp e =
        let i : v ≡ x = sym (eqb-true x v e) in
        subst (λ (y : ℕ). Space y (components_of y)) i (subst (Space v) (sym (space-components sp)) sp)

    go : (a b : Bool) → eqb x 0 ≡ a → eqb x 2 ≡ b → pick a true (pick b true (eqb x 7)) ≡ true → Space x (components_of x)
    go true b p q e = at-space 0 3 rgb p
    go false true p q e = at-space 2 4 cmyk q
    go false false p q e = at-space 7 3 lab e

-- ---- what the reader finds fine

pub size-fine : (z : ℕ) → 0 < z → page_size z ≡ fine
size-fine z h = rw (lt-ltb 0 z h)

pub space-fine : {x n : ℕ} → Space x n → space x ≡ fine
space-fine {x} {n} h = rw (space-is h)

pub tag-fine : (v : ℕ) → is_tag v ≡ true → tag v ≡ fine
tag-fine v known = rw known

-- ---- a string

module _ (s : List ℕ) (bytes : Bytes s) where
  string-reads : (at : ℕ) (us : List ℕ) → String us → At s at (bytes_of_string us) → (nm : Name) × (string s at ≡ ok nm (at + length (bytes_of_string us))) × (nm.units ≡ us)
  unfolding string bytes_of_string
  string-reads at us fit h =
      let n : ℕ = length us in
      let c : List ℕ = be 4 n in
      let l : List ℕ = joined (be 2) us in
      let p : ℕ = at + length c in
      let x = (field-exact s bytes 4).reads at n fit.counted (at_left s at c l h) in
      let x2 : field 4 s at ≡ ok n p = x.1 ∙ ap (λ (v : ℕ). ok v p) x.2 in
      let y = (body-exact s bytes 2 n).reads p us (refl, fit.units) (at_right s at c l h) in
      let e : p + length l ≡ at + length (c ++ l) = omega (arith, length-append c l) in
      let y2 : body 2 n s p ≡ ok us (at + length (c ++ l)) = y.1 ∙ ap₂ (λ (v : List ℕ) (q : ℕ). ok v q) y.2 e in
      (record { first = p; units = us }, rw x2 (rw y2), refl)

  string-writes : (at : ℕ) → at ≤ length s → (nm : Name) (q : ℕ) → string s at ≡ ok nm q → String nm.units × At s at (bytes_of_string nm.units) × (at + length (bytes_of_string nm.units) ≡ q)
  unfolding string bytes_of_string
  string-writes at le nm q e =
      let t = then-inv (field 4 s at) _ e in
      let x = (field-exact s bytes 4).writes at le t.0 t.1 t.2 in
      let u = then-inv (body 2 t.0 s t.1) _ t.3 in
      let y = (body-exact s bytes 2 t.0).writes t.1 (omega (arith, at_in s at (be 4 t.0) x.1, x.2)) u.0 u.1 u.2 in
      go t.0 t.1 u.0 u.1 x y (ok-value u.3) (ok-place u.3)
    where
      go : (n p : ℕ) (us : List ℕ) (r : ℕ) → (n < 256 ^ 4) × At s at (be 4 n) × (at + length (be 4 n) ≡ p)
          → ((length us ≡ n) × All (λ k v. v < 256 ^ 2) 0 us) × At s p (joined (be 2) us) × (p + length (joined (be 2) us) ≡ r)
          → record { first = p; units = us } ≡ nm → r ≡ q
          → String nm.units × At s at (be 4 (length nm.units) ++ joined (be 2) nm.units) × (at + length (be 4 (length nm.units) ++ joined (be 2) nm.units) ≡ q)
      go n p us r x y is end =
          let m : n ≡ length us = sym y.0.0 in
          let c : At s at (be 4 (length us)) = subst (λ (k : ℕ). At s at (be 4 k)) m x.1 in
          let d : at + length (be 4 (length us)) ≡ p = ap (λ (k : ℕ). at + length (be 4 k)) (sym m) ∙ x.2 in
          let l : List ℕ = joined (be 2) us in
          subst (λ (z : Name). String z.units × At s at (be 4 (length z.units) ++ joined (be 2) z.units) × (at + length (be 4 (length z.units) ++ joined (be 2) z.units) ≡ q)) is (
            record { counted = subst (λ (k : ℕ). k < 256 ^ 4) m x.0; units = y.0.1 },
            at_next s at (be 4 (length us)) l p d c y.1,
            omega (arith, length-append (be 4 (length us)) l, d, y.2),
          )

  pub string-exact : Exact s string (λ nm. nm.units) String bytes_of_string
  string-exact = record { reads = string-reads; writes = string-writes }

  -- ---- a record

  abbrev Few : ℕ → List ℕ → Type 0
  Few n bs = (length bs ≡ n) × All (λ k b. b < 256 ^ 1) 0 bs

  few-octets : (n : ℕ) (bs : List ℕ) → Few n bs → Octets n bs
  few-octets n bs h = record { count = h.0; each = all_map (λ k b. b < 256 ^ 1) (λ k b. b < 256) (λ k b l. omega arith) 0 bs h.1 }

  octets-few : (n : ℕ) (bs : List ℕ) → Octets n bs → Few n bs
  octets-few n bs h = (h.count, all_map (λ k b. b < 256) (λ k b. b < 256 ^ 1) (λ k b l. omega arith) 0 bs h.each)

  code-exact : Exact s (body 1 6) (λ bs. bs) (Octets 6) (joined (be 1))
  code-exact = same-exact (body-exact s bytes 1 6) (Octets 6) (joined (be 1)) (few-octets 6) (octets-few 6) (λ bs h. refl)

  components-exact : (n : ℕ) → Exact s (each n 0 (λ i. field 1)) (λ bs. bs) (Octets n) (joined (be 1))
  components-exact n =
      view-exact (same-exact (each-exact {p = λ i. field 1} {Ok = λ i b. b < 256 ^ 1} (λ i. field-exact s bytes 1) n 0) (Octets n) (joined (be 1)) (few-octets n) (octets-few n) (λ bs h. refl))
      (λ bs. bs) map-id

  abbrev entry_bytes : List ℕ → List ℕ → List ℕ → Colour
  entry_bytes us cs ks = record { name = us; code = cs; components = ks }

  abbrev made : Name → List ℕ → List ℕ → Entry
  made nm cs ks = record { name = nm; code = cs; components = ks }

  third : (n : ℕ) (nm : Name) (cs : List ℕ) → Exact s (each n 0 (λ i. field 1) >>= (λ ks. give (made nm cs ks))) colour_of
      (λ d. Octets n d.components × (entry_bytes nm.units cs d.components ≡ d)) (λ d. joined (be 1) d.components ++ [])
  third n nm cs =
      then-exact {k = λ ks. give (made nm cs ks)} {viewD = colour_of} (λ ks d. entry_bytes nm.units cs ks ≡ d) (λ ks d. []) (λ d. d.components) (components-exact n)
      (λ ks d e. sym (ap (λ (c : Colour). c.components) e)) (λ ks. give-exact s (made nm cs ks) colour_of)

  second : (n : ℕ) (nm : Name) → Exact s (body 1 6 >>= (λ cs. each n 0 (λ i. field 1) >>= (λ ks. give (made nm cs ks)))) colour_of
      (λ d. Octets 6 d.code × (Octets n d.components × (entry_bytes nm.units d.code d.components ≡ d))) (λ d. joined (be 1) d.code ++ (joined (be 1) d.components ++ []))
  second n nm =
      then-exact {k = λ cs. each n 0 (λ i. field 1) >>= (λ ks. give (made nm cs ks))} {viewD = colour_of} (λ cs d. Octets n d.components × (entry_bytes nm.units cs d.components ≡ d))
      (λ cs d. joined (be 1) d.components ++ []) (λ d. d.code) code-exact (λ cs d h. sym (ap (λ (c : Colour). c.code) h.1)) (third n nm)

  pub colour-exact : (n : ℕ) → Exact s (colour n) colour_of (AllowedRecord n) colour_bytes
  unfolding colour colour_bytes
  colour-exact n =
      same-exact
      (then-exact {k = λ nm. body 1 6 >>= (λ cs. each n 0 (λ i. field 1) >>= (λ ks. give (made nm cs ks)))} {viewD = colour_of}
      (λ us d. Octets 6 d.code × (Octets n d.components × (entry_bytes us d.code d.components ≡ d)))
      (λ us d. joined (be 1) d.code ++ (joined (be 1) d.components ++ [])) (λ d. d.name) string-exact (λ us d h. sym (ap (λ (c : Colour). c.name) h.1.1)) (second n))
      (AllowedRecord n) (λ d. bytes_of_string d.name ++ (joined (be 1) d.code ++ joined (be 1) d.components))
      (λ d h. record { name = h.0; code = h.1.0; components = h.1.1.0 })
      (λ d h. (h.name, (h.code, (h.components, refl))))
      (λ d h. ap (λ (l : List ℕ). bytes_of_string d.name ++ (joined (be 1) d.code ++ l)) (append-nil (joined (be 1) d.components)))

  -- ---- the header

  pub opening-exact : Exact s opening (λ i. i) (λ i. i < 256 ^ 2) (λ i. be 4 (chars "8BCB") ++ (be 2 1 ++ be 2 i))
  unfolding opening
  opening-exact =
      only-exact s bytes 4 (chars "8BCB") signature (omega arith) refl (λ x h. eqb-true x (chars "8BCB") (unless-fine (eqb x (chars "8BCB")) _ h))
      (only-exact s bytes 2 1 version (omega arith) refl (λ x h. eqb-true x 1 (unless-fine (eqb x 1) _ h)) (field-exact s bytes 2))

  pub strings-exact : Exact s strings (map (λ (nm : Name). nm.units)) (λ ts. (length ts ≡ 4) × All (λ k us. String us) 0 ts) (joined bytes_of_string)
  unfolding strings
  strings-exact = each-exact {p = λ k. string} {Ok = λ k us. String us} (λ k. string-exact) 4 0

-- four numbers, what is allowed of them, and their bytes
pub record Counted (d : Numbers) : Type 0 where
  pub count : d.count < 256 ^ 2
  pub size : (0 < d.size) × (d.size < 256 ^ 2)
  pub offset : d.offset < 256 ^ 2
  pub space : Space d.space (components_of d.space)

abbrev pub number_bytes : Numbers → List ℕ
number_bytes d = be 2 d.count ++ (be 2 d.size ++ (be 2 d.offset ++ be 2 d.space))

abbrev four : ℕ → ℕ → ℕ → ℕ → Numbers
four n z o x = record { count = n; size = z; offset = o; space = x }

-- a header by the units of its strings, what is allowed of it, and its bytes
pub record Top : Type 0 where
  pub identifier : ℕ
  pub texts : List (List ℕ)
  pub numbers : Numbers

abbrev top : ℕ → List (List ℕ) → Numbers → Top
top i ts ns = record { identifier = i; texts = ts; numbers = ns }

abbrev pub top_of : Header → Top
top_of h = top h.identifier (map (λ (nm : Name). nm.units) h.texts) h.numbers

pub record Headed (d : Top) : Type 0 where
  pub identifier : d.identifier < 256 ^ 2
  pub four : length d.texts ≡ 4
  pub texts : All (λ k us. String us) 0 d.texts
  pub numbers : Counted d.numbers

abbrev pub top_bytes : Top → List ℕ
top_bytes d = (be 4 (chars "8BCB") ++ (be 2 1 ++ be 2 d.identifier)) ++ (joined bytes_of_string d.texts ++ number_bytes d.numbers)

module _ (s : List ℕ) (bytes : Bytes s) where
  -- the numbers by the reader's tests
  abbrev Sized : ℕ → Type 0
  Sized z = (z < 256 ^ 2) × (page_size z ≡ fine)

  abbrev Spaced : ℕ → Type 0
  Spaced x = (x < 256 ^ 2) × (space x ≡ fine)

  number-4 : (n z o : ℕ) → Exact s (judged 2 space >>= (λ x. give (four n z o x))) (λ (d : Numbers). d)
      (λ d. Spaced d.space × (four n z o d.space ≡ d)) (λ d. be 2 d.space ++ [])
  number-4 n z o =
      then-exact {k = λ x. give (four n z o x)} {viewD = λ (d : Numbers). d} (λ x d. four n z o x ≡ d) (λ x d. []) (λ d. d.space) (judged-exact s bytes 2 space)
      (λ x d e. sym (ap (λ (c : Numbers). c.space) e)) (λ x. give-exact s (four n z o x) (λ (d : Numbers). d))

  number-3 : (n z : ℕ) → Exact s (field 2 >>= (λ o. judged 2 space >>= (λ x. give (four n z o x)))) (λ (d : Numbers). d)
      (λ d. (d.offset < 256 ^ 2) × (Spaced d.space × (four n z d.offset d.space ≡ d))) (λ d. be 2 d.offset ++ (be 2 d.space ++ []))
  number-3 n z =
      then-exact {k = λ o. judged 2 space >>= (λ x. give (four n z o x))} {viewD = λ (d : Numbers). d} (λ o d. Spaced d.space × (four n z o d.space ≡ d)) (λ o d. be 2 d.space ++ []) (λ d. d.offset)
      (field-exact s bytes 2) (λ o d h. sym (ap (λ (c : Numbers). c.offset) h.1)) (number-4 n z)

  number-2 : (n : ℕ) → Exact s (judged 2 page_size >>= (λ z. field 2 >>= (λ o. judged 2 space >>= (λ x. give (four n z o x))))) (λ (d : Numbers). d)
      (λ d. Sized d.size × ((d.offset < 256 ^ 2) × (Spaced d.space × (four n d.size d.offset d.space ≡ d)))) (λ d. be 2 d.size ++ (be 2 d.offset ++ (be 2 d.space ++ [])))
  number-2 n =
      then-exact {k = λ z. field 2 >>= (λ o. judged 2 space >>= (λ x. give (four n z o x)))} {viewD = λ (d : Numbers). d}
      (λ z d. (d.offset < 256 ^ 2) × (Spaced d.space × (four n z d.offset d.space ≡ d))) (λ z d. be 2 d.offset ++ (be 2 d.space ++ [])) (λ d. d.size)
      (judged-exact s bytes 2 page_size) (λ z d h. sym (ap (λ (c : Numbers). c.size) h.1.1)) (number-3 n)

  pub numbers-exact : Exact s numbers (λ d. d) Counted number_bytes
  unfolding numbers
  numbers-exact =
      same-exact
      (then-exact {k = λ n. judged 2 page_size >>= (λ z. field 2 >>= (λ o. judged 2 space >>= (λ x. give (four n z o x))))} {viewD = λ (d : Numbers). d}
      (λ n d. Sized d.size × ((d.offset < 256 ^ 2) × (Spaced d.space × (four n d.size d.offset d.space ≡ d)))) (λ n d. be 2 d.size ++ (be 2 d.offset ++ (be 2 d.space ++ []))) (λ d. d.count)
      (field-exact s bytes 2) (λ n d h. sym (ap (λ (c : Numbers). c.count) h.1.1.1)) number-2)
      Counted number_bytes
      (λ d h. record {
        count = h.0;
        size = (ltb-true 0 d.size (unless-fine (ltb 0 d.size) _ h.1.0.1), h.1.0.0);
        offset = h.1.1.0;
        space = is-space d.space (unless-fine (is_space d.space) _ h.1.1.1.0.1);
      })
      (λ d h. (h.count, ((h.size.1, size-fine d.size h.size.0), (h.offset, ((space_small h.space, space-fine h.space), refl)))))
      (λ d h. ap (λ (l : List ℕ). be 2 d.count ++ (be 2 d.size ++ (be 2 d.offset ++ l))) (append-nil (be 2 d.space)))

  abbrev Four : List (List ℕ) → Type 0
  Four ts = (length ts ≡ 4) × All (λ k us. String us) 0 ts

  abbrev topped : ℕ → List Name → Numbers → Header
  topped i ts ns = record { identifier = i; texts = ts; numbers = ns }

  abbrev units : List Name → List (List ℕ)
  units ts = map (λ (nm : Name). nm.units) ts

  head-3 : (i : ℕ) (ts : List Name) → Exact s (numbers >>= (λ ns. give (topped i ts ns))) top_of (λ d. Counted d.numbers × (top i (units ts) d.numbers ≡ d)) (λ d. number_bytes d.numbers ++ [])
  head-3 i ts =
      then-exact {k = λ ns. give (topped i ts ns)} {viewD = top_of} (λ ns d. top i (units ts) ns ≡ d) (λ ns d. []) (λ d. d.numbers) numbers-exact
      (λ ns d e. sym (ap (λ (c : Top). c.numbers) e)) (λ ns. give-exact s (topped i ts ns) top_of)

  head-2 : (i : ℕ) → Exact s (strings >>= (λ ts. numbers >>= (λ ns. give (topped i ts ns)))) top_of
      (λ d. Four d.texts × (Counted d.numbers × (top i d.texts d.numbers ≡ d))) (λ d. joined bytes_of_string d.texts ++ (number_bytes d.numbers ++ []))
  head-2 i =
      then-exact {k = λ ts. numbers >>= (λ ns. give (topped i ts ns))} {viewD = top_of} (λ us d. Counted d.numbers × (top i us d.numbers ≡ d)) (λ us d. number_bytes d.numbers ++ []) (λ d. d.texts)
      (strings-exact s bytes) (λ us d h. sym (ap (λ (c : Top). c.texts) h.1)) (head-3 i)

  pub header-exact : Exact s header top_of Headed top_bytes
  unfolding header
  header-exact =
      same-exact
      (then-exact {k = λ i. strings >>= (λ ts. numbers >>= (λ ns. give (topped i ts ns)))} {viewD = top_of}
      (λ i d. Four d.texts × (Counted d.numbers × (top i d.texts d.numbers ≡ d))) (λ i d. joined bytes_of_string d.texts ++ (number_bytes d.numbers ++ [])) (λ d. d.identifier)
      (opening-exact s bytes) (λ i d h. sym (ap (λ (c : Top). c.identifier) h.1.1)) head-2)
      Headed top_bytes
      (λ d h. record { identifier = h.0; four = h.1.0.0; texts = h.1.0.1; numbers = h.1.1.0 })
      (λ d h. (h.identifier, ((h.four, h.texts), (h.numbers, refl))))
      (λ d h. ap (λ (l : List ℕ). (be 4 (chars "8BCB") ++ (be 2 1 ++ be 2 d.identifier)) ++ (joined bytes_of_string d.texts ++ l)) (append-nil (number_bytes d.numbers)))
