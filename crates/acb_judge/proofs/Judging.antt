-- Which way the readers of Reading go, on plain values. Assumes nothing.
use Prim.Native.Nat.{ℕ, zero, suc, ◌+◌, ◌-◌, ◌*◌, ◌≤◌, ◌<◌}
use mathlib.Core.Path.{◌≡◌, refl, sym, ap, ap₂, ◌∙◌}
use mathlib.Core.List.{List, [], ◌∷◌, map}
use Rattle.std.specs.Prelude.{Some, None, Result}
use Rattle.std.specs.Result.{IsErrAnd}
use Rattle.std.proofs.lemmas.Result.{err_from_is_err_and}
use Rattle.fault.specs.Fault.{number_of}
use Rattle.fault.specs.declared.Refusal.{Refusal}
use Rattle.acb_judge.specs.declared.Book.{Book}
use mathlib.Core.Bool.{Bool, true, false}
use lib.ListN.{length}
use lib.Dec.{leb, eqb}
use borrow.Author.Tests.{le-leb, lt-leb, leb-true, leb-false, eq-eqb, ne_eqb}
use native.Mathlib.Omega.{arith}
use native.Mathlib.Nat.{add-zero}
use Rattle.algebra.specs.Chars.{chars}
use Rattle.algebra.specs.Numbers.{num}
use Rattle.algebra.specs.Reader.{Res, ok, refuse, then, pick, field, body, done, map_res, each, ended, judged, unless, limit}
use Rattle.algebra.specs.Table.{Verdict, accepted, refused, verdict}
use Rattle.algebra.specs.Text.{Name, place}
use Rattle.algebra.proofs.Laws.{field_in, field-short, body-in, body-short, judged-short, judged-bad, judged-ok, then-done}
use Rattle.algebra.proofs.Places.{length-nums}
use Rattle.algebra.proofs.Inverse.{body-inv, field-inv, each-length, ok-value, ok-place, clash}
use Rattle.acb.specs.Grammar.{Tag, none, spot, process}
use Rattle.acb.specs.Reading.{string, Entry, colour, is_tag, tag_of, components_of, Numbers, Header, opening, strings, numbers, header, closing, book, acb}
use Rattle.acb_judge.specs.scaffold.Parts.{header_from, rest, known_tag}
use Rattle.acb_judge.specs.Answer.{text_place, HeaderPlaces, header_places, Report, reported, report, told}
use Rattle.acb_judge.specs.scaffold.Answer.{headed}

-- ---- a string

module _ (s : List ℕ) (at : ℕ) where
  pub string-short : refuse 2 at 0 0 ≡ field 4 s at → place (string s at) ≡ refuse 2 at 0 0
  unfolding string
  string-short e = rw (← e)

  module _ (n first : ℕ) (e : ok n first ≡ field 4 s at) where
    pub string_cut : length s - first < n * 2 → place (string s at) ≡ refuse 2 first 0 0
    unfolding string
    string_cut h = rw (← e) (rw (body-short 2 s first n h))

    pub string-is : (q : ℕ) → n * 2 ≤ length s - first → first + n * 2 ≡ q → place (string s at) ≡ ok (first, n) q
    unfolding string
    string-is q h l = rw (← e) (rw (body-in 2 s first n h) (ap₂ (λ (k r : ℕ). ok (first, k) r) (length-nums 2 n s first) l))

  pub string-in : (f u q : ℕ) → place (string s at) ≡ ok (f, u) q → q ≤ length s
  unfolding string
  string-in f u q e = go (field 4 s at) refl e
    where
      inner : (n first : ℕ) → first ≤ length s → (m : Res (List ℕ)) → body 2 n s first ≡ m → place (then m (λ us end. ok (record { first = first; units = us }) end)) ≡ ok (f, u) q → q ≤ length s
      inner n first le (ok us end) b k = let i = body-inv 2 s first n b in let z : end ≡ q = ok-place k in omega arith
      inner n first le (refuse x p r g) b k = clash k

      go : (m : Res ℕ) → field 4 s at ≡ m → place (then m (λ n first. then (body 2 n s first) (λ us end. ok (record { first = first; units = us }) end))) ≡ ok (f, u) q → q ≤ length s
      go (ok n first) h k = let i = field-inv 4 s at h in inner n first (omega arith) (body 2 n s first) refl k
      go (refuse x p r g) h k = clash k

-- ---- a record

-- n components of a byte each: they are there, or the first that is not is missing at the file's end
bytes-in : (s : List ℕ) (n i at : ℕ) → n ≤ length s - at → at ≤ length s → done (each n i (λ k. field 1) s at) ≡ ok tt (at + n)
unfolding each
bytes-in s zero i at h le = ap (λ (q : ℕ). ok tt q) (sym (add-zero at))
bytes-in s (suc n) i at h le =
    let q : at + 1 + n ≡ at + suc n = omega arith in
    rw (field_in 1 s at (omega arith)) (tail (each n (i + 1) (λ k. field 1) s (at + 1)) ∙ bytes-in s n (i + 1) (at + 1) (omega arith) (omega arith) ∙ ap (λ (k : ℕ). ok tt k) q)
  where
    tail : (m : Res (List ℕ)) → done (then m (λ more end. ok (num 1 s at ∷ more) end)) ≡ done m
    tail (ok l q) = refl
    tail (refuse x p r f) = refl

bytes-short : (s : List ℕ) (n i at : ℕ) → length s - at < n → at ≤ length s → done (each n i (λ k. field 1) s at) ≡ refuse 2 (length s) 0 0
unfolding each
bytes-short s zero i at h le = absurd (omega arith)
bytes-short s (suc n) i at h le = go (leb 1 (length s - at)) refl (λ k l. bytes-short s n (i + 1) (at + 1) k l)
  where
    tail : (m : Res (List ℕ)) (v : ℕ) → done (then m (λ more end. ok (v ∷ more) end)) ≡ done m
    tail (ok l q) v = refl
    tail (refuse x p r f) v = refl

    go : (b : Bool) → leb 1 (length s - at) ≡ b → (length s - (at + 1) < n → at + 1 ≤ length s → done (each n (i + 1) (λ k. field 1) s (at + 1)) ≡ refuse 2 (length s) 0 0)
        → done (then (field 1 s at) (λ a next. then (each n (i + 1) (λ k. field 1) s next) (λ more end. ok (a ∷ more) end))) ≡ refuse 2 (length s) 0 0
    go true e others = rw (field_in 1 s at (leb-true _ _ e)) (tail (each n (i + 1) (λ k. field 1) s (at + 1)) (num 1 s at) ∙ others (omega (arith, leb-true 1 (length s - at) e)) (omega (arith, leb-true 1 (length s - at) e)))
    go false e others = let z : at ≡ length s = omega (arith, leb-false 1 (length s - at) e) in rw (field-short 1 s at (leb-false _ _ e)) (ap (λ (p : ℕ). refuse 2 p 0 0) z)

-- name, code and components as the code passes them
coded : (n : ℕ) (s : List ℕ) (at : ℕ) → done (colour n s at) ≡ then (place (string s at)) (λ l p. then (done (body 1 6 s p)) (λ u q. done (each n 0 (λ i. field 1) s q)))
unfolding colour
coded n s at = go (string s at)
  where
    made : Name → List ℕ → List ℕ → Entry
    made nm cs ks = record { name = nm; code = cs; components = ks }

    third : (nm : Name) (cs : List ℕ) (m : Res (List ℕ)) → done (then m (λ ks q. ok (made nm cs ks) q)) ≡ done m
    third nm cs (ok ks q) = refl
    third nm cs (refuse x p r f) = refl

    second : (nm : Name) (m : Res (List ℕ)) → done (then m (λ cs q. then (each n 0 (λ i. field 1) s q) (λ ks e. ok (made nm cs ks) e))) ≡ then (done m) (λ u q. done (each n 0 (λ i. field 1) s q))
    second nm (ok cs q) = third nm cs (each n 0 (λ i. field 1) s q)
    second nm (refuse x p r f) = refl

    go : (m : Res Name) → done (then m (λ nm p. then (body 1 6 s p) (λ cs q. then (each n 0 (λ i. field 1) s q) (λ ks e. ok (made nm cs ks) e)))) ≡ then (place m) (λ l p. then (done (body 1 6 s p)) (λ u q. done (each n 0 (λ i. field 1) s q)))
    go (ok nm p) = second nm (body 1 6 s p)
    go (refuse x p r f) = refl

module _ (n : ℕ) (s : List ℕ) (at : ℕ) where
  pub colour-no : (x p : ℕ) → refuse x p 0 0 ≡ place (string s at) → refuse x p 0 0 ≡ done (colour n s at)
  colour-no x p e = sym (coded n s at ∙ rw (← e) refl)

  module _ (f u p : ℕ) (e : ok (f, u) p ≡ place (string s at)) where
    pub code-short : length s - p < 6 → refuse 2 p 0 0 ≡ done (colour n s at)
    code-short h = sym (coded n s at ∙ rw (← e) (rw (body-short 1 s p 6 (omega arith)) refl))

    pub components-short : 6 ≤ length s - p → length s - p < 6 + n → refuse 2 (length s) 0 0 ≡ done (colour n s at)
    components-short h k = sym (coded n s at ∙ rw (← e) (rw (body-in 1 s p 6 (omega arith)) (bytes-short s n 0 (p + 6 * 1) (omega arith) (omega arith))))

    pub colour-in : 6 + n ≤ length s - p → ok tt (p + (6 + n)) ≡ done (colour n s at)
    colour-in h =
        let q : p + 6 * 1 + n ≡ p + (6 + n) = omega arith in
        sym (coded n s at ∙ rw (← e) (rw (body-in 1 s p 6 (omega arith)) (bytes-in s n 0 (p + 6 * 1) (omega arith) (omega arith) ∙ ap (λ (k : ℕ). ok tt k) q)))

-- ---- the header

module _ (s : List ℕ) where
  pub opening-short : refuse 2 0 0 0 ≡ field 4 s 0 → refuse 2 0 0 0 ≡ opening s 0
  unfolding opening
  opening-short e = sym (rw (judged-short 4 s 0 (λ x. unless (eqb x (chars "8BCB")) 3) e))

  module _ (x a : ℕ) (e : ok x a ≡ field 4 s 0) where
    pub opening-bad : (x ≡ chars "8BCB" → ⊥) → refuse 3 0 0 0 ≡ opening s 0
    unfolding opening
    opening-bad h = sym (rw (judged-bad 4 s 0 (λ x. unless (eqb x (chars "8BCB")) 3) 3 0 0 e (rw (ne_eqb x (chars "8BCB") h))))

    pub opening-good : x ≡ chars "8BCB" → then (done (judged 2 (λ v. unless (eqb v 1) 3) s a)) (λ u b. field 2 s b) ≡ opening s 0
    unfolding opening
    opening-good h = sym (rw (judged-ok 4 s 0 (λ x. unless (eqb x (chars "8BCB")) 3) e (rw (eq-eqb x (chars "8BCB") h))) (then-done (judged 2 (λ v. unless (eqb v 1) 3) s a) (λ b. field 2 s b)))

pub strings-four : (s : List ℕ) (at : ℕ) → then (place (string s at)) (λ a p. then (place (string s p)) (λ b q. then (place (string s q)) (λ c r. then (place (string s r)) (λ d e. ok (a ∷ b ∷ c ∷ d ∷ []) e)))) ≡ map_res (map text_place) (strings s at)
unfolding strings each
strings-four s at = sym (first (string s at))
  where
    more : Name → Res (List Name) → Res (List Name)
    more a m = then m (λ l q. ok (a ∷ l) q)

    fourth : (a b c : Name) (m : Res Name) → map_res (map text_place) (more a (more b (more c (then m (λ d q. ok (d ∷ []) q))))) ≡ then (place m) (λ d e. ok (text_place a ∷ text_place b ∷ text_place c ∷ d ∷ []) e)
    fourth a b c (ok d q) = refl
    fourth a b c (refuse x p r f) = refl

    third : (a b : Name) (m : Res Name) → map_res (map text_place) (more a (more b (then m (λ c p. more c (then (string s p) (λ d q. ok (d ∷ []) q))))))
        ≡ then (place m) (λ c r. then (place (string s r)) (λ d e. ok (text_place a ∷ text_place b ∷ c ∷ d ∷ []) e))
    third a b (ok c p) = fourth a b c (string s p)
    third a b (refuse x p r f) = refl

    second : (a : Name) (m : Res Name) → map_res (map text_place) (more a (then m (λ b o. more b (then (string s o) (λ c p. more c (then (string s p) (λ d q. ok (d ∷ []) q)))))))
        ≡ then (place m) (λ b q. then (place (string s q)) (λ c r. then (place (string s r)) (λ d e. ok (text_place a ∷ b ∷ c ∷ d ∷ []) e)))
    second a (ok b o) = third a b (string s o)
    second a (refuse x p r f) = refl

    first : (m : Res Name) → map_res (map text_place) (then m (λ a n. more a (then (string s n) (λ b o. more b (then (string s o) (λ c p. more c (then (string s p) (λ d q. ok (d ∷ []) q))))))))
        ≡ then (place m) (λ a p. then (place (string s p)) (λ b q. then (place (string s q)) (λ c r. then (place (string s r)) (λ d e. ok (a ∷ b ∷ c ∷ d ∷ []) e))))
    first (ok a n) = second a (string s n)
    first (refuse x p r f) = refl

-- the header that strings and numbers make
abbrev pub joined_head : ℕ → List (ℕ × ℕ) → Numbers → HeaderPlaces × ℕ
joined_head i ls ns = (record { identifier = i; texts = ls; size = ns.size; offset = ns.offset; space = ns.space }, ns.count)

pub header-parts : (i : ℕ) (s : List ℕ) (at : ℕ) → then (map_res (map text_place) (strings s at)) (λ ls p. then (numbers s p) (λ ns q. ok (joined_head i ls ns) q)) ≡ map_res headed (header_from i s at)
unfolding header_from
header-parts i s at = first (strings s at)
  where
    second : (ts : List Name) (m : Res Numbers) → then m (λ ns q. ok (joined_head i (map text_place ts) ns) q) ≡ map_res headed (then m (λ ns q. ok (record { identifier = i; texts = ts; numbers = ns }) q))
    second ts (ok ns q) = refl
    second ts (refuse x p r f) = refl

    first : (m : Res (List Name)) → then (map_res (map text_place) m) (λ ls p. then (numbers s p) (λ ns q. ok (joined_head i ls ns) q)) ≡ map_res headed (then m (λ ts p. then (numbers s p) (λ ns q. ok (record { identifier = i; texts = ts; numbers = ns }) q)))
    first (ok ts p) = second ts (numbers s p)
    first (refuse x p r f) = refl

pub header-from : (s : List ℕ) → then (opening s 0) (λ i p. header_from i s p) ≡ header s 0
unfolding header header_from
header-from s = refl

pub map-then : {A B C : Type 0} (g : B → C) (m : Res A) (k : A → ℕ → Res B) → then m (λ a q. map_res g (k a q)) ≡ map_res g (then m k)
map-then g (ok a q) k = refl
map-then g (refuse x p r f) k = refl

-- ---- the closing tag

pub known-no : (t : ℕ) → None ≡ known_tag t → is_tag t ≡ false
known-no t h = go (eqb t (chars "spflspot")) (eqb t (chars "spflproc")) h
  where
    go : (a b : Bool) → None ≡ pick a (Some spot) (pick b (Some process) None) → pick a true b ≡ false
    go true b e = cc
    go false true e = cc
    go false false e = refl

pub known_is : (t : ℕ) (g : Tag) → Some g ≡ known_tag t → (is_tag t ≡ true) × (g ≡ tag_of t)
known_is t g h = go (eqb t (chars "spflspot")) (eqb t (chars "spflproc")) h
  where
    go : (a b : Bool) → Some g ≡ pick a (Some spot) (pick b (Some process) None) → (pick a true b ≡ true) × (g ≡ pick a spot process)
    go true b e = (refl, cc)
    go false true e = (refl, cc)
    go false false e = (cc, cc)

module _ (s : List ℕ) (at : ℕ) where
  pub closing-none : at ≡ length s → ok none (length s) ≡ closing s at
  unfolding closing
  closing-none e = sym (rw (eq-eqb at (length s) e) (ap (λ (k : ℕ). ok none k) e))

  module _ (ne : at ≡ length s → ⊥) where
    pub closing-short : refuse 2 at 0 0 ≡ field 8 s at → refuse 2 at 0 0 ≡ closing s at
    unfolding closing
    closing-short e = sym (rw (ne_eqb at (length s) ne) (rw (judged-short 8 s at (λ t. unless (is_tag t) 3) e) refl))

    module _ (t q : ℕ) (e : ok t q ≡ field 8 s at) where
      pub closing-bad : is_tag t ≡ false → refuse 3 at 0 0 ≡ closing s at
      unfolding closing
      closing-bad h = sym (rw (ne_eqb at (length s) ne) (rw (judged-bad 8 s at (λ t. unless (is_tag t) 3) 3 0 0 e (rw h)) refl))

      module _ (h : is_tag t ≡ true) where
        pub closing-left : (q ≡ length s → ⊥) → refuse 6 q 0 0 ≡ closing s at
        unfolding closing ended
        closing-left l = sym (rw (ne_eqb at (length s) ne) (rw (judged-ok 8 s at (λ t. unless (is_tag t) 3) e (rw h)) (rw (ne_eqb q (length s) l))))

        pub closing-is : q ≡ length s → ok (tag_of t) (length s) ≡ closing s at
        unfolding closing ended
        closing-is l = sym (rw (ne_eqb at (length s) ne) (rw (judged-ok 8 s at (λ t. unless (is_tag t) 3) e (rw h)) (rw (eq-eqb q (length s) l) (ap (λ (k : ℕ). ok (tag_of t) k) l))))

-- ---- the file

-- the colours were judged with as many components as the space has
module _ (n x : ℕ) (s : List ℕ) (at : ℕ) {k : ℕ} (c : k ≡ components_of x) where
  pub rest-no : {y q : ℕ} → refuse y q 0 0 ≡ done (each n 0 (λ i. colour k) s at) → rest n x s at ≡ refuse y q 0 0
  unfolding rest
  rest-no e = then-done (each n 0 (λ i. colour (components_of x)) s at) (λ p. closing s p) ∙ rw (← (e ∙ ap (λ (m : ℕ). done (each n 0 (λ i. colour m) s at)) c)) refl

  pub rest-on : {q : ℕ} → ok tt q ≡ done (each n 0 (λ i. colour k) s at) → rest n x s at ≡ closing s q
  unfolding rest
  rest-on e = then-done (each n 0 (λ i. colour (components_of x)) s at) (λ p. closing s p) ∙ rw (← (e ∙ ap (λ (m : ℕ). done (each n 0 (λ i. colour m) s at)) c)) refl

module _ (s : List ℕ) where
  pub too_long : limit < length s → refused 1 0 0 0 ≡ verdict report (acb s)
  unfolding acb
  too_long h = rw (lt-leb (length s) limit h)

  -- behind a header that was read
  book-from : (h : Header) (p : ℕ) → header s 0 ≡ ok h p → verdict report (book s 0) ≡ verdict (reported (header_places h) h.numbers.count p) (rest h.numbers.count h.numbers.space s p)
  unfolding book rest
  book-from h p e = rw e (first (each n 0 (λ i. colour (components_of h.numbers.space)) s p) refl)
    where
      n : ℕ
      n = h.numbers.count

      second : (es : List Entry) (m : Res Tag) → length es ≡ n → verdict report (then m (λ t q. ok (record { header = h; first = p; entries = es; tag = t }) q)) ≡ verdict (reported (header_places h) n p) m
      second es (ok t q) l = ap (λ (k : ℕ). accepted (reported (header_places h) k p t)) l
      second es (refuse x q r f) l = refl

      first : (m : Res (List Entry)) → each n 0 (λ i. colour (components_of h.numbers.space)) s p ≡ m
          → verdict report (then m (λ es q. then (closing s q) (λ t z. ok (record { header = h; first = p; entries = es; tag = t }) z))) ≡ verdict (reported (header_places h) n p) (then m (λ es q. closing s q))
      first (ok es q) d = second es (closing s q) (each-length (λ i. colour (components_of h.numbers.space)) s n 0 p d)
      first (refuse x q r f) d = refl

  module _ (h : length s ≤ limit) where
    whole : book s 0 ≡ acb s
    unfolding acb
    whole = sym (rw (le-leb (length s) limit h) refl)

    pub bad-header : (x q : ℕ) → refuse x q 0 0 ≡ map_res headed (header s 0) → refused x q 0 0 ≡ verdict report (acb s)
    unfolding book
    bad-header x q e = sym (ap (verdict report) (sym whole) ∙ go (header s 0) refl e)
      where
        go : (m : Res Header) → header s 0 ≡ m → refuse x q 0 0 ≡ map_res headed m → verdict report (book s 0) ≡ refused x q 0 0
        go (ok hd p) d k = clash k
        go (refuse y p r f) d k = rw d (let u : y ≡ x = cc in let v : p ≡ q = cc in let w : r ≡ 0 = cc in let z : f ≡ 0 = cc in λ i. refused (u i) (v i) (w i) (z i))

    pub good-header : (sh : HeaderPlaces) (n p : ℕ) → ok (sh, n) p ≡ map_res headed (header s 0) → verdict (reported sh n p) (rest n sh.space s p) ≡ verdict report (acb s)
    good-header sh n p e = sym (ap (verdict report) (sym whole) ∙ go (header s 0) refl e)
      where
        go : (m : Res Header) → header s 0 ≡ m → ok (sh, n) p ≡ map_res headed m → verdict report (book s 0) ≡ verdict (reported sh n p) (rest n sh.space s p)
        go (ok hd q) d k =
            let z : (sh, n) ≡ headed hd = ok-value k in
            let a : sh ≡ header_places hd = ap (λ (y : HeaderPlaces × ℕ). y.0) z in
            let b : n ≡ hd.numbers.count = ap (λ (y : HeaderPlaces × ℕ). y.1) z in
            let c : p ≡ q = ok-place k in
            book-from hd q d
            ∙ sym (ap (λ (y : HeaderPlaces). verdict (reported y n p) (rest n y.space s p)) a ∙ ap₂ (λ (y r : ℕ). verdict (reported (header_places hd) y r) (rest y hd.numbers.space s r)) b c)
        go (refuse y q r f) d k = clash (sym k)

pub components-most : (x : ℕ) → components_of x ≤ 4
components-most x = go (eqb x 2)
  where
    go : (b : Bool) → pick b 4 3 ≤ 4
    go true = omega arith
    go false = omega arith

-- ---- a refusal of the whole file that is handed on

pub told-refused : (r : Result Book Refusal) (e : Refusal) {v : Verdict Report} → IsErrAnd r (λ y. y ≡ e) → refused (number_of e.0) e.1 0 0 ≡ v → told r ≡ v
told-refused r e h rest = let p = err_from_is_err_and r h in rw (p.1, p.2) rest
