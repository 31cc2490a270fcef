-- Kinds, rows in runs and their lines. Assumes nothing.
use Prim.Native.Nat.{ℕ, zero, suc, ◌+◌, ◌-◌, ◌≤◌, ◌<◌}
use mathlib.Core.Path.{◌≡◌, refl, sym, ap, ap₂, ◌∙◌}
use mathlib.Core.List.{List, [], ◌∷◌, ◌++◌, map}
use lib.ListN.{length, get_or, take, drop, length-append, length-drop, drop_of_length-le}
use lib.Seq.{get_or-take, get_or-drop, length-take-le, drop-cons, take-append_seam}
use mathlib.Core.Bool.{Bool, true}
use borrow.Author.Tests.{eq-eqb, ne_eqb, le-leb}
use native.Mathlib.Omega.{arith}
use native.Mathlib.Numerals.{add-one}
use Rattle.algebra.specs.Numbers.{joined}
use Rattle.algebra.specs.Reader.{Res, ok, refuse, pick}
use Rattle.descriptor.specs.Reading.{Row, descriptor}
use Rattle.descriptor.proofs.Rows.{rows-laid}
use Rattle.descriptor_judge.specs.Answer.{Verdict, accepted, refused as refusedFile}
use Rattle.descriptor_columns.specs.Columns.{columns_of, depths_of, parents_of}
use Rattle.descriptor_columns.specs.Filled.{fits, answered, onto, filled, Read, parented}
use Rattle.descriptor_columns.proofs.Room.{room-on}
use Rattle.descriptor_columns.proofs.Theorem.{get_d_map, map-length, parents-are}
use Rattle.listing.specs.Buffer.{Buffer, put_all}
use Rattle.listing.specs.Text.{ascii, word, lines, refusal}
use Rattle.listing.proofs.Putting.{items-turn, items-end, lines-turn, lines_none}
use Rattle.descriptor_list.specs.scaffold.Held.{spare, Given, Held}
use Rattle.descriptor_list.specs.Listing.{kept, kind, line, heading, listing}

-- ---- a kind

pub kept-space : (t : List ℕ) (k : ℕ) → 0 < k → get_or t (k - 1) 0 ≡ 32 → kept t k ≡ kept t (k - 1)
unfolding kept
kept-space t zero h e = absurd (omega arith)
kept-space t (suc k) h e =
    let z : suc k - 1 ≡ k = omega arith in
    let f : get_or t k 0 ≡ 32 = sym (ap (λ (i : ℕ). get_or t i 0) z) ∙ e in
    rw (eq-eqb (get_or t k 0) 32 f) (ap (kept t) (sym z))

pub kept-all : (t : List ℕ) (k : ℕ) → (0 < k → get_or t (k - 1) 0 ≡ 32 → ⊥) → kept t k ≡ k
unfolding kept
kept-all t zero h = refl
kept-all t (suc k) h =
    let z : suc k - 1 ≡ k = omega arith in
    rw (ne_eqb (get_or t k 0) 32 (λ e. h (omega arith) (ap (λ (i : ℕ). get_or t i 0) z ∙ e)))

-- ---- the numbers of a row behind its kind

module _ (row : List ℕ) (wide : 5 ≤ length row) where
  four : length (take 4 (drop 1 row)) ≡ 4
  four = length-take-le 4 (drop 1 row) (omega (arith, length-drop 1 row))

  pub place-turn : (all o : Buffer) (k : ℕ) {p : Buffer} → 1 ≤ k → k < 5 → all ≡ put_all o (joined word (drop (k - 1) (take 4 (drop 1 row)))) → p ≡ put_all o (word (get_or row k 0)) → all ≡ put_all p (joined word (drop (k + 1 - 1) (take 4 (drop 1 row))))
  place-turn all o k {p} h j e f =
      let a : k - 1 + 1 ≡ k + 1 - 1 = omega arith in
      let b : 1 + (k - 1) ≡ k = omega arith in
      let g : get_or (take 4 (drop 1 row)) (k - 1) 0 ≡ get_or row k 0 = get_or-take 4 (drop 1 row) (k - 1) 0 (omega arith) ∙ get_or-drop 1 row (k - 1) 0 ∙ ap (λ (i : ℕ). get_or row i 0) b in
      items-turn word all (take 4 (drop 1 row)) o (k - 1) e (omega (arith, four)) (f ∙ ap (λ (v : ℕ). put_all o (word v)) (sym g)) ∙ ap (λ (i : ℕ). put_all p (joined word (drop i (take 4 (drop 1 row))))) a

  pub place_end : (all o : Buffer) (k : ℕ) → 5 ≤ k → all ≡ put_all o (joined word (drop (k - 1) (take 4 (drop 1 row)))) → all ≡ o
  place_end all o k h e = items-end word all (take 4 (drop 1 row)) o (k - 1) e (omega (arith, four))

-- ---- rows in runs

-- a row as its runs say it
abbrev pub shown : (kind parent first size depth : ℕ) → Row
shown kind parent first size depth = record { kind = kind; parent = parent; first = first; size = size; depth = depth; value = 0 }

module _ (rs : List Row) {first size depth kinds parent : List ℕ} {n : ℕ} (h : Held rs first size depth kinds parent n) where
  -- the line of the row i
  line-is : (i : ℕ) → i < n → line i (shown (get_or kinds i 0) (get_or parent i 0) (get_or first i 0) (get_or size i 0) (get_or depth i 0)) ≡ line i (get_or rs i spare)
  line-is i l =
      let r : Row = get_or rs i spare in
      ap (λ (x : ℕ). line i (shown x (get_or parent i 0) (get_or first i 0) (get_or size i 0) (get_or depth i 0))) (h.given.kinds i l)
      ∙ ap (λ (x : ℕ). line i (shown r.kind x (get_or first i 0) (get_or size i 0) (get_or depth i 0))) (h.parents i l)
      ∙ ap (λ (x : ℕ). line i (shown r.kind r.parent x (get_or size i 0) (get_or depth i 0))) (h.given.firsts i l)
      ∙ ap (λ (x : ℕ). line i (shown r.kind r.parent r.first x (get_or depth i 0))) (h.given.sizes i l)
      ∙ ap (λ (x : ℕ). line i (shown r.kind r.parent r.first r.size x)) (h.given.depths i l)

  pub row-turn : (all o : Buffer) (i : ℕ) {q : Buffer} → i < n → all ≡ put_all o (lines line i (drop i rs))
      → q ≡ put_all o (line i (shown (get_or kinds i 0) (get_or parent i 0) (get_or first i 0) (get_or size i 0) (get_or depth i 0))) → all ≡ put_all q (lines line (i + 1) (drop (i + 1) rs))
  row-turn all o i {q} l e f =
      lines-turn line all o i (get_or rs i spare) (drop (suc i) rs) (e ∙ ap (λ (l : List Row). put_all o (lines line i l)) (drop-cons rs i spare (omega (arith, l, h.given.count)))) (f ∙ ap (put_all o) (line-is i l))
      ∙ ap (λ (k : ℕ). put_all q (lines line (i + 1) (drop k rs))) (sym (add-one i))

  pub rows_end : (all o : Buffer) (i : ℕ) → n ≤ i → all ≡ put_all o (lines line i (drop i rs)) → all ≡ o
  rows_end all o i l e = lines_none line all o i (e ∙ ap (λ (l : List Row). put_all o (lines line i l)) (drop_of_length-le rs {i = i} (omega (arith, l, h.given.count))))

-- ---- parents

get_d-left : (xs ys : List ℕ) (i : ℕ) → i < length xs → get_or (xs ++ ys) i 0 ≡ get_or xs i 0
get_d-left [] ys i l = absurd (omega arith)
get_d-left (x ∷ xs) ys zero l = refl
get_d-left (x ∷ xs) ys (suc i) l = get_d-left xs ys i (omega arith)

-- the run that `parents` fills from the depths
pub held : (rs : List Row) {first size depth kinds : List ℕ} {n : ℕ} → Given rs first size depth kinds n → n ≤ 3276 → (run parent : List ℕ) → length run ≡ 3276 → (v : Verdict) → (v, parent) ≡ parented (take n depth) run → Held rs first size depth kinds parent n
held rs {first} {size} {depth} {kinds} {n} g few run parent w v e = record { given = g; parents = λ i l. ap (λ (x : List ℕ). get_or x i 0) all ∙ at i l }
  where
    ds : List ℕ
    ds = depths_of rs

    count : length (depths_of rs) ≡ n
    count = map-length (λ (r : Row). r.depth) rs ∙ sym g.count

    said : (v, parent) ≡ parented (depths_of rs) run
    said = e ∙ ap (λ (x : List ℕ). parented x run) g.all

    room : fits (length (depths_of rs)) (run ∷ []) ≡ true
    room = sym (room-on (length (depths_of rs)) run [] true (omega (arith, count, few, w)) refl)

    all : parent ≡ onto (parents_of (depths_of rs)) run
    all = ap (λ (x : Verdict × List ℕ). x.1) (said ∙ ap (λ (b : Bool). pick {A = Verdict × List ℕ} b (pick (fits (length (depths_of rs)) (run ∷ [])) (accepted (length (depths_of rs)), onto (parents_of (depths_of rs)) run) (refusedFile 11 0, run)) (refusedFile 1 0, run)) (le-leb (length (depths_of rs)) 4294967295 (omega (arith, count, few)))
        ∙ ap (λ (b : Bool). pick {A = Verdict × List ℕ} b (accepted (length (depths_of rs)), onto (parents_of (depths_of rs)) run) (refusedFile 11 0, run)) room)

    many : length (parents_of (depths_of rs)) ≡ n
    many = ap length (sym g.parents) ∙ map-length (λ (r : Row). r.parent) rs ∙ sym g.count

    at : (i : ℕ) → i < n → get_or (onto (parents_of (depths_of rs)) run) i 0 ≡ (get_or rs i spare).parent
    at i l = get_d-left (parents_of (depths_of rs)) (drop (length (parents_of (depths_of rs))) run) i (omega (arith, l, many)) ∙ ap (λ (x : List ℕ). get_or x i 0) (sym g.parents) ∙ get_d_map (λ (r : Row). r.parent) rs i spare (omega (arith, l, g.count))

-- ---- the whole listing, where the runs have room for the rows of the longest input

module _ (s : List ℕ) {a b c d e a' b' c' d' e' : List ℕ} (read : Read s a b c d e a' b' c' d' e') (ra : length a ≡ 3276) (rb : length b ≡ 3276) (rc : length c ≡ 3276) (rd : length d ≡ 3276) (re : length e ≡ 3276) (short : length s ≤ 16384) where
  abbrev cs : List (List ℕ)
  cs = a ∷ b ∷ c ∷ d ∷ e ∷ []

  few : (rs : List Row) (q : ℕ) → descriptor s ≡ ok rs q → length rs ≤ 3276
  few rs q h = let l = (rows-laid s rs q h).count in omega (arith, l, short)

  room : (rs : List Row) (q : ℕ) → descriptor s ≡ ok rs q → fits (length rs) cs ≡ true
  room rs q h =
      let l = few rs q h in
      let n : ℕ = length rs in
      sym (room-on n a (b ∷ c ∷ d ∷ e ∷ []) true (omega (arith, l, ra)) (room-on n b (c ∷ d ∷ e ∷ []) true (omega (arith, l, rb)) (room-on n c (d ∷ e ∷ []) true (omega (arith, l, rc)) (room-on n d (e ∷ []) true (omega (arith, l, rd)) (room-on n e [] true (omega (arith, l, re)) refl)))))

  pub listed-refused : {x p : ℕ} → refusedFile x p ≡ answered (descriptor s) cs → refusal x p ≡ listing (descriptor s)
  listed-refused {x} {p} h = go (descriptor s) refl h
    where
      go : (m : Res (List Row)) → descriptor s ≡ m → refusedFile x p ≡ answered m cs → refusal x p ≡ listing m
      go (ok rs q) g h =
          let y = h ∙ ap (λ (b : Bool). pick b (accepted (length rs)) (refusedFile 11 0)) (room rs q g) in
          let no_row : ◌≡◌ {A = ℕ} 0 1 = cc in
          absurd (omega arith)
      go (refuse y k r f) g h =
          let a : x ≡ y = cc in
          let b : p ≡ k = cc in
          ap₂ refusal a b

  -- a run that begins with a column
  column-at : (f : Row → ℕ) (rs : List Row) (run : List ℕ) (i : ℕ) → i < length rs → get_or (onto (map f rs) run) i 0 ≡ f (get_or rs i spare)
  column-at f rs run i l = get_d-left (map f rs) (drop (length (map f rs)) run) i (omega (arith, l, map-length f rs)) ∙ get_d_map f rs i spare l

  -- and has room for it
  column-in : (f : Row → ℕ) (rs : List Row) (run : List ℕ) → length rs ≤ length (onto (map f rs) run)
  column-in f rs run = omega (arith, length-append (map f rs) (drop (length (map f rs)) run), map-length f rs)

  -- there is room for n rows in these runs
  abbrev pub Wide : ℕ → Type 0
  Wide n = (n ≤ length a') × (n ≤ length b') × (n ≤ length d') × (n ≤ length e') × (n ≤ 3276)

  pub listed-accepted : {n : ℕ} → accepted n ≡ answered (descriptor s) cs
      → (rs : List Row) × Given rs a' b' d' e' n × Wide n × (heading n ++ lines line 0 rs ++ ascii "end\n" ≡ listing (descriptor s))
  listed-accepted {n} h = go (descriptor s) refl h read.firsts read.lengths read.depths read.kinds
    where
      go : (m : Res (List Row)) → descriptor s ≡ m → accepted n ≡ answered m cs → a' ≡ filled (λ rs. (columns_of rs).firsts) m cs a → b' ≡ filled (λ rs. (columns_of rs).lengths) m cs b → d' ≡ filled (λ rs. (columns_of rs).depths) m cs d → e' ≡ filled (λ rs. (columns_of rs).kinds) m cs e
          → (rs : List Row) × Given rs a' b' d' e' n × Wide n × (heading n ++ lines line 0 rs ++ ascii "end\n" ≡ listing m)
      go (ok rs q) g h fa fb fd fe =
          let y = h ∙ ap (λ (b : Bool). pick b (accepted (length rs)) (refusedFile 11 0)) (room rs q g) in
          let k : n ≡ length rs = cc in
          let on : (col run : List ℕ) → pick (fits (length rs) cs) (onto col run) run ≡ onto col run = λ col run. ap (λ (b : Bool). pick b (onto col run) run) (room rs q g) in
          let xa = fa ∙ on (columns_of rs).firsts a in
          let xb = fb ∙ on (columns_of rs).lengths b in
          let xd = fd ∙ on (columns_of rs).depths d in
          let xe = fe ∙ on (columns_of rs).kinds e in
          let l = few rs q g in (
            rs,
            record {
              count = k;
              firsts = λ i w. ap (λ (x : List ℕ). get_or x i 0) xa ∙ column-at (λ (r : Row). r.first) rs a i (omega (arith, w, k));
              sizes = λ i w. ap (λ (x : List ℕ). get_or x i 0) xb ∙ column-at (λ (r : Row). r.size) rs b i (omega (arith, w, k));
              depths = λ i w. ap (λ (x : List ℕ). get_or x i 0) xd ∙ column-at (λ (r : Row). r.depth) rs d i (omega (arith, w, k));
              kinds = λ i w. ap (λ (x : List ℕ). get_or x i 0) xe ∙ column-at (λ (r : Row). r.kind) rs e i (omega (arith, w, k));
              all = ap (take n) xd ∙ ap (λ (j : ℕ). take j (onto (depths_of rs) d)) (k ∙ sym (map-length (λ (r : Row). r.depth) rs)) ∙ take-append_seam (depths_of rs) (drop (length (depths_of rs)) d);
              parents = parents-are s rs q g;
            },
            (
              omega (arith, k, ap length xa, column-in (λ (r : Row). r.first) rs a),
              omega (arith, k, ap length xb, column-in (λ (r : Row). r.size) rs b),
              omega (arith, k, ap length xd, column-in (λ (r : Row). r.depth) rs d),
              omega (arith, k, ap length xe, column-in (λ (r : Row). r.kind) rs e),
              omega (arith, k, l),
            ),
            ap (λ (k : ℕ). heading k ++ lines line 0 rs ++ ascii "end\n") k,
          )
      go (refuse x p r f) g h fa fb fd fe =
          let no_row : ◌≡◌ {A = ℕ} 0 1 = cc in
          absurd (omega arith)
