-- A whole file: the grammar's bytes are read, and what was read is the grammar's bytes. Assumes nothing.
use Prim.Native.Nat.{ℕ, zero, suc, ◌+◌, ◌*◌, ◌^◌, ◌≤◌, ◌<◌}
use mathlib.Core.Path.{◌≡◌, refl, sym, ap, ap₂, ◌∙◌, subst}
use mathlib.Core.List.{List, [], ◌∷◌, ◌++◌, map, append_assoc}
use lib.ListN.{length, get_or, length-append, get_or-map}
use lib.Seq.{ext_get_or}
use borrow.Author.Tests.{le-leb, eq-eqb, ne_eqb}
use native.Mathlib.Omega.{arith}
use native.Mathlib.Nat.{zero-add}
use Rattle.algebra.specs.Numbers.{be, joined, At, Bytes, All}
use Rattle.algebra.specs.Reader.{ok, Judged, fine, each, ended}
use Rattle.algebra.specs.Text.{Named, name_bytes}
use Rattle.algebra.specs.Algebra.{Exact}
use Rattle.algebra.proofs.Places.{length-be, length-bes, joined-map, at_in, at_left, at_after, at_next, at_all, at-whole, bytes-append, bytes-be, bytes-joined}
use Rattle.algebra.proofs.Exact.{all_map, all-at, all-by, length-map, map-id, length-nameBytes, each-exact}
use Rattle.colour.specs.declared.space.Colour.{Colour}
use Rattle.aco.specs.Grammar.{Swatch, rgb, Allowed, Palette, File, plain, named, colour_bytes, entry_bytes, list_one, list_two, two_lists}
use Rattle.aco.specs.Reading.{colour, heading, Entry, entry, Contents, zero_colour, second, unnamed, after, lists, aco, swatch, first_count, second_count}
use Rattle.aco.proofs.Fine.{first_fine, second-fine}
use Rattle.aco.proofs.Answers.{one-list-ends}
use Rattle.aco.proofs.Laws.{hue, sample_bytes, label, AllowedColour, Sized, allowed-colour-sized, allowed-allowed-colour, allowed-colour-allowed, colour-exact, heading-exact, entry-exact}
use Rattle.aco.proofs.Inverse.{First, Then, one, two}

-- ---- the colours of swatches

pub hues-bytes : (ws : List Swatch) → joined sample_bytes (map hue ws) ≡ joined colour_bytes ws
unfolding colour_bytes
hues-bytes ws = joined-map sample_bytes hue ws

pub all-allowed-colour : (i : ℕ) (ws : List Swatch) → All (λ k w. Allowed w) i ws → All (λ k c. AllowedColour c) i (map hue ws)
all-allowed-colour i [] h = tt
all-allowed-colour i (w ∷ ws) h = (allowed-allowed-colour w h.0, all-allowed-colour (i + 1) ws h.1)

all-allowed : (i : ℕ) (ws : List Swatch) → All (λ k c. AllowedColour c) i (map hue ws) → All (λ k w. Named 4 w.name) i ws → All (λ k w. Allowed w) i ws
all-allowed i [] h g = tt
all-allowed i (w ∷ ws) h g = (allowed-colour-allowed w h.0 g.0, all-allowed (i + 1) ws h.1 g.1)

zero-colour-allowed-colour : AllowedColour zero_colour
zero-colour-allowed-colour = record { scales = _; of = rgb; four = refl; fit = (omega arith, (omega arith, (omega arith, (refl, tt)))) }

pub allowed-colour-at : (i : ℕ) (cs : List Colour) → All (λ k c. AllowedColour c) i cs → (k : ℕ) → AllowedColour (get_or cs k zero_colour)
allowed-colour-at i [] h k = zero-colour-allowed-colour
allowed-colour-at i (c ∷ cs) h zero = h.0
allowed-colour-at i (c ∷ cs) h (suc k) = allowed-colour-at (i + 1) cs h.1 k

pub hue-at : (ws : List Swatch) (k : ℕ) → get_or (map hue ws) k zero_colour ≡ hue (get_or ws k (label zero_colour []))
hue-at ws k = get_or-map hue ws k (label zero_colour [])

-- ---- lengths

pub length-colour : (w : Swatch) → length w.samples ≡ 4 → length (colour_bytes w) ≡ 10
unfolding colour_bytes
length-colour w four = omega (arith, length-append (be 2 w.space) (joined (be 2) w.samples), length-be 2 w.space, length-bes 2 w.samples)

pub length-entry : (w : Swatch) → length w.samples ≡ 4 → length (entry_bytes w) ≡ 16 + 2 * length w.name
unfolding entry_bytes
length-entry w four = omega (arith, length-append (colour_bytes w) (name_bytes 4 w.name), length-colour w four, length-nameBytes 4 w.name)

pub length-colours : (i : ℕ) (ws : List Swatch) → All (λ k w. length w.samples ≡ 4) i ws → length (joined colour_bytes ws) ≡ 10 * length ws
unfolding joined
length-colours i [] h = refl
length-colours i (w ∷ ws) h = omega (arith, length-append (colour_bytes w) (joined colour_bytes ws), length-colour w h.0, length-colours (i + 1) ws h.1)

pub length-one : (ws : List Swatch) → All (λ k w. length w.samples ≡ 4) 0 ws → length (list_one ws) ≡ 4 + 10 * length ws
unfolding list_one
length-one ws h =
    let n : List ℕ = be 2 (length ws) in
    let l : List ℕ = joined colour_bytes ws in
    omega (arith, length-append (be 2 1) (n ++ l), length-append n l, length-be 2 1, length-be 2 (length ws), length-colours 0 ws h)

pub length_two : (ws : List Swatch) → length (list_two ws) ≡ 4 + length (joined entry_bytes ws)
unfolding list_two
length_two ws =
    let n : List ℕ = be 2 (length ws) in
    let l : List ℕ = joined entry_bytes ws in
    omega (arith, length-append (be 2 2) (n ++ l), length-append n l, length-be 2 2, length-be 2 (length ws))

-- ---- what is written is bytes

pub bytes-colour : (w : Swatch) → Bytes (colour_bytes w)
unfolding colour_bytes
bytes-colour w = bytes-append (be 2 w.space) (joined (be 2) w.samples) (bytes-be 2 w.space) (bytes-joined (be 2) (bytes-be 2) w.samples)

pub bytes-entry : (w : Swatch) → Bytes (entry_bytes w)
unfolding entry_bytes name_bytes
bytes-entry w =
    let n : List ℕ = be 4 (length w.name + 1) in
    let u : List ℕ = joined (be 2) w.name in
    bytes-append (colour_bytes w) (n ++ (u ++ be 2 0)) (bytes-colour w) (bytes-append n (u ++ be 2 0) (bytes-be 4 (length w.name + 1)) (bytes-append u (be 2 0) (bytes-joined (be 2) (bytes-be 2) w.name) (bytes-be 2 0)))

pub bytes_one : (ws : List Swatch) → Bytes (list_one ws)
unfolding list_one
bytes_one ws =
    let l : List ℕ = joined colour_bytes ws in
    bytes-append (be 2 1) (be 2 (length ws) ++ l) (bytes-be 2 1) (bytes-append (be 2 (length ws)) l (bytes-be 2 (length ws)) (bytes-joined colour_bytes bytes-colour ws))

pub bytes-two : (ws : List Swatch) → Bytes (two_lists ws)
unfolding two_lists list_two
bytes-two ws =
    let l : List ℕ = joined entry_bytes ws in
    bytes-append (list_one ws) (be 2 2 ++ (be 2 (length ws) ++ l)) (bytes_one ws)
    (bytes-append (be 2 2) (be 2 (length ws) ++ l) (bytes-be 2 2) (bytes-append (be 2 (length ws)) l (bytes-be 2 (length ws)) (bytes-joined entry_bytes bytes-entry ws)))

-- ---- the records of list 2, where list 1 has the colours of ws

-- what the reader asks of record i
abbrev pub Repeats : List Swatch → ℕ → Swatch → Type 0
Repeats ws i w = (hue w ≡ get_or (map hue ws) i zero_colour) × Named 4 w.name

pub own-records : (ws : List Swatch) → Palette ws → All (Repeats ws) 0 ws
own-records ws pal =
    all-by (Repeats ws) (label zero_colour []) 0 ws (λ k g.
    (sym (hue-at ws k) ∙ ap (λ (i : ℕ). get_or (map hue ws) i zero_colour) (sym (zero-add k)), (all-at (λ k w. Allowed w) (label zero_colour []) 0 ws pal.swatches k g).name))

pub sized-at : (ws : List Swatch) → Palette ws → (i : ℕ) → Sized (get_or (map hue ws) i zero_colour)
sized-at ws pal i = allowed-colour-sized (get_or (map hue ws) i zero_colour) (allowed-colour-at 0 (map hue ws) (all-allowed-colour 0 ws pal.swatches) i)

pub record-exact : (s : List ℕ) → Bytes s → (ws : List Swatch) → Palette ws → (i : ℕ) → Exact s (entry i (get_or (map hue ws) i zero_colour)) swatch (Repeats ws i) entry_bytes
record-exact s bytes ws pal i = entry-exact s bytes i (get_or (map hue ws) i zero_colour) (sized-at ws pal i)

-- ---- the grammar's bytes are read

pub length-heading : (v n : ℕ) → length (be 2 v ++ be 2 n) ≡ 4
length-heading v n = omega (arith, length-append (be 2 v) (be 2 n), length-be 2 v, length-be 2 n)

pub heading-reads : (s : List ℕ) → Bytes s → (v : ℕ) → v < 256 ^ 2 → (count : ℕ → Judged) (at n : ℕ) → n < 256 ^ 2 → count n ≡ fine → At s at (be 2 v ++ be 2 n) → heading v count s at ≡ ok n (at + length (be 2 v ++ be 2 n))
heading-reads s bytes v small count at n few good h =
    let r = (heading-exact s bytes v small count).reads at n (few, good) h in
    r.1 ∙ ap (λ (k : ℕ). ok k (at + length (be 2 v ++ be 2 n))) r.2

module _ (s : List ℕ) (bytes : Bytes s) (ws : List Swatch) (pal : Palette ws) where
  -- a heading, before anything
  heads : (v : ℕ) → v < 256 ^ 2 → (count : ℕ → Judged) → count (length ws) ≡ fine → (at : ℕ) (more : List ℕ) → At s at (be 2 v ++ (be 2 (length ws) ++ more)) → (heading v count s at ≡ ok (length ws) (at + 4)) × At s (at + 4) more
  heads v small count f at more h =
      let n : ℕ = length ws in
      let hd : List ℕ = be 2 v ++ be 2 n in
      let g : At s at (hd ++ more) = subst (λ (x : List ℕ). At s at x) (sym (append_assoc (be 2 v) (be 2 n) more)) h in
      let e : at + length hd ≡ at + 4 = ap (λ (k : ℕ). at + k) (length-heading v n) in
      (heading-reads s bytes v small count at n (omega (arith, pal.count)) f (at_left s at hd more g) ∙ ap (λ (k : ℕ). ok n k) e, at_after s at hd more (at + 4) e g)

  pub first_reads : At s 0 (list_one ws) → lists s 0 ≡ after (map hue ws) s (length (list_one ws))
  unfolding lists list_one
  first_reads h =
      let n : ℕ = length ws in
      let cs : List Colour = map hue ws in
      let l : List ℕ = joined colour_bytes ws in
      let x = heads 1 (omega arith) first_count (first_fine n pal.count) 0 l h in
      let y = (each-exact {p = λ i. colour} {Ok = λ i c. AllowedColour c} (λ i. colour-exact s bytes) n 0).reads 4 cs (length-map hue ws, all-allowed-colour 0 ws pal.swatches) (subst (λ (z : List ℕ). At s 4 z) (sym (hues-bytes ws)) x.1) in
      let q : 4 + length (joined sample_bytes cs) ≡ length (be 2 1 ++ (be 2 n ++ l)) =
      omega (arith, length-append (be 2 1) (be 2 n ++ l), length-append (be 2 n) l, length-be 2 1, length-be 2 n, ap length (hues-bytes ws)) in
      let e : each n 0 (λ i. colour) s 4 ≡ ok cs (length (be 2 1 ++ (be 2 n ++ l))) = y.1 ∙ ap₂ (λ (a : List Colour) (b : ℕ). ok a b) (sym (map-id y.0) ∙ y.2) q in
      rw x.0 (rw e)

  -- list 2's heading, before anything
  pub second-heads : (q : ℕ) (more : List ℕ) → At s q (be 2 2 ++ (be 2 (length ws) ++ more)) → (heading 2 (second_count (length (map hue ws))) s q ≡ ok (length ws) (q + 4)) × At s (q + 4) more
  second-heads q more h = heads 2 (omega arith) (second_count (length (map hue ws))) (second-fine (length (map hue ws)) (length ws) (sym (length-map hue ws))) q more h

  -- list 2, before the file's end or more: its heading, and its records es
  pub second-passes : (q : ℕ) → At s q (list_two ws) → (es : List Entry) × (heading 2 (second_count (length (map hue ws))) s q ≡ ok (length ws) (q + 4))
      × (each (length (map hue ws)) 0 (λ i. entry i (get_or (map hue ws) i zero_colour)) s (q + 4) ≡ ok es (q + length (list_two ws))) × (map swatch es ≡ ws)
  unfolding list_two
  second-passes q h =
      let n : ℕ = length ws in
      let cs : List Colour = map hue ws in
      let l : List ℕ = joined entry_bytes ws in
      let x = second-heads q l h in
      let y = (each-exact {p = λ i. entry i (get_or cs i zero_colour)} {Ok = Repeats ws} (record-exact s bytes ws pal) (length cs) 0).reads (q + 4) ws (sym (length-map hue ws), own-records ws pal) x.1 in
      let z : q + 4 + length l ≡ q + length (be 2 2 ++ (be 2 n ++ l)) =
      omega (arith, length-append (be 2 2) (be 2 n ++ l), length-append (be 2 n) l, length-be 2 2, length-be 2 n) in
      (y.0, x.0, y.1 ∙ ap (λ (k : ℕ). ok y.0 k) z, y.2)

  pub second_reads : (q : ℕ) → At s q (list_two ws) → q + length (list_two ws) ≡ length s → (es : List Entry) × (second (map hue ws) s q ≡ ok (record { lists = 2; records = es }) (length s)) × (map swatch es ≡ ws)
  unfolding second ended
  second_reads q h end = let x = second-passes q h in (x.0, rw x.1 (rw (x.2 ∙ ap (λ (k : ℕ). ok x.0 k) end) (simp (eq-eqb (length s) (length s) refl))), x.3)

pub plain-reads : (ws : List Swatch) → Palette ws → length (list_one ws) ≤ 16777216 → aco (list_one ws) ≡ ok (record { lists = 1; records = map unnamed (map hue ws) }) (length (list_one ws))
unfolding aco
plain-reads ws pal short =
    let s : List ℕ = list_one ws in
    simp (le-leb (length s) 16777216 short) (rw (first_reads s (bytes_one ws) ws pal (at-whole s)) (one-list-ends s (map hue ws)))

pub named-reads : (ws : List Swatch) → Palette ws → length (two_lists ws) ≤ 16777216 → (es : List Entry) × (aco (two_lists ws) ≡ ok (record { lists = 2; records = es }) (length (two_lists ws))) × (map swatch es ≡ ws)
unfolding aco after two_lists
named-reads ws pal short =
    let s : List ℕ = list_one ws ++ list_two ws in
    let q : ℕ = length (list_one ws) in
    let h : At s 0 (list_one ws ++ list_two ws) = at-whole s in
    let len : length s ≡ q + length (list_two ws) = length-append (list_one ws) (list_two ws) in
    let x = first_reads s (bytes-two ws) ws pal (at_left s 0 (list_one ws) (list_two ws) h) in
    let y = second_reads s (bytes-two ws) ws pal q (at_after s 0 (list_one ws) (list_two ws) q (zero-add q) h) (sym len) in
    let ne : q ≡ length s → ⊥ = λ z. omega (arith, len, length_two ws) in
    (y.0, simp (le-leb (length s) 16777216 short) (rw x (simp (ne_eqb q (length s) ne) y.1)), y.2)

-- the swatches of colours without names
bare-names : (i : ℕ) (cs : List Colour) → All (λ k w. w.name ≡ []) i (map swatch (map unnamed cs))
bare-names i [] = tt
bare-names i (c ∷ cs) = (refl, bare-names (i + 1) cs)

bare-hues : (cs : List Colour) → map hue (map swatch (map unnamed cs)) ≡ cs
bare-hues [] = refl
bare-hues (c ∷ cs) = ap (λ (l : List Colour). c ∷ l) (bare-hues cs)

pub bare-swatches : (i : ℕ) (ws : List Swatch) → All (λ k w. w.name ≡ []) i ws → map swatch (map unnamed (map hue ws)) ≡ ws
bare-swatches i [] h = refl
bare-swatches i (w ∷ ws) h = ap₂ (λ (y : Swatch) (l : List Swatch). y ∷ l) (ap (label (hue w)) (sym h.0)) (bare-swatches (i + 1) ws h.1)

-- ---- what was read is the grammar's bytes

named_none : Named 4 []
named_none = record { counted = omega arith; units = tt }

bare-named : (i : ℕ) (ws : List Swatch) → All (λ k w. w.name ≡ []) i ws → All (λ k w. Named 4 w.name) i ws
bare-named i ws h = all_map (λ k w. w.name ≡ []) (λ k w. Named 4 w.name) (λ k w e. subst (λ (l : List ℕ). Named 4 l) (sym e) named_none) i ws h

module _ (s : List ℕ) (bytes : Bytes s) (cs : List Colour) (r : ℕ) (f : First s cs r) where
  -- list 1 is the bytes of swatches that have its colours
  first-writes : (ws : List Swatch) → map hue ws ≡ cs → All (λ k c. AllowedColour c) 0 cs × At s 0 (list_one ws) × (length (list_one ws) ≡ r)
  unfolding list_one
  first-writes ws same =
      let n : ℕ = length cs in
      let len : n ≡ length ws = sym (ap length same) ∙ length-map hue ws in
      let x = (heading-exact s bytes 1 (omega arith) first_count).writes 0 (omega arith) n 4 f.head in
      let y = (each-exact {p = λ i. colour} {Ok = λ i c. AllowedColour c} (λ i. colour-exact s bytes) n 0).writes 4 (omega (arith, f.inside, f.end)) cs r f.list in
      let bs : joined sample_bytes (map (λ (c : Colour). c) cs) ≡ joined colour_bytes ws = ap (joined sample_bytes) (map-id cs ∙ sym same) ∙ hues-bytes ws in
      let m : List ℕ = be 2 (length ws) in
      let l : List ℕ = joined colour_bytes ws in
      let hd : At s 0 (be 2 1 ++ m) = subst (λ (k : ℕ). At s 0 (be 2 1 ++ be 2 k)) len x.1 in
      let four : 0 + length (be 2 1 ++ m) ≡ 4 = omega (arith, length-append (be 2 1) m, length-be 2 1, length-be 2 (length ws)) in
      let at : At s 0 ((be 2 1 ++ m) ++ l) = at_next s 0 (be 2 1 ++ m) l 4 four hd (subst (λ (z : List ℕ). At s 4 z) bs y.1) in (
        subst (λ (z : List Colour). All (λ k c. AllowedColour c) 0 z) (map-id cs) y.0.1,
        subst (λ (z : List ℕ). At s 0 z) (append_assoc (be 2 1) m l) at,
        omega (arith, length-append (be 2 1) (m ++ l), length-append m l, length-be 2 1, length-be 2 (length ws), y.2, ap length bs),
      )

  palette-of : (ws : List Swatch) → map hue ws ≡ cs → All (λ k c. AllowedColour c) 0 cs → All (λ k w. Named 4 w.name) 0 ws → Palette ws
  palette-of ws same p n = record {
    count = omega (arith, f.few, ap length same, length-map hue ws);
    swatches = all-allowed 0 ws (subst (λ (z : List Colour). All (λ k c. AllowedColour c) 0 z) (sym same) p) n;
  }

  one_writes : r ≡ length s → File 1 (map swatch (map unnamed cs)) s
  one_writes end =
      let ws : List Swatch = map swatch (map unnamed cs) in
      let x = first-writes ws (bare-hues cs) in
      let e : s ≡ list_one ws = at_all s (list_one ws) x.1 (x.2 ∙ end) in
      subst (λ (b : List ℕ). File 1 ws b) (sym e)
      (plain (palette-of ws (bare-hues cs) x.0 (bare-named 0 ws (bare-names 0 cs))) (bare-names 0 cs) (omega (arith, x.2, f.short)))

  two-writes : (es : List Entry) (z : ℕ) → heading 2 (second_count (length cs)) s r ≡ ok (length cs) (r + 4)
      → each (length cs) 0 (λ i. entry i (get_or cs i zero_colour)) s (r + 4) ≡ ok es z → z ≡ length s → All (λ k c. AllowedColour c) 0 cs → File 2 (map swatch es) s
  unfolding two_lists list_two
  two-writes es z hd list end p =
      let n : ℕ = length cs in
      let ws : List Swatch = map swatch es in
      let Ok : ℕ → Swatch → Type 0 = λ i w. (hue w ≡ get_or cs i zero_colour) × Named 4 w.name in
      let j : ℕ → Judged = second_count (length cs) in
      let x = (heading-exact s bytes 2 (omega arith) j).writes r f.inside n (r + 4) hd in
      let four : length (be 2 2 ++ be 2 n) ≡ 4 = omega (arith, length-append (be 2 2) (be 2 n), length-be 2 2, length-be 2 n) in
      let y = (each-exact {p = λ i. entry i (get_or cs i zero_colour)} {Ok = Ok} (λ i. entry-exact s bytes i (get_or cs i zero_colour) (allowed-colour-sized (get_or cs i zero_colour) (allowed-colour-at 0 cs p i))) n 0).writes (r + 4) (omega (arith, at_in s r (be 2 2 ++ be 2 n) x.1)) es z list in
      let len : length ws ≡ n = y.0.0 in
      let same : map hue ws ≡ cs =
      ext_get_or zero_colour (map hue ws) cs (length-map hue ws ∙ len) (λ k h.
      hue-at ws k ∙ (all-at Ok (label zero_colour []) 0 ws y.0.1 k (omega (arith, length-map hue ws))).0 ∙ ap (λ (i : ℕ). get_or cs i zero_colour) (zero-add k)) in
      let a = first-writes ws same in
      let m : List ℕ = be 2 (length ws) in
      let l : List ℕ = joined entry_bytes ws in
      let hd2 : At s r (be 2 2 ++ m) = subst (λ (k : ℕ). At s r (be 2 2 ++ be 2 k)) (sym len) x.1 in
      let l2 : length (be 2 2 ++ m) ≡ 4 = ap (λ (k : ℕ). length (be 2 2 ++ be 2 k)) len ∙ four in
      let second : At s r (be 2 2 ++ (m ++ l)) = subst (λ (q : List ℕ). At s r q) (append_assoc (be 2 2) m l) (at_next s r (be 2 2 ++ m) l (r + 4) (ap (λ (k : ℕ). r + k) l2) hd2 y.1) in
      let whole : At s 0 (list_one ws ++ (be 2 2 ++ (m ++ l))) = at_next s 0 (list_one ws) (be 2 2 ++ (m ++ l)) r (zero-add (length (list_one ws)) ∙ a.2) a.1 second in
      let ls : length (list_one ws ++ (be 2 2 ++ (m ++ l))) ≡ length s =
      omega (arith, length-append (list_one ws) (be 2 2 ++ (m ++ l)), a.2, length-append (be 2 2) (m ++ l), length-append m l, length-be 2 2, length-be 2 (length ws), y.2) in
      let e : s ≡ two_lists ws = at_all s (list_one ws ++ (be 2 2 ++ (m ++ l))) whole ls in
      let nm : All (λ k w. Named 4 w.name) 0 ws = all_map Ok (λ k w. Named 4 w.name) (λ k w h. h.1) 0 ws y.0.1 in
      subst (λ (b : List ℕ). File 2 ws b) (sym e) (named (palette-of ws same p nm) (omega (arith, f.short, ls)))

  pub then-writes : (c : Contents) (q : ℕ) → Then s cs r c q → File c.lists (map swatch c.records) s × (q ≡ length s)
  then-writes c q (one end e z) = (subst (λ (x : Contents). File x.lists (map swatch x.records) s) e (one_writes end), sym z ∙ end)
  then-writes c q (two es y hd list end e z) =
      let bare : List Swatch = map swatch (map unnamed cs) in
      (subst (λ (x : Contents). File x.lists (map swatch x.records) s) e (two-writes es y hd list end (first-writes bare (bare-hues cs)).0), sym z ∙ end)
