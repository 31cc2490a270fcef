-- The records of an accepted file, from a table to a writer. Assumes nothing.
use Prim.Native.Nat.{ℕ, ◌+◌, ◌*◌, ◌^◌, ◌≤◌, ◌<◌}
use mathlib.Core.Path.{◌≡◌, refl, sym, ap, ap₂, ◌∙◌, subst}
use mathlib.Core.List.{List, [], ◌∷◌, map}
use lib.ListN.{length, get_or, length-append}
use native.Mathlib.Omega.{arith}
use native.Mathlib.Decide.{ℕ_discrete}
use Rattle.algebra.specs.Numbers.{num, nums, joined, Bytes, All}
use Rattle.algebra.specs.Reader.{ok}
use Rattle.algebra.proofs.Exact.{all_map, all_both, all-by}
use Rattle.aco.specs.Grammar.{Swatch, Allowed, Palette, File, plain, named, entry_bytes, list_one, list_two, two_lists}
use Rattle.aco.specs.Reading.{Entry, Contents, zero_colour, unnamed, aco, swatch}
use Rattle.aco.specs.Faults.{Fits}
use Rattle.aco.proofs.Faultless.{allowed-fits}
use Rattle.aco.proofs.Whole.{length-entry, length-one, length_two}
use Rattle.aco.proofs.RoundTrip.{accepted-allowed, records-count, one-record, lists-are, Placed, records-place}
use Rattle.algebra.specs.Table.{whole}
use Rattle.algebra.proofs.Table.{whole_back}
use Rattle.aco.specs.Row.{RecordRow, width, taken, given_of, row}
use Rattle.aco.proofs.Row.{length-numbers, taken-numbers}
use Rattle.aco_writing.specs.Writing.{swatch_in}
use Rattle.aco_roundtrip.specs.Tie.{tabled, Fitting}
use Rattle.algebra.proofs.Firsts.{all-image, all-source}

-- ---- a run made of rows gives the records

abbrev Four : Entry → Type 0
Four e = length e.colour.samples ≡ 4

pub given-rows : (rs : List Entry) → All (λ j. Four) 0 rs → whole width taken (joined row rs) ≡ map given_of rs
given-rows = whole_back width row taken given_of Four (omega arith) (λ e. length-numbers (given_of e)) (λ e. taken-numbers (given_of e))

-- ---- the names of an accepted file lie in it

record Lies (s : List ℕ) (e : Entry) : Type 0 where
  are : nums 2 (length e.name.units) s e.name.first ≡ e.name.units
  inside : 0 < length e.name.units → e.name.first + 2 * length e.name.units ≤ length s

lies-unnamed : (s : List ℕ) (e : Entry) → e.name.units ≡ [] → Lies s e
unfolding nums
lies-unnamed s e z =
    let l : length e.name.units ≡ 0 = ap length z in
    record { are = ap (λ (us : List ℕ). nums 2 (length us) s e.name.first) z ∙ sym z; inside = λ h. absurd (omega arith) }

lies_placed : (s : List ℕ) (i : ℕ) (e : Entry) → Placed s i e → Lies s e
lies_placed s i e p = record {
  are = ap₂ (λ (n at : ℕ). nums 2 n s at) p.count p.first ∙ sym p.units;
  inside = λ h. omega (arith, p.first, p.count, p.inside);
}

all_lie : (s : List ℕ) {c : Contents} {q : ℕ} → aco s ≡ ok c q → All (λ k e. Lies s e) 0 c.records
all_lie s {c} e = all-by (λ k e. Lies s e) (unnamed zero_colour) 0 c.records (λ k h. go k (omega (arith, records-count s e)) (ℕ_discrete c.lists 1))
  where
    go : (k : ℕ) → k < num 2 s 2 → Dec (c.lists ≡ 1) → Lies s (get_or c.records k (unnamed zero_colour))
    go k h (yes one) = lies-unnamed s _ (ap (λ (r : Entry). r.name.units) (one-record s e one k h))
    go k h (no z) = let l = lists-are s e in let two : c.lists ≡ 2 = omega arith in lies_placed s k _ (records-place s e two k h)

swatches-back : (s : List ℕ) (i : ℕ) (rs : List Entry) → All (λ k e. Lies s e) i rs → map (swatch_in s) (map given_of rs) ≡ map swatch rs
swatches-back s i [] h = refl
swatches-back s i (e ∷ rs) h =
    ap₂ (λ (us : List ℕ) (ws : List Swatch). record { space = e.colour.space; samples = e.colour.samples; name = us } ∷ ws) h.0.are (swatches-back s (i + 1) rs h.1)

-- ---- the records of an accepted file, as they stand in a table

pub palette-of : {l : ℕ} {ws : List Swatch} {b : List ℕ} → File l ws b → Palette ws
palette-of (plain pal none short) = pal
palette-of (named pal short) = pal

-- a file of one list has no names, and is as long with two lists as its number of colours says
pub bare_of : {l : ℕ} {ws : List Swatch} {b : List ℕ} → File l ws b → l ≡ 1 → All (λ k w. w.name ≡ []) 0 ws × (b ≡ list_one ws)
bare_of (plain pal none short) e = (none, refl)
bare_of (named pal short) e = absurd (omega arith)

length-entries : (i : ℕ) (ws : List Swatch) → All (λ k w. Allowed w) i ws → All (λ k w. w.name ≡ []) i ws → length (joined entry_bytes ws) ≡ 16 * length ws
unfolding joined
length-entries i [] h n = refl
length-entries i (w ∷ ws) h n = omega (arith, length-append (entry_bytes w) (joined entry_bytes ws), length-entry w h.0.four, ap length n.0, length-entries (i + 1) ws h.1 n.1)

pub length-bare : (ws : List Swatch) → All (λ k w. Allowed w) 0 ws → All (λ k w. w.name ≡ []) 0 ws → length (two_lists ws) ≡ 8 + 26 * length ws
unfolding two_lists
length-bare ws h n =
    omega (arith, length-append (list_one ws) (list_two ws), length-one ws (all_map (λ k w. Allowed w) (λ k w. length w.samples ≡ 4) (λ k w a. a.four) 0 ws h), length_two ws, length-entries 0 ws h n)

taken-fits : (s : List ℕ) (e : Entry) → Lies s e → Fits (swatch e) → Fitting s (given_of e)
taken-fits s e l f = record {
  small = omega (arith, f.small);
  four = f.four;
  each_small = all_map (λ k v. v < 256 ^ 2) (λ k v. v < 65536) (λ k v h. omega arith) 0 e.colour.samples f.each_small;
  counted = f.counted;
  unstated = refl;
  inside = l.inside;
}

module _ (s : List ℕ) (bytes : Bytes s) {c : Contents} {q : ℕ} (e : aco s ≡ ok c q) where
  all_fit : All (λ k e. Fits (swatch e)) 0 c.records
  all_fit =
      all-source swatch (λ k w. Fits w) 0 c.records
      (all_map (λ k w. Allowed w) (λ k w. Fits w) (λ k w h. allowed-fits w h) 0 (map swatch c.records) (palette-of (accepted-allowed bytes e).0).swatches)

  given-are : tabled c ≡ map given_of c.records
  given-are = given-rows c.records (all_map (λ k e. Fits (swatch e)) (λ k e. length e.colour.samples ≡ 4) (λ k e f. f.four) 0 c.records all_fit)

  -- they are the swatches that were read
  pub given-swatches : map (swatch_in s) (tabled c) ≡ map swatch c.records
  given-swatches = ap (map (swatch_in s)) given-are ∙ swatches-back s 0 c.records (all_lie s e)

  -- they fit
  pub given-fit : All (λ k g. Fitting s g) 0 (tabled c)
  given-fit =
      subst (λ (gs : List RecordRow). All (λ k g. Fitting s g) 0 gs) (sym given-are)
      (all-image given_of (λ k g. Fitting s g) 0 c.records
      (all_map (λ k e. Lies s e × Fits (swatch e)) (λ k e. Fitting s (given_of e)) (λ k e h. taken-fits s e h.0 h.1) 0 c.records (all_both (λ k e. Lies s e) (λ k e. Fits (swatch e)) 0 c.records (all_lie s e) all_fit)))
