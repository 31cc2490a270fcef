-- What is promised of ACO files: reading and the grammar agree, and what an accepted file holds and where. Assumes nothing.
use Prim.Native.Nat.{ℕ, ◌+◌, ◌*◌, ◌-◌, ◌^◌, ◌≤◌, ◌<◌}
use mathlib.Core.Path.{◌≡◌, refl, sym, ap, ◌∙◌, subst, subst₂}
use mathlib.Core.List.{List, map}
use mathlib.Core.Logic.{◌⊎◌, inl, inr}
use mathlib.Core.Bool.{Bool, true, false}
use lib.Dec.{leb}
use lib.ListN.{length, get_or, get_or-map}
use native.Mathlib.Omega.{arith}
use native.Mathlib.Nat.{zero-add}
use Rattle.algebra.specs.Numbers.{num, nums, Bytes, All}
use Rattle.algebra.specs.Reader.{ok, refuse, pick, each, number_of, limit}
use Rattle.algebra.proofs.Places.{length-nums, at-whole}
use Rattle.algebra.proofs.Inverse.{clash, refuse-same, each-length, ok-value}
use Rattle.algebra.proofs.Exact.{length-map}
use Rattle.algebra.proofs.Tells.{outcome-number}
use Rattle.colour.specs.declared.space.Colour.{Colour}
use Rattle.aco.specs.Grammar.{Swatch, File, plain, named, two_lists}
use Rattle.aco.specs.Reading.{field_of, Entry, entry, Contents, zero_colour, unnamed, lists, aco, swatch, second_count}
use Rattle.aco.specs.scaffold.Raw.{raw_colour, raw_colours}
use Rattle.aco.specs.Places.{entry_place}
use Rattle.aco.specs.Damaged.{Damaged}
use Rattle.aco.specs.Faults.{palette_fault, Fits}
use Rattle.aco.proofs.Raw.{get_d-raw, field-raw}
use Rattle.aco.proofs.Laws.{hue}
use Rattle.aco.proofs.Inverse.{First, Then, one, two, Entered, heading-inv, entries-inv, entries-end, aco-inv}
use Rattle.aco.proofs.Whole.{plain-reads, named-reads, bare-swatches, then-writes, bytes_one, bytes-two}
use Rattle.aco.proofs.Refused.{damaged-refused}
use Rattle.aco.proofs.Total.{FileOr, is_file, is_damaged, file-or}
use Rattle.aco.proofs.Written.{lists-outcome}
use Rattle.aco.proofs.Faultless.{faultless-allowed, allowed-faultless}

-- ---- the grammar and the reader

-- every file of the grammar is accepted to its end, and read as the swatches that it was made of
pub allowed-reads : {l : ℕ} {ws : List Swatch} {b : List ℕ} → File l ws b → (c : Contents) × (aco b ≡ ok c (length b)) × (c.lists ≡ l) × (map swatch c.records ≡ ws)
allowed-reads (plain {ws} pal none short) = (record { lists = 1; records = map unnamed (map hue ws) }, plain-reads ws pal short, refl, bare-swatches 0 ws none)
allowed-reads (named {ws} pal short) = let x = named-reads ws pal short in (record { lists = 2; records = x.0 }, x.1, refl, x.2)

-- every accepted file is a file of the grammar, made of the swatches that were read, and is read to its end
pub accepted-allowed : {s : List ℕ} → Bytes s → {c : Contents} {q : ℕ} → aco s ≡ ok c q → File c.lists (map swatch c.records) s × (q ≡ length s)
accepted-allowed {s} bytes {c} {q} e = let i = aco-inv s e in then-writes s bytes i.0 i.1 i.2 c q i.3

-- no file is made of two palettes, or of one in two ways
pub allowed-unique : {l m : ℕ} {ws vs : List Swatch} {b : List ℕ} → File l ws b → File m vs b → (l ≡ m) × (ws ≡ vs)
allowed-unique f g =
    let x = allowed-reads f in
    let y = allowed-reads g in
    let same : x.0 ≡ y.0 = ok-value (sym x.1 ∙ y.1) in
    (sym x.2 ∙ ap (λ (c : Contents). c.lists) same ∙ y.2, sym x.3 ∙ ap (λ (c : Contents). map swatch c.records) same ∙ y.3)

-- ---- refusals

-- every file within the limit is one of the grammar or a damaged one
pub allowed-or-damaged : (s : List ℕ) → Bytes s → length s ≤ 16777216 → ((l : ℕ) × (ws : List Swatch) × File l ws s) ⊎ ((z p r f : ℕ) × Damaged s z p r f)
allowed-or-damaged s bytes short = elim (file-or s bytes short) [
  | is_file l ws g ↦ inl (l, ws, g)
  | is_damaged z p r f d ↦ inr (z, p, r, f, d)
]

-- what is refused within the limit is damaged, and the refusal's number, place, record and field are those of the damage
pub refused-damaged : {s : List ℕ} → Bytes s → length s ≤ 16777216 → {z p r f : ℕ} → aco s ≡ refuse z p r f → Damaged s z p r f
refused-damaged {s} bytes short {z} {p} {r} {f} e = go (file-or s bytes short)
  where
    go : FileOr s → Damaged s z p r f
    go (is_file l ws g) = clash (sym e ∙ (allowed-reads g).1)
    go (is_damaged y q i g d) =
        let x = refuse-same (damaged-refused d bytes short) e in
        subst₂ (λ (n m : ℕ). Damaged s n m r f) x.0 x.1 (subst₂ (λ (n m : ℕ). Damaged s y q n m) x.2 x.3 d)

-- no file is damaged in two ways: it has one number, one place, one record and one field
pub damaged-unique : {s : List ℕ} → Bytes s → length s ≤ 16777216 → {z p r f y q i g : ℕ} → Damaged s z p r f → Damaged s y q i g → (z ≡ y) × (p ≡ q) × (r ≡ i) × (f ≡ g)
damaged-unique bytes short d e = refuse-same (damaged-refused d bytes short) (damaged-refused e bytes short)

-- no file of the grammar is damaged
pub allowed-undamaged : {l : ℕ} {ws : List Swatch} {s : List ℕ} → File l ws s → {z p r f : ℕ} → Damaged s z p r f → ⊥
allowed-undamaged g d = let x = file-bytes g in clash (sym (damaged-refused d x.0 x.1) ∙ (allowed-reads g).1)
  where
    file-bytes : {l : ℕ} {ws : List Swatch} {s : List ℕ} → File l ws s → Bytes s × (length s ≤ 16777216)
    file-bytes (plain {ws} pal none short) = (bytes_one ws, short)
    file-bytes (named {ws} pal short) = (bytes-two ws, short)

-- ---- what an accepted file holds

-- as many records as list 1 counts
pub records-count : (s : List ℕ) {c : Contents} {q : ℕ} → aco s ≡ ok c q → length c.records ≡ num 2 s 2
records-count s {c} {q} e = let i = aco-inv s e in go i.0 i.1 i.2 i.3
  where
    go : (cs : List Colour) (r : ℕ) → First s cs r → Then s cs r c q → length c.records ≡ num 2 s 2
    go cs r f (one end x z) = sym (ap (λ (y : Contents). length y.records) x) ∙ length-map unnamed cs ∙ sym f.count
    go cs r f (two es y hd list end x z) = sym (ap (λ (y : Contents). length y.records) x) ∙ each-length (λ i. entry i (get_or cs i zero_colour)) s (length cs) 0 (r + 4) list ∙ sym f.count

-- one list: the colours that stand there, without names
pub one_list : (s : List ℕ) {c : Contents} {q : ℕ} → aco s ≡ ok c q → c.lists ≡ 1 → (c.records ≡ map unnamed (raw_colours (num 2 s 2) s 4)) × (length s ≡ 4 + 10 * num 2 s 2)
one_list s {c} {q} e l = let i = aco-inv s e in go i.0 i.1 i.2 i.3
  where
    go : (cs : List Colour) (r : ℕ) → First s cs r → Then s cs r c q → (c.records ≡ map unnamed (raw_colours (num 2 s 2) s 4)) × (length s ≡ 4 + 10 * num 2 s 2)
    go cs r f (one end x z) =
        (sym (ap (λ (y : Contents). y.records) x) ∙ ap (map unnamed) (f.are ∙ ap (λ (n : ℕ). raw_colours n s 4) (sym f.count)), omega (arith, f.end, f.count))
    go cs r f (two es y hd list end x z) = let w : 2 ≡ c.lists = ap (λ (y : Contents). y.lists) x in absurd (omega arith)

-- record i of one list
pub one-record : (s : List ℕ) {c : Contents} {q : ℕ} → aco s ≡ ok c q → c.lists ≡ 1 → (i : ℕ) → i < num 2 s 2 → get_or c.records i (unnamed zero_colour) ≡ unnamed (raw_colour s (4 + 10 * i))
one-record s {c} e l i h =
    ap (λ (r : List Entry). get_or r i (unnamed zero_colour)) (one_list s e l).0 ∙ get_or-map unnamed (raw_colours (num 2 s 2) s 4) i zero_colour ∙ ap unnamed (get_d-raw (num 2 s 2) s 4 i h)

-- one list or two
pub lists-are : (s : List ℕ) {c : Contents} {q : ℕ} → aco s ≡ ok c q → (1 ≤ c.lists) × (c.lists ≤ 2)
lists-are s {c} {q} e = let i = aco-inv s e in go i.0 i.1 i.3
  where
    go : (cs : List Colour) (r : ℕ) → Then s cs r c q → (1 ≤ c.lists) × (c.lists ≤ 2)
    go cs r (one end x z) = let w : 1 ≡ c.lists = ap (λ (y : Contents). y.lists) x in (omega arith, omega arith)
    go cs r (two es y hd list end x z) = let w : 2 ≡ c.lists = ap (λ (y : Contents). y.lists) x in (omega arith, omega arith)

-- two lists: list 2's records start behind its heading, and the last ends the file
pub two-lists : (s : List ℕ) {c : Contents} {q : ℕ} → aco s ≡ ok c q → c.lists ≡ 2 → (8 + 10 * num 2 s 2 ≤ length s) × (entry_place s (num 2 s 2) (num 2 s 2) ≡ length s)
unfolding entry_place
two-lists s {c} {q} e l = let x = aco-inv s e in go x.0 x.1 x.2 x.3
  where
    go : (cs : List Colour) (r : ℕ) → First s cs r → Then s cs r c q → (8 + 10 * num 2 s 2 ≤ length s) × (entry_place s (num 2 s 2) (num 2 s 2) ≡ length s)
    go cs r f (one end x z) = let w : 1 ≡ c.lists = ap (λ (y : Contents). y.lists) x in absurd (omega arith)
    go cs r f (two es y hd list end x z) =
        let n : ℕ = num 2 s 2 in
        let start : r + 4 ≡ entry_place s n 0 = omega (arith, f.end, f.count) in
        let h = heading-inv 2 (second_count (length cs)) s r hd in
        let k : n ≡ 0 + length cs = omega (arith, f.count) in
        (omega (arith, f.end, f.count, h.3), ap (entry_place s n) k ∙ entries-end s cs n (unnamed zero_colour) (length cs) 0 {es = es} {q = y} (subst (λ (p : ℕ). each (length cs) 0 (λ k. entry k (get_or cs k zero_colour)) s p ≡ ok es y) start list) ∙ end)

-- record i of two lists: its colour stands in list 1 and again in list 2, and its name behind that
pub record Placed (s : List ℕ) (i : ℕ) (e : Entry) : Type 0 where
  pub is : e.colour ≡ raw_colour s (4 + 10 * i)
  pub twice : (f : ℕ) → f < 5 → num 2 s (4 + 10 * i + 2 * f) ≡ num 2 s (entry_place s (num 2 s 2) i + 2 * f)
  pub first : e.name.first ≡ entry_place s (num 2 s 2) i + 14
  pub some : 0 < num 4 s (entry_place s (num 2 s 2) i + 10)
  pub units : e.name.units ≡ nums 2 (num 4 s (entry_place s (num 2 s 2) i + 10) - 1) s (entry_place s (num 2 s 2) i + 14)
  pub count : length e.name.units ≡ num 4 s (entry_place s (num 2 s 2) i + 10) - 1
  pub inside : entry_place s (num 2 s 2) i + 14 + 2 * num 4 s (entry_place s (num 2 s 2) i + 10) ≤ length s

pub records-place : (s : List ℕ) {c : Contents} {q : ℕ} → aco s ≡ ok c q → c.lists ≡ 2 → (i : ℕ) → i < num 2 s 2 → Placed s i (get_or c.records i (unnamed zero_colour))
unfolding entry_place
records-place s {c} {q} e l i h = let x = aco-inv s e in go x.0 x.1 x.2 x.3
  where
    go : (cs : List Colour) (r : ℕ) → First s cs r → Then s cs r c q → Placed s i (get_or c.records i (unnamed zero_colour))
    go cs r f (one end x z) = let w : 1 ≡ c.lists = ap (λ (y : Contents). y.lists) x in absurd (omega arith)
    go cs r f (two es y hd list end x z) =
        let n : ℕ = num 2 s 2 in
        let start : r + 4 ≡ entry_place s n 0 = omega (arith, f.end, f.count) in
        let t = entries-inv s cs n (unnamed zero_colour) (length cs) 0 {es = es} {q = y} (subst (λ (p : ℕ). each (length cs) 0 (λ k. entry k (get_or cs k zero_colour)) s p ≡ ok es y) start list) i (omega (arith, f.count)) in
        let k : 0 + i ≡ i = zero-add i in
        let en : Entered s (get_or cs i zero_colour) (entry_place s n i) (get_or es i (unnamed zero_colour)) t.0 = subst (λ (j : ℕ). Entered s (get_or cs j zero_colour) (entry_place s n j) (get_or es i (unnamed zero_colour)) t.0) k t.1 in
        let cl : get_or cs i zero_colour ≡ raw_colour s (4 + 10 * i) = ap (λ (l : List Colour). get_or l i zero_colour) f.are ∙ get_d-raw (length cs) s 4 i (omega (arith, f.count)) in
        subst (λ (v : Contents). Placed s i (get_or v.records i (unnamed zero_colour))) x (record {
          is = sym en.hue ∙ cl;
          twice = λ g b. sym (field-raw s (4 + 10 * i) g b) ∙ sym (ap (λ (v : Colour). field_of v g) cl) ∙ sym (en.same g b);
          first = en.first;
          some = en.some;
          units = en.units;
          count = ap length en.units ∙ length-nums 2 (num 4 s (entry_place s n i + 10) - 1) s (entry_place s n i + 14);
          inside = omega (arith, en.next, en.inside);
        })

-- the two lists hold the same colours, record by record and field by field
pub lists_agree : (s : List ℕ) {c : Contents} {q : ℕ} → aco s ≡ ok c q → c.lists ≡ 2
    → (i f : ℕ) → i < num 2 s 2 → f < 5 → num 2 s (4 + 10 * i + 2 * f) ≡ num 2 s (entry_place s (num 2 s 2) i + 2 * f)
lists_agree s e l i f h g = (records-place s e l i h).twice f g

-- ---- what a writer may write

-- of swatches that fit their fields, the reader refuses what was written by the number of their first fault, and accepts it where they have none
pub written-number : (ws : List Swatch) → length ws < 256 ^ 2 → All (λ k w. Fits w) 0 ws → number_of (aco (two_lists ws)) ≡ pick (leb (length (two_lists ws)) limit) (palette_fault ws) 1
unfolding aco
written-number ws few fits = go (leb (length (two_lists ws)) limit)
  where
    go : (b : Bool) → number_of (pick b (lists (two_lists ws) 0) (refuse 1 0 0 0)) ≡ pick b (palette_fault ws) 1
    go true = outcome-number (lists (two_lists ws) 0) (palette_fault ws) (length (two_lists ws)) (lists-outcome (two_lists ws) (bytes-two ws) ws few fits (at-whole (two_lists ws)) refl)
    go false = refl

-- swatches that fit their fields and have no fault are written as a file of the grammar, so that they read back
pub written-allowed : (ws : List Swatch) → All (λ k w. Fits w) 0 ws → palette_fault ws ≡ 0 → length (two_lists ws) ≤ limit → File 2 ws (two_lists ws)
written-allowed ws fits none short = named (faultless-allowed ws fits none) short

-- no palette of the grammar has a fault: what is refused is not allowed
pub allowed-written : {ws : List Swatch} {b : List ℕ} → File 2 ws b → (palette_fault ws ≡ 0) × (b ≡ two_lists ws)
allowed-written (named {ws} pal short) = (allowed-faultless ws pal, refl)
