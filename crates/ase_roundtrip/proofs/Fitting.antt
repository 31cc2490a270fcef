-- Given records that fit: their length and their first fault are those of the blocks that are written. Assumes nothing.
use Prim.Native.Nat.{ℕ, zero, suc, ◌+◌, ◌*◌, ◌^◌, ◌<◌}
use mathlib.Core.Path.{◌≡◌, refl, sym, ap, ap₂, ◌∙◌, subst}
use mathlib.Core.List.{List, [], ◌∷◌, ◌++◌, map}
use lib.Dec.{leb, eqb}
use lib.ListN.{length, get_or, take, length-append}
use lib.Seq.{length-take-le}
use borrow.Author.Tests.{le-leb, ne_eqb}
use native.Mathlib.Omega.{arith}
use native.Mathlib.Decide.{ℕ_discrete}
use Rattle.algebra.specs.Table.{row_at, rows}
use Rattle.algebra.proofs.Table.{row-at}
use Rattle.algebra.specs.Numbers.{counted, be, joined, Bytes, All}
use Rattle.algebra.specs.Reader.{pick, number_of, state_after, limit}
use Rattle.algebra.specs.Text.{name_bytes}
use Rattle.algebra.specs.Faults.{first_of, faults, faults_in}
use Rattle.algebra.proofs.Places.{length-be, length-bes, length-nums, nums-lt}
use Rattle.algebra.proofs.Exact.{all_map, all_both, length-nameBytes}
use Rattle.algebra.proofs.Laws.{body-in}
use Rattle.algebra.proofs.Tells.{first-zero, first-inv, faults-inv, faults-none, faults-from}
use Rattle.algebra.proofs.Chain.{in_map, in_both, all_in, in_all, in-inv, state-map}
use Rattle.colour.specs.Models.{channels_of}
use Rattle.ase.specs.Grammar.{Block, group_start, group_end, colour, other, payload, block_bytes, Unknown}
use Rattle.ase.specs.Reading.{open_after}
use Rattle.ase.specs.Faults.{palette_fault, NameFits, BlockFits}
use Rattle.ase.specs.Faults as a
use Rattle.ase.proofs.Tables.{no_start, no_stop, no-colour, known-model, model_small}
use Rattle.ase.proofs.Laws.{length-block}
use Rattle.ase.proofs.Blocks.{length-file}
use Rattle.ase.specs.Row.{RecordRow, width, taken}
use Rattle.ase_writing.specs.Writing.{units_within, channels_in, block_by_row, size_within, sizes, size, found_in, block_fault, ink_fault, fault}
use Rattle.ase_write_judge.specs.scaffold.Parts.{name_fault, after_name_fault, standing_in}
use Rattle.ase_roundtrip.specs.Tie.{Words, made, NameFitting, ColourFitting, Fitting, a_group_start, a_group_end, a_colour, another}
use Rattle.algebra.proofs.Firsts.{test-holds, all-image}
use Rattle.ase_write_judge.proofs.Judging.{channels-few, name-lies, colour-content-fine, Sound, is_group_start, is_group_end, is-colour, sound}

-- ---- values of a list

pub all_take : {A : Type 0} (P : ℕ → A → Type 0) (n i : ℕ) (l : List A) → All P i l → All P i (take n l)
all_take P zero i l h = tt
all_take P (suc n) i [] h = tt
all_take P (suc n) i (a ∷ l) h = (h.0, all_take P n (i + 1) l h.1)

-- values whose views have the same faults have the same first fault
faults-same : {A B S : Type 0} (next : S → B → S) (view : A → B) (f : S → A → ℕ) (g : S → B → ℕ) (d : S) (i : ℕ) (l : List A)
    → All (λ k a. (e : S) → f e a ≡ g e (view a)) i l → faults_in (λ e a. next e (view a)) f d l ≡ faults_in next g d (map view l)
unfolding faults_in
faults-same next view f g d i [] h = refl
faults-same next view f g d i (a ∷ l) h = ap₂ (λ (x y : ℕ). first_of x y) (h.0 d) (faults-same next view f g (next d (view a)) (i + 1) l h.1)

pub channels-all : (g : RecordRow) → length g.channels ≡ 4 → length (channels_in g) ≡ channels_of g.model
channels-all g four = length-take-le (channels_of g.model) g.channels (omega (arith, channels-few g.model))

-- a record of a run of words: its channels are four, and fit 32 bits
abbrev pub Worded : RecordRow → Type 0
Worded g = (length g.channels ≡ 4) × All (λ i b. b < 256 ^ 4) 0 g.channels

pub givens-words : (run : List ℕ) → Words run → (n k i : ℕ) → All (λ k g. Worded g) i (rows width taken run n k)
unfolding counted
givens-words run h zero k i = tt
givens-words run h (suc n) k i =
    let w : (j : ℕ) → j < width → get_or (row_at width run k) j 0 < 256 ^ 4 = λ j l. subst (λ (x : ℕ). x < 256 ^ 4) (sym (row-at width run k j l)) (h _) in
    ((refl, (w 4 (omega arith), (w 5 (omega arith), (w 6 (omega arith), (w 7 (omega arith), tt))))), givens-words run h n (k + 1) (i + 1))

-- ---- a record of an unknown type

unknown-in : (names : List ℕ) (g : RecordRow) → Unknown g.block → block_by_row names g ≡ other g.block
unknown-in names g u = simp (no_start g.block u, no_stop g.block u, no-colour g.block u)

unknown-size : (g : RecordRow) → Unknown g.block → size_within g ≡ 6
unknown-size g u = simp (no_start g.block u, no_stop g.block u, no-colour g.block u)

-- ---- a record that fits is as long as its block, and has its block's faults

module _ (names : List ℕ) where
  length-name : (g : RecordRow) → length (name_bytes 2 (units_within names g)) ≡ 4 + 2 * g.units
  length-name g = omega (arith, length-nameBytes 2 (units_within names g), length-nums 2 g.units names g.first)

  length-colour : (g : RecordRow) → length g.channels ≡ 4 → length (payload (colour (units_within names g) g.model (channels_in g) g.ink)) ≡ 6 + (4 + 2 * g.units) + 4 * channels_of g.model
  length-colour g four =
      let n : List ℕ = name_bytes 2 (units_within names g) in
      let t : List ℕ = be 4 g.model in
      let c : List ℕ = joined (be 4) (channels_in g) in
      let k : List ℕ = be 2 g.ink in
      omega (arith, length-append n (t ++ (c ++ k)), length-append t (c ++ k), length-append c k, length-name g, length-be 4 g.model, length-bes 4 (channels_in g), length-be 2 g.ink, channels-all g four)

  size_is : (g : RecordRow) → Fitting names g → length (block_bytes (block_by_row names g)) ≡ size_within g
  size_is g (a_group_start e n) = rw e (omega (arith, length-block (group_start (units_within names g)), length-name g))
  size_is g (a_group_end e) = rw e (length-block group_end)
  size_is g (another u) = rw (unknown-in names g u) (rw (unknown-size g u) (length-block (other g.block)))
  size_is g (a_colour e n c) = rw e (omega (arith, length-block (colour (units_within names g) g.model (channels_in g) g.ink), length-colour g c.four))

  sizes-are : (i : ℕ) (gs : List RecordRow) → All (λ k g. Fitting names g) i gs → length (joined block_bytes (map (block_by_row names) gs)) ≡ sizes gs
  unfolding joined sizes
  sizes-are i [] h = refl
  sizes-are i (g ∷ gs) h = omega (arith, length-append (block_bytes (block_by_row names g)) (joined block_bytes (map (block_by_row names) gs)), size_is g h.0, sizes-are (i + 1) gs h.1)

  -- what is made is as long as the writer says
  pub length-made : (gs : List RecordRow) → All (λ k g. Fitting names g) 0 gs → length (made names gs) ≡ size gs
  length-made gs h = omega (arith, length-file (map (block_by_row names) gs), sizes-are 0 gs h)

  module _ (g : RecordRow) (f : NameFitting names g) where
    found_none : found_in names g ≡ 0
    found_none = simp (le-leb (g.units + 1) 65535 (omega (arith, f.counted))) (ap number_of (body-in 2 names g.first g.units (elim (ℕ_discrete g.units 0) [
      | yes z ↦ omega arith
      | no z ↦ omega (arith, f.inside (omega arith))
    ])))

    name-fits : Bytes names → NameFits (units_within names g)
    name-fits bytes = record { counted = omega (arith, f.counted, length-nums 2 g.units names g.first); units = nums-lt 2 names bytes g.units g.first 0 }

  -- its name is found, unless it has none
  block_same : (g : RecordRow) → Fitting names g → (d : ℕ) → block_fault names d g ≡ a.block_fault 0 d (block_by_row names g)
  unfolding a.block_fault
  block_same g (a_group_start e n) d = ap (λ (x : ℕ). a.block_fault x d (block_by_row names g)) (found_none g n)
  block_same g (a_group_end e) d = rw e
  block_same g (another u) d = rw (unknown-in names g u)
  block_same g (a_colour e n c) d = ap (λ (x : ℕ). a.block_fault x d (block_by_row names g)) (found_none g n)

  block-fits : Bytes names → (g : RecordRow) → Fitting names g → BlockFits (block_by_row names g)
  block-fits bytes g (a_group_start e n) = rw e (name-fits g n bytes)
  block-fits bytes g (a_group_end e) = rw e tt
  block-fits bytes g (another u) = rw (unknown-in names g u) u
  block-fits bytes g (a_colour e n c) = rw e (record {
    name = name-fits g n bytes;
    model = c.model_small;
    all = channels-all g c.four;
    channels = c.each_small;
    type = omega (arith, c.ink_small);
    no_process = c.no_process;
    no_unstated = c.no_unstated;
  })

  module _ (gs : List RecordRow) (fit : All (λ k g. Fitting names g) 0 gs) where
    pub all_fit : Bytes names → All (λ k b. BlockFits b) 0 (map (block_by_row names) gs)
    all_fit bytes = all-image (block_by_row names) (λ k b. BlockFits b) 0 gs (all_map (λ k g. Fitting names g) (λ k g. BlockFits (block_by_row names g)) (λ k g f. block-fits bytes g f) 0 gs fit)

    -- no ink is refused
    ink-none : (g : RecordRow) → Fitting names g → ink_fault g ≡ 0
    ink-none g (a_group_start e n) = rw e
    ink-none g (a_group_end e) = rw e
    ink-none g (another u) = rw (no-colour g.block u)
    ink-none g (a_colour e n c) = simp (e, ne_eqb g.ink 3 c.no_process, ne_eqb g.ink 4 c.no_unstated)

    inks-none : faults ink_fault gs ≡ 0
    inks-none = sym (faults-from ink_fault 0 gs) ∙ faults-none (λ k. ink_fault) 0 gs (all_map (λ k g. Fitting names g) (λ k g. ink_fault g ≡ 0) (λ k g f. ink-none g f) 0 gs fit)

    -- the writer's first fault is that of the blocks
    pub fault-same : fault names gs ≡ pick (leb (length (made names gs)) limit) (palette_fault (map (block_by_row names) gs)) 1
    unfolding fault a.blocks_fault
    fault-same =
        let bs : List Block = map (block_by_row names) gs in
        let fs : faults_in (standing_in names) (block_fault names) 0 gs ≡ faults_in open_after (a.block_fault 0) 0 bs =
        faults-same open_after (block_by_row names) (block_fault names) (a.block_fault 0) 0 0 gs
        (all_map (λ k g. Fitting names g) (λ k g. (d : ℕ) → block_fault names d g ≡ a.block_fault 0 d (block_by_row names g)) (λ k g f. block_same g f) 0 gs fit) in
        let st : state_after (standing_in names) 0 gs ≡ state_after open_after 0 bs = state-map (standing_in names) open_after (block_by_row names) (λ d g. refl) 0 gs in
        let own : ℕ = first_of (faults_in (standing_in names) (block_fault names) 0 gs) (pick (eqb (state_after (standing_in names) 0 gs) 0) 0 9) in
        let last : first_of own (faults ink_fault gs) ≡ own = ap (first_of own) inks-none ∙ first-zero own in
        ap₂ (λ (m n : ℕ). pick (leb m limit) n 1) (sym (length-made gs fit)) (last ∙ ap₂ (λ (m n : ℕ). first_of m (pick (eqb n 0) 0 9)) fs st)

  -- ---- records without a fault fit

  lies-fits : (g : RecordRow) → name_fault names g ≡ 0 → NameFitting names g
  lies-fits g e = let h = name-lies names g e in record { counted = omega (arith, h.0); inside = λ k. omega (arith, h.1) }

  -- a colour whose ink has no fault
  ink-held : (g : RecordRow) → g.block ≡ 0x0001 → ink_fault g ≡ 0 → (g.ink ≡ 3 → ⊥) × (g.ink ≡ 4 → ⊥)
  ink-held g b e = (λ z. let x : ◌≡◌ {A = ℕ} 14 0 = sym (rw (b, z)) ∙ e in absurd (omega arith), λ z. let x : ◌≡◌ {A = ℕ} 14 0 = sym (rw (b, z)) ∙ e in absurd (omega arith))

  colour-fits : (g : RecordRow) → g.block ≡ 0x0001 → Worded g → after_name_fault g ≡ 0 → ink_fault g ≡ 0 → ColourFitting g
  colour-fits g b w e i =
      let h = colour-content-fine g e in record {
        model_small = model_small (known-model g.model h.0);
        four = w.0;
        each_small = all_take (λ i b. b < 256 ^ 4) (channels_of g.model) 0 g.channels w.1;
        ink_small = omega (arith, h.1);
        no_process = (ink-held g b i).0;
        no_unstated = (ink-held g b i).1;
      }

  faultless-fits : (d : ℕ) (g : RecordRow) → Worded g × (ink_fault g ≡ 0) → Sound names d g → Fitting names g
  faultless-fits d g w (is_group_start e k n) = a_group_start e (lies-fits g n)
  faultless-fits d g w (is_group_end e k) = a_group_end e
  faultless-fits d g w (is-colour e n s) = a_colour e (lies-fits g n) (colour-fits g e w.0 s w.1)

  pub faultless-fit : (gs : List RecordRow) → All (λ k g. Worded g) 0 gs → fault names gs ≡ 0 → All (λ k g. Fitting names g) 0 gs
  unfolding fault a.blocks_fault
  faultless-fit gs w e =
      let x = test-holds (leb (size gs) limit) _ 1 (omega arith) e in
      let z = first-inv (a.blocks_fault (found_in names) (block_by_row names) 0 gs) (faults ink_fault gs) x.1 in
      let y = first-inv (faults_in (standing_in names) (block_fault names) 0 gs) (pick (eqb (state_after (standing_in names) 0 gs) 0) 0 9) z.0 in
      let Q : RecordRow → Type 0 = λ g. Worded g × (ink_fault g ≡ 0) in
      let P : ℕ → RecordRow → Type 0 = λ d g. Q g × (block_fault names d g ≡ 0) in
      let v : All (λ k g. Q g) 0 gs = all_both (λ k g. Worded g) (λ k g. ink_fault g ≡ 0) 0 gs w (faults-inv (λ k. ink_fault) 0 gs (faults-from ink_fault 0 gs ∙ z.1)) in
      in_all (standing_in names) (Fitting names) 0 0 gs
      (in_map (standing_in names) P (λ d g. Fitting names g) (λ d g h. faultless-fits d g h.0 (sound names d g h.1)) 0 gs
      (in_both (standing_in names) (λ d g. Q g) (λ d g. block_fault names d g ≡ 0) 0 gs (all_in (standing_in names) Q 0 0 gs v) (in-inv (standing_in names) (block_fault names) 0 gs y.0)))
