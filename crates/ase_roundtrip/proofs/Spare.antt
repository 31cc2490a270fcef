-- Records that differ only in spare places are the same to a writer. Assumes nothing.
use Prim.Native.Nat.{ℕ, ◌+◌, ◌*◌}
use mathlib.Core.Path.{◌≡◌, refl, ap, ap₂, ◌∙◌}
use mathlib.Core.List.{List, [], ◌∷◌, map}
use lib.Dec.{leb, eqb}
use Rattle.algebra.specs.Numbers.{nums}
use Rattle.algebra.specs.Reader.{pick, body, number_of, state_after, limit}
use Rattle.algebra.specs.Faults.{first_of, faults, faults_in}
use Rattle.algebra.specs.Writing.{needs, writes}
use Rattle.colour.specs.Models.{channels_of}
use Rattle.ase.specs.Grammar.{Block, group_start, group_end, colour, other, file_bytes}
use Rattle.ase.specs.Reading.{open_after}
use Rattle.ase.specs.Faults as f
use Rattle.ase.specs.Row.{RecordRow}
use Rattle.ase_writing.specs.Writing.{units_within, block_by_row, size_within, sizes, found_in, block_fault, ink_fault, fault, needed, written}
use Rattle.ase_write_judge.specs.scaffold.Parts.{standing_in}
use Rattle.ase_roundtrip.specs.Tie.{Alike, starts, ends, colours, AllAlike}

module _ (names : List ℕ) where
  found_alike : (g h : RecordRow) → g.first ≡ h.first → g.units ≡ h.units → found_in names g ≡ found_in names h
  found_alike g h a b = ap₂ (λ (p n : ℕ). pick (leb (n + 1) 65535) (number_of (body 2 n names p)) 5) a b

  units-alike : (g h : RecordRow) → g.first ≡ h.first → g.units ≡ h.units → units_within names g ≡ units_within names h
  units-alike g h a b = ap₂ (λ (p n : ℕ). nums 2 n names p) a b

  pub block-alike : (g h : RecordRow) → Alike g h → block_by_row names g ≡ block_by_row names h
  block-alike g h (starts x y a b) = rw (x, y) (ap group_start (units-alike g h a b))
  block-alike g h (ends x y) = rw (x, y)
  block-alike g h (colours x a b m c k) =
      λ i. pick (eqb (x i) 0xC001) (group_start (units-alike g h a b i)) (pick (eqb (x i) 0xC002) group_end (pick (eqb (x i) 0x0001) (colour (units-alike g h a b i) (m i) (c i) (k i)) (other (x i))))

  pub fault-alike : (d : ℕ) (g h : RecordRow) → Alike g h → block_fault names d g ≡ block_fault names d h
  unfolding f.block_fault
  fault-alike d g h (starts x y a b) = λ i. f.block_fault (found_alike g h a b i) d (block-alike g h (starts x y a b) i)
  fault-alike d g h (ends x y) = rw (x, y)
  fault-alike d g h (colours x a b m c k) = λ i. f.block_fault (found_alike g h a b i) d (block-alike g h (colours x a b m c k) i)

ink-alike : (g h : RecordRow) → Alike g h → ink_fault g ≡ ink_fault h
ink-alike g h (starts x y a b) = rw (x, y)
ink-alike g h (ends x y) = rw (x, y)
ink-alike g h (colours x a b m c k) = λ i. pick (eqb (x i) 0x0001) (pick (eqb (k i) 3) 14 (pick (eqb (k i) 4) 14 0)) 0

pub size-alike : (g h : RecordRow) → Alike g h → size_within g ≡ size_within h
size-alike g h (starts x y a b) = rw (x, y) (ap (λ (n : ℕ). 6 + (4 + 2 * n)) b)
size-alike g h (ends x y) = rw (x, y)
size-alike g h (colours x a b m c k) = λ i.
    pick (eqb (x i) 0xC001) (6 + (4 + 2 * b i)) (pick (eqb (x i) 0xC002) 6 (pick (eqb (x i) 0x0001) (12 + (4 + 2 * b i) + 4 * channels_of (m i)) 6))

-- ---- all of them

sizes-alike : (gs hs : List RecordRow) → AllAlike gs hs → sizes gs ≡ sizes hs
unfolding sizes
sizes-alike [] [] x = refl
sizes-alike [] (h ∷ hs) x = absurd x
sizes-alike (g ∷ gs) [] x = absurd x
sizes-alike (g ∷ gs) (h ∷ hs) x = ap₂ (λ (m n : ℕ). m + n) (size-alike g h x.0) (sizes-alike gs hs x.1)

inks-alike : (gs hs : List RecordRow) → AllAlike gs hs → faults ink_fault gs ≡ faults ink_fault hs
unfolding faults
inks-alike [] [] x = refl
inks-alike [] (h ∷ hs) x = absurd x
inks-alike (g ∷ gs) [] x = absurd x
inks-alike (g ∷ gs) (h ∷ hs) x = ap₂ (λ (m n : ℕ). first_of m n) (ink-alike g h x.0) (inks-alike gs hs x.1)

module _ (names : List ℕ) where
  pub blocks-alike : (gs hs : List RecordRow) → AllAlike gs hs → map (block_by_row names) gs ≡ map (block_by_row names) hs
  blocks-alike [] [] x = refl
  blocks-alike [] (h ∷ hs) x = absurd x
  blocks-alike (g ∷ gs) [] x = absurd x
  blocks-alike (g ∷ gs) (h ∷ hs) x = ap₂ (λ (b : Block) (bs : List Block). b ∷ bs) (block-alike names g h x.0) (blocks-alike gs hs x.1)

  faults-alike : (d : ℕ) (gs hs : List RecordRow) → AllAlike gs hs → faults_in (standing_in names) (block_fault names) d gs ≡ faults_in (standing_in names) (block_fault names) d hs
  unfolding faults_in
  faults-alike d [] [] x = refl
  faults-alike d [] (h ∷ hs) x = absurd x
  faults-alike d (g ∷ gs) [] x = absurd x
  faults-alike d (g ∷ gs) (h ∷ hs) x =
      ap₂ (λ (m n : ℕ). first_of m n) (fault-alike names d g h x.0)
      (faults-alike (standing_in names d g) gs hs x.1 ∙ ap (λ (b : Block). faults_in (standing_in names) (block_fault names) (open_after d b) hs) (block-alike names g h x.0))

  state-alike : (d : ℕ) (gs hs : List RecordRow) → AllAlike gs hs → state_after (standing_in names) d gs ≡ state_after (standing_in names) d hs
  unfolding state_after
  state-alike d [] [] x = refl
  state-alike d [] (h ∷ hs) x = absurd x
  state-alike d (g ∷ gs) [] x = absurd x
  state-alike d (g ∷ gs) (h ∷ hs) x = state-alike (standing_in names d g) gs hs x.1 ∙ ap (λ (b : Block). state_after (standing_in names) (open_after d b) hs) (block-alike names g h x.0)

  module _ (gs hs : List RecordRow) (x : AllAlike gs hs) where
    pub first_alike : fault names gs ≡ fault names hs
    unfolding fault f.blocks_fault
    first_alike = λ i. pick (leb (12 + sizes-alike gs hs x i) limit) (first_of (first_of (faults-alike 0 gs hs x i) (pick (eqb (state-alike 0 gs hs x i) 0) 0 9)) (inks-alike gs hs x i)) 1

    pub needed-alike : needed names gs ≡ needed names hs
    needed-alike = λ i. needs (first_alike i) (12 + sizes-alike gs hs x i)

    pub written-alike : (out : List ℕ) → written names gs out ≡ written names hs out
    written-alike out = λ i. writes (first_alike i) (12 + sizes-alike gs hs x i) (file_bytes (blocks-alike gs hs x i)) out
