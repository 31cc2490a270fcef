-- What the theorems say of a file, and of records that are given to a writer.
use Rattle.std.specs.Prelude.{ℕ, ◌+◌, ◌*◌, ◌^◌, ◌≤◌, ◌<◌, ◌≡◌, List, [], ◌∷◌, map, length, get_or}
use Rattle.algebra.specs.Numbers.{All}
use Rattle.algebra.specs.Reader.{ok}
use Rattle.ase.specs.Grammar.{Block, file_bytes, Unknown}
use Rattle.ase.specs.Reading.{Entry, block_of, ase}
use Rattle.ase.specs.Row.{RecordRow, given_of}
use Rattle.ase_writing.specs.Writing.{block_by_row, channels_in}

-- every number of a run fits 32 bits, as in a lent `&[u32]`
abbrev pub Words : List ℕ → Type 0
Words run = (k : ℕ) → get_or run k 0 < 256 ^ 4

-- the file b is accepted to its end, and holds the blocks bs
abbrev pub Holds : List ℕ → List Block → Type 0
Holds b bs = (es : List Entry) × (ase b ≡ ok es (length b)) × (map block_of es ≡ bs)

-- the bytes that are made of given records, whose names lie in `text`
abbrev pub made : List ℕ → List RecordRow → List ℕ
made text gs = file_bytes (map (block_by_row text) gs)

-- the records of a file that was read, as they are given to a writer
abbrev pub tabled : List Entry → List RecordRow
tabled es = map given_of es

-- ---- given records that fit their fields; they may be refused all the same

-- the count with the closing zero fits 16 bits, and the units, unless there are none, lie in `text`
pub record NameFitting (text : List ℕ) (g : RecordRow) : Type 0 where
  pub counted : g.units + 1 < 65536
  pub inside : 0 < g.units → g.first + 2 * g.units ≤ length text

-- the channels that the model has fit 32 bits; the others are spare
pub record ColourFitting (g : RecordRow) : Type 0 where
  pub model_small : g.model < 256 ^ 4
  pub four : length g.channels ≡ 4
  pub each_small : All (λ i b. b < 256 ^ 4) 0 (channels_in g)
  pub ink_small : g.ink < 65536
  -- process and not stated, which only the writer refuses, are left out
  pub no_process : g.ink ≡ 3 → ⊥
  pub no_unstated : g.ink ≡ 4 → ⊥

-- a group start, a group end or a colour: of each, what is written; or a block of another type, which is refused
pub data Fitting (text : List ℕ) (g : RecordRow) : Type 0 where
  a_group_start : g.block ≡ 0xC001 → NameFitting text g → Fitting text g
  a_group_end : g.block ≡ 0xC002 → Fitting text g
  a_colour : g.block ≡ 0x0001 → NameFitting text g → ColourFitting g → Fitting text g
  another : Unknown g.block → Fitting text g

-- ---- records that differ only in spare places

-- group starts of the same name; group ends; records of one type whose names, models, used channels and inks are the same
pub data Alike (g h : RecordRow) : Type 0 where
  starts : g.block ≡ 0xC001 → h.block ≡ 0xC001 → g.first ≡ h.first → g.units ≡ h.units → Alike g h
  ends : g.block ≡ 0xC002 → h.block ≡ 0xC002 → Alike g h
  colours : g.block ≡ h.block → g.first ≡ h.first → g.units ≡ h.units → g.model ≡ h.model → channels_in g ≡ channels_in h → g.ink ≡ h.ink → Alike g h

-- one by one
abbrev pub AllAlike : List RecordRow → List RecordRow → Type 0
AllAlike [] [] = Unit
AllAlike [] (h ∷ hs) = ⊥
AllAlike (g ∷ gs) [] = ⊥
AllAlike (g ∷ gs) (h ∷ hs) = Alike g h × AllAlike gs hs
