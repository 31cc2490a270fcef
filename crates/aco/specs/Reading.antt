-- ACO files as they are read: what each field must be, and which fault is found first.
use Rattle.std.specs.Prelude.{ℕ, List, [], ◌∷◌, map, leb, eqb, length, get_or}
use Rattle.algebra.specs.Reader.{Res, ok, refuse, Reader, pick, Judged, fine, fault, unless, judged, give, ◌>>=◌, each, ended, limit}
use Rattle.algebra.specs.Text.{Name, name}
use Rattle.colour.specs.declared.space.Colour.{Colour}
use Rattle.colour.specs.Spaces.{known, allowed}
use Rattle.aco.specs.Grammar.{Swatch}

-- the most colours that a list has
abbrev pub most : ℕ
most = 4096

-- ---- list 1

-- space: others are 4
abbrev pub space : ℕ → Judged
space x = unless (known x) 4

-- sample k of a colour of the space x: in its range, and 0 where it is not used, else 5
abbrev pub sample : ℕ → ℕ → ℕ → Judged
sample x k v = unless (allowed x k v) 5

unfoldable pub samples : ℕ → Reader (List ℕ)
samples x = each 4 0 (λ k. judged 2 (sample x k))

-- ten bytes: space and four samples
unfoldable pub colour : Reader Colour
colour = do
  x ← judged 2 space
  vs ← samples x
  give (record { space = x; samples = vs })

-- a list's version is v, else 3
abbrev pub version : ℕ → ℕ → Judged
version v x = unless (eqb x v) 3

-- a list's version and its count
unfoldable pub heading : ℕ → (ℕ → Judged) → Reader ℕ
heading v count = do
  x ← judged 2 (version v)
  judged 2 count

-- more than 4,096 colours are 5
abbrev pub first_count : ℕ → Judged
first_count n = unless (leb n most) 5

-- ---- list 2

-- field f of a colour: 0 the space, 1 to 4 the samples
abbrev pub field_of : Colour → ℕ → ℕ
field_of c f = get_or (c.space ∷ c.samples) f 0

-- field f of record i, compared with list 1's colour and not judged by 4 or 5
abbrev pub compared : ℕ → Colour → ℕ → ℕ → Judged
compared i c f v = pick (eqb v (field_of c f)) fine (fault 7 i f)

abbrev pub repeated_field : ℕ → Colour → ℕ → Reader ℕ
repeated_field i c f = judged 2 (compared i c f)

-- a record: its colour, and its name with the place of its first unit
pub record Entry : Type 0 where
  pub colour : Colour
  pub name : Name

-- record i, whose colour in list 1 is c: its ten bytes and directly its name
unfoldable pub entry : ℕ → Colour → Reader Entry
entry i c = do
  vs ← each 5 0 (repeated_field i c)
  nm ← name 4
  give (record { colour = c; name = nm })

-- what a file holds: how many lists, and its records
pub record Contents : Type 0 where
  pub lists : ℕ
  pub records : List Entry

abbrev pub zero_colour : Colour
zero_colour = record { space = 0; samples = 0 ∷ 0 ∷ 0 ∷ 0 ∷ [] }

-- the count of list 1, n, else 7 with record 0 and field 5
abbrev pub second_count : ℕ → ℕ → Judged
second_count n m = pick (eqb m n) fine (fault 7 0 5)

-- list 2, where list 1 has the colours cs: the same count; its records; the file's end
unfoldable pub second : List Colour → Reader Contents
second cs = do
  n ← heading 2 (second_count (length cs))
  es ← each (length cs) 0 (λ i. entry i (get_or cs i zero_colour))
  ended (record { lists = 2; records = es })

-- a colour without a name: place 0 and no units
abbrev pub unnamed : Colour → Entry
unnamed c = record { colour = c; name = record { first = 0; units = [] } }

-- ---- the file

-- after list 1 the file ends, or list 2 follows
unfoldable pub after : List Colour → Reader Contents
after cs s at = pick (eqb at (length s)) (ok (record { lists = 1; records = map unnamed cs }) at) (second cs s at)

unfoldable pub lists : Reader Contents
lists = do
  n ← heading 1 first_count
  cs ← each n 0 (λ i. colour)
  after cs

-- a whole file; 1 where it is longer than the limit
unfoldable pub aco : List ℕ → Res Contents
aco s = pick (leb (length s) limit) (lists s 0) (refuse 1 0 0 0)

-- ---- records apart from the places of their names

abbrev pub swatch : Entry → Swatch
swatch e = record { space = e.colour.space; samples = e.colour.samples; name = e.name.units }
