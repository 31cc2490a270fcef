-- ASE files as they are read: what each field must be, and which fault is found first.
use Rattle.std.specs.Prelude.{ℕ, ◌+◌, ◌-◌, List, Bool, true, leb, ltb, eqb, length, take}
use Rattle.algebra.specs.Chars.{chars}
use Rattle.algebra.specs.Reader.{Res, ok, refuse, Reader, then, pick, field, rule, Judged, unless, judged, give, ◌>>=◌, each, state_after, chain, ended, limit}
use Rattle.algebra.specs.Text.{Name, name}
use Rattle.colour.specs.Models.{is_model, channels_of}
use Rattle.colour.specs.Channels.{allows_bits}
use Rattle.ase.specs.Grammar.{Block, group_start, group_end, colour, other}

-- a record: a block, and of its name the place of the first unit
pub data Entry : Type 0 where
  group_start_read : Name → Entry
  group_end_read : Entry
  colour_read : Name → ℕ → List ℕ → ℕ → Entry

-- the block apart from the place of its name
abbrev pub block_of : Entry → Block
block_of (group_start_read nm) = group_start nm.units
block_of group_end_read = group_end
block_of (colour_read nm t bs k) = colour nm.units t bs k

-- ---- a payload's content

-- a group's name
unfoldable pub group_content : Reader Entry
group_content = do
  nm ← name 2
  give (group_start_read nm)

-- other models are 4
abbrev pub model : ℕ → Judged
model t = unless (is_model t) 4

-- a channel that the model does not allow is 5
abbrev pub channel : ℕ → ℕ → Judged
channel t b = unless (allows_bits t b) 5

-- 0 global, 1 spot, 2 normal, else 5
abbrev pub type : ℕ → Judged
type k = unless (leb k 2) 5

-- name, model, as many channels as the model has, type
unfoldable pub colour_content : Reader Entry
colour_content = do
  nm ← name 2
  t ← judged 4 model
  bs ← each (channels_of t) 0 (λ i. judged 4 (channel t))
  k ← judged 2 type
  give (colour_read nm t bs k)

-- what was read in a payload that ends at `end`: a field that passes its end is 13 in place of 2, and bytes left are 13, both at the length's place p
abbrev pub inside : {A : Type 0} → ℕ → ℕ → Res A → Res A
inside p end (ok a q) = pick (eqb q end) (ok a q) (refuse 13 p 0 0)
inside p end (refuse x q r f) = pick (eqb x 2) (refuse 13 p 0 0) (refuse x q r f)

-- a reader of the payload of n bytes of the block at `at`: two bytes of type, four of length at `at + 2`, the payload at `at + 6`. It sees the file up to
-- the payload's end
abbrev pub within : {A : Type 0} → Reader A → ℕ → Reader A
within p n s at = inside (at + 2) (at + 6 + n) (p (take (at + 6 + n) s) (at + 6))

-- ---- a block, where d groups stand open

-- at most 16 do
abbrev pub deepest : ℕ
deepest = 16

-- C001 group start, C002 group end, 0001 colour
abbrev pub is_block_type : ℕ → Bool
is_block_type t = pick (eqb t 0xC001) true (pick (eqb t 0xC002) true (eqb t 0x0001))

-- a group start: 10 before its name is read. A group end: its length is 0, else 13, and a group is open, else 9. A colour: `colour_content`
unfoldable pub content : ℕ → ℕ → ℕ → Reader Entry
content t d n s at =
    pick (eqb t 0xC001) (rule (unless (ltb d deepest) 10) at (within group_content n s at))
    (pick (eqb t 0xC002) (rule (unless (eqb n 0) 13) (at + 2) (rule (unless (ltb 0 d) 9) at (ok group_end_read (at + 6))))
    (within colour_content n s at))

-- type and length fields; then the type is known, else 4 at the block; then the payload is inside the file, else 2 at the payload; then its content
unfoldable pub block : ℕ → Reader Entry
block d s at =
    then (field 2 s at) (λ t a.
    then (field 4 s a) (λ n b.
    rule (unless (is_block_type t) 4) at
    (pick (leb n (length s - b)) (content t d n s at) (refuse 2 b 0 0))))

-- how many groups stand open after a block
abbrev pub open_after : ℕ → Block → ℕ
open_after d (group_start us) = d + 1
open_after d group_end = d - 1
open_after d (colour us t bs k) = d
open_after d (other t) = d

abbrev pub open_after_entry : ℕ → Entry → ℕ
open_after_entry d e = open_after d (block_of e)

-- ---- the file

-- a number that is not v is 3
abbrev pub fixed_number : ℕ → ℕ → Judged
fixed_number v x = unless (eqb x v) 3

-- `ASEF`, 1, 0; the block count
unfoldable pub heading : Reader ℕ
heading = do
  x ← judged 4 (fixed_number (chars "ASEF"))
  v ← judged 2 (fixed_number 1)
  w ← judged 2 (fixed_number 0)
  field 4

-- n blocks, and no group is left open, else 9 behind the last block
unfoldable pub blocks : ℕ → Reader (List Entry)
blocks n s at = then (chain open_after_entry block n 0 s at) (λ es q. rule (unless (eqb (state_after open_after_entry 0 es) 0) 9) q (ok es q))

-- heading, blocks, and nothing behind them
unfoldable pub palette : Reader (List Entry)
palette = do
  n ← heading
  es ← blocks n
  ended es

-- a whole file; 1 where it is longer than the limit
unfoldable pub ase : List ℕ → Res (List Entry)
ase s = pick (leb (length s) limit) (palette s 0) (refuse 1 0 0 0)
