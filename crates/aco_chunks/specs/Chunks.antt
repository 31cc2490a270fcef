-- ACO in chunks: what is kept between two of them, what a byte does to it, and what the end answers.
use Rattle.std.specs.Prelude.{ℕ, ◌+◌, ◌-◌, ◌*◌, List, [], ◌∷◌, ◌++◌, Bool, true, false, ltb, eqb, length}
use Rattle.algebra.specs.Reader.{Res, ok, refuse, Reader, pick, field, unless, judged, give, ◌>>=◌, each, or_zero, limit}
use Rattle.algebra.specs.Store.{stored}
use Rattle.colour.specs.declared.space.Colour.{Colour}
use Rattle.aco.specs.Reading.{colour, heading, first_count, second_count, repeated_field}
use Rattle.algebra.specs.Table.{Verdict, accepted, refused}
use Rattle.aco_chunks.specs.declared.Stage.{Stage}
use Rattle.aco_chunks.specs.declared.Stage.TheVariants as v

-- what a whole file is found to be: the number of colours and of lists, or the refusal
abbrev pub FileVerdict : Type 0
FileVerdict = Verdict (ℕ × ℕ)

-- the colour whose ten bytes stand in a store from `at`; a field that is not there is 0
abbrev pub loaded : List ℕ → ℕ → Colour
loaded store at =
    record {
      space = or_zero (field 2 store at);
      samples = or_zero (field 2 store (at + 2)) ∷ or_zero (field 2 store (at + 4)) ∷ or_zero (field 2 store (at + 6)) ∷ or_zero (field 2 store (at + 8)) ∷ [];
    }

-- ---- items: list 1's heading, a colour, list 2's heading, a record up to its name's units, a unit

-- record i of list 2, whose colour in list 1 is c, up to its count of units, which is not 0
unfoldable pub entry_head : ℕ → Colour → Reader ℕ
entry_head i c = do
  vs ← each 5 0 (repeated_field i c)
  judged 4 (λ n. unless (ltb 0 n) 8)

-- a colour, of which nothing is handed on
unfoldable pub colour_item : Reader ℕ
colour_item = do
  c ← colour
  give 0

-- a byte after list 2
abbrev pub excess : Reader ℕ
excess s at = refuse 6 at 0 0

-- the bytes of a stage's item
abbrev pub size : Stage → ℕ
size v.First = 4
size (v.Colour n i) = 10
size (v.Second n) = 4
size (v.Entry n i) = 14
size (v.Unit n i at m z) = 2
size (v.End n) = 1
size (v.Fault x p r f) = 1

-- a stage's item as the whole-file reader reads it; the colours of list 1 stand in the store
abbrev pub item : List ℕ → Stage → Reader ℕ
item store v.First = heading 1 first_count
item store (v.Colour n i) = colour_item
item store (v.Second n) = heading 2 (second_count n)
item store (v.Entry n i) = entry_head i (loaded store (10 * i))
item store (v.Unit n i at m z) = field 2
item store (v.End n) = excess
item store (v.Fault x p r f) = excess

-- ---- from an item to the next

-- colour i of n, or what follows list 1
abbrev pub colours : ℕ → ℕ → Stage
colours n i = pick (ltb i n) (v.Colour n i) (v.Second n)

-- record i of n, or the end
abbrev pub entries : ℕ → ℕ → Stage
entries n i = pick (ltb i n) (v.Entry n i) (v.End n)

-- after a unit u with m to come before it: the last is zero and no other, else 8 at the count
abbrev pub unit_done : ℕ → ℕ → ℕ → ℕ → Bool → Bool → Stage
unit_done n i at m z true = pick (eqb m 1) (pick z (v.Fault 8 at 0 0) (entries n (i + 1))) (v.Unit n i at (m - 1) true)
unit_done n i at m z false = pick (eqb m 1) (v.Fault 8 at 0 0) (v.Unit n i at (m - 1) z)

-- the item of a stage began at `from` and gave u
abbrev pub next : Stage → ℕ → ℕ → Stage
next v.First from u = colours u 0
next (v.Colour n i) from u = colours n (i + 1)
next (v.Second n) from u = entries n 0
next (v.Entry n i) from u = v.Unit n i (from + 10) u false
next (v.Unit n i at m z) from u = unit_done n i at m z (eqb u 0)
next (v.End n) from u = v.End n
next (v.Fault x p r f) from u = v.Fault x p r f

-- the same of what reading the item's bytes alone gave, whose places count from the item's first byte
abbrev pub after : Stage → ℕ → Res ℕ → Stage
after g from (ok u q) = next g from u
after g from (refuse x p r f) = v.Fault x (from + p) r f

-- a colour of list 1 without a fault is put into the store
abbrev pub kept : Stage → Res ℕ → List ℕ → List ℕ → List ℕ
kept v.First m b store = store
kept (v.Colour n i) (ok u q) b store = stored store (10 * i) b
kept (v.Colour n i) (refuse x p r f) b store = store
kept (v.Second n) m b store = store
kept (v.Entry n i) m b store = store
kept (v.Unit n i at k z) m b store = store
kept (v.End n) m b store = store
kept (v.Fault x p r f) m b store = store

-- ---- a byte, a chunk, chunks

-- what is kept between two bytes: how many came, the bytes of the item that has begun, the store
pub record Progress : Type 0 where
  pub stage : Stage
  pub total : ℕ
  pub carry : List ℕ
  pub store : List ℕ

-- before the first byte
abbrev pub begin : List ℕ → Progress
begin store = record { stage = v.First; total = 0; carry = []; store = store }

-- a fault has been found
abbrev pub is_fault : Stage → Bool
is_fault v.First = false
is_fault (v.Colour n i) = false
is_fault (v.Second n) = false
is_fault (v.Entry n i) = false
is_fault (v.Unit n i at m z) = false
is_fault (v.End n) = false
is_fault (v.Fault x p r f) = true

-- the item's bytes are all there
abbrev pub whole : Stage → ℕ → List ℕ → List ℕ → Progress
whole g total b store =
    record {
      stage = after g (total - length b) (item store g b 0);
      total = total;
      carry = [];
      store = kept g (item store g b 0) b store;
    }

abbrev pub carried_further : Bool → Stage → ℕ → List ℕ → List ℕ → Progress
carried_further true g total b store = whole g total b store
carried_further false g total b store = record { stage = g; total = total; carry = b; store = store }

-- after the first fault bytes are only counted
abbrev pub unless_fault : Bool → Progress → ℕ → Progress
unless_fault true g b = record { stage = g.stage; total = g.total + 1; carry = g.carry; store = g.store }
unless_fault false g b = carried_further (eqb (length g.carry + 1) (size g.stage)) g.stage (g.total + 1) (g.carry ++ (b ∷ [])) g.store

-- bytes past the limit change nothing but that there are some
abbrev pub limited : Bool → Progress → ℕ → Progress
limited true g b = unless_fault (is_fault g.stage) g b
limited false g b = record { stage = g.stage; total = limit + 1; carry = g.carry; store = g.store }

unfoldable pub byte : Progress → ℕ → Progress
byte g b = limited (ltb g.total limit) g b

unfoldable pub chunk : Progress → List ℕ → Progress
chunk g [] = g
chunk g (b ∷ bs) = chunk (byte g b) bs

unfoldable pub chunks : Progress → List (List ℕ) → Progress
chunks g [] = g
chunks g (c ∷ cs) = chunks (chunk g c) cs

-- ---- the end

-- an item that is cut short is refused as the whole-file reader refuses it; one that is whole stands only in an altered state
abbrev pub cut : ℕ → Res ℕ → FileVerdict
cut from (ok u q) = refused 5 0 0 0
cut from (refuse x p r f) = refused x (from + p) r f

abbrev pub second : ℕ → List ℕ → FileVerdict → FileVerdict
second n [] w = accepted (n, 1)
second n (b ∷ bs) w = w

unfoldable pub ending : Stage → ℕ → List ℕ → List ℕ → FileVerdict
ending v.First from b store = cut from (item store v.First b 0)
ending (v.Colour n i) from b store = cut from (item store (v.Colour n i) b 0)
ending (v.Second n) from b store = second n b (cut from (item store (v.Second n) b 0))
ending (v.Entry n i) from b store = cut from (item store (v.Entry n i) b 0)
ending (v.Unit n i at m z) from b store = refused 2 (at + 4) 0 0
ending (v.End n) from b store = accepted (n, 2)
ending (v.Fault x p r f) from b store = refused x p r f

unfoldable pub answer : Progress → FileVerdict
answer g = pick (ltb limit g.total) (refused 1 0 0 0) (ending g.stage (g.total - length g.carry) g.carry g.store)
