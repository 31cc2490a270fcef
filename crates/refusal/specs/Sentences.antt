-- The refusal table of docs/RULES.md in words: a sentence for each number, and what is written of it.
use Rattle.std.specs.Prelude.{ℕ, List, [], ◌∷◌, length, get_or, ltb}
use Prim.Native.String.{String, [] as empty, ◌∷◌ as ◌then◌}
use Prim.Native.Char.{code}
use Rattle.algebra.specs.Reader.{pick}
use Rattle.algebra.specs.Writing.{Outcome, writes}

-- a text in ASCII
abbrev pub ascii : String → List ℕ
ascii empty = []
ascii (c then more) = code c ∷ ascii more

-- the sentences of the numbers from 0, which is no refusal
abbrev pub sentences : List String
sentences =
    "accepted"
    ∷ "the file read, or the output to be written, is longer than the limit"
    ∷ "a field needs more bytes than remain"
    ∷ "wrong signature, version or closing tag"
    ∷ "unknown colour space, block type, model, item type, form or unit"
    ∷ "a field outside its stated range"
    ∷ "bytes left over after the end"
    ∷ "the two ACO lists disagree"
    ∷ "a name badly closed"
    ∷ "groups unbalanced"
    ∷ "nested too deep"
    ∷ "the lent output is shorter than the exact need"
    ∷ "no record or page of that number"
    ∷ "ASE block length disagrees with its content"
    ∷ "colour has no counterpart in the other format"
    ∷ []

-- the sentence of a number
abbrev pub sentence : ℕ → List ℕ
sentence n = ascii (get_or sentences n "")

-- 12 for a number that the table does not have
abbrev pub number_fault : ℕ → ℕ
number_fault n = pick (ltb n (length sentences)) 0 12

-- the longest sentence, in bytes
abbrev pub most : ℕ
most = 68

-- a number's sentence into lent bytes
abbrev pub written : ℕ → List ℕ → Outcome × List ℕ
written n out = writes (number_fault n) (length (sentence n)) (sentence n) out
