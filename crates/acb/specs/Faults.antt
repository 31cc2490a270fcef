-- The first fault of a book that is written, by its number of the refusal table; 0 is none.
use Rattle.std.specs.Prelude.{ℕ, ◌^◌, ◌<◌, ◌≡◌, leb, ltb, length}
use Rattle.algebra.specs.Numbers.{All}
use Rattle.algebra.specs.Reader.{pick}
use Rattle.algebra.specs.Faults.{first_of}
use Rattle.acb.specs.Grammar.{Ending, tagged, other, Unknown, Book, String, AllowedRecord}
use Rattle.acb.specs.Reading.{is_space, components_of}

-- another tag is 3
abbrev pub ending_fault : Ending → ℕ
ending_fault (tagged t) = 0
ending_fault (other v) = 3

-- a header before n records, its strings found with the fault x, 0 where they are values: more records than 16 bits count are 5, page size 0 is 5, an unknown space 4
unfoldable pub head_fault : ℕ → ℕ → ℕ → ℕ → ℕ
head_fault x n size space = first_of x (first_of (pick (leb n 65535) 0 5) (first_of (pick (ltb 0 size) 0 5) (pick (is_space space) 0 4)))

-- a book as a value: its header, and last another tag; all else that fits its field is allowed
unfoldable pub book_fault : Book → ℕ
book_fault b = first_of (head_fault 0 (length b.colours) b.size b.space) (ending_fault b.tag)

abbrev pub EndingFits : Ending → Type 0
EndingFits (tagged t) = Unit
EndingFits (other v) = Unknown v

-- a book whose numbers fit their fields, whether or not they are allowed
pub record BookFits (b : Book) : Type 0 where
  pub identifier : b.identifier < 256 ^ 2
  pub four : length b.texts ≡ 4
  pub texts : All (λ k us. String us) 0 b.texts
  pub count : length b.colours < 256 ^ 2
  pub size : b.size < 256 ^ 2
  pub offset : b.offset < 256 ^ 2
  pub space : b.space < 256 ^ 2
  pub colours : All (λ k c. AllowedRecord (components_of b.space) c) 0 b.colours
  pub tag : EndingFits b.tag
