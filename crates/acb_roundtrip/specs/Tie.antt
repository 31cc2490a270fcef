-- What the theorems say of a file, and of a book that is given to a writer.
use Rattle.std.specs.Prelude.{ℕ, ◌+◌, ◌*◌, ◌^◌, ◌≤◌, ◌<◌, ◌≡◌, List, [], ◌∷◌, map, length}
use Rattle.algebra.specs.Numbers.{All}
use Rattle.algebra.specs.Reader.{ok}
use Rattle.acb.specs.Grammar.{Ending, Book, file_bytes}
use Rattle.acb.specs.Faults.{EndingFits}
use Rattle.acb.specs.Reading.{Contents, book_of, components_of, acb}
use Rattle.acb_judge.specs.Answer.{HeaderPlaces}
use Rattle.acb_writing.specs.Writing.{components_in, book_in, ink_fault}
use Rattle.acb.specs.Row.{RecordRow, records_of}

-- four strings and numbers of 16 bits, as in a `Header`
pub record Headed (h : HeaderPlaces) : Type 0 where
  pub four : length h.texts ≡ 4
  pub identifier_small : h.identifier < 256 ^ 2
  pub size_small : h.size < 256 ^ 2
  pub offset_small : h.offset < 256 ^ 2
  pub space_small : h.space < 256 ^ 2

-- the inks of some records, in their order
abbrev pub inks : List RecordRow → List ℕ
inks gs = map (λ g. g.ink) gs

-- the file s is accepted to its end, and holds the book b, whose records have the inks ks
abbrev pub Holds : List ℕ → Book → List ℕ → Type 0
Holds s b ks = (c : Contents) × (acb s ≡ ok c (length s)) × (book_of c ≡ b) × (inks (records_of c) ≡ ks)

-- the bytes that are made of a header, given records and a tag, whose strings and names lie in `text`
abbrev pub made : List ℕ → HeaderPlaces → Ending → List RecordRow → List ℕ
made text h t gs = file_bytes (book_in text h t gs)

-- ---- the records of a file that was read, as they are given to a writer

abbrev pub tabled : Contents → List RecordRow
tabled c = records_of c

-- ---- what is given and fits its fields; it may be refused all the same

-- the count fits 32 bits, and the units, unless there are none, lie in `text`
pub record TextFitting (text : List ℕ) (l : ℕ × ℕ) : Type 0 where
  pub counted : l.1 < 256 ^ 4
  pub inside : 0 < l.1 → l.0 + 2 * l.1 ≤ length text

-- six code bytes; the n components that the space has are bytes, another is spare
pub record Fitting (text : List ℕ) (n : ℕ) (g : RecordRow) : Type 0 where
  pub named : TextFitting text g.name
  pub six : length g.code ≡ 6
  pub code_small : All (λ i b. b < 256) 0 g.code
  pub four : length g.components ≡ 4
  pub components_small : All (λ i b. b < 256) 0 (components_in n g)

-- the number of records fits 16 bits, another tag is eight bytes that are none, and every ink is the one that the tag states, since another is refused by the writer alone (14)
pub record BookFitting (text : List ℕ) (h : HeaderPlaces) (t : Ending) (gs : List RecordRow) : Type 0 where
  pub headed : Headed h
  pub strings : All (λ k l. TextFitting text l) 0 h.texts
  pub count : length gs < 256 ^ 2
  pub records : All (λ k g. Fitting text (components_of h.space) g) 0 gs
  pub tag : EndingFits t
  pub inked : All (λ k g. ink_fault t g ≡ 0) 0 gs

-- ---- records of n components that differ only in spare places

pub record Alike (n : ℕ) (g h : RecordRow) : Type 0 where
  pub same_name : g.name ≡ h.name
  pub same_code : g.code ≡ h.code
  pub same_components : components_in n g ≡ components_in n h
  pub same_ink : g.ink ≡ h.ink

-- one by one
abbrev pub AllAlike : ℕ → List RecordRow → List RecordRow → Type 0
AllAlike n [] [] = Unit
AllAlike n [] (h ∷ hs) = ⊥
AllAlike n (g ∷ gs) [] = ⊥
AllAlike n (g ∷ gs) (h ∷ hs) = Alike n g h × AllAlike n gs hs
