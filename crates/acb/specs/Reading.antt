-- ACB books as they are read: what each field must be, and which fault is found first.
use Rattle.std.specs.Prelude.{ℕ, List, map, Bool, true, leb, ltb, eqb, length}
use Rattle.algebra.specs.Chars.{chars}
use Rattle.algebra.specs.Reader.{Res, ok, refuse, Reader, then, pick, field, body, Judged, unless, judged, give, ◌>>=◌, each, ended, limit}
use Rattle.algebra.specs.Text.{Name}
use Rattle.colour.specs.Spaces.{rgb, cmyk, lab}
use Rattle.acb.specs.Grammar.{Colour, Tag, none, spot, process, tagged, Book}

-- ---- records

-- a string: a count of units and the units, with no closing zero
unfoldable pub string : Reader Name
string s at =
    then (field 4 s at) (λ n first.
    then (body 2 n s first) (λ us end.
    ok (record { first = first; units = us }) end))

-- a record that was read: of its name also the place of the first unit
pub record Entry : Type 0 where
  pub name : Name
  pub code : List ℕ
  pub components : List ℕ

-- name, six code bytes that are one field, n components of a byte each
unfoldable pub colour : ℕ → Reader Entry
colour n = do
  nm ← string
  cs ← body 1 6
  ks ← each n 0 (λ i. field 1)
  give (record { name = nm; code = cs; components = ks })

-- ---- the header

-- RGB, CMYK and Lab
abbrev pub is_space : ℕ → Bool
is_space x = pick (eqb x rgb) true (pick (eqb x cmyk) true (eqb x lab))

-- 3 components, 4 in CMYK
abbrev pub components_of : ℕ → ℕ
components_of x = pick (eqb x cmyk) 4 3

-- a page of no records is 5
abbrev pub page_size : ℕ → Judged
page_size z = unless (ltb 0 z) 5

-- other spaces are 4
abbrev pub space : ℕ → Judged
space x = unless (is_space x) 4

-- colour count, page size, page offset, space
pub record Numbers : Type 0 where
  pub count : ℕ
  pub size : ℕ
  pub offset : ℕ
  pub space : ℕ

-- `texts` are title, prefix, suffix and description
pub record Header : Type 0 where
  pub identifier : ℕ
  pub texts : List Name
  pub numbers : Numbers

-- `8BCB`, else 3
abbrev pub signature : ℕ → Judged
signature x = unless (eqb x (chars "8BCB")) 3

-- another version than 1 is 3
abbrev pub version : ℕ → Judged
version v = unless (eqb v 1) 3

-- signature, version, identifier
unfoldable pub opening : Reader ℕ
opening = do
  x ← judged 4 signature
  v ← judged 2 version
  field 2

-- title, prefix, suffix, description
unfoldable pub strings : Reader (List Name)
strings = each 4 0 (λ k. string)

unfoldable pub numbers : Reader Numbers
numbers = do
  n ← field 2
  z ← judged 2 page_size
  o ← field 2
  x ← judged 2 space
  give (record { count = n; size = z; offset = o; space = x })

unfoldable pub header : Reader Header
header = do
  i ← opening
  ts ← strings
  ns ← numbers
  give (record { identifier = i; texts = ts; numbers = ns })

-- ---- the file

abbrev pub is_tag : ℕ → Bool
is_tag t = pick (eqb t (chars "spflspot")) true (eqb t (chars "spflproc"))

-- `spflspot` or `spflproc`
abbrev pub tag_of : ℕ → Tag
tag_of t = pick (eqb t (chars "spflspot")) spot process

-- other tags are 3
abbrev pub tag : ℕ → Judged
tag t = unless (is_tag t) 3

-- nothing, or a tag, and then nothing more, else 6; fewer than its eight bytes are 2
unfoldable pub closing : Reader Tag
closing s at =
    pick (eqb at (length s)) (ok none at)
    (then (judged 8 tag s at) (λ t q. ended (tag_of t) s q))

-- a file that was read, and the place of its first record
pub record Contents : Type 0 where
  pub header : Header
  pub first : ℕ
  pub entries : List Entry
  pub tag : Tag

-- the header, as many records as it says, and the closing tag
unfoldable pub book : Reader Contents
book s at =
    then (header s at) (λ h first.
    then (each h.numbers.count 0 (λ i. colour (components_of h.numbers.space)) s first) (λ es q.
    then (closing s q) (λ t end.
    ok (record { header = h; first = first; entries = es; tag = t }) end)))

-- a whole file; 1 where it is longer than the limit
unfoldable pub acb : List ℕ → Res Contents
acb s = pick (leb (length s) limit) (book s 0) (refuse 1 0 0 0)

-- ---- the book apart from the places of its strings

abbrev pub colour_of : Entry → Colour
colour_of e = record { name = e.name.units; code = e.code; components = e.components }

abbrev pub book_of : Contents → Book
book_of c = record {
  identifier = c.header.identifier;
  texts = map (λ (nm : Name). nm.units) c.header.texts;
  size = c.header.numbers.size;
  offset = c.header.numbers.offset;
  space = c.header.numbers.space;
  colours = map colour_of c.entries;
  tag = tagged c.tag;
}
