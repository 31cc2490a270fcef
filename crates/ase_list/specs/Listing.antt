-- What is listed of an ASE file: docs/LISTINGS.md.
use Rattle.std.specs.Prelude.{ℕ, List, [], ◌++◌, Option, Some, None, length, take, eqb}
use Rattle.algebra.specs.Reader.{Res, ok, refuse, pick}
use Rattle.algebra.specs.Numbers.{joined}
use Rattle.colour.specs.Models.{model_of, channels_of}
use Rattle.colour.specs.declared.model.Model.{Model}
use Rattle.colour.specs.declared.model.Model.TheVariants.{Rgb, Cmyk, Lab, Gray}
use Rattle.ase.specs.Reading.{Entry}
use Rattle.ase.specs.Row.{RecordRow, given_of}
use Rattle.walk.specs.Names.{name_part}
use Rattle.listing.specs.Text.{ascii, decimal, word, bits, name, lines, refusal}

abbrev pub heading : ℕ → List ℕ
heading count = ascii "ASE" ++ word count ++ ascii "\n"

-- ---- a colour

abbrev pub model : Model → List ℕ
model Rgb = ascii "RGB"
model Cmyk = ascii "CMYK"
model Lab = ascii "LAB"
model Gray = ascii "Gray"

-- the model with a tag
abbrev pub tagged : Option Model → List ℕ
tagged (Some m) = model m
tagged None = []

abbrev pub channel : ℕ → List ℕ
channel b = ascii " " ++ bits b

abbrev pub type : ℕ → List ℕ
type k = pick (eqb k 0) (ascii " global ") (pick (eqb k 1) (ascii " spot ") (ascii " normal "))

-- ---- a block, as it is handed out: a name by its place in the file s and its number of units, and four channels, of which the model has the first

abbrev pub block : List ℕ → RecordRow → List ℕ
block s g =
    pick (eqb g.block 0xC001) (ascii " group " ++ name (name_part s g.first g.units))
    (pick (eqb g.block 0xC002) (ascii " close")
    (ascii " colour " ++ (tagged (model_of g.model) ++ joined channel (take (channels_of g.model) g.channels) ++ type g.ink ++ name (name_part s g.first g.units))))

abbrev pub line : List ℕ → ℕ → Entry → List ℕ
line s i e = decimal i ++ block s (given_of e) ++ ascii "\n"

-- the listing of a file s, by what reading it gives
abbrev pub listing : List ℕ → Res (List Entry) → List ℕ
listing s (ok es q) = heading (length es) ++ lines (line s) 0 es ++ ascii "end\n"
listing s (refuse x p r f) = refusal x p
