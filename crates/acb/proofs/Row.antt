-- A row's numbers and the way back. Assumes nothing.
use Prim.Native.Nat.{ℕ, ◌+◌, ◌≤◌}
use mathlib.Core.Path.{◌≡◌, refl, sym, ap, ◌∙◌}
use mathlib.Core.List.{List, [], ◌∷◌, map}
use lib.ListN.{length, take}
use native.Mathlib.Omega.{arith}
use Rattle.algebra.specs.Table.{whole}
use Rattle.algebra.proofs.Places.{joined-map}
use Rattle.algebra.proofs.Rows.{all_fit}
use Rattle.algebra.proofs.Table.{whole_back}
use Rattle.algebra.specs.Numbers.{joined, All}
use Rattle.colour.specs.Inks.{ink_number}
use Rattle.acb.specs.Grammar.{Tag, none, spot, process, States, no_ink, spot_ink, process_ink}
use Rattle.acb.specs.Reading.{Entry, Contents}
use Rattle.acb.specs.Row.{RecordRow, six, four, width, numbers, taken, given_of, tag_ink, stated, records_of}

-- six numbers are six
pub six-back : (cs : List ℕ) → length cs ≡ 6 → six cs 0 ≡ cs
six-back [] h = absurd (omega arith)
six-back (a ∷ []) h = absurd (omega arith)
six-back (a ∷ b ∷ []) h = absurd (omega arith)
six-back (a ∷ b ∷ c ∷ []) h = absurd (omega arith)
six-back (a ∷ b ∷ c ∷ d ∷ []) h = absurd (omega arith)
six-back (a ∷ b ∷ c ∷ d ∷ e ∷ []) h = absurd (omega arith)
six-back (a ∷ b ∷ c ∷ d ∷ e ∷ f ∷ []) h = refl
six-back (a ∷ b ∷ c ∷ d ∷ e ∷ f ∷ g ∷ more) h = absurd (omega arith)

-- of four places those that are used, and then spare ones
four-take : (ks : List ℕ) → length ks ≤ 4 → take (length ks) (four ks 0) ≡ ks
four-take [] h = refl
four-take (a ∷ []) h = refl
four-take (a ∷ b ∷ []) h = refl
four-take (a ∷ b ∷ c ∷ []) h = refl
four-take (a ∷ b ∷ c ∷ d ∷ []) h = refl
four-take (a ∷ b ∷ c ∷ d ∷ e ∷ more) h = absurd (omega arith)

pub four-back : (n : ℕ) (ks : List ℕ) → n ≤ 4 → length ks ≡ n → take n (four ks 0) ≡ ks
four-back n ks h l = ap (λ (j : ℕ). take j (four ks 0)) (sym l) ∙ four-take ks (omega arith)

-- a row has its width, and gives back what it was made of
pub length-numbers : (g : RecordRow) → length (numbers g) ≡ width
length-numbers g = refl

pub taken-numbers : (g : RecordRow) → length g.code ≡ 6 → length g.components ≡ 4 → taken (numbers g) ≡ g
taken-numbers g h k =
    let a = six-back g.code h in
    let b = four-back 4 g.components (omega arith) k in
    λ i. record { name = g.name; code = a i; components = b i; ink = g.ink }

-- and so do the rows of a table
pub rows-given : (c : Contents) → whole width taken (joined numbers (records_of c)) ≡ records_of c
rows-given c =
    let f : Entry → RecordRow = λ e. stated (ink_number (tag_ink c.tag)) (given_of e) in
    ap (whole width taken) (joined-map numbers f c.entries) ∙ whole_back width (λ e. numbers (f e)) taken f (λ e. Unit {0}) (omega arith) (λ e u. refl) (λ e u. refl) c.entries (all_fit 0 c.entries)

-- ---- inks

tag-states : (t : Tag) → States t (ink_number (tag_ink t))
tag-states none = no_ink
tag-states spot = spot_ink
tag-states process = process_ink

-- the ink of every record of a book, dummies too, is the one that its closing tag states
pub book-ink : (c : Contents) → All (λ k g. States c.tag g.ink) 0 (records_of c)
book-ink c = go 0 c.entries
  where
    go : (i : ℕ) (es : List Entry) → All (λ k g. States c.tag g.ink) i (map (λ e. stated (ink_number (tag_ink c.tag)) (given_of e)) es)
    go i [] = tt
    go i (e ∷ es) = (tag-states c.tag, go (i + 1) es)
