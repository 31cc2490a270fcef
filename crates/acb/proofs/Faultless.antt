-- Books that fit their fields have no fault exactly where the grammar allows them. Assumes nothing.
use Prim.Native.Nat.{ℕ, ◌≤◌}
use mathlib.Core.Path.{◌≡◌, refl, sym, ap, subst}
use mathlib.Core.Bool.{true}
use lib.Dec.{leb, ltb}
use lib.ListN.{length}
use borrow.Author.Tests.{le-leb, ltb-true, lt-ltb}
use Rattle.algebra.specs.Numbers.{All}
use Rattle.algebra.specs.Faults.{first_of}
use Rattle.algebra.specs.Reader.{pick}
use Rattle.algebra.proofs.Tells.{first-inv, pick-none}
use native.Mathlib.Omega.{arith}
use Rattle.acb.specs.Grammar.{Tag, Ending, tagged, other, Book, AllowedRecord, Allowed}
use Rattle.acb.specs.Reading.{is_space, components_of, space}
use Rattle.acb.specs.Faults.{ending_fault, head_fault, book_fault, EndingFits, BookFits}
use Rattle.acb.proofs.Laws.{space-is, space-components, space_small, is-space}

-- ---- no fault, so allowed; allowed, so no fault

pub tested-allowed : (b : Book) → BookFits b → ltb 0 b.size ≡ true → is_space b.space ≡ true → (t : Tag) → b.tag ≡ tagged t → Allowed b
tested-allowed b f z x t e = record {
  identifier = f.identifier;
  four = f.four;
  texts = f.texts;
  count = f.count;
  size = (ltb-true 0 b.size z, f.size);
  offset = f.offset;
  components = components_of b.space;
  space = is-space b.space x;
  colours = f.colours;
  ends = t;
  tag = e;
}

ending-allowed : (e : Ending) → ending_fault e ≡ 0 → (t : Tag) × (e ≡ tagged t)
ending-allowed (tagged t) e = (t, refl)
ending-allowed (other v) e = absurd (omega arith)

-- page size 0 is 5, whatever the space is
pub page-first : (n space : ℕ) → n ≤ 65535 → head_fault 0 n 0 space ≡ 5
unfolding head_fault
page-first n space h = rw (le-leb n 65535 h)

pub faultless-allowed : (b : Book) → BookFits b → book_fault b ≡ 0 → Allowed b
unfolding book_fault head_fault
faultless-allowed b f e =
    let page : ℕ = pick (ltb 0 b.size) 0 5 in
    let hue : ℕ = pick (is_space b.space) 0 4 in
    let i = first-inv (first_of (pick (leb (length b.colours) 65535) 0 5) (first_of page hue)) (ending_fault b.tag) e in
    let j = first-inv page hue (first-inv (pick (leb (length b.colours) 65535) 0 5) (first_of page hue) i.0).1 in
    let t = ending-allowed b.tag i.1 in
    tested-allowed b f (pick-none (ltb 0 b.size) 5 (omega arith) j.0) (pick-none (is_space b.space) 4 (omega arith) j.1) t.0 t.1

pub allowed-faultless : (b : Book) → Allowed b → book_fault b ≡ 0
unfolding book_fault head_fault
allowed-faultless b a = rw (le-leb (length b.colours) 65535 (omega (arith, a.count)), lt-ltb 0 b.size a.size.0, space-is a.space) (ap ending_fault a.tag)

pub allowed-fits : (b : Book) → Allowed b → BookFits b
allowed-fits b a = record {
  identifier = a.identifier;
  four = a.four;
  texts = a.texts;
  count = a.count;
  size = a.size.1;
  offset = a.offset;
  space = space_small a.space;
  colours = subst (λ (n : ℕ). All (λ i c. AllowedRecord n c) 0 b.colours) (sym (space-components a.space)) a.colours;
  tag = subst EndingFits (sym a.tag) tt;
}
