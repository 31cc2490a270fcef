-- What is promised of two palettes that are compared. Assumes nothing.
use Prim.Native.Nat.{ℕ, ◌+◌}
use mathlib.Core.Path.{◌≡◌, refl, sym, ap, ap₂, ◌∙◌, subst}
use mathlib.Core.List.{List, [], ◌∷◌, map}
use mathlib.Core.Bool.{Bool, true, false, ◌&&◌, true≢false}
use lib.Dec.{eqb}
use borrow.Author.Tests.{eqb-true, eq-eqb}
use native.Mathlib.Omega.{arith}
use Rattle.algebra.specs.Reader.{pick}
use Rattle.colour.specs.Models.{traits_of}
use Rattle.colour.specs.Channels.{bits_of, model_in}
use Rattle.colour.specs.declared.channel.Channels.{Channels}
use Rattle.conversion.specs.Convert.{Converted, gives, refused, to_channels}
use Rattle.palette.specs.Palette.{Value, samples, channels, PaletteColour}
use Rattle.palette_compare.specs.Compare.{same_numbers, converts_to, same_value, kind_by, kind_of, kinds, differences}
use Rattle.palette_compare.specs.Promise.{Counterpart, SameColour, itself, first_converts, second_converts, SamePalette, none, one, exchanged}
use Rattle.palette_compare.proofs.Same.{both, and-true, symmetric, same-is, same-itself, same_of, same-turned}

-- ---- two colours

converts-is : (m : Converted Channels) (t : ℕ) (bs : List ℕ) → converts_to m t bs ≡ true → (c : Channels) × (m ≡ gives c) × ((traits_of (model_in c)).tag ≡ t) × (bits_of c ≡ bs)
converts-is (gives c) t bs e = let b = both (eqb (traits_of (model_in c)).tag t) (same_numbers (bits_of c) bs) e in (c, refl, eqb-true _ _ b.0, same-is (bits_of c) bs b.1)
converts-is (refused n p) t bs e = absurd (true≢false (sym e))

is-converted : (m : Converted Channels) (t : ℕ) (bs : List ℕ) (c : Channels) → m ≡ gives c → (traits_of (model_in c)).tag ≡ t → bits_of c ≡ bs → converts_to m t bs ≡ true
is-converted m t bs c e f g = ap (λ (w : Converted Channels). converts_to w t bs) e ∙ and-true (eq-eqb _ _ f) (same_of g)

same-value : (v w : Value) → same_value v w ≡ true → SameColour v w
same-value (samples x vs) (samples y ws) e =
    let b = both (eqb x y) (same_numbers vs ws) e in
    subst (SameColour (samples x vs)) (ap₂ samples (eqb-true x y b.0) (same-is vs ws b.1)) itself
same-value (channels t bs) (channels u cs) e =
    let b = both (eqb t u) (same_numbers bs cs) e in
    subst (SameColour (channels t bs)) (ap₂ channels (eqb-true t u b.0) (same-is bs cs b.1)) itself
same-value (samples x vs) (channels u cs) e = first_converts (converts-is (to_channels (record { space = x; samples = vs })) u cs e)
same-value (channels t bs) (samples y ws) e = second_converts (converts-is (to_channels (record { space = y; samples = ws })) t bs e)

value-itself : (v : Value) → same_value v v ≡ true
value-itself (samples x vs) = and-true (eq-eqb x x refl) (same-itself vs)
value-itself (channels t bs) = and-true (eq-eqb t t refl) (same-itself bs)

counterpart-same : (v w : Value) → Counterpart v w → same_value v w ≡ true
counterpart-same (samples x vs) (channels t bs) p = is-converted (to_channels (record { space = x; samples = vs })) t bs p.0 p.1 p.2 p.3
counterpart-same (samples x vs) (samples y ws) p = absurd p
counterpart-same (channels t bs) (samples y ws) p = absurd p
counterpart-same (channels t bs) (channels u cs) p = absurd p

value-turned : (v w : Value) → same_value v w ≡ same_value w v
value-turned (samples x vs) (samples y ws) = ap₂ (λ (a b : Bool). a && b) (symmetric x y) (same-turned vs ws)
value-turned (samples x vs) (channels u cs) = refl
value-turned (channels t bs) (samples y ws) = refl
value-turned (channels t bs) (channels u cs) = ap₂ (λ (a b : Bool). a && b) (symmetric t u) (same-turned bs cs)

value_same : (v w : Value) → SameColour v w → same_value v w ≡ true
value_same v w itself = value-itself v
value_same v w (first_converts p) = counterpart-same v w p
value_same v w (second_converts p) = value-turned v w ∙ counterpart-same w v p

-- ---- V8: no difference exactly if the palettes are the same

same_kind : (a b : Bool) (n : ℕ) → pick (eqb (kind_by a b) 0) 0 1 + n ≡ 0 → (a ≡ true) × (b ≡ true) × (n ≡ 0)
same_kind true true n e = (refl, refl, omega arith)
same_kind true false n e = absurd (omega arith)
same_kind false true n e = absurd (omega arith)
same_kind false false n e = absurd (omega arith)

pub same-where-none-differ : (xs ys : List PaletteColour) → differences (kinds xs ys) ≡ 0 → SamePalette xs ys
unfolding kinds differences
same-where-none-differ [] [] e = none
same-where-none-differ [] (y ∷ ys) e = absurd (omega arith)
same-where-none-differ (x ∷ xs) [] e = absurd (omega arith)
same-where-none-differ (x ∷ xs) (y ∷ ys) e =
    let s = same_kind (same_value x.value y.value) (same_numbers x.name y.name) (differences (kinds xs ys)) e in
    one (same-value x.value y.value s.0) (same-is x.name y.name s.1) (same-where-none-differ xs ys s.2)

no_kind : (x y : PaletteColour) → SameColour x.value y.value → x.name ≡ y.name → kind_of x y ≡ 0
no_kind x y c n = ap₂ kind_by (value_same x.value y.value c) (same_of n)

pub none-differ-where-same : (xs ys : List PaletteColour) → SamePalette xs ys → differences (kinds xs ys) ≡ 0
unfolding kinds differences
none-differ-where-same l m none = refl
none-differ-where-same l m (one {x} {y} {xs} {ys} c n more) =
    ap₂ (λ (k d : ℕ). pick (eqb k 0) 0 1 + d) (no_kind x y c n) (none-differ-where-same xs ys more)

-- ---- V8: a palette beside itself

palette-itself : (xs : List PaletteColour) → SamePalette xs xs
palette-itself [] = none
palette-itself (x ∷ xs) = one itself refl (palette-itself xs)

pub itself-same : (xs : List PaletteColour) → differences (kinds xs xs) ≡ 0
itself-same xs = none-differ-where-same xs xs (palette-itself xs)

-- ---- V8: two palettes exchanged

kind-exchanged : (a b : Bool) → kind_by a b ≡ exchanged (kind_by a b)
kind-exchanged true true = refl
kind-exchanged true false = refl
kind-exchanged false true = refl
kind-exchanged false false = refl

kind-turned : (x y : PaletteColour) → kind_of y x ≡ exchanged (kind_of x y)
kind-turned x y = ap₂ kind_by (value-turned y.value x.value) (same-turned y.name x.name) ∙ kind-exchanged (same_value x.value y.value) (same_numbers x.name y.name)

-- the kind of each position is the other's with 4 and 5 exchanged
pub exchanged-kinds : (xs ys : List PaletteColour) → kinds ys xs ≡ map exchanged (kinds xs ys)
unfolding kinds
exchanged-kinds [] [] = refl
exchanged-kinds [] (y ∷ ys) = ap (λ (l : List ℕ). 4 ∷ l) (exchanged-kinds [] ys)
exchanged-kinds (x ∷ xs) [] = ap (λ (l : List ℕ). 5 ∷ l) (exchanged-kinds xs [])
exchanged-kinds (x ∷ xs) (y ∷ ys) = ap₂ (λ (k : ℕ) (l : List ℕ). k ∷ l) (kind-turned x y) (exchanged-kinds xs ys)
