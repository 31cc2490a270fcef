-- The kinds of two palettes' positions, and what the loops store and count of them. Assumes nothing.
use Prim.Native.Nat.{ℕ, zero, suc, ◌+◌, ◌*◌, ◌-◌, ◌≤◌, ◌<◌}
use mathlib.Core.Path.{◌≡◌, refl, sym, ap, ap₂, ◌∙◌, subst}
use mathlib.Core.List.{List, [], ◌∷◌, ◌++◌}
use mathlib.Core.Bool.{Bool, true, false, ◌&&◌}
use lib.Dec.{eqb}
use lib.ListN.{length, get_or, drop, set, replicate, drop_of_length-le}
use lib.Seq.{sets, sets-eq, drop-cons, length-sets}
use lib.Bits.{bit_or, or_add_and, and_le_l, and_le_r}
use borrow.Author.Tests.{eq-eqb, ne_eqb, eqb-true, eqb-false, le-leb, lt-leb}
use native.Mathlib.Numerals.{add-one}
use native.Mathlib.Omega.{arith}
use Rattle.algebra.specs.Reader.{pick, limit}
use Rattle.algebra.proofs.Stores.{sets-append}
use Rattle.colour.specs.Models.{traits_of}
use Rattle.colour.specs.Channels.{bits_of, model_in}
use Rattle.colour.specs.declared.channel.Channels.{Channels}
use Rattle.colour.specs.declared.channel.Channels.TheVariants as vc
use Rattle.conversion.specs.Convert.{Converted, gives, refused, to_channels}
use Rattle.walk.specs.Names.{name_part}
use Rattle.palette.specs.Palette.{Value, samples, channels, PaletteColour}
use Rattle.palette.specs.PaletteStep.{view_of, five, counterpart_of, step_of, told_palette_step}
use Rattle.palette.specs.scaffold.Turn.{colours_in, no_colour_at, value_numbers, SoundValue, Turn}
use Rattle.palette.specs.declared.Kind.{Kind}
use Rattle.palette.specs.declared.Kind.TheVariants.{Aco, Ase}
use Rattle.palette.specs.declared.PaletteStep.{PaletteStep}
use Rattle.palette_compare.specs.Compare.{same_numbers, converts_to, same_value, kind_by, kind_of, kinds, differences, rows, Comparison, compared, refused_by, filled}
use Rattle.palette_compare.specs.scaffold.Parts.{kinds_in, kind_at, StoredTo, Positions}
use Rattle.palette_compare.proofs.Same.{same-turned, same_units}

-- ---- the loop over bytes

or_left : (a b : ℕ) → bit_or a b ≡ 0 → a ≡ 0
or_left a b e = omega (arith, or_add_and a b, and_le_l a b, and_le_r a b)

or_right : (a b : ℕ) → bit_or a b ≡ 0 → b ≡ 0
or_right a b e = omega (arith, or_add_and a b, and_le_l a b, and_le_r a b)

or-zero : (a b : ℕ) → eqb (bit_or a b) 0 ≡ eqb a 0 && eqb b 0
or-zero a b = go (eqb a 0) (eqb b 0) refl refl
  where
    none : a ≡ 0 → b ≡ 0 → bit_or a b ≡ 0
    none p q = omega (arith, or_add_and a b)

    go : (x y : Bool) → eqb a 0 ≡ x → eqb b 0 ≡ y → eqb (bit_or a b) 0 ≡ x && y
    go true true e f = eq-eqb _ _ (none (eqb-true a 0 e) (eqb-true b 0 f))
    go true false e f = ne_eqb _ _ (λ z. eqb-false b 0 f (or_right a b z))
    go false y e f = ne_eqb _ _ (λ z. eqb-false a 0 e (or_left a b z))

marked-zero : (b : Bool) → eqb (pick b 0 1) 0 ≡ b
marked-zero true = refl
marked-zero false = refl

and_assoc : (a b c : Bool) → (a && b) && c ≡ a && (b && c)
and_assoc true b c = refl
and_assoc false b c = refl

-- what was found before byte i, and the bytes from there
module _ (xs ys : List ℕ) (all : Bool) where
  pub bytes-start : all ≡ same_numbers xs ys → all ≡ eqb 0 0 && same_numbers (drop 0 xs) (drop 0 ys)
  bytes-start e = e

  pub bytes-turn : (i any k : ℕ) → i < length xs → length xs ≡ length ys → all ≡ eqb any 0 && same_numbers (drop i xs) (drop i ys) → k ≡ pick (eqb (get_or xs i 0) (get_or ys i 0)) 0 1
      → all ≡ eqb (bit_or any k) 0 && same_numbers (drop (i + 1) xs) (drop (i + 1) ys)
  unfolding same_numbers
  bytes-turn i any k h l e f =
      let rest : Bool = same_numbers (drop (suc i) xs) (drop (suc i) ys) in
      let t : Bool = eqb (get_or xs i 0) (get_or ys i 0) in
      e ∙ ap₂ (λ (a b : List ℕ). eqb any 0 && same_numbers a b) (drop-cons xs i 0 h) (drop-cons ys i 0 (omega arith))
      ∙ sym (and_assoc (eqb any 0) t rest)
      ∙ ap (λ (b : Bool). (eqb any 0 && b) && rest) (sym (ap (λ (n : ℕ). eqb n 0) f ∙ marked-zero t))
      ∙ ap (λ (b : Bool). b && rest) (sym (or-zero any k))
      ∙ ap (λ (n : ℕ). eqb (bit_or any k) 0 && same_numbers (drop n xs) (drop n ys)) (sym (add-one i))

  pub bytes-end : (i any : ℕ) → length xs ≤ i → length xs ≡ length ys → all ≡ eqb any 0 && same_numbers (drop i xs) (drop i ys) → all ≡ eqb any 0
  unfolding same_numbers
  bytes-end i any h l e =
      let g : length ys ≤ i = omega arith in
      e ∙ ap₂ (λ (a b : List ℕ). eqb any 0 && same_numbers a b) (drop_of_length-le xs h) (drop_of_length-le ys g) ∙ right (eqb any 0)
    where
      right : (b : Bool) → b && true ≡ b
      right true = refl
      right false = refl

-- ---- two values by their numbers

four_is : (vs : List ℕ) → length vs ≡ 4 → ◌≡◌ {A = List ℕ} (get_or vs 0 0 ∷ get_or vs 1 0 ∷ get_or vs 2 0 ∷ get_or vs 3 0 ∷ []) vs
four_is [] e = absurd (omega arith)
four_is (a ∷ []) e = absurd (omega arith)
four_is (a ∷ b ∷ []) e = absurd (omega arith)
four_is (a ∷ b ∷ c ∷ []) e = absurd (omega arith)
four_is (a ∷ b ∷ c ∷ d ∷ []) e = refl
four_is (a ∷ b ∷ c ∷ d ∷ f ∷ l) e = absurd (omega arith)

five-numbers : (t u : ℕ) (bs cs : List ℕ) → length bs ≡ 4 → length cs ≡ 4 → same_numbers (five t bs) (five u cs) ≡ eqb t u && same_numbers bs cs
unfolding same_numbers
five-numbers t u bs cs l m = ap₂ (λ (x y : List ℕ). eqb t u && same_numbers x y) (four_is bs l) (four_is cs m)

bits-four : (c : Channels) → length (bits_of c) ≡ 4
bits-four (vc.Rgb x y z) = refl
bits-four (vc.Cmyk x y z w) = refl
bits-four (vc.Lab x y z) = refl
bits-four (vc.Gray x) = refl

counterpart-numbers : (m : Converted Channels) (u : ℕ) (cs : List ℕ) → length cs ≡ 4 → (u ≡ 0 → ⊥) → same_numbers (counterpart_of m) (five u cs) ≡ converts_to m u cs
unfolding same_numbers
counterpart-numbers (gives c) u cs l h = five-numbers (traits_of (model_in c)).tag u (bits_of c) cs (bits-four c) l
counterpart-numbers (refused n p) u cs l h = ap (λ (b : Bool). b && same_numbers (0 ∷ 0 ∷ 0 ∷ 0 ∷ []) (get_or cs 0 0 ∷ get_or cs 1 0 ∷ get_or cs 2 0 ∷ get_or cs 3 0 ∷ [])) (ne_eqb 0 u (λ z. h (sym z)))

value_same : (k j : Kind) (a b : Value) → SoundValue k a → SoundValue j b → same_numbers (value_numbers (view_of k j) a) (value_numbers (view_of j k) b) ≡ same_value a b
value_same Aco Aco (samples x vs) (samples y ws) p q = five-numbers x y vs ws p q
value_same Aco Aco (samples x vs) (channels u cs) p q = absurd q
value_same Aco Aco (channels t bs) b p q = absurd p
value_same Aco Ase (samples x vs) (samples y ws) p q = absurd q
value_same Aco Ase (samples x vs) (channels u cs) p q = counterpart-numbers (to_channels (record { space = x; samples = vs })) u cs q.0 q.1
value_same Aco Ase (channels t bs) b p q = absurd p
value_same Ase Aco (samples x vs) b p q = absurd p
value_same Ase Aco (channels t bs) (samples y ws) p q =
    same-turned (five t bs) (counterpart_of (to_channels (record { space = y; samples = ws }))) ∙ counterpart-numbers (to_channels (record { space = y; samples = ws })) t bs p.0 p.1
value_same Ase Aco (channels t bs) (channels u cs) p q = absurd q
value_same Ase Ase (samples x vs) b p q = absurd p
value_same Ase Ase (channels t bs) (samples y ws) p q = absurd q
value_same Ase Ase (channels t bs) (channels u cs) p q = five-numbers t u bs cs p.0 q.0

-- ---- a position

-- what a step gave, by the turn
abbrev Stepped : Type 0
Stepped = List ℕ × ℕ × ℕ × ℕ

-- of two steps over the colours a and b the kind of the position, and where they leave
pub kind-turn : (k j : Kind) (s t : List ℕ) {p q p' q' : ℕ} {a b : PaletteColour} → Turn k (view_of k j) s p a q → Turn j (view_of j k) t p' b q'
    → (x y : PaletteStep) → told_palette_step x ≡ step_of (view_of k j) s p → told_palette_step y ≡ step_of (view_of j k) t p' → (kind_at s x t y ≡ kind_of a b) × (x.next ≡ q) × (y.next ≡ q')
kind-turn k j s t {a = a} {b = b} u v x y e f =
    let g = e ∙ u.step in
    let h = f ∙ v.step in
    let names : same_numbers (name_part s x.place x.units) (name_part t y.place y.units) ≡ same_numbers a.name b.name =
    ap₂ (λ (l m : List ℕ). same_numbers l m)
    (ap₂ (name_part s) (ap (λ (w : Stepped). w.1) g) (ap (λ (w : Stepped). w.2) g) ∙ u.name)
    (ap₂ (name_part t) (ap (λ (w : Stepped). w.1) h) (ap (λ (w : Stepped). w.2) h) ∙ v.name)
    ∙ same_units a.name b.name 0 0 u.fit v.fit in (
      ap₂ kind_by (ap₂ same_numbers (ap (λ (w : Stepped). w.0) g) (ap (λ (w : Stepped). w.0) h) ∙ value_same k j a.value b.value u.sound v.sound) names,
      ap (λ (w : Stepped). w.3) g,
      ap (λ (w : Stepped). w.3) h,
    )

pub kinds-at : (xs ys : List PaletteColour) (i : ℕ) → i < length xs → i < length ys → get_or (kinds xs ys) i 0 ≡ kind_of (get_or xs i no_colour_at) (get_or ys i no_colour_at)
unfolding kinds
kinds-at [] ys i h g = absurd (omega arith)
kinds-at (x ∷ xs) [] i h g = absurd (omega arith)
kinds-at (x ∷ xs) (y ∷ ys) zero h g = refl
kinds-at (x ∷ xs) (y ∷ ys) (suc i) h g = kinds-at xs ys i (omega arith) (omega arith)

pub kinds-below : (xs ys : List PaletteColour) (i : ℕ) → i < length xs → i < length (kinds xs ys)
unfolding kinds
kinds-below [] ys i h = absurd (omega arith)
kinds-below (x ∷ xs) [] zero h = omega arith
kinds-below (x ∷ xs) [] (suc i) h = omega (arith, kinds-below xs [] i (omega arith))
kinds-below (x ∷ xs) (y ∷ ys) zero h = omega arith
kinds-below (x ∷ xs) (y ∷ ys) (suc i) h = omega (arith, kinds-below xs ys i (omega arith))

-- ---- past the shorter

rest-first : (xs ys : List PaletteColour) → length ys ≤ length xs → (length (kinds xs ys) ≡ length xs) × (drop (length ys) (kinds xs ys) ≡ replicate (length xs - length ys) 4)
unfolding kinds
rest-first [] [] h = (refl, refl)
rest-first [] (y ∷ ys) h = absurd (omega arith)
rest-first (x ∷ xs) [] h =
    let r = rest-first xs [] (omega arith) in
    let z : suc (length xs - 0) ≡ suc (length xs) - 0 = omega arith in
    (ap suc r.0, ap (λ (l : List ℕ). 4 ∷ l) r.1 ∙ ap (λ (n : ℕ). replicate n 4) z)
rest-first (x ∷ xs) (y ∷ ys) h =
    let r = rest-first xs ys (omega arith) in
    let z : length xs - length ys ≡ suc (length xs) - suc (length ys) = omega arith in
    (ap suc r.0, r.1 ∙ ap (λ (n : ℕ). replicate n 4) z)

rest-second : (xs ys : List PaletteColour) → length xs ≤ length ys → (length (kinds xs ys) ≡ length ys) × (drop (length xs) (kinds xs ys) ≡ replicate (length ys - length xs) 5)
unfolding kinds
rest-second [] [] h = (refl, refl)
rest-second (x ∷ xs) [] h = absurd (omega arith)
rest-second [] (y ∷ ys) h =
    let r = rest-second [] ys (omega arith) in
    let z : suc (length ys - 0) ≡ suc (length ys) - 0 = omega arith in
    (ap suc r.0, ap (λ (l : List ℕ). 5 ∷ l) r.1 ∙ ap (λ (n : ℕ). replicate n 5) z)
rest-second (x ∷ xs) (y ∷ ys) h =
    let r = rest-second xs ys (omega arith) in
    let z : length ys - length xs ≡ suc (length ys) - suc (length xs) = omega arith in
    (ap suc r.0, r.1 ∙ ap (λ (n : ℕ). replicate n 5) z)

module _ (k : Kind) (s : List ℕ) (j : Kind) (t : List ℕ) (n m : ℕ) (en : length (colours_in k s) ≡ n) (em : length (colours_in j t) ≡ m) where
  pub first-longer : m < n → n ≤ limit → Positions k s j t m n 4
  first-longer h few =
      let r = rest-first (colours_in k s) (colours_in j t) (omega arith) in record {
        first = omega arith;
        second = omega arith;
        long = r.0 ∙ en;
        rest = subst (λ (z : ℕ). drop z (kinds_in k s j t) ≡ replicate (n - z) 4) em (r.1 ∙ ap (λ (z : ℕ). replicate (z - length (colours_in j t)) 4) en);
        differ = λ z. absurd (omega arith);
        below = omega arith;
        few = few;
      }

  pub second-longer : n ≤ m → m ≤ limit → Positions k s j t n m 5
  second-longer h few =
      let r = rest-second (colours_in k s) (colours_in j t) (omega arith) in record {
        first = omega arith;
        second = omega arith;
        long = r.0 ∙ em;
        rest = subst (λ (z : ℕ). drop z (kinds_in k s j t) ≡ replicate (m - z) 5) en (r.1 ∙ ap (λ (z : ℕ). replicate (z - length (colours_in k s)) 5) em);
        differ = λ z. absurd (omega arith);
        below = omega arith;
        few = few;
      }

-- ---- rows stored one after the other

length-rows : (i : ℕ) (ks : List ℕ) → length (rows i ks) ≡ 2 * length ks
unfolding rows
length-rows i [] = refl
length-rows i (k ∷ ks) = omega (arith, length-rows (i + 1) ks)

pub row_put : (t : List ℕ) (i k : ℕ) → set (set t (2 * i) i) (2 * i + 1) k ≡ sets t (2 * i) (rows i (k ∷ []))
unfolding rows
row_put t i k = ap (λ (n : ℕ). set (set t (2 * i) i) n k) (add-one (2 * i))

rows_next : (t : List ℕ) (i k : ℕ) (ks : List ℕ) → sets t (2 * i) (rows i (k ∷ ks)) ≡ sets (sets t (2 * i) (rows i (k ∷ []))) (2 * (i + 1)) (rows (i + 1) ks)
unfolding rows
rows_next t i k ks =
    let z : 2 * i + 2 ≡ 2 * (i + 1) = omega arith in
    sets-append (i ∷ k ∷ []) (rows (i + 1) ks) t (2 * i) ∙ ap (λ (n : ℕ). sets (sets t (2 * i) (rows i (k ∷ []))) n (rows (i + 1) ks)) z

module _ (ks t₀ : List ℕ) where
  pub stored-start : StoredTo ks t₀ t₀ 0 0
  stored-start = record { stored = refl; counted = omega arith; kept = refl }

  pub stored-turn : (t t' : List ℕ) (i d k c : ℕ) → StoredTo ks t₀ t i d → i < length ks → t' ≡ sets t (2 * i) (rows i (k ∷ [])) → k ≡ get_or ks i 0 → c ≡ pick (eqb k 0) 0 1 → StoredTo ks t₀ t' (i + 1) (d + c)
  unfolding differences
  stored-turn t t' i d k c v h e f g =
      let split : drop i ks ≡ k ∷ drop (i + 1) ks = drop-cons ks i 0 h ∙ ap₂ (λ (x n : ℕ). x ∷ drop n ks) (sym f) (sym (add-one i)) in
      let more : differences (drop i ks) ≡ c + differences (drop (i + 1) ks) = ap differences split ∙ ap (λ (x : ℕ). x + differences (drop (i + 1) ks)) (sym g) in record {
        stored = v.stored ∙ ap (λ (l : List ℕ). sets t (2 * i) (rows i l)) split ∙ rows_next t i k (drop (i + 1) ks) ∙ ap (λ (l : List ℕ). sets l (2 * (i + 1)) (rows (i + 1) (drop (i + 1) ks))) (sym e);
        counted = omega (arith, v.counted);
        kept = ap length e ∙ length-sets t (2 * i) (rows i (k ∷ [])) ∙ v.kept;
      }

-- the rows of one kind from `from` on
module _ (t₀ : List ℕ) (from to k : ℕ) where
  pub rest-start : sets t₀ (2 * from) (rows from (replicate (to - from) k)) ≡ sets t₀ (2 * from) (rows from (replicate (to - from) k))
  rest-start = refl

  pub rest-turn : (all t t' : List ℕ) (i : ℕ) → i < to → all ≡ sets t (2 * i) (rows i (replicate (to - i) k)) → t' ≡ sets t (2 * i) (rows i (k ∷ [])) → all ≡ sets t' (2 * (i + 1)) (rows (i + 1) (replicate (to - (i + 1)) k))
  rest-turn all t t' i h e f =
      let z : to - i ≡ suc (to - (i + 1)) = omega arith in
      e ∙ ap (λ (n : ℕ). sets t (2 * i) (rows i (replicate n k))) z ∙ rows_next t i k (replicate (to - (i + 1)) k) ∙ ap (λ (l : List ℕ). sets l (2 * (i + 1)) (rows (i + 1) (replicate (to - (i + 1)) k))) (sym f)

  pub rest_end : (all t : List ℕ) (i : ℕ) → to ≤ i → all ≡ sets t (2 * i) (rows i (replicate (to - i) k)) → all ≡ t
  unfolding rows
  rest_end all t i h e = let z : to - i ≡ 0 = omega arith in e ∙ ap (λ (n : ℕ). sets t (2 * i) (rows i (replicate n k))) z

all-differ : (n k : ℕ) → (k ≡ 0 → ⊥) → differences (replicate n k) ≡ n
unfolding differences
all-differ zero k h = refl
all-differ (suc n) k h = ap₂ (λ (b : Bool) (d : ℕ). pick b 0 1 + d) (ne_eqb k 0 h) (all-differ n k h) ∙ omega arith

pub differences-below : (ks : List ℕ) → differences ks ≤ length ks
unfolding differences
differences-below [] = omega arith
differences-below (k ∷ ks) = go (eqb k 0) (differences-below ks)
  where
    go : (b : Bool) → differences ks ≤ length ks → pick b 0 1 + differences ks ≤ suc (length ks)
    go true h = omega arith
    go false h = omega arith

-- ---- the whole table

-- by whether there is room
module _ (ks t : List ℕ) where
  whole : Comparison × List ℕ
  whole = (compared (length ks) (differences ks), rows 0 ks ++ drop (2 * length ks) t)

  short : Comparison × List ℕ
  short = (refused_by 0 11 0 0 0, t)

  pub filled-short : (m : ℕ) → length ks ≡ m → length t < 2 * m → (refused_by 0 11 0 0 0, t) ≡ filled ks t
  unfolding whole short
  filled-short m e h = let l : length t < 2 * length ks = omega arith in sym (ap (λ (b : Bool). pick b whole short) (lt-leb _ _ l))

  filled-whole : 2 * length ks ≤ length t → (compared (length ks) (differences ks), rows 0 ks ++ drop (2 * length ks) t) ≡ filled ks t
  unfolding whole short
  filled-whole h = sym (ap (λ (b : Bool). pick b whole short) (le-leb _ _ h))

pub filled_is : (k : Kind) (s : List ℕ) (j : Kind) (t : List ℕ) (n m r : ℕ) (t₀ t₁ t₂ : List ℕ) (d : ℕ) → Positions k s j t n m r → 2 * m ≤ length t₀ → StoredTo (kinds_in k s j t) t₀ t₁ n d → t₂ ≡ sets t₁ (2 * n) (rows n (replicate (m - n) r))
    → (compared m (d + (m - n)), t₂) ≡ filled (kinds_in k s j t) t₀
filled_is k s j t n m r t₀ t₁ t₂ d p room v e =
    let ks : List ℕ = kinds_in k s j t in
    let len : length (rows 0 ks) ≡ 2 * length ks = length-rows 0 ks in
    let fits : 2 * length ks ≤ length t₀ = omega (arith, p.long) in
    let count : d + (m - n) ≡ differences ks = sym (v.counted ∙ ap (λ (x : ℕ). d + x) (ap differences p.rest ∙ all-differ (m - n) r p.differ)) in
    let z : 0 + length (rows 0 ks) ≡ 2 * length ks = omega arith in
    let table : t₂ ≡ rows 0 ks ++ drop (2 * length ks) t₀ =
    e ∙ sym (v.stored ∙ ap (λ (l : List ℕ). sets t₁ (2 * n) (rows n l)) p.rest) ∙ sets-eq (rows 0 ks) t₀ 0 (omega arith) ∙ ap (λ (x : ℕ). rows 0 ks ++ drop x t₀) z in
    ap₂ (λ (c : Comparison) (l : List ℕ). (c, l)) (ap₂ compared (sym p.long) count) table ∙ filled-whole ks t₀ fits
