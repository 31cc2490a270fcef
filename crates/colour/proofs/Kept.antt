-- A colour's channels come back as the bits that they were made of. Assumes nothing.
use Prim.Native.Nat.{ℕ, ◌^◌, ◌<◌}
use mathlib.Core.Path.{◌≡◌, refl, sym, ap, ◌∙◌, subst}
use mathlib.Core.List.{List, [], ◌∷◌}
use mathlib.Core.Bool.{Bool, true, false, not, ◌&&◌, true≢false}
use lib.Dec.{T}
use lib.Ieee.{Float, nan, inf, fin, binary32, of_bits, to_bits, is_nan, eq, ne}
use lib.Ieee.Compare.{differs_from_itself}
use lib.Ieee.Bits.{nan_bits_is, to_bits-of_bits}
use lib.Ieee.Scale.{finite}
use Rattle.std.specs.Prelude.{Result, Ok, Err}
use Rattle.algebra.specs.Reader.{pick}
use Rattle.algebra.proofs.Floats.{no_nan}
use Rattle.fault.specs.declared.Fault.{Fault}
use Rattle.fault.specs.declared.Fault.TheVariants.{OutOfRange}
use Rattle.colour.specs.Channels.{in_unit, allows, channel, of_all, allows_all, colour_of, made, bits_of, used, model_in}
use Rattle.colour.specs.declared.model.Model.{Model}
use Rattle.colour.specs.declared.model.Model.TheVariants as model
use Rattle.colour.specs.declared.channel.Channels.{Channels}
use Rattle.colour.proofs.Unit.{unit-finite}

-- ---- `x == x`
pub equal_no_nan : (x : Float) → eq x x ≡ true → T (not (is_nan x))
unfolding eq is_nan
equal_no_nan nan e = absurd (subst T (sym e) tt)
equal_no_nan (inf s) e = tt
equal_no_nan (fin s m d) e = tt

pub unequal-nan : (x : Float) → eq x x ≡ false → ◌≡◌ {A = ℕ} 0x7fc0_0000 (to_bits binary32 x)
unfolding to_bits
unequal-nan x e = sym (ap (to_bits binary32) (differs_from_itself x (unfold ne in subst (λ (t : Bool). T (not t)) (sym e) tt)))

-- ---- channels that a model allows

both : (p q : Bool) → (p && q) ≡ true → (p ≡ true) × (q ≡ true)
both true q e = (refl, e)
both false q e = absurd (true≢false (sym e))

-- each channel that the model has is finite
abbrev pub Finites : Model → ℕ → ℕ → ℕ → ℕ → Type 0
Finites model.Rgb a b c d = (finite (channel a) ≡ true) × (finite (channel b) ≡ true) × (finite (channel c) ≡ true)
Finites model.Cmyk a b c d = (finite (channel a) ≡ true) × (finite (channel b) ≡ true) × (finite (channel c) ≡ true) × (finite (channel d) ≡ true)
Finites model.Lab a b c d = (finite (channel a) ≡ true) × (finite (channel b) ≡ true) × (finite (channel c) ≡ true)
Finites model.Gray a b c d = finite (channel a) ≡ true

pub made-not : (m : Model) (a b c d : ℕ) → allows_all m a b c d ≡ false → Err OutOfRange ≡ made m a b c d
made-not m a b c d h = sym (λ i. pick (h i) (Ok (colour_of m a b c d)) (Err OutOfRange))

-- the model m, by its case n
module _ (m n : Model) (a b c d : ℕ) (e : m ≡ n) where
  pub all-by : (x y z w : Bool) → x ≡ allows m (channel a) → y ≡ allows m (channel b) → z ≡ allows m (channel c) → w ≡ allows m (channel d) → of_all n x y z w ≡ allows_all m a b c d
  all-by x y z w p q r s = (λ i. of_all n (p i) (q i) (r i) (s i)) ∙ sym (λ i. of_all (e i) (allows m (channel a)) (allows m (channel b)) (allows m (channel c)) (allows m (channel d)))

  pub all-finite : allows_all m a b c d ≡ true → Finites n a b c d
  all-finite h = subst (λ (k : Model). Finites k a b c d) e (go m h)
    where
      three : (x y z : Bool) → (x && y && z) ≡ true → (x ≡ true) × (y ≡ true) × (z ≡ true)
      three x y z t = let p = both (x && y) z t in let q = both x y p.0 in (q.0, q.1, p.1)

      go : (k : Model) → allows_all k a b c d ≡ true → Finites k a b c d
      go model.Rgb t = let p = three _ _ _ t in (unit-finite _ p.0, unit-finite _ p.1, unit-finite _ p.2)
      go model.Cmyk t = let q = both _ (in_unit (channel d)) t in let p = three _ _ _ q.0 in (unit-finite _ p.0, unit-finite _ p.1, unit-finite _ p.2, unit-finite _ q.1)
      go model.Lab t = three _ _ _ t
      go model.Gray t = unit-finite _ t

  pub made-is : allows_all m a b c d ≡ true → Ok (colour_of n a b c d) ≡ made m a b c d
  made-is h = sym (λ i. pick (h i) (Ok (colour_of (e i) a b c d)) (Err OutOfRange))

-- ---- four numbers in a row
pub same-four : {a b c d a' b' c' d' : ℕ} → a ≡ a' → b ≡ b' → c ≡ c' → d ≡ d' → ◌≡◌ {A = List ℕ} (a ∷ b ∷ c ∷ d ∷ []) (a' ∷ b' ∷ c' ∷ d' ∷ [])
same-four p q r s = λ i. p i ∷ q i ∷ r i ∷ s i ∷ []

-- ---- bits of which a colour was made are its bits

inside : Result Channels Fault → Channels → Channels
inside (Ok x) y = x
inside (Err f) y = y

is_made_model : Result Channels Fault → Bool
is_made_model (Ok x) = true
is_made_model (Err f) = false

-- a colour that was made passed the test t, and is y
made-inv : (t : Bool) (y x : Channels) → pick t (Ok y) (Err OutOfRange) ≡ Ok x → (t ≡ true) × (x ≡ y)
unfolding inside is_made_model
made-inv true y x e = (refl, ap (λ (w : Result Channels Fault). inside w x) (sym e))
made-inv false y x e = absurd (true≢false (ap is_made_model (sym e)))

pub finite-kept : (b : ℕ) → b < 2 ^ 32 → finite (of_bits binary32 b) ≡ true → to_bits binary32 (of_bits binary32 b) ≡ b
finite-kept b h e = to_bits-of_bits binary32 b h (subst (λ (t : Bool). T (not t)) (nan_bits_is binary32 b) (no_nan binary32 b e))

pub bits-kept : (m : Model) (a b c d : ℕ) → a < 2 ^ 32 → b < 2 ^ 32 → c < 2 ^ 32 → d < 2 ^ 32 → (x : Channels) → made m a b c d ≡ Ok x → (model_in x ≡ m) × (bits_of x ≡ used m a b c d)
bits-kept m a b c d ha hb hc hd x e =
    let i = made-inv (allows_all m a b c d) (colour_of m a b c d) x e in
    let k = go m (all-finite m m a b c d refl i.0) in
    (ap model_in i.1 ∙ k.0, ap bits_of i.1 ∙ k.1)
  where
    go : (m : Model) → Finites m a b c d → (model_in (colour_of m a b c d) ≡ m) × (bits_of (colour_of m a b c d) ≡ used m a b c d)
    go model.Rgb f = (refl, same-four (finite-kept a ha f.0) (finite-kept b hb f.1) (finite-kept c hc f.2) refl)
    go model.Cmyk f = (refl, same-four (finite-kept a ha f.0) (finite-kept b hb f.1) (finite-kept c hc f.2) (finite-kept d hd f.3))
    go model.Lab f = (refl, same-four (finite-kept a ha f.0) (finite-kept b hb f.1) (finite-kept c hc f.2) refl)
    go model.Gray f = (refl, same-four (finite-kept a ha f) refl refl refl)
