-- A whole colour's conversion, by those of its samples. Assumes nothing.
use Prim.Native.Nat.{ℕ, ◌-◌, ◌<◌}
use mathlib.Core.Path.{◌≡◌, refl, sym, ap, ◌∙◌}
use mathlib.Core.Bool.{true}
use mathlib.Core.List.{[], ◌∷◌}
use native.Mathlib.Omega.{arith}
use lib.Dec.{eqb}
use lib.ListN.{get_or}
use lib.Ieee.{Float}
use Rattle.algebra.specs.Reader.{pick}
use Rattle.colour.specs.Spaces.{uses, full, allowed, sound}
use Rattle.colour.specs.Channels.{model_in}
use Rattle.colour.specs.declared.model.Model.{Model}
use Rattle.colour.specs.declared.space.Colour.{Colour}
use Rattle.colour.specs.declared.channel.Channels.{Channels}
use Rattle.colour.specs.declared.channel.Channels.TheVariants.{Rgb, Cmyk, Gray}
use Rattle.conversion.specs.Convert.{Converted, gives, refused, and_then, channel_at, to_channel, to_channels, Counterparts, lights, inks, grays}
use Rattle.conversion.specs.Scale.{channel_of}
use Rattle.colour.proofs.Laws.{sound-inv, allowed-used, ranged-full}

-- where the first sample is refused, so is the colour
pub whole-refused : (c : Colour) (n : ℕ) → refused n 0 ≡ channel_at c 0 → refused n 0 ≡ to_channels c
unfolding to_channels
whole-refused c n h = rw (sym h)

pub whole-rgb : (c : Colour) (p q r : Float) → c.space ≡ 0 → gives p ≡ channel_at c 0 → gives q ≡ channel_at c 1 → gives r ≡ channel_at c 2 → gives (Rgb p q r) ≡ to_channels c
unfolding to_channels
whole-rgb c p q r k h i j = rw (sym h, sym i, sym j, k)

pub whole-cmyk : (c : Colour) (p q r t : Float) → c.space ≡ 2 → gives p ≡ channel_at c 0 → gives q ≡ channel_at c 1 → gives r ≡ channel_at c 2 → gives t ≡ channel_at c 3 → gives (Cmyk p q r t) ≡ to_channels c
unfolding to_channels
whole-cmyk c p q r t k h i j l = rw (sym h, sym i, sym j, sym l, k)

pub whole-gray : (c : Colour) (t : Converted Channels) → c.space ≡ 8 → t ≡ and_then (to_channel 8 (get_or c.samples 0 0)) (λ p. gives (Gray p)) → t ≡ to_channels c
unfolding to_channels
whole-gray c t k h = h ∙ ap (λ (x : ℕ). and_then (to_channel x (get_or c.samples 0 0)) (λ p. gives (Gray p))) (sym k) ∙ go (channel_at c 0)
  where
    go : (x : Converted Float) → and_then x (λ p. gives (Gray p)) ≡ and_then x (λ p. pick (eqb c.space 8) (gives (Gray p)) (and_then (channel_at c 1) (λ q. and_then (channel_at c 2) (λ r. pick (eqb c.space 2) (and_then (channel_at c 3) (λ t. gives (Cmyk p q r t))) (gives (Rgb p q r))))))
    go (gives p) = rw k
    go (refused n q) = refl

-- ---- what a colour of a palette becomes

-- RGB and CMYK allow the same at every position that they use
whole-first : (x k v : ℕ) → (x ≡ 7 → ⊥) → k < uses x → allowed x k v ≡ true → allowed x 0 v ≡ true
whole-first x k v other h e =
    let first : 0 < uses x = omega arith in
    allowed-used x 0 v first ∙ ranged-full x 0 v other ∙ sym (allowed-used x k v h ∙ ranged-full x k v other) ∙ e

-- a sound colour of RGB, CMYK or gray has channels, and they are its model's
pub sound-given : {x : ℕ} {m : Model} → Counterparts x m → (a b c d : ℕ) → sound x (a ∷ b ∷ c ∷ d ∷ []) ≡ true → (y : Channels) × (to_channels (record { space = x; samples = a ∷ b ∷ c ∷ d ∷ [] }) ≡ gives y) × (model_in y ≡ m)
unfolding to_channels to_channel uses
sound-given lights a b c d h =
    let s = sound-inv 0 a b c d h in
    (Rgb (channel_of (full 0) a) (channel_of (full 0) b) (channel_of (full 0) c), rw (s.first, whole-first 0 1 b (λ e. omega arith) (omega arith) s.second, whole-first 0 2 c (λ e. omega arith) (omega arith) s.third), refl)
sound-given inks a b c d h =
    let s = sound-inv 2 a b c d h in (
      Cmyk (channel_of (full 2) (full 2 - a)) (channel_of (full 2) (full 2 - b)) (channel_of (full 2) (full 2 - c)) (channel_of (full 2) (full 2 - d)),
      rw (s.first, whole-first 2 1 b (λ e. omega arith) (omega arith) s.second, whole-first 2 2 c (λ e. omega arith) (omega arith) s.third, whole-first 2 3 d (λ e. omega arith) (omega arith) s.fourth),
      refl,
    )
sound-given grays a b c d h =
    let s = sound-inv 8 a b c d h in
    (Gray (channel_of (full 8) a), rw s.first, refl)
