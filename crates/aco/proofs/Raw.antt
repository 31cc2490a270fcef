-- The colours of an accepted list 1 are those that stand at their places. Assumes nothing.
use Prim.Native.Nat.{ℕ, zero, suc, ◌+◌, ◌*◌, ◌-◌, ◌≤◌, ◌<◌}
use mathlib.Core.Path.{◌≡◌, refl, sym, ap, ap₂, ◌∙◌}
use mathlib.Core.List.{List, ◌∷◌}
use mathlib.Core.Bool.{true}
use lib.ListN.{length, get_or}
use native.Mathlib.Omega.{arith}
use native.Mathlib.Nat.{add-zero}
use Rattle.algebra.specs.Numbers.{num, nums}
use Rattle.algebra.specs.Reader.{ok, fine, judged, each}
use Rattle.algebra.proofs.Places.{getD-nums}
use Rattle.algebra.proofs.Inverse.{then-inv, judged-inv, fields-inv, fields-fine, fields-inside, each_none, each-inv, each-moves, ok-value, ok-place}
use Rattle.colour.specs.declared.space.Colour.{Colour}
use Rattle.colour.specs.Spaces.{known, allowed}
use Rattle.aco.specs.Reading.{space, sample, samples, colour, field_of, zero_colour}
use Rattle.aco.specs.scaffold.Raw.{raw_colour, raw_colours}
use Rattle.aco.proofs.Fine.{fine-space, fine-sample}

-- ---- one colour

-- an accepted colour: its ten bytes are inside the file, its space is known and its samples are allowed
pub record Good (s : List ℕ) (at : ℕ) : Type 0 where
  pub inside : at + 10 ≤ length s
  pub is_known : known (num 2 s at) ≡ true
  pub are_allowed : (k : ℕ) → k < 4 → allowed (num 2 s at) k (num 2 s (at + 2 + 2 * k)) ≡ true

colour-parts : (s : List ℕ) (at : ℕ) (c : Colour) (q x r : ℕ) (vs : List ℕ) (z : ℕ) → (2 ≤ length s - at) × (num 2 s at ≡ x) × (at + 2 ≡ r) × (space x ≡ fine) → (nums 2 4 s r ≡ vs) × (r + 4 * 2 ≡ z) → z ≤ length s
    → ((k : ℕ) → k < 4 → sample x (0 + k) (num 2 s (r + 2 * k)) ≡ fine) → ok (record { space = x; samples = vs }) z ≡ ok c q → (raw_colour s at ≡ c) × (at + 10 ≡ q) × Good s at
colour-parts s at c q x r vs z f g le each-fine e = (
  ap₂ (λ (v : ℕ) (l : List ℕ). record { space = v; samples = l }) f.1 (ap (λ (p : ℕ). nums 2 4 s p) f.2 ∙ g.0) ∙ ok-value e,
  omega (arith, ok-place e),
  record {
    inside = omega arith;
    is_known = ap known f.1 ∙ fine-space x f.3;
    are_allowed = λ k h.
        let i : k ≡ 0 + k = omega arith in
        let p : at + 2 + 2 * k ≡ r + 2 * k = omega arith in
        ap (λ (v : ℕ). allowed v k (num 2 s (at + 2 + 2 * k))) f.1 ∙ ap₂ (λ (j n : ℕ). allowed x j (num 2 s n)) i p ∙ fine-sample x (0 + k) (num 2 s (r + 2 * k)) (each-fine k h);
  },
)

pub colour-inv : (s : List ℕ) (at : ℕ) {c : Colour} {q : ℕ} → colour s at ≡ ok c q → (raw_colour s at ≡ c) × (at + 10 ≡ q) × Good s at
unfolding colour samples
colour-inv s at {c} {q} e =
    let t = then-inv (judged 2 space s at) _ e in
    let x = judged-inv 2 s at space t.2 in
    let u = then-inv (each 4 0 (λ k. judged 2 (sample t.0 k)) s t.1) _ t.3 in
    colour-parts s at c q t.0 t.1 u.0 u.1 x (fields-inv 2 (sample t.0) s 4 0 t.1 u.2) (fields-inside 2 (sample t.0) s 4 0 t.1 (omega arith) u.2) (fields-fine 2 (sample t.0) s 4 0 t.1 u.2) u.3

-- a colour takes ten bytes
pub colour-moves : (s : List ℕ) (at : ℕ) {c : Colour} {q : ℕ} → colour s at ≡ ok c q → (q ≡ at + 10) × (q ≤ length s)
colour-moves s at e = let i = colour-inv s at e in (omega arith, omega (arith, i.2.inside))

-- ---- a list of them

-- the colours that were read are those that stand there
pub colours-raw : (s : List ℕ) (n i at : ℕ) {cs : List Colour} {q : ℕ} → each n i (λ k. colour) s at ≡ ok cs q → (cs ≡ raw_colours n s at) × (q ≡ at + 10 * n)
unfolding raw_colours
colours-raw s zero i at e = let z = each_none (λ k. colour) s i at e in (sym z.0, omega (arith, z.1))
colours-raw s (suc n) i at e =
    let t = each-inv (λ k. colour) s n i at e in
    let x = colour-inv s at t.3 in
    let r = colours-raw s n (i + 1) t.1 t.4 in
    (sym t.5 ∙ ap₂ (λ (c : Colour) (l : List Colour). c ∷ l) (sym x.0) (r.0 ∙ ap (λ (p : ℕ). raw_colours n s p) (sym x.1)), omega arith)

pub colours-inside : (s : List ℕ) (n i at : ℕ) → at ≤ length s → {cs : List Colour} {q : ℕ} → each n i (λ k. colour) s at ≡ ok cs q → q ≤ length s
colours-inside s n i at h e = (each-moves (λ k. colour) s 10 (λ k p l c q x. colour-moves s p x) n i at h e).1

-- colour k of an accepted list
pub colours-good : (s : List ℕ) (n i at : ℕ) {cs : List Colour} {q : ℕ} → each n i (λ k. colour) s at ≡ ok cs q → (k : ℕ) → k < n → Good s (at + 10 * k)
colours-good s zero i at e k h = absurd (omega arith)
colours-good s (suc n) i at e zero h = rw (add-zero at) (colour-inv s at (each-inv (λ k. colour) s n i at e).3).2
colours-good s (suc n) i at e (suc k) h =
    let t = each-inv (λ k. colour) s n i at e in
    let p : at + 10 * suc k ≡ t.1 + 10 * k = omega (arith, colour-moves s at t.3) in
    rw p (colours-good s n (i + 1) t.1 t.4 k (omega arith))

pub length-raw : (n : ℕ) (s : List ℕ) (at : ℕ) → length (raw_colours n s at) ≡ n
unfolding raw_colours
length-raw zero s at = refl
length-raw (suc n) s at = ap suc (length-raw n s (at + 10))

-- colour i of the list stands ten bytes behind the one before
pub get_d-raw : (n : ℕ) (s : List ℕ) (at i : ℕ) → i < n → get_or (raw_colours n s at) i zero_colour ≡ raw_colour s (at + 10 * i)
unfolding raw_colours
get_d-raw zero s at i h = absurd (omega arith)
get_d-raw (suc n) s at zero h = ap (λ (p : ℕ). raw_colour s p) (sym (add-zero at))
get_d-raw (suc n) s at (suc i) h =
    let e : at + 10 + 10 * i ≡ at + 10 * suc i = omega arith in
    get_d-raw n s (at + 10) i (omega arith) ∙ ap (λ (p : ℕ). raw_colour s p) e

-- field f of the colour at a place
pub field-raw : (s : List ℕ) (at f : ℕ) → f < 5 → field_of (raw_colour s at) f ≡ num 2 s (at + 2 * f)
unfolding nums
field-raw s at f h = getD-nums 2 s 5 at f h

-- field f of colour i
pub fields-raw : (n : ℕ) (s : List ℕ) (at i f : ℕ) → i < n → f < 5 → field_of (get_or (raw_colours n s at) i zero_colour) f ≡ num 2 s (at + 10 * i + 2 * f)
fields-raw n s at i f h g = ap (λ (c : Colour). field_of c f) (get_d-raw n s at i h) ∙ field-raw s (at + 10 * i) f g
