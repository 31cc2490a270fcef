-- The reader's parts accept exactly the grammar's bytes. Assumes nothing.
use Prim.Native.Nat.{ℕ, zero, suc, ◌+◌, ◌-◌, ◌^◌, ◌≤◌, ◌<◌}
use mathlib.Core.Path.{◌≡◌, refl, sym, ap, ap₂, ◌∙◌, subst}
use mathlib.Core.List.{List, [], ◌∷◌, ◌++◌, map, append-nil}
use mathlib.Core.Bool.{Bool, true, false, true≢false}
use lib.Dec.{leb, eqb}
use lib.ListN.{length, get_or}
use lib.Seq.{ext_get_or}
use borrow.Author.Tests.{leb-true, le-leb, eqb-true, eq-eqb, ltb-true, le-ltb}
use native.Mathlib.Omega.{arith}
use native.Mathlib.Nat.{zero-add}
use Rattle.algebra.specs.Numbers.{be, joined, Bytes, All}
use Rattle.algebra.specs.Reader.{pick, Judged, fine, judged, give, ◌>>=◌, each}
use Rattle.algebra.specs.Text.{Name, name, name_bytes, Named}
use Rattle.algebra.specs.Algebra.{Lawful, Exact}
use Rattle.algebra.proofs.Lawful.{judged-lawful, give-lawful, bind-lawful, each-lawful, name-lawful}
use Rattle.algebra.proofs.Exact.{all_map, all_from, all-at, all-by, map-id, judged-exact, same-exact, one-exact, give-exact, bind-exact, each-exact, name-exact}
use Rattle.colour.specs.declared.space.Colour.{Colour}
use Rattle.colour.specs.Spaces as spaces
use Rattle.colour.specs.Spaces.{uses, full, known, ranged, allowed}
use Rattle.colour.proofs.Laws.{chrominance-plus, chrominance-minus, allowed-small}
use Rattle.aco.specs.Grammar.{Swatch, Scale, up_to, chrominance, unused, Chrominance, plus, minus, On, Space, rgb, hsb, cmyk, lab, gray, Sample, Allowed, colour_bytes, entry_bytes}
use Rattle.aco.specs.Reading.{space, sample, samples, colour, heading, repeated_field, Entry, entry, swatch, version, compared}
use Rattle.aco.proofs.Fine.{space-fine, sample-fine, version-fine, compared-fine, fine-space, fine-sample, fine-version, fine-compared}

-- ---- the reader's table of spaces and the grammar's

pub space-known : {x : ℕ} {l : List Scale} → Space x l → known x ≡ true
unfolding uses known
space-known rgb = refl
space-known hsb = refl
space-known cmyk = refl
space-known lab = refl
space-known gray = refl

-- a space with some scales
abbrev Spaced : ℕ → Type 0
Spaced x = (l : List Scale) × Space x l

space-by : (x v n : ℕ) (b : Bool) → eqb x v ≡ b → (rest : ℕ) → Spaced v → (0 < rest → Spaced x) → 0 < pick b n rest → Spaced x
space-by x v n true e rest here more h = subst Spaced (sym (eqb-true x v e)) here
space-by x v n false e rest here more h = more h

pub known-space : (x : ℕ) → known x ≡ true → (l : List Scale) × Space x l
unfolding uses known
known-space x h =
    space-by x 0 3 (eqb x 0) refl _ (_, rgb) (space-by x 1 3 (eqb x 1) refl _ (_, hsb) (space-by x 2 4 (eqb x 2) refl _ (_, cmyk)
    (space-by x 7 3 (eqb x 7) refl _ (_, lab) (space-by x 8 1 (eqb x 8) refl _ (_, gray) (λ l. absurd (omega arith)))))) (ltb-true 0 _ h)

-- ---- the reader's ranges and the grammar's scales

-- a sample that is on a scale, tested
is_on : Scale → ℕ → Bool
is_on (up_to n) v = leb v n
is_on chrominance v = spaces.chrominance v
is_on unused v = eqb v 0

plus-or-minus : (v : ℕ) (p q r : Bool) → leb v 12700 ≡ p → leb 52736 v ≡ q → leb v 65535 ≡ r → pick p true (pick q r false) ≡ true → Chrominance v
plus-or-minus v true q r e f g h = plus v (leb-true v 12700 e)
plus-or-minus v false true true e f g h =
    let a : 52736 ≤ v = leb-true 52736 v f in
    let b : v ≤ 65535 = leb-true v 65535 g in
    let z : 65536 - (65536 - v) ≡ v = omega arith in
    subst Chrominance z (minus (65536 - v) (omega arith) (omega arith))
plus-or-minus v false true false e f g h = absurd (true≢false (sym h))
plus-or-minus v false false r e f g h = absurd (true≢false (sym h))

on-true : (x : Scale) (v : ℕ) → is_on x v ≡ true → On x v
unfolding is_on spaces.chrominance
on-true (up_to n) v e = leb-true v n e
on-true chrominance v e = plus-or-minus v (leb v 12700) (leb 52736 v) (leb v 65535) refl refl refl e
on-true unused v e = eqb-true v 0 e

true-on : (x : Scale) (v : ℕ) → On x v → is_on x v ≡ true
unfolding is_on
true-on (up_to n) v h = le-leb v n h
true-on chrominance v h = by h
  where
    by : {v : ℕ} → Chrominance v → spaces.chrominance v ≡ true
    by (plus n l) = chrominance-plus n l
    by (minus n some l) = chrominance-minus (65536 - n) (omega arith) (omega arith) ∙ le-leb 52736 (65536 - n) (omega arith)
true-on unused v e = eq-eqb v 0 e

-- the two are the same at every position; a fifth sample, which no colour has, would be 0
scale-is : {x : ℕ} {l : List Scale} → Space x l → (k v : ℕ) → allowed x k v ≡ is_on (get_or l k unused) v
unfolding is_on allowed ranged uses full
scale-is rgb zero v = refl
scale-is rgb (suc zero) v = refl
scale-is rgb (suc (suc zero)) v = refl
scale-is rgb (suc (suc (suc zero))) v = refl
scale-is rgb (suc (suc (suc (suc k)))) v = rw (le-ltb (suc (suc (suc (suc k)))) 3 (omega arith))
scale-is hsb zero v = refl
scale-is hsb (suc zero) v = refl
scale-is hsb (suc (suc zero)) v = refl
scale-is hsb (suc (suc (suc zero))) v = refl
scale-is hsb (suc (suc (suc (suc k)))) v = rw (le-ltb (suc (suc (suc (suc k)))) 3 (omega arith))
scale-is cmyk zero v = refl
scale-is cmyk (suc zero) v = refl
scale-is cmyk (suc (suc zero)) v = refl
scale-is cmyk (suc (suc (suc zero))) v = refl
scale-is cmyk (suc (suc (suc (suc k)))) v = rw (le-ltb (suc (suc (suc (suc k)))) 4 (omega arith))
scale-is lab zero v = refl
scale-is lab (suc zero) v = refl
scale-is lab (suc (suc zero)) v = refl
scale-is lab (suc (suc (suc zero))) v = refl
scale-is lab (suc (suc (suc (suc k)))) v = rw (le-ltb (suc (suc (suc (suc k)))) 3 (omega arith))
scale-is gray zero v = refl
scale-is gray (suc zero) v = refl
scale-is gray (suc (suc zero)) v = refl
scale-is gray (suc (suc (suc zero))) v = refl
scale-is gray (suc (suc (suc (suc k)))) v = rw (le-ltb (suc (suc (suc (suc k)))) 1 (omega arith))

pub allowed-sample : {x : ℕ} {l : List Scale} → Space x l → (k v : ℕ) → allowed x k v ≡ true → Sample l k v
allowed-sample {x} {l} of k v e = on-true (get_or l k unused) v (sym (scale-is of k v) ∙ e)

pub sample-allowed : {x : ℕ} {l : List Scale} → Space x l → (k v : ℕ) → Sample l k v → allowed x k v ≡ true
sample-allowed {x} {l} of k v h = scale-is of k v ∙ true-on (get_or l k unused) v h

-- every sample has 16 bits
pub sample-small : {x : ℕ} {l : List Scale} → Space x l → (k v : ℕ) → Sample l k v → v < 256 ^ 2
sample-small {x} of k v h = omega (arith, allowed-small x k v (sample-allowed of k v h))

-- ---- one colour

-- a swatch without its name
abbrev pub hue : Swatch → Colour
hue w = record { space = w.space; samples = w.samples }

abbrev pub mix : ℕ → List ℕ → Colour
mix x vs = record { space = x; samples = vs }

-- its ten bytes
abbrev pub sample_bytes : Colour → List ℕ
sample_bytes c = be 2 c.space ++ joined (be 2) c.samples

-- what the grammar asks of a swatch, apart from its name
pub record AllowedColour (c : Colour) : Type 0 where
  pub scales : List Scale
  pub of : Space c.space scales
  pub four : length c.samples ≡ 4
  pub fit : All (Sample scales) 0 c.samples

-- a colour whose numbers fit their fields
pub record Sized (c : Colour) : Type 0 where
  pub small : c.space < 256 ^ 2
  pub four : length c.samples ≡ 4
  pub each_small : All (λ k v. v < 256 ^ 2) 0 c.samples

pub space_small : {x : ℕ} {l : List Scale} → Space x l → x < 256 ^ 2
space_small rgb = omega arith
space_small hsb = omega arith
space_small cmyk = omega arith
space_small lab = omega arith
space_small gray = omega arith

pub allowed-colour-sized : (c : Colour) → AllowedColour c → Sized c
allowed-colour-sized c p = record {
  small = space_small p.of;
  four = p.four;
  each_small = all_map (Sample p.scales) (λ k v. v < 256 ^ 2) (λ k v h. sample-small p.of k v h) 0 c.samples p.fit;
}

pub allowed-allowed-colour : (w : Swatch) → Allowed w → AllowedColour (hue w)
allowed-allowed-colour w a = record { scales = a.scales; of = a.space; four = a.four; fit = a.samples }

pub allowed-colour-allowed : (w : Swatch) → AllowedColour (hue w) → Named 4 w.name → Allowed w
allowed-colour-allowed w p n = record { scales = p.scales; space = p.of; four = p.four; samples = p.fit; name = n }

-- the same by the reader's tests
abbrev pub Tested : Colour → Type 0
Tested c = ((c.space < 256 ^ 2) × (space c.space ≡ fine)) × ((length c.samples ≡ 4) × All (λ k v. (v < 256 ^ 2) × (sample c.space k v ≡ fine)) 0 c.samples)

pub allowed-colour-tested : (c : Colour) → AllowedColour c → Tested c
allowed-colour-tested c p = (
  (space_small p.of, space-fine c.space (space-known p.of)),
  (
    p.four,
    all_map (Sample p.scales) (λ k v. (v < 256 ^ 2) × (sample c.space k v ≡ fine)) (λ k v h. (sample-small p.of k v h, sample-fine c.space k v (sample-allowed p.of k v h))) 0 c.samples p.fit,
  ),
)

tested-allowed-colour : (c : Colour) → Tested c → AllowedColour c
tested-allowed-colour c t =
    let x = known-space c.space (fine-space c.space t.0.1) in record {
      scales = x.0;
      of = x.1;
      four = t.1.0;
      fit = all_map (λ k v. (v < 256 ^ 2) × (sample c.space k v ≡ fine)) (Sample x.0) (λ k v h. allowed-sample x.1 k v (fine-sample c.space k v h.1)) 0 c.samples t.1.1;
    }

-- a swatch and a record by their parts
abbrev pub label : Colour → List ℕ → Swatch
label c us = record { space = c.space; samples = c.samples; name = us }

abbrev pub named_entry : Colour → Name → Entry
named_entry c nm = record { colour = c; name = nm }

module _ (s : List ℕ) (bytes : Bytes s) where
  -- the samples of a colour of the space x, and the colour that is given
  rest-exact : (x : ℕ) → Exact s (samples x >>= (λ vs. give (mix x vs))) (λ (c : Colour). c)
      (λ c. ((length c.samples ≡ 4) × All (λ k v. (v < 256 ^ 2) × (sample c.space k v ≡ fine)) 0 c.samples) × (c.space ≡ x)) (λ c. joined (be 2) c.samples)
  unfolding samples
  rest-exact x =
      same-exact
      (bind-exact {k = λ vs. give (mix x vs)} {viewD = λ (c : Colour). c} {OkD = λ c. c.space ≡ x} {rest = λ c. []} (λ c. c.samples)
      (each-exact {p = λ k. judged 2 (sample x k)} {Ok = λ k v. (v < 256 ^ 2) × (sample x k v ≡ fine)} (λ k. judged-exact s bytes 2 (sample x k)) 4 0)
      (λ vs. same-exact (give-exact s (mix x vs) (λ (c : Colour). c)) (λ c. (c.space ≡ x) × (c.samples ≡ map (λ (v : ℕ). v) vs)) (λ c. [])
      (λ c e. (sym (ap (λ (y : Colour). y.space) e), sym (ap (λ (y : Colour). y.samples) e) ∙ sym (map-id vs)))
      (λ c e. ap₂ mix (sym e.0) (sym (e.1 ∙ map-id vs)))
      (λ c e. refl)))
      (λ c. ((length c.samples ≡ 4) × All (λ k v. (v < 256 ^ 2) × (sample c.space k v ≡ fine)) 0 c.samples) × (c.space ≡ x))
      (λ c. joined (be 2) c.samples)
      (λ c h. ((h.0.0, subst (λ (y : ℕ). All (λ k v. (v < 256 ^ 2) × (sample y k v ≡ fine)) 0 c.samples) (sym h.1) h.0.1), h.1))
      (λ c h. ((h.0.0, subst (λ (y : ℕ). All (λ k v. (v < 256 ^ 2) × (sample y k v ≡ fine)) 0 c.samples) h.1 h.0.1), h.1))
      (λ c h. append-nil (joined (be 2) c.samples))

  -- a colour
  pub colour-exact : Exact s colour (λ c. c) AllowedColour sample_bytes
  unfolding colour
  colour-exact =
      same-exact (bind-exact (λ c. c.space) (judged-exact s bytes 2 space) rest-exact) AllowedColour sample_bytes (λ c h. tested-allowed-colour c h) (λ c h. allowed-colour-tested c h) (λ c h. refl)

  -- a list's version and its count
  pub heading-exact : (v : ℕ) → v < 256 ^ 2 → (count : ℕ → Judged) → Exact s (heading v count) (λ n. n) (λ n. (n < 256 ^ 2) × (count n ≡ fine)) (λ n. be 2 v ++ be 2 n)
  unfolding heading
  heading-exact v small count =
      same-exact
      (bind-exact {k = λ x. judged 2 count} {OkD = λ n. (n < 256 ^ 2) × (count n ≡ fine)} {rest = be 2} (λ n. tt {0})
      (one-exact (judged-exact s bytes 2 (version v)) v (small, version-fine v) (λ x h. fine-version v x h.1))
      (λ x. same-exact (judged-exact s bytes 2 count) (λ n. ((n < 256 ^ 2) × (count n ≡ fine)) × (tt {0} ≡ tt)) (be 2) (λ n h. (h, refl)) (λ n h. h.0) (λ n h. refl)))
      (λ n. (n < 256 ^ 2) × (count n ≡ fine)) (λ n. be 2 v ++ be 2 n) (λ n h. h.1) (λ n h. (tt, h)) (λ n h. refl)

  -- the five fields of a record, where list 1's colour is c: they are c's
  pub repeats-exact : (i : ℕ) (c : Colour) → Sized c → Exact s (each 5 0 (repeated_field i c)) (λ vs. tt {0}) (λ u. Unit {0}) (λ u. sample_bytes c)
  unfolding joined
  repeats-exact i c p =
      one-exact (each-exact {p = repeated_field i c} {Ok = Twin} (λ f. judged-exact s bytes 2 (compared i c f)) 5 0) l
      (len, all-by Twin 0 0 l (λ k h. (all-at (λ k v. v < 256 ^ 2) 0 0 l small k h, compared-fine i c (0 + k) (get_or l k 0) (ap (λ (n : ℕ). get_or l n 0) (sym (zero-add k))))))
      (λ bs h. ext_get_or 0 bs l (h.0 ∙ sym len) (λ k g.
      fine-compared i c (0 + k) (get_or bs k 0) (all-at Twin 0 0 bs h.1 k g).1 ∙ ap (λ (n : ℕ). get_or l n 0) (zero-add k)))
    where
      l : List ℕ
      l = c.space ∷ c.samples

      Twin : ℕ → ℕ → Type 0
      Twin f v = (v < 256 ^ 2) × (compared i c f v ≡ fine)

      len : length l ≡ 5
      len = ap suc p.four

      small : All (λ k v. v < 256 ^ 2) 0 l
      small = (p.small, all_from (λ v. v < 256 ^ 2) 0 1 c.samples p.each_small)

  named-exact : (c : Colour) → Exact s (name 4 >>= (λ nm. give (named_entry c nm))) swatch (λ w. Named 4 w.name × (hue w ≡ c)) (λ w. name_bytes 4 w.name ++ [])
  named-exact c =
      bind-exact {k = λ nm. give (named_entry c nm)} {viewD = swatch} {OkD = λ w. hue w ≡ c} {rest = λ w. []} (λ w. w.name) (name-exact s 4 bytes)
      (λ nm. same-exact (give-exact s (named_entry c nm) swatch) (λ w. (hue w ≡ c) × (w.name ≡ nm.units)) (λ w. [])
      (λ w e. (sym (ap hue e), sym (ap (λ (y : Swatch). y.name) e)))
      (λ w e. ap₂ (λ (y : Colour) (us : List ℕ). label y us) (sym e.0) (sym e.1))
      (λ w e. refl))

  -- record i, where list 1's colour is c
  pub entry-exact : (i : ℕ) (c : Colour) → Sized c → Exact s (entry i c) swatch (λ w. (hue w ≡ c) × Named 4 w.name) entry_bytes
  unfolding entry entry_bytes colour_bytes
  entry-exact i c p =
      same-exact
      (bind-exact {k = λ vs. name 4 >>= (λ nm. give (named_entry c nm))} {OkD = λ w. Named 4 w.name × (hue w ≡ c)} (λ w. tt {0}) (repeats-exact i c p)
      (λ vs. same-exact (named-exact c) (λ w. (Named 4 w.name × (hue w ≡ c)) × (tt {0} ≡ tt)) (λ w. name_bytes 4 w.name ++ []) (λ w h. (h, refl)) (λ w h. h.0) (λ w h. refl)))
      (λ w. (hue w ≡ c) × Named 4 w.name) entry_bytes (λ w h. (h.1.1, h.1.0)) (λ w h. (tt, (h.1, h.0)))
      (λ w h. ap₂ (λ (y : Colour) (l : List ℕ). sample_bytes y ++ l) (sym h.0) (append-nil (name_bytes 4 w.name)))

-- ---- each moves forward, stays inside and depends only on the bytes that it passed

pub colour-lawful : Lawful colour
unfolding colour samples
colour-lawful = bind-lawful (judged 2 space) _ (judged-lawful 2 space) (λ x. bind-lawful (each 4 0 (λ k. judged 2 (sample x k))) _ (each-lawful (λ k. judged 2 (sample x k)) (λ k. judged-lawful 2 (sample x k)) 4 0) (λ vs. give-lawful (mix x vs)))

pub heading-lawful : (v : ℕ) (count : ℕ → Judged) → Lawful (heading v count)
unfolding heading
heading-lawful v count = bind-lawful (judged 2 (version v)) _ (judged-lawful 2 (version v)) (λ x. judged-lawful 2 count)

pub entry-lawful : (i : ℕ) (c : Colour) → Lawful (entry i c)
unfolding entry
entry-lawful i c = bind-lawful (each 5 0 (repeated_field i c)) _ (each-lawful (repeated_field i c) (λ f. judged-lawful 2 (compared i c f)) 5 0) (λ vs. bind-lawful (name 4) _ (name-lawful 4) (λ nm. give-lawful (named_entry c nm)))
