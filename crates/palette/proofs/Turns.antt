-- A call from the place of colour i gives colour i. Assumes nothing.
use Prim.Native.Nat.{ℕ, zero, suc, ◌+◌, ◌≤◌, ◌<◌}
use mathlib.Core.Path.{◌≡◌, refl, sym, ap, ap₂, ◌∙◌, subst}
use mathlib.Core.List.{List, [], ◌∷◌, map}
use mathlib.Core.Bool.{Bool, true, false, true≢false}
use lib.Dec.{ltb, eqb, leb}
use lib.ListN.{length, get_or, take, get_or-map}
use borrow.Author.Tests.{lt-ltb, leb-true}
use native.Mathlib.Omega.{arith}
use native.Mathlib.Numerals.{add-one}
use Rattle.algebra.specs.Numbers.{nums, Bytes}
use Rattle.algebra.specs.Reader.{Res, ok, refuse, then, pick, rule, unless, judged, each, map_res, limit}
use Rattle.algebra.specs.Text.{name}
use Rattle.algebra.proofs.Inverse.{then-inv, rule-inv, pick_inv, ok-value, ok-place}
use Rattle.algebra.proofs.Exact.{length-map}
use Rattle.colour.specs.Models.{is_model, model_of, channels_of}
use Rattle.colour.specs.declared.space.Colour.{Colour}
use Rattle.aco.specs.Reading.{colour, Entry, Contents, unnamed, lists, aco, zero_colour}
use Rattle.aco.proofs.Raw.{colour-inv}
use Rattle.ase.specs.Reading.{Entry as AseEntry, group_start_read, group_end_read, colour_read, group_content, colour_content, model, channel, type, within, content, deepest, palette, ase}
use Rattle.ase.specs.Row.{four_of}
use Rattle.ase.proofs.Laws.{block-inv}
use Rattle.ase.proofs.Payload.{inside-inv}
use Rattle.ase_read.proofs.Blocks.{blocked}
use Rattle.walk.specs.Walk.{Call, gives, over, Step, place_after, call, in_turn, only}
use Rattle.walk.proofs.Calls.{in-turn-is, step-read}
use Rattle.aco_walk.specs.Walking.{is_plain, first_place, named_entry, labelled, swatch_from, walk}
use Rattle.aco_walk.specs.Answer.{call_and_place}
use Rattle.aco_walk.proofs.Walked.{colours-in-turn, given-allowed}
use Rattle.ase_walk.specs.Walking.{block_from, is_a_colour, walk as aseWalk, first_place as aseFirst}
use Rattle.ase_walk.specs.Answer.{call_and_place as aseCall}
use Rattle.ase_walk.proofs.Walked.{colours-in-turn as ase-in-turn, given-allowed as ase-given}
use Rattle.palette.specs.Palette.{channels, PaletteColour, aco_colour, aco_colours, ase_colours, colours}
use Rattle.palette.specs.PaletteStep.{first_at, view_of, aco_step, ase_step, step_of}
use Rattle.palette.specs.scaffold.Turn.{list_of, colours_in, no_colour_at, place_of, kind_seen, Turn}
use Rattle.palette.specs.declared.Kind.{Kind}
use Rattle.palette.specs.declared.Kind.TheVariants.{Aco, Ase}
use Rattle.palette.specs.declared.View.{View}
use Rattle.palette.specs.declared.View.TheVariants.{Samples, Counterparts, Channels as ChannelBits}
use Rattle.palette.proofs.Names.{Spelt, no-name-spelt, name-spelt, cut-spelt, spelt-bytes, spelt-fit}

-- ---- calls in turn

module _ {A : Type 0} (f : Step A) where
  after-suc : (at i : ℕ) → place_after f at (suc i) ≡ (f (place_after f at i)).1
  unfolding place_after
  after-suc at zero = refl
  after-suc at (suc i) = after-suc (f at).1 i

  after_next : (at i : ℕ) → place_after f at (i + 1) ≡ (f (place_after f at i)).1
  after_next at i = ap (place_after f at) (add-one i) ∙ after-suc at i

  -- a walk whose calls give the items of a list gives item i from the place of call i
  gives_at : (d : A) (xs : List A) (at : ℕ) → ((i : ℕ) → call f at i ≡ in_turn xs i) → (i : ℕ) → i < length xs → f (place_after f at i) ≡ (gives (get_or xs i d), place_after f at (i + 1))
  gives_at d xs at h i l =
      ap₂ (λ (c : Call A) (q : ℕ). (c, q)) (h i ∙ in-turn-is d xs i ∙ ap (λ (b : Bool). pick b (gives (get_or xs i d)) over) (lt-ltb i (length xs) l)) (sym (after_next at i))

-- ---- ACO

aco-spelt : (s : List ℕ) (at : ℕ) {e : Entry} {q : ℕ} → walk s at ≡ (gives e, q) → Spelt s e.name
unfolding swatch_from labelled
aco-spelt s at {e} {q} w = let t = then-inv (colour s at) _ (step-read swatch_from s at w) in go t.0 t.1 (is_plain s) t.3
  where
    go : (c : Colour) (n : ℕ) (b : Bool) → pick b (ok (unnamed c) n) (then (name 4 s n) (λ nm z. ok (named_entry c nm) z)) ≡ ok e q → Spelt s e.name
    go c n true x = subst (λ (y : Entry). Spelt s y.name) (ok-value x) (no-name-spelt s)
    go c n false x = let t = then-inv (name 4 s n) _ x in subst (λ (y : Entry). Spelt s y.name) (ok-value t.3) (name-spelt 4 s n t.2)

module _ (s : List ℕ) (bytes : Bytes s) where
  aco-turn : (v : View) (p : ℕ) → ((h : Colour × Call (ℕ × ℕ × ℕ) × ℕ) → call_and_place (walk s p) ≡ h → step_of v s p ≡ aco_step v h) → {e : Entry} {q : ℕ} → walk s p ≡ (gives e, q) → Turn Aco v s p (aco_colour e) q
  unfolding nums
  aco-turn v p by {e} {q} w =
      let g = given-allowed s p w in
      let c = colour-inv s p g.0 in
      let n = aco-spelt s p w in record {
        place = e.name.first;
        units = length e.name.units;
        step = by _ (ap call_and_place w);
        name = spelt-bytes s bytes e.name n;
        many = refl;
        fit = spelt-fit s bytes e.name n;
        sound = ap (λ (x : Colour). length x.samples) (sym c.0);
        moves = omega (arith, g.1);
        inside = g.2;
      }

  aco-turns : (v : View) → ((p : ℕ) (h : Colour × Call (ℕ × ℕ × ℕ) × ℕ) → call_and_place (walk s p) ≡ h → step_of v s p ≡ aco_step v h) → {c : Contents} {q : ℕ} → aco s ≡ ok c q → (i : ℕ) → i < length (aco_colours c) → Turn Aco v s (place_of Aco s i) (get_or (aco_colours c) i no_colour_at) (place_of Aco s (i + 1))
  unfolding place_of
  aco-turns v by {c} e i l =
      let d : Entry = unnamed zero_colour in
      let k : i < length c.records = omega (arith, length-map aco_colour c.records) in
      let w = gives_at (walk s) d c.records (first_place s) (colours-in-turn s e) i k in
      let x : aco_colour (get_or c.records i d) ≡ get_or (aco_colours c) i no_colour_at = nth aco_colour d no_colour_at c.records i k in
      subst (λ (y : PaletteColour). Turn Aco v s (place_after (walk s) (first_place s) i) y (place_after (walk s) (first_place s) (i + 1))) x (aco-turn v (place_after (walk s) (first_place s) i) (by _) w)
    where
      nth : {A B : Type 0} (f : A → B) (d : A) (b : B) (xs : List A) (i : ℕ) → i < length xs → f (get_or xs i d) ≡ get_or (map f xs) i b
      nth f d b [] i h = absurd (omega arith)
      nth f d b (x ∷ xs) zero h = refl
      nth f d b (x ∷ xs) (suc i) h = nth f d b xs i (omega arith)

-- ---- ASE

abbrev SpeltBlock : List ℕ → AseEntry → Type 0
SpeltBlock s (group_start_read nm) = Spelt s nm
SpeltBlock s group_end_read = Unit
SpeltBlock s (colour_read nm t bs k) = Spelt s nm

content-spelt : (t d n : ℕ) (s : List ℕ) (at : ℕ) {e : AseEntry} {q : ℕ} → content t d n s at ≡ ok e q → SpeltBlock s e
unfolding content group_content colour_content
content-spelt t d n s at {e} {q} x = go (eqb t 0xC001) (eqb t 0xC002) x
  where
    u : List ℕ
    u = take (at + 6 + n) s

    group : within group_content n s at ≡ ok e q → SpeltBlock s e
    group w =
        let i = inside-inv (at + 2) (at + 6 + n) (group_content u (at + 6)) w in
        let j = then-inv (name 2 u (at + 6)) _ i.0 in
        subst (SpeltBlock s) (ok-value j.3) (cut-spelt s (at + 6 + n) (name-spelt 2 u (at + 6) j.2))

    coloured : within colour_content n s at ≡ ok e q → SpeltBlock s e
    coloured w =
        let i = inside-inv (at + 2) (at + 6 + n) (colour_content u (at + 6)) w in
        let j = then-inv (name 2 u (at + 6)) _ i.0 in
        let m = then-inv (judged 4 model u j.1) _ j.3 in
        let c = then-inv (each (channels_of m.0) 0 (λ i. judged 4 (channel m.0)) u m.1) _ m.3 in
        let k = then-inv (judged 2 type u c.1) _ c.3 in
        subst (SpeltBlock s) (ok-value k.3) (cut-spelt s (at + 6 + n) (name-spelt 2 u (at + 6) j.2))

    go : (a b : Bool) → pick a (rule (unless (ltb d deepest) 10) at (within group_content n s at)) (pick b (rule (unless (eqb n 0) 13) (at + 2) (rule (unless (ltb 0 d) 9) at (ok group_end_read (at + 6)))) (within colour_content n s at)) ≡ ok e q → SpeltBlock s e
    go true b y = group (rule-inv (unless (ltb d deepest) 10) at (within group_content n s at) y).1
    go false true y =
        let i = rule-inv (unless (eqb n 0) 13) (at + 2) _ y in
        let j = rule-inv (unless (ltb 0 d) 9) at (ok group_end_read (at + 6)) i.1 in
        subst (SpeltBlock s) (ok-value j.1) tt
    go false false y = coloured y

model-tag : (t : ℕ) → is_model t ≡ true → t ≡ 0 → ⊥
unfolding is_model model_of
model-tag t h z = true≢false (sym h ∙ ap is_model z)

-- what an entry is as a palette's colour
abbrev ase_colour : AseEntry → PaletteColour
ase_colour (group_start_read nm) = no_colour_at
ase_colour group_end_read = no_colour_at
ase_colour (colour_read nm t bs k) = record { value = channels t (four_of bs); name = nm.units }

ase-only : (es : List AseEntry) → map ase_colour (only is_a_colour es) ≡ ase_colours es
unfolding ase_colours only
ase-only [] = refl
ase-only (group_start_read nm ∷ es) = ase-only es
ase-only (group_end_read ∷ es) = ase-only es
ase-only (colour_read nm t bs k ∷ es) = ap (λ (l : List PaletteColour). record { value = channels t (four_of bs); name = nm.units } ∷ l) (ase-only es)

module _ (s : List ℕ) (bytes : Bytes s) where
  ase-turn : (p : ℕ) {e : AseEntry} {q : ℕ} → aseWalk s p ≡ (gives e, q) → Turn Ase ChannelBits s p (ase_colour e) q
  ase-turn p {e} {q} w =
      let g = ase-given s p w in
      go e w g.0 g.1 g.2 g.3 g.4 g.5
    where
      go : (e : AseEntry) → aseWalk s p ≡ (gives e, q) → (r : ℕ) → p ≤ r → r + 6 ≤ q → q ≤ length s → block_from s r ≡ ok e q → is_a_colour e ≡ true → Turn Ase ChannelBits s p (ase_colour e) q
      go (group_start_read nm) w r a b c x y = absurd (true≢false (sym y))
      go group_end_read w r a b c x y = absurd (true≢false (sym y))
      go (colour_read nm t bs k) w r a b c x y =
          let n : Spelt s nm = content-spelt _ _ _ s r (block-inv s 1 r x).2 in record {
            place = nm.first;
            units = length nm.units;
            step = ap (λ z. ase_step (aseCall z)) w;
            name = spelt-bytes s bytes nm n;
            many = refl;
            fit = spelt-fit s bytes nm n;
            sound = (refl, model-tag t (blocked 1 s r x).ended.sound.0);
            moves = omega arith;
            inside = c;
          }

  ase-turns : {es : List AseEntry} {q : ℕ} → ase s ≡ ok es q → (i : ℕ) → i < length (ase_colours es) → Turn Ase ChannelBits s (place_of Ase s i) (get_or (ase_colours es) i no_colour_at) (place_of Ase s (i + 1))
  unfolding place_of
  ase-turns {es} e i l =
      let k : i < length (only is_a_colour es) = omega (arith, ap length (ase-only es), length-map ase_colour (only is_a_colour es)) in
      let w = gives_at (aseWalk s) group_end_read (only is_a_colour es) (aseFirst s) (ase-in-turn s e) i k in
      let x : ase_colour (get_or (only is_a_colour es) i group_end_read) ≡ get_or (ase_colours es) i no_colour_at = sym (get_or-map ase_colour (only is_a_colour es) i group_end_read) ∙ ap (λ (l : List PaletteColour). get_or l i no_colour_at) (ase-only es) in
      subst (λ (y : PaletteColour). Turn Ase ChannelBits s (place_after (aseWalk s) (aseFirst s) i) y (place_after (aseWalk s) (aseFirst s) (i + 1))) x (ase-turn (place_after (aseWalk s) (aseFirst s) i) w)

-- ---- a file of either kind

map-ok : {A B : Type 0} (f : A → B) (m : Res A) {b : B} {q : ℕ} → map_res f m ≡ ok b q → (a : A) × (m ≡ ok a q) × (f a ≡ b)
map-ok f (ok a r) e = (a, ap (λ (n : ℕ). ok a n) (ok-place e), ok-value e)
map-ok f (refuse x p r g) e = let z : ◌≡◌ {A = ℕ} 0 1 = cc in absurd (omega arith)

-- colour i is given from its place, and leaves the place of the next
pub colour-turn : (k j : Kind) (s : List ℕ) → Bytes s → {xs : List PaletteColour} {q : ℕ} → colours k s ≡ ok xs q → (i : ℕ) → i < length xs → Turn k (view_of k j) s (place_of k s i) (get_or xs i no_colour_at) (place_of k s (i + 1))
colour-turn Aco Aco s bytes {xs} e i l =
    let a = map-ok aco_colours (aco s) e in
    subst (λ (y : List PaletteColour). Turn Aco Samples s (place_of Aco s i) (get_or y i no_colour_at) (place_of Aco s (i + 1))) a.2 (aco-turns s bytes Samples (λ p h z. ap (aco_step Samples) z) a.1 i (omega (arith, ap length a.2)))
colour-turn Aco Ase s bytes {xs} e i l =
    let a = map-ok aco_colours (aco s) e in
    subst (λ (y : List PaletteColour). Turn Aco Counterparts s (place_of Aco s i) (get_or y i no_colour_at) (place_of Aco s (i + 1))) a.2 (aco-turns s bytes Counterparts (λ p h z. ap (aco_step Counterparts) z) a.1 i (omega (arith, ap length a.2)))
colour-turn Ase Aco s bytes {xs} e i l =
    let a = map-ok ase_colours (ase s) e in
    subst (λ (y : List PaletteColour). Turn Ase ChannelBits s (place_of Ase s i) (get_or y i no_colour_at) (place_of Ase s (i + 1))) a.2 (ase-turns s bytes a.1 i (omega (arith, ap length a.2)))
colour-turn Ase Ase s bytes {xs} e i l =
    let a = map-ok ase_colours (ase s) e in
    subst (λ (y : List PaletteColour). Turn Ase ChannelBits s (place_of Ase s i) (get_or y i no_colour_at) (place_of Ase s (i + 1))) a.2 (ase-turns s bytes a.1 i (omega (arith, ap length a.2)))

-- ---- no more colours than bytes

accepted-short : (k : Kind) (s : List ℕ) {xs : List PaletteColour} {q : ℕ} → colours k s ≡ ok xs q → length s ≤ limit
unfolding aco ase
accepted-short Aco s e = leb-true _ _ (pick_inv (leb (length s) limit) (lists s 0) 1 0 0 0 (map-ok aco_colours (aco s) e).1).0
accepted-short Ase s e = leb-true _ _ (pick_inv (leb (length s) limit) (palette s 0) 1 0 0 0 (map-ok ase_colours (ase s) e).1).0

module _ (k : Kind) (s : List ℕ) (bytes : Bytes s) {xs : List PaletteColour} {q : ℕ} (e : colours k s ≡ ok xs q) where
  places-rise : (i : ℕ) → i ≤ length xs → (i ≤ place_of k s i) × (0 < i → place_of k s i ≤ length s)
  places-rise zero h = (omega arith, λ z. absurd (omega arith))
  places-rise (suc i) h =
      let r = places-rise i (omega arith) in
      let t = colour-turn k k s bytes e i (omega arith) in
      let n : place_of k s (i + 1) ≡ place_of k s (suc i) = ap (place_of k s) (add-one i) in
      (omega (arith, r.0, t.moves), λ z. omega (arith, t.inside))

  few-colours : length xs ≤ limit
  few-colours = let h = accepted-short k s e in let r = places-rise (length xs) (omega arith) in go (length xs) r.0 r.1 h
    where
      go : (n : ℕ) → n ≤ place_of k s (length xs) → (0 < n → place_of k s (length xs) ≤ length s) → length s ≤ limit → n ≤ limit
      go zero a b h = omega arith
      go (suc n) a b h = omega (arith, b (omega arith))

-- the same of any file: a refused one has no colours
pub in-turn : (k j : Kind) (s : List ℕ) → Bytes s → (i : ℕ) → i < length (colours_in k s) → Turn k (view_of k j) s (place_of k s i) (get_or (colours_in k s) i no_colour_at) (place_of k s (i + 1))
in-turn k j s bytes i h = go (colours k s) refl h
  where
    go : (m : Res (List PaletteColour)) → colours k s ≡ m → i < length (list_of m) → Turn k (view_of k j) s (place_of k s i) (get_or (list_of m) i no_colour_at) (place_of k s (i + 1))
    go (ok xs q) e l = colour-turn k j s bytes e i l
    go (refuse x p r f) e l = absurd (omega arith)

pub few : (k : Kind) (s : List ℕ) → Bytes s → length (colours_in k s) ≤ limit
few k s bytes = go (colours k s) refl
  where
    go : (m : Res (List PaletteColour)) → colours k s ≡ m → length (list_of m) ≤ limit
    go (ok xs q) e = few-colours k s bytes e
    go (refuse x p r f) e = omega arith

-- ---- where a loop starts

pub seen-kind : (k j : Kind) → kind_seen (view_of k j) ≡ k
seen-kind Aco Aco = refl
seen-kind Aco Ase = refl
seen-kind Ase Aco = refl
seen-kind Ase Ase = refl

pub first-place : (k : Kind) (s : List ℕ) → first_at k s ≡ place_of k s 0
unfolding place_of place_after
first-place Aco s = refl
first-place Ase s = refl
