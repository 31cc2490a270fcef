-- What is promised of a walk over ACO swatches. Assumes nothing.
use Prim.Native.Nat.{ℕ, ◌+◌, ◌*◌, ◌-◌, ◌≤◌, ◌<◌}
use mathlib.Core.Path.{◌≡◌, refl, sym, ap, ◌∙◌, subst}
use mathlib.Core.List.{List, [], map}
use mathlib.Core.Bool.{Bool, true, false}
use lib.ListN.{length, get_or}
use native.Mathlib.Omega.{arith}
use Rattle.algebra.specs.Numbers.{nums}
use Rattle.algebra.specs.Reader.{Res, ok, refuse, then, pick, field}
use Rattle.algebra.specs.Store.{part}
use Rattle.algebra.specs.Text.{Name, name}
use Rattle.algebra.proofs.Inverse.{then-inv, name-inv, ok-value, ok-place}
use Rattle.algebra.proofs.Exact.{map-id}
use Rattle.algebra.proofs.Places.{length-nums}
use Rattle.algebra.proofs.Texts.{length_front}
use Rattle.colour.specs.declared.space.Colour.{Colour}
use Rattle.aco.specs.Reading.{colour, Entry, entry, Contents, zero_colour, unnamed, aco, second_count}
use Rattle.aco.proofs.Raw.{colour-inv}
use Rattle.aco.proofs.Inverse.{First, Then, one, two, heading-inv, aco-inv}
use Rattle.aco_read.specs.Table.{records_of}
use Rattle.walk.specs.Walk.{gives, refused, after, call, in_turn, Walks}
use Rattle.walk.proofs.Calls.{calls_are, after-calls, each-walks, step-over, step-read, step-five, step_past, lost-stays}
use Rattle.walk.specs.Names.{name_part}
use Rattle.walk.proofs.Names.{part-is}
use Rattle.aco_walk.specs.Walking.{is_plain, first_place, named_entry, labelled, swatch_from, walk, lent_of, called, following}
use Rattle.aco_walk.specs.declared.Walker.{Walker}
use Rattle.aco_walk.proofs.Swatches.{first_fine, plain-item, named-item, one_plain, two-named}

-- ---- an accepted file

-- its records stand one behind the other from the walk's start to the file's end
accepted-walks : (s : List ℕ) {c : Contents} {q : ℕ} → aco s ≡ ok c q → Walks (walk s) (first_place s) c.records
accepted-walks s {c} {q} e = let i = aco-inv s e in go i.0 i.1 i.2 i.3
  where
    go : (cs : List Colour) (r : ℕ) → First s cs r → Then s cs r c q → Walks (walk s) (first_place s) c.records
    go cs r f (one end x z) =
        let p = one_plain s (length cs) f.count (omega (arith, f.end)) in
        let w = each-walks swatch_from unnamed s (λ k. colour) (λ k at a y h. plain-item s p.0 at a y h) (length cs) 0 4 f.list end in
        subst (λ (v : Contents). Walks (walk s) (first_place s) v.records) x (subst (λ (n : ℕ). Walks (walk s) n (map unnamed cs)) (sym p.1) w)
    go cs r f (two es y hd list end x z) =
        let h = heading-inv 2 (second_count (length cs)) s r hd in
        let p = two-named s (length cs) f.count (omega (arith, f.end, h.3)) in
        let w = each-walks swatch_from (λ (e : Entry). e) s (λ k. entry k (get_or cs k zero_colour)) (λ k at a b h. named-item s p.0 k (get_or cs k zero_colour) (first_fine s cs r f k) at a b h) (length cs) 0 (r + 4) list end in
        let at : r + 4 ≡ first_place s = omega (arith, f.end, p.1) in
        subst (λ (v : Contents). Walks (walk s) (first_place s) v.records) x
        (subst (λ (n : ℕ). Walks (walk s) n es) at (subst (λ (l : List Entry). Walks (walk s) (r + 4) l) (map-id es) w))

-- ---- W3: with n colours the first n calls give them, in file order, as they are read, and every later call says done
pub colours-in-turn : (s : List ℕ) {c : Contents} {q : ℕ} → aco s ≡ ok c q → (i : ℕ) → call (walk s) (first_place s) i ≡ in_turn c.records i
colours-in-turn s {c} e i = calls_are (walk s) c.records (first_place s) (accepted-walks s e) i

-- the same of a walker that was started on any file: over a refused one, which has no records, it says done from the first call on
pub started-in-turn : (s : List ℕ) (i : ℕ) → call (walk (lent_of (aco s) s)) (first_place (lent_of (aco s) s)) i ≡ in_turn (records_of (aco s)) i
unfolding first_place field
started-in-turn s i = go (aco s) refl
  where
    none : Walks (walk []) (first_place []) []
    none = let o = step-over swatch_from [] 0 refl in (0, o, o)

    go : (m : Res Contents) → aco s ≡ m → call (walk (lent_of m s)) (first_place (lent_of m s)) i ≡ in_turn (records_of m) i
    go (ok c q) e = colours-in-turn s e i
    go (refuse x p r f) e = calls_are (walk []) [] (first_place []) none i

-- what the walkers that `next` hands back one after the other answer is what the calls from the first one's place answer; of any walker, altered or not
pub next-calls : (w : Walker) (i : ℕ) → (called (after following w i)).0 ≡ call (walk w.file.now) w.at i
next-calls w i = after-calls (λ (v : Walker). walk v.file.now) (λ (v : Walker). v.at) following (λ v. refl) (λ v. refl) w i

-- so from one that `start` made they give the colours in turn
pub next-in-turn : (s : List ℕ) (w : Walker) → w.file.now ≡ lent_of (aco s) s → w.at ≡ first_place (lent_of (aco s) s) → (i : ℕ) → (called (after following w i)).0 ≡ in_turn (records_of (aco s)) i
next-in-turn s w file at i = next-calls w i ∙ ap (λ (l : List ℕ). call (walk l) w.at i) file ∙ ap (λ (p : ℕ). call (walk (lent_of (aco s) s)) p i) at ∙ started-in-turn s i

-- ---- W5: any walker, over any bytes

-- what it gives is a colour that the layout allows at its place, and the walker that follows stands behind it, inside the file
pub given-allowed : (s : List ℕ) (at : ℕ) {e : Entry} {q : ℕ} → walk s at ≡ (gives e, q) → (colour s at ≡ ok e.colour (at + 10)) × (at + 10 ≤ q) × (q ≤ length s)
unfolding swatch_from labelled
given-allowed s at {e} {q} w =
    let t = then-inv (colour s at) _ (step-read swatch_from s at w) in
    let i = colour-inv s at t.2 in
    let r = go t.0 t.1 (is_plain s) (omega (arith, i.1, i.2.inside)) t.3 in
    (t.2 ∙ ap (λ (c : Colour). ok c t.1) r.0 ∙ ap (λ (n : ℕ). ok e.colour n) (sym i.1), omega (arith, i.1, r.1), r.2)
  where
    go : (c : Colour) (n : ℕ) (b : Bool) → n ≤ length s → pick b (ok (unnamed c) n) (then (name 4 s n) (λ nm z. ok (named_entry c nm) z)) ≡ ok e q → (c ≡ e.colour) × (n ≤ q) × (q ≤ length s)
    go c n true h x = (ap (λ (y : Entry). y.colour) (ok-value x), omega (arith, ok-place x), omega (arith, ok-place x))
    go c n false h x =
        let t = then-inv (name 4 s n) _ x in
        let i = (name-inv 4 s n t.2).1 in
        (ap (λ (y : Entry). y.colour) (ok-value t.3), omega (arith, i.end, ok-place t.3), omega (arith, i.end, i.inside, i.room, ok-place t.3))

-- its name is a part of the file
pub given-name : (s : List ℕ) (at : ℕ) {e : Entry} {q : ℕ} → walk s at ≡ (gives e, q) → part s e.name.first (2 * length e.name.units) ≡ name_part s e.name.first (length e.name.units)
unfolding swatch_from labelled
given-name s at {e} {q} w =
    let t = then-inv (colour s at) _ (step-read swatch_from s at w) in
    part-is s e.name.first (length e.name.units) (go t.0 t.1 (is_plain s) t.3)
  where
    Lies : Entry → Type 0
    Lies x = x.name.first + 2 * length x.name.units ≤ length s

    go : (c : Colour) (n : ℕ) (b : Bool) → pick b (ok (unnamed c) n) (then (name 4 s n) (λ nm z. ok (named_entry c nm) z)) ≡ ok e q → Lies e
    go c n true x = subst Lies (ok-value x) (omega arith)
    go c n false x =
        let t = then-inv (name 4 s n) _ x in
        let i = name-inv 4 s n t.2 in
        let us : List ℕ = nums 2 i.0 s (n + 4) in
        let f : n + 4 ≡ t.0.first = ap (λ (z : Name). z.first) i.1.is in
        let l : length t.0.units ≡ i.0 - 1 = sym (ap (λ (z : Name). length z.units) i.1.is) ∙ length_front us ∙ ap (λ (z : ℕ). z - 1) (length-nums 2 i.0 s (n + 4)) in
        subst Lies (ok-value t.3) (omega (arith, f, l, i.1.room, i.1.inside))

-- a walker gets no refusal but 5 at place 0
pub refused-five : (s : List ℕ) (at : ℕ) {x y q : ℕ} → walk s at ≡ (refused x y, q) → (x ≡ 5) × (y ≡ 0)
refused-five s at e = step-five swatch_from s at e

-- past the end nothing stands
past-none : (s : List ℕ) (at : ℕ) (e : Entry) (q : ℕ) → swatch_from s at ≡ ok e q → at ≤ length s
unfolding swatch_from
past-none s at e q x = let t = then-inv (colour s at) _ x in omega (arith, (colour-inv s at t.2).2.inside)

-- an offset past the end is 5 at place 0
pub past-refused : (s : List ℕ) (at : ℕ) → length s < at → walk s at ≡ (refused 5 0, length s + 1)
past-refused s at h = step_past swatch_from s at h (past-none s at)

-- and a walker that was refused is refused ever after
pub refused-stays : (s : List ℕ) (i : ℕ) → call (walk s) (length s + 1) i ≡ refused 5 0
refused-stays s i = lost-stays swatch_from s (past-none s (length s + 1)) i
