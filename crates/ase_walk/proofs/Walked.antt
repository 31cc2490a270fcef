-- What is promised of a walk over ASE palettes. Assumes nothing.
use Prim.Native.Nat.{ℕ, zero, suc, ◌+◌, ◌*◌, ◌-◌, ◌≤◌, ◌<◌}
use mathlib.Core.Path.{◌≡◌, refl, sym, ap, ◌∙◌, subst}
use mathlib.Core.List.{List, [], ◌∷◌}
use mathlib.Core.Bool.{Bool, true}
use lib.Dec.{leb}
use lib.ListN.{length}
use lib.Seq.{length-take-le}
use borrow.Author.Tests.{le-leb}
use native.Mathlib.Omega.{arith}
use Rattle.algebra.specs.Reader.{Res, ok, refuse, pick}
use Rattle.algebra.specs.Store.{part}
use Rattle.algebra.specs.Text.{Name}
use Rattle.algebra.proofs.Exact.{map-id}
use Rattle.ase.specs.Reading.{Entry, group_start_read, group_end_read, colour_read, block, open_after_entry, ase}
use Rattle.ase_judge.specs.Answer.{colours}
use Rattle.ase_read.specs.Table.{entries_of}
use Rattle.ase_read.proofs.Blocks.{blocked}
use Rattle.walk.specs.Walk.{Call, gives, over, refused, after, call, in_turn, sought, seek, only, Walks}
use Rattle.walk.proofs.Calls.{call_stays, calls_are, after-calls, chain-walks, step-over, step-read, step-five, step_past, only-walks, seek-five}
use Rattle.walk.specs.Names.{name_part}
use Rattle.walk.proofs.Names.{part-is}
use Rattle.ase_walk.specs.Walking.{block_from, block_walk, is_a_colour, walk, first_place, lent_of, called, following}
use Rattle.ase_walk.specs.declared.Walker.{Walker}
use Rattle.ase_walk.proofs.Blocks.{block-item, block-moves, walk-moves, accepted-chain}

-- ---- an accepted file

accepted-blocks : (s : List ℕ) {es : List Entry} {q : ℕ} → ase s ≡ ok es q → Walks (block_walk s) (first_place s) es
unfolding first_place
accepted-blocks s {es} e =
    let a = accepted-chain s e in
    let w = chain-walks block_from (λ (e : Entry). e) s open_after_entry block (λ d at x y h. block-item s d at x y h) a.1 0 12 a.2 refl in
    let f : 12 ≡ pick (leb 12 (length s)) 12 (length s) = sym (ap (λ (b : Bool). pick b 12 (length s)) (le-leb 12 (length s) a.0)) in
    subst (λ (n : ℕ). Walks (block_walk s) n es) f (subst (λ (l : List Entry). Walks (block_walk s) 12 l) (map-id es) w)

-- the block step gives every block in turn, groups too, and then says done
pub blocks-in-turn : (s : List ℕ) {es : List Entry} {q : ℕ} → ase s ≡ ok es q → (i : ℕ) → call (block_walk s) (first_place s) i ≡ in_turn es i
blocks-in-turn s {es} e i = calls_are (block_walk s) es (first_place s) (accepted-blocks s e) i

-- ---- W3: with n colours the first n calls give them, in file order, as they are read, and every later call says done
pub colours-in-turn : (s : List ℕ) {es : List Entry} {q : ℕ} → ase s ≡ ok es q → (i : ℕ) → call (walk s) (first_place s) i ≡ in_turn (only is_a_colour es) i
colours-in-turn s {es} e i = calls_are (walk s) (only is_a_colour es) (first_place s) (only-walks is_a_colour (block_walk s) (length s) (walk-moves s) es (first_place s) (accepted-blocks s e)) i

-- those are as many as the reader counts
pub colours-counted : (es : List Entry) → length (only is_a_colour es) ≡ colours es
unfolding only colours
colours-counted [] = refl
colours-counted (group_start_read nm ∷ es) = omega (arith, colours-counted es)
colours-counted (group_end_read ∷ es) = omega (arith, colours-counted es)
colours-counted (colour_read nm t bs k ∷ es) = omega (arith, colours-counted es)

-- the same of a walker that was started on any file: over a refused one, which has no records, it says done from the first call on
pub started-in-turn : (s : List ℕ) (i : ℕ) → call (walk (lent_of (ase s) s)) (first_place (lent_of (ase s) s)) i ≡ in_turn (only is_a_colour (entries_of (ase s))) i
unfolding first_place seek only
started-in-turn s i = go (ase s) refl
  where
    none : Walks (walk []) (first_place []) []
    none = let o = step-over block_from [] 0 refl in (0, o, o)

    go : (m : Res (List Entry)) → ase s ≡ m → call (walk (lent_of m s)) (first_place (lent_of m s)) i ≡ in_turn (only is_a_colour (entries_of m)) i
    go (ok es q) e = colours-in-turn s e i
    go (refuse x p r f) e = calls_are (walk []) [] (first_place []) none i

-- what the walkers that `next` hands back one after the other answer is what the calls from the first one's place answer; of any walker, altered or not
pub next-calls : (w : Walker) (i : ℕ) → (called (after following w i)).0 ≡ call (walk w.file.now) w.at i
next-calls w i = after-calls (λ (v : Walker). walk v.file.now) (λ (v : Walker). v.at) following (λ v. refl) (λ v. refl) w i

-- so from one that `start` made they give the colours in turn
pub next-in-turn : (s : List ℕ) (w : Walker) → w.file.now ≡ lent_of (ase s) s → w.at ≡ first_place (lent_of (ase s) s) → (i : ℕ) → (called (after following w i)).0 ≡ in_turn (only is_a_colour (entries_of (ase s))) i
next-in-turn s w file at i = next-calls w i ∙ ap (λ (l : List ℕ). call (walk l) w.at i) file ∙ ap (λ (p : ℕ). call (walk (lent_of (ase s) s)) p i) at ∙ started-in-turn s i

-- ---- W5: any walker, over any bytes

sought-given : (s : List ℕ) (k at : ℕ) → length s - at ≤ k → {e : Entry} {q : ℕ} → seek is_a_colour (block_walk s) k at ≡ (gives e, q) → (p : ℕ) × (at ≤ p) × (p + 6 ≤ q) × (q ≤ length s) × (block_from s p ≡ ok e q) × (is_a_colour e ≡ true)
unfolding seek
sought-given s zero at h {e} {q} w = let m = block-moves s at (step-read block_from s at w) in absurd (omega arith)
sought-given s (suc k) at h {e} {q} w = go (block_walk s at).0 (block_walk s at).1 refl (λ n l x. sought-given s k n l x) w
  where
    clash : {X : Type 0} {c : Call Entry} {n : ℕ} → (c ≡ gives e → X) → ◌≡◌ {A = Call Entry × ℕ} (c, n) (gives e, q) → X
    clash f z = f (ap (λ (x : Call Entry × ℕ). x.0) z)

    here : (x : Entry) (n : ℕ) → block_walk s at ≡ (gives x, n) → ◌≡◌ {A = Call Entry × ℕ} (gives x, n) (gives e, q) → is_a_colour x ≡ true → (p : ℕ) × (at ≤ p) × (p + 6 ≤ q) × (q ≤ length s) × (block_from s p ≡ ok e q) × (is_a_colour e ≡ true)
    here x n b z c =
        let r = step-read block_from s at (b ∙ z) in
        let m = block-moves s at r in
        let y : gives x ≡ gives e = ap (λ (x : Call Entry × ℕ). x.0) z in
        let same : x ≡ e = cc in
        (at, omega arith, m.0, m.1, r, ap is_a_colour (sym same) ∙ c)

    go : (c : Call Entry) (n : ℕ) → block_walk s at ≡ (c, n) → ((n : ℕ) → length s - n ≤ k → seek is_a_colour (block_walk s) k n ≡ (gives e, q) → (p : ℕ) × (n ≤ p) × (p + 6 ≤ q) × (q ≤ length s) × (block_from s p ≡ ok e q) × (is_a_colour e ≡ true))
        → sought is_a_colour c n (λ q. seek is_a_colour (block_walk s) k q) ≡ (gives e, q) → (p : ℕ) × (at ≤ p) × (p + 6 ≤ q) × (q ≤ length s) × (block_from s p ≡ ok e q) × (is_a_colour e ≡ true)
    go (gives (colour_read nm t bs j)) n b f z = here (colour_read nm t bs j) n b z refl
    go (gives (group_start_read nm)) n b f z = let m = walk-moves s at (group_start_read nm) n b in let r = f n (omega arith) z in (r.0, omega (arith, r.1), r.2, r.3, r.4, r.5)
    go (gives group_end_read) n b f z = let m = walk-moves s at group_end_read n b in let r = f n (omega arith) z in (r.0, omega (arith, r.1), r.2, r.3, r.4, r.5)
    go over n b f z = clash (λ y. let w : ◌≡◌ {A = ℕ} 0 1 = cc in absurd (omega arith)) z
    go (refused x p) n b f z = clash (λ y. let w : ◌≡◌ {A = ℕ} 0 1 = cc in absurd (omega arith)) z

-- what it gives is a colour that the layout allows at its place or behind groups that follow it, and the walker that follows stands behind it, inside the file
pub given-allowed : (s : List ℕ) (at : ℕ) {e : Entry} {q : ℕ} → walk s at ≡ (gives e, q) → (p : ℕ) × (at ≤ p) × (p + 6 ≤ q) × (q ≤ length s) × (block_from s p ≡ ok e q) × (is_a_colour e ≡ true)
given-allowed s at {e} {q} w = sought-given s (length s - at) at (omega arith) w

-- its name is a part of the file
pub given-name : (s : List ℕ) (at : ℕ) {nm : Name} {t : ℕ} {bs : List ℕ} {k q : ℕ} → walk s at ≡ (gives (colour_read nm t bs k), q) → part s nm.first (2 * length nm.units) ≡ name_part s nm.first (length nm.units)
given-name s at {nm} {t} {bs} {k} {q} w =
    let i = given-allowed s at w in
    let b = blocked 1 s i.0 i.4 in
    part-is s nm.first (length nm.units) (omega (arith, b.ended.named, length-take-le q s i.3, i.3))

-- a walker gets no refusal but 5 at place 0
pub refused-five : (s : List ℕ) (at : ℕ) {x y q : ℕ} → walk s at ≡ (refused x y, q) → (x ≡ 5) × (y ≡ 0)
refused-five s at e = seek-five is_a_colour (block_walk s) (λ p x y q z. step-five block_from s p z) (length s - at) at e

past-none : (s : List ℕ) (at : ℕ) (e : Entry) (q : ℕ) → block_from s at ≡ ok e q → at ≤ length s
past-none s at e q x = let m = block-moves s at x in omega arith

-- an offset past the end is 5 at place 0
pub past-refused : (s : List ℕ) (at : ℕ) → length s < at → walk s at ≡ (refused 5 0, length s + 1)
unfolding seek
past-refused s at h =
    let z : length s - at ≡ 0 = omega arith in
    ap (λ (k : ℕ). seek is_a_colour (block_walk s) k at) z ∙ step_past block_from s at h (past-none s at)

-- and a walker that was refused is refused ever after
pub refused-stays : (s : List ℕ) (i : ℕ) → call (walk s) (length s + 1) i ≡ refused 5 0
refused-stays s i = call_stays (walk s) (length s + 1) (past-refused s (length s + 1) (omega arith)) i
