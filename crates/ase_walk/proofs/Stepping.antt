-- Which way the code of a step goes, on plain values. Assumes nothing.
use Prim.Native.Nat.{ℕ, ◌≤◌, ◌<◌}
use mathlib.Core.Path.{◌≡◌, refl, sym, ap, ◌∙◌, subst}
use mathlib.Core.List.{List, []}
use mathlib.Core.Bool.{Bool, true, false, true≢false}
use lib.ListN.{length, take}
use borrow.Author.Tests.{le-leb, lt-leb}
use native.Mathlib.Omega.{arith}
use Rattle.algebra.specs.Reader.{Res, ok, refuse, pick, map_res}
use Rattle.ase.specs.Reading.{Entry, group_start_read, group_end_read, colour_read}
use Rattle.algebra.specs.Table.{accepted, refused, verdict}
use Rattle.algebra.proofs.Table.{accepted-of, refused-of}
use Rattle.ase.specs.Row.{RecordRow, given_of}
use Rattle.ase_judge.specs.Answer.{report, passed}
use Rattle.ase_judge.proofs.Judging.{map-inv, map-refuse}
use Rattle.ase_read.specs.scaffold.Raw.{loaded}
use Rattle.ase_read.proofs.Blocks.{Sound, blocked}
use Rattle.walk.specs.Walk as w
use Rattle.walk.proofs.Calls.{step-over, step-elsewhere, from-turn}
use Rattle.ase_walk.specs.Walking.{block_from, block_walk, is_a_colour, walk, first_place, lent_of, Started, starts, refusal, start_of}
use Rattle.ase_walk.specs.scaffold.Walking.{Stands}
use Rattle.std.specs.Prelude.{Result}
use Rattle.std.specs.Result.{IsErrAnd}
use Rattle.std.proofs.lemmas.Result.{err_from_is_err_and}
use Rattle.fault.specs.Fault.{number_of}
use Rattle.fault.specs.declared.Refusal.{Refusal}
use Rattle.ase_walk.specs.Answer.{record_call, call_and_place, told_start}
use Rattle.ase_walk.specs.scaffold.Answer.{passes}
use Rattle.ase_walk.proofs.Blocks.{walk-moves}
use Rattle.ase_walk.proofs.Walked.{past-refused}

-- ---- a block that stands

module _ (s : List ℕ) (at end : ℕ) (b : Stands s at end) where
  -- its numbers, as they are loaded
  pub stands-given : (g : RecordRow) → g ≡ loaded (take end s) at → g ≡ given_of b.0
  stands-given g e = e ∙ sym (blocked 1 s at b.1).ended.is_row

  pub stands-sound : Sound b.0
  stands-sound = (blocked 1 s at b.1).ended.sound

  pub stands-shown : (c : w.Call RecordRow) → c ≡ w.gives (given_of b.0) → (c, end) ≡ call_and_place (w.answered (length s) (block_from s at))
  stands-shown c e = ap (λ (x : w.Call RecordRow). (x, end)) e ∙ sym (ap (λ (m : Res Entry). call_and_place (w.answered (length s) m)) b.1)

-- ---- the block step

module _ (s : List ℕ) (at : ℕ) where
  pub block-over : at ≡ length s → (w.over, at) ≡ call_and_place (block_walk s at)
  block-over e = sym (ap call_and_place (step-over block_from s at e))

  -- a block was passed
  pub passed-stands : {d k q : ℕ} → ok (d, k) q ≡ map_res (passed 1) (block_from s at) → Stands s at q
  passed-stands e = let i = map-inv (passed 1) (block_from s at) (sym e) in (i.0, i.1)

  module _ (apart : at ≡ length s → ⊥) where
    pub block-lost : {x p : ℕ} → refuse x p 0 0 ≡ map_res (passed 1) (block_from s at) → call_and_place (w.lost (length s)) ≡ call_and_place (block_walk s at)
    block-lost e = sym (ap call_and_place (step-elsewhere block_from s at apart ∙ ap (w.answered (length s)) (map-refuse (passed 1) (block_from s at) (sym e))))

    pub block-shown : (v : w.Call RecordRow × ℕ) → v ≡ call_and_place (w.answered (length s) (block_from s at)) → v ≡ call_and_place (block_walk s at)
    block-shown v e = e ∙ sym (ap call_and_place (step-elsewhere block_from s at apart))

-- ---- the colour step, by what the block step answers

module _ (s : List ℕ) (at : ℕ) where
  turn : walk s at ≡ w.sought is_a_colour (block_walk s at).0 (block_walk s at).1 (walk s)
  turn = from-turn is_a_colour (block_walk s) (length s) (walk-moves s) at

  -- a group is passed over
  pub passes_on : (c : w.Call RecordRow) (n : ℕ) → passes c ≡ true → (c, n) ≡ call_and_place (block_walk s at) → (walk s at ≡ walk s n) × (at < n) × (n ≤ length s)
  passes_on c n h e = go (block_walk s at).0 (block_walk s at).1 refl (subst (λ (d : w.Call RecordRow). passes d ≡ true) (ap (λ (y : w.Call RecordRow × ℕ). y.0) e) h) (ap (λ (y : w.Call RecordRow × ℕ). y.1) e)
    where
      skip : (e : Entry) (q : ℕ) → is_a_colour e ≡ false → block_walk s at ≡ (w.gives e, q) → n ≡ q → (walk s at ≡ walk s n) × (at < n) × (n ≤ length s)
      skip e q k b z =
          let m = walk-moves s at e q b in
          let f = turn ∙ ap (λ (v : w.Call Entry × ℕ). w.sought is_a_colour v.0 v.1 (walk s)) b ∙ ap (λ (i : Bool). pick i (w.gives e, q) (walk s q)) k in
          (f ∙ ap (walk s) (sym z), omega arith, omega arith)

      go : (x : w.Call Entry) (q : ℕ) → block_walk s at ≡ (x, q) → passes (record_call x) ≡ true → n ≡ q → (walk s at ≡ walk s n) × (at < n) × (n ≤ length s)
      go (w.gives (group_start_read nm)) q b k z = skip (group_start_read nm) q refl b z
      go (w.gives group_end_read) q b k z = skip group_end_read q refl b z
      go (w.gives (colour_read nm t bs m)) q b k z = absurd (true≢false (sym k))
      go w.over q b k z = absurd (true≢false (sym k))
      go (w.refused x p) q b k z = absurd (true≢false (sym k))

  -- any other answer is the colour step's own
  pub ends-here : (c : w.Call RecordRow) (n : ℕ) → passes c ≡ false → (c, n) ≡ call_and_place (block_walk s at) → (c, n) ≡ call_and_place (walk s at)
  ends-here c n h e = e ∙ go (block_walk s at).0 (block_walk s at).1 (subst (λ (d : w.Call RecordRow). passes d ≡ false) (ap (λ (y : w.Call RecordRow × ℕ). y.0) e) h) ∙ sym (ap call_and_place turn)
    where
      go : (x : w.Call Entry) (q : ℕ) → passes (record_call x) ≡ false → call_and_place (x, q) ≡ call_and_place (w.sought is_a_colour x q (walk s))
      go (w.gives (colour_read nm t bs k)) q z = refl
      go (w.gives (group_start_read nm)) q z = absurd (true≢false z)
      go (w.gives group_end_read) q z = absurd (true≢false z)
      go w.over q z = refl
      go (w.refused x p) q z = refl

-- the end, and past it
pub walk-over : (s : List ℕ) (at : ℕ) → at ≡ length s → (w.over, at) ≡ call_and_place (walk s at)
walk-over s at e = ends-here s at w.over at refl (block-over s at e)

pub walk-past : (s : List ℕ) (at : ℕ) → length s < at → call_and_place (w.lost (length s)) ≡ call_and_place (walk s at)
walk-past s at h = sym (ap call_and_place (past-refused s at h))

-- ---- the start

pub first-is : (s : List ℕ) → 12 ≤ length s → 12 ≡ first_place s
unfolding first_place
first-is s h = sym (ap (λ (b : Bool). pick b 12 (length s)) (le-leb 12 (length s) h))

pub first-none : (s : List ℕ) → length s < 12 → length s ≡ first_place s
unfolding first_place
first-none s h = sym (ap (λ (b : Bool). pick b 12 (length s)) (lt-leb 12 (length s) h))

-- what is told where a `?` hands a refusal on
pub start-exit : (r : Result ℕ Refusal) (e : Refusal) {m : Started} → IsErrAnd r (λ y. y ≡ e) → refusal (number_of e.0) e.1 ≡ m → told_start r ≡ m
start-exit r e h rest = let p = err_from_is_err_and r h in rw (p.1, p.2) rest

module _ (s : List ℕ) (m : Res (List Entry)) where
  pub start-refused : {x p : ℕ} → refused x p 0 0 ≡ verdict report m → refusal x p ≡ start_of m s
  start-refused v = sym (ap (λ (k : Res (List Entry)). start_of k s) (refused-of report m v))

  pub start_is : {n k : ℕ} → accepted (n, k) ≡ verdict report m → (p : ℕ) → p ≡ first_place s → starts p ≡ start_of m s
  start_is v p e = ap starts e ∙ sym (ap (λ (k : Res (List Entry)). start_of k s) (accepted-of report m v).2)

  pub lent-refused : {x p : ℕ} → refused x p 0 0 ≡ verdict report m → [] ≡ lent_of m s
  lent-refused v = sym (ap (λ (k : Res (List Entry)). lent_of k s) (refused-of report m v))

  pub lent_is : {n k : ℕ} → accepted (n, k) ≡ verdict report m → s ≡ lent_of m s
  lent_is v = sym (ap (λ (k : Res (List Entry)). lent_of k s) (accepted-of report m v).2)
