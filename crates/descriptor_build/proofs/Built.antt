-- The root and then the members; and what writing answers. Assumes nothing.
use Prim.Native.Nat.{ℕ, ◌+◌, ◌-◌, ◌/◌, ◌≤◌}
use mathlib.Core.Path.{◌≡◌, sym, ap, ◌∙◌, subst}
use mathlib.Core.List.{List, [], ◌∷◌, ◌++◌}
use lib.ListN.{length, get_or, drop}
use lib.Seq.{sets, sets-eq}
use native.Mathlib.Omega.{arith}
use native.Mathlib.Decide.{ℕ_discrete}
use Rattle.algebra.specs.Numbers.{counted}
use Rattle.algebra.specs.Table.{row_at, rows}
use Rattle.algebra.specs.Writing.{Outcome, needs}
use Rattle.algebra.specs.Writing as wr
use Rattle.algebra.proofs.Counted.{counted_start, counted-turn}
use Rattle.algebra.proofs.Storing.{peel}
use Rattle.algebra.proofs.Table.{row-at}
use Rattle.algebra.proofs.Writing.{needs-inv, writes-all}
use Rattle.descriptor_heads.specs.Heads.{Stack, pairs, settled}
use Rattle.descriptor_entry.specs.Pieces.{Piece, size, bytes}
use Rattle.descriptor_entry.specs.Shapes.{width, Entry, count_of}
use Rattle.descriptor_entry.specs.Entries.{given, root_pieces, member_pieces, ending, root_stack, pieces, ended, build_fault, made, needed, built, Words}
use Rattle.descriptor_entry.proofs.Laws.{bytes-append, bytes-length}
use Rattle.descriptor_entry.proofs.Faultless.{pieces-fit, given-words}
use Rattle.descriptor_entry.proofs.RoundTrip.{sound}
use Rattle.descriptor_build.specs.scaffold.Putting.{Ready, Stored, Begun, Whole}
use Rattle.descriptor_build.proofs.Puts.{ready-left, ready-right}

module _ (text run : List ℕ) (room : ℕ) (w : Whole text run room) where
  n : ℕ
  n = length run / 16

  first : Entry
  first = row_at width run 0

  more : List Entry
  more = rows width (λ row. row) run (length run / 16 - 1) 1

  -- the first entry, and those behind it
  split : given run ≡ row_at width run 0 ∷ rows width (λ row. row) run (length run / 16 - 1) 1
  split = counted_start (λ i. row_at width run i) (length run / 16) ∙ counted-turn (λ i. row_at width run i) (length run / 16) 0 (omega (arith, w.some))

  wanted : List Piece
  wanted = member_pieces (rows width (λ row. row) run (length run / 16 - 1) 1) (root_stack (row_at width run 0))

  parts : pieces (given run) ≡ root_pieces (row_at width run 0) ++ wanted
  unfolding pieces wanted
  parts = ap pieces split

  both : Ready text (root_pieces (row_at width run 0) ++ wanted) 0 room
  both = subst (λ (ps : List Piece). Ready text ps 0 room) parts w.ready

  pub first-ready : Ready text (root_pieces (row_at width run 0)) 0 room
  first-ready = ready-left text (root_pieces (row_at width run 0)) wanted 0 room both

  module _ (out o : List ℕ) (p : ℕ) (s : Stored text (root_pieces (row_at width run 0)) out 0 o p) (count room' : ℕ) (hc : count ≡ get_or run 14 0) (l : room' ≡ room) where
    count_is : count ≡ count_of (row_at width run 0)
    count_is = hc ∙ sym (row-at width run 0 14 (omega arith))

    stack_is : root_stack (row_at width run 0) ≡ settled ((pairs, count) ∷ [])
    stack_is = ap (λ (m : ℕ). settled ((pairs, m) ∷ [])) (sym count_is)

    pub begun : Begun text run (length run / 16) p count room'
    unfolding ended wanted
    begun = record {
      inside = omega arith;
      some = omega (arith, w.some);
      ready = subst (λ (st : Stack). Ready text (member_pieces (rows width (λ row. row) run (length run / 16 - 1) 1) st) p room') stack_is (ready-right text (root_pieces (row_at width run 0)) wanted 0 room p room' both s.end l);
      whole = sym (ap (ending (rows width (λ row. row) run (length run / 16 - 1) 1)) stack_is) ∙ sym (ap ended split) ∙ w.whole;
    }

    pub all-put : (o' : List ℕ) → o' ≡ sets o p (bytes text (member_pieces (rows width (λ row. row) run (length run / 16 - 1) 1) (settled ((pairs, count) ∷ [])))) → o' ≡ sets out 0 (made text (given run))
    unfolding wanted
    all-put o' e =
        e ∙ ap (λ (st : Stack). sets o p (bytes text (member_pieces (rows width (λ row. row) run (length run / 16 - 1) 1) st))) (sym stack_is)
        ∙ sym (ap (λ (ps : List Piece). sets out 0 (bytes text ps)) parts ∙ ap (sets out 0) (bytes-append text (root_pieces (row_at width run 0)) wanted)
        ∙ peel out o (bytes text (root_pieces (row_at width run 0))) (bytes text wanted) 0 (size (root_pieces (row_at width run 0))) p (bytes-length text (root_pieces (row_at width run 0)) first-ready.fits) (sym s.end) s.is)

-- ---- writing

module _ (text run : List ℕ) (k : ℕ) (e : wr.bytes k ≡ needed text (given run)) (words : Words run) (out : List ℕ) (roomy : k ≤ length out) where
  faultless : build_fault text (given run) ≡ 0
  faultless = (needs-inv (build_fault text (given run)) (size (pieces (given run))) k e).0

  size_is : size (pieces (given run)) ≡ k
  size_is = (needs-inv (build_fault text (given run)) (size (pieces (given run))) k e).1

  -- a run without an entry has a fault
  some-entry : width ≤ length run
  unfolding ended counted
  some-entry = elim (ℕ_discrete (length run / 16) 0) [
    | yes z ↦ let y : ended (given run) ≡ 2 = ap (λ (m : ℕ). ended (rows width (λ row. row) run m 0)) z in absurd (omega (arith, y, (sound text (given run) faultless).whole))
    | no z ↦ omega (arith, z)
  ]

  pub whole : Whole text run (length out)
  whole = record {
    some = some-entry;
    ready = record { fits = pieces-fit text (given run) (given-words run words) (sound text (given run) faultless).none; inside = omega (arith, size_is, roomy) };
    whole = (sound text (given run) faultless).whole;
  }

  pub written : (o : List ℕ) → o ≡ sets out 0 (made text (given run)) → (wr.bytes k, o) ≡ built text (given run) out
  written o h =
      let l : length (made text (given run)) ≡ size (pieces (given run)) = bytes-length text (pieces (given run)) whole.ready.fits in
      writes-all (build_fault text (given run)) (size (pieces (given run))) (made text (given run)) out k e roomy o (h ∙ sets-eq-all l)
    where
      sets-eq-all : length (made text (given run)) ≡ size (pieces (given run)) → sets out 0 (made text (given run)) ≡ made text (given run) ++ drop (size (pieces (given run))) out
      sets-eq-all l = let z : 0 + length (made text (given run)) ≡ size (pieces (given run)) = omega (arith, l) in sets-eq (made text (given run)) out 0 (omega (arith, l, size_is, roomy)) ∙ ap (λ (m : ℕ). made text (given run) ++ drop m out) z
