-- What the writer answers, on plain values. Assumes nothing.
use Prim.Native.Nat.{ℕ, ◌≤◌, ◌<◌}
use mathlib.Core.Path.{◌≡◌, refl, sym, ap, ◌∙◌}
use mathlib.Core.List.{List, [], ◌∷◌}
use lib.ListN.{length}
use mathlib.Core.Bool.{Bool, true, false}
use lib.Dec.{leb, eqb}
use borrow.Author.Tests.{le-leb, lt-leb}
use native.Mathlib.Omega.{arith}
use Rattle.algebra.specs.Reader.{pick, limit}
use Rattle.algebra.specs.Faults.{first_of, faults}
use Rattle.algebra.specs.Writing.{bytes, refused, needs}
use Rattle.algebra.proofs.Tells.{first-none, first-inv}
use Rattle.algebra.proofs.Writing.{needs-no, needs-all, needs-inv}
use Rattle.algebra.proofs.Firsts.{hit, pass, test-holds}
use Rattle.acb.specs.Grammar.{Ending, other}
use Rattle.acb.specs.Reading.{components_of}
use Rattle.acb.specs.Faults.{ending_fault}
use Rattle.acb_judge.specs.Answer.{HeaderPlaces}
use Rattle.acb_writing.specs.Writing.{sizes, size_within, head_size, size, head_fault, colour_fault, other_fault, ink_fault, fault, needed}
use Rattle.acb.specs.Row.{RecordRow}
use Rattle.acb_write_judge.specs.scaffold.Parts.{RecordsFit, needed_apart}
use Rattle.acb.proofs.Laws.{components-some}

-- another tag states no ink, and is refused before
pub no-inks : (gs : List RecordRow) → 0 ≡ faults (ink_fault (other 0)) gs
unfolding faults
no-inks [] = refl
no-inks (g ∷ gs) = no-inks gs

-- where the first of two faults is given, the second changes nothing
kept : (f i n y : ℕ) → refused y 0 ≡ needs f n → needs f n ≡ needs (first_of f i) n
kept f i n y e = go (eqb f 0) refl
  where
    go : (b : Bool) → eqb f 0 ≡ b → needs f n ≡ needs (first_of f i) n
    go true z = let w : refused y 0 ≡ bytes n = e ∙ ap (λ (b : Bool). pick b (bytes n) (refused f 0)) z in let v : ◌≡◌ {A = ℕ} 0 1 = cc in absurd (omega arith)
    go false z = ap (λ (g : ℕ). needs g n) (sym (ap (λ (b : Bool). pick b i f) z))

module _ (text : List ℕ) (h : HeaderPlaces) (t : Ending) (gs : List RecordRow) where
  pub too_long : limit < size h t gs → refused 1 0 ≡ needed_apart text h t gs
  unfolding other_fault
  too_long k = needs-no (other_fault text h t gs) (size h t gs) 1 (simp (lt-leb _ _ k)) (λ z. omega arith)

  module _ (fits : size h t gs ≤ limit) where
    rest : other_fault text h t gs ≡ first_of (head_fault text h (length gs)) (first_of (faults (colour_fault text (components_of h.space)) gs) (ending_fault t))
    unfolding other_fault
    rest = simp (le-leb _ _ fits)

    -- the header was judged with n records
    module _ (x : ℕ) {n : ℕ} (counts : length gs ≡ n) (e : x ≡ head_fault text h n) where
      first : x ≡ head_fault text h (length gs)
      first = e ∙ ap (head_fault text h) (sym counts)

      pub bad-head : (x ≡ 0 → ⊥) → refused x 0 ≡ needed_apart text h t gs
      bad-head k = needs-no (other_fault text h t gs) (size h t gs) x (hit x _ _ first k ∙ sym rest) k

      -- and each record with m components
      module _ (z : x ≡ 0) (y : ℕ) {m : ℕ} (c : m ≡ components_of h.space) (w : y ≡ faults (colour_fault text m) gs) where
        behind : (r : ℕ) → r ≡ first_of (faults (colour_fault text (components_of h.space)) gs) (ending_fault t) → r ≡ other_fault text h t gs
        behind r e = pass r (head_fault text h (length gs)) _ x first z e ∙ sym rest

        second : y ≡ faults (colour_fault text (components_of h.space)) gs
        second = w ∙ ap (λ (j : ℕ). faults (colour_fault text j) gs) c

        pub bad_colour : (y ≡ 0 → ⊥) → refused y 0 ≡ needed_apart text h t gs
        bad_colour k = needs-no (other_fault text h t gs) (size h t gs) y (behind y (hit y _ _ second k)) k

        -- the records have no fault: the tag decides
        module _ (v : y ≡ 0) where
          last : ending_fault t ≡ other_fault text h t gs
          last = behind (ending_fault t) (pass (ending_fault t) (faults (colour_fault text (components_of h.space)) gs) _ y second v refl)

          pub bad-ending : ending_fault t ≡ 3 → refused 3 0 ≡ needed_apart text h t gs
          bad-ending k = needs-no (other_fault text h t gs) (size h t gs) 3 (sym k ∙ last) (λ a. omega arith)

          pub all-fine : (k : ℕ) → ending_fault t ≡ 0 → size h t gs ≡ k → bytes k ≡ needed_apart text h t gs
          all-fine k g s = needs-all (other_fault text h t gs) (size h t gs) k (sym last ∙ g) s

  -- the inks come last
  pub inks-refused : (y : ℕ) → refused y 0 ≡ needed_apart text h t gs → refused y 0 ≡ needed text h t gs
  unfolding fault
  inks-refused y e = e ∙ kept (other_fault text h t gs) (faults (ink_fault t) gs) (size h t gs) y e

  module _ (x : ℕ) (i : x ≡ faults (ink_fault t) gs) where
    module _ {k : ℕ} (e : bytes k ≡ needed_apart text h t gs) where
      none : (other_fault text h t gs ≡ 0) × (size h t gs ≡ k)
      none = needs-inv (other_fault text h t gs) (size h t gs) k e

      last-is : fault text h t gs ≡ x
      unfolding fault
      last-is = first-none _ _ none.0 ∙ sym i

      pub bad-ink : (x ≡ 0 → ⊥) → refused x 0 ≡ needed text h t gs
      bad-ink z = needs-no (fault text h t gs) (size h t gs) x (sym last-is) z

      pub all-inked : x ≡ 0 → bytes k ≡ needed text h t gs
      all-inked z = needs-all (fault text h t gs) (size h t gs) k (last-is ∙ z) none.1

  -- what the answer says of the book
  pub needed-bytes : (k : ℕ) → bytes k ≡ needed text h t gs → (fault text h t gs ≡ 0) × (size h t gs ≡ k)
  needed-bytes k e = needs-inv (fault text h t gs) (size h t gs) k e

  pub no-fault : fault text h t gs ≡ 0 → (head_fault text h (length gs) ≡ 0) × (faults (colour_fault text (components_of h.space)) gs ≡ 0) × (ending_fault t ≡ 0)
  unfolding fault other_fault
  no-fault e =
      let z = first-inv (other_fault text h t gs) (faults (ink_fault t) gs) e in
      let a = test-holds (leb (size h t gs) limit) _ 1 (omega arith) z.0 in
      let b = first-inv (head_fault text h (length gs)) _ a.1 in
      let c = first-inv (faults (colour_fault text (components_of h.space)) gs) (ending_fault t) b.1 in
      (b.0, c.0, c.1)

  -- what storing the records asks, behind the header
  pub records-fit : fault text h t gs ≡ 0 → (m p room : ℕ) → m ≡ components_of h.space → p ≡ head_size h → size h t gs ≤ room → RecordsFit text m gs p room
  records-fit e m p room w x k =
      let c = components-some h.space in
      let z = ap (λ (j : ℕ). sizes (size_within j) gs) w in
      record { least = omega (arith, w, c.0); most = omega (arith, w, c.1); inside = omega arith; sound = ap (λ (j : ℕ). faults (colour_fault text j) gs) w ∙ (no-fault e).1 }
