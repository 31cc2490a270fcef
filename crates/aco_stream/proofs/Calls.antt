-- What each call promises, by the state that it is handed. Assumes nothing.
use Prim.Native.Nat.{ℕ, ◌≤◌, ◌<◌}
use mathlib.Core.Path.{◌≡◌, refl, sym, ap, ap₂, ◌∙◌, subst}
use mathlib.Core.List.{List, ◌++◌, append-nil}
use mathlib.Core.Bool.{Bool, true, false}
use lib.Dec.{ltb, leb}
use lib.ListN.{length, take, drop, take-append-drop}
use lib.Seq.{length-take-le, take-append_seam, drop-append_seam, length_front, take-length, drop-length}
use borrow.Author.Tests.{lt-ltb, le-ltb, le-leb, lt-leb, ltb-true, ltb-false, leb-true, leb-false, ne_eqb, eq-eqb}
use native.Mathlib.Omega.{arith}
use Rattle.algebra.specs.Reader.{pick}
use Rattle.algebra.specs.Table.{refused}
use Rattle.std.specs.Prelude.{min}
use native.Mathlib.Decide.{ℕ_discrete}
use Rattle.algebra.specs.Refusal.{Of}
use Rattle.algebra.proofs.Placed.{of-each}
use Rattle.aco.specs.Refusals.{refusals}
use Rattle.fault.specs.Fault.{number_of}
use Rattle.fault.specs.declared.Fault.{Fault}
use Rattle.fault.specs.declared.Fault.TheVariants as kind
use Rattle.aco_stream.specs.declared.Stream.{Stream}
use Rattle.aco_chunks.specs.Chunks.{FileVerdict, size, begin, chunk, answer}
use Rattle.aco_stream.specs.Answer.{progress, usable, roomy, room, ended, known, Starts, StartsBy, Feeds, FeedsBy, Finishes, FinishesBy}
use Rattle.aco_stream.specs.scaffold.Parts.{call_number, FeedsIn, FeedsInBy, FinishesIn, FinishesInBy}

module _ (s : Stream) where
  pub not-ended : s.ended ≡ true → usable s ≡ false
  not-ended e = ap (λ (b : Bool). pick b false (ltb s.got (size s.stage))) e

  pub not_short : s.ended ≡ false → size s.stage ≤ s.got → usable s ≡ false
  not_short e l = ap (λ (b : Bool). pick b false (ltb s.got (size s.stage))) e ∙ le-ltb s.got (size s.stage) l

  pub is_usable : s.ended ≡ false → s.got < size s.stage → usable s ≡ true
  is_usable e l = ap (λ (b : Bool). pick b false (ltb s.got (size s.stage))) e ∙ lt-ltb s.got (size s.stage) l

pub is-roomy : (store : List ℕ) → 40960 ≤ length store → roomy store ≡ true
is-roomy store l = le-leb 40960 (length store) l

pub not-roomy : (store : List ℕ) → length store < 40960 → roomy store ≡ false
not-roomy store l = lt-leb 40960 (length store) l

-- ---- numbers of files and others

module _ (x p r f : ℕ) (some : x ≡ 0 → ⊥) where
  pub known-far : 8 < x → refused 5 0 0 0 ≡ known (refused x p r f)
  known-far l =
      sym (ap (λ (b : Bool). pick b (refused 5 0 0 0) (pick (ltb 8 x) (refused 5 0 0 0) (refused x p r f))) (ne_eqb x 0 some)
      ∙ ap (λ (b : Bool). pick b (refused 5 0 0 0) (refused x p r f)) (lt-ltb 8 x l))

  pub known-near : x ≤ 8 → refused x p r f ≡ known (refused x p r f)
  known-near l =
      sym (ap (λ (b : Bool). pick b (refused 5 0 0 0) (pick (ltb 8 x) (refused 5 0 0 0) (refused x p r f))) (ne_eqb x 0 some)
      ∙ ap (λ (b : Bool). pick b (refused 5 0 0 0) (refused x p r f)) (le-ltb 8 x l))

-- one that a file cannot have
pub known-none : (x p r f : ℕ) → (0 < x → 8 < x) → refused 5 0 0 0 ≡ known (refused x p r f)
known-none x p r f h = elim (ℕ_discrete x 0) [
  | yes z ↦ sym (ap (λ (b : Bool). pick b (refused 5 0 0 0) (pick (ltb 8 x) (refused 5 0 0 0) (refused x p r f))) (eq-eqb x 0 z))
  | no z ↦ known-far x p r f z (h (omega arith))
]

-- one that an item's reader gives
pub known-item : (x p r f : ℕ) → Of refusals x → refused x p r f ≡ known (refused x p r f)
known-item x p r f h = let n = few h in known-near x p r f (λ z. omega (arith, n.0)) n.1
  where
    few : {x : ℕ} → Of refusals x → (0 < x) × (x ≤ 8)
    few h = of-each (λ x. (0 < x) × (x ≤ 8)) refusals ((omega arith, omega arith), ((omega arith, omega arith), ((omega arith, omega arith), ((omega arith, omega arith), ((omega arith, omega arith), ((omega arith, omega arith), ((omega arith, omega arith), ((omega arith, omega arith), tt)))))))) h

module _ (s : Stream) (store : List ℕ) where
  pub starts-11 : length store < 40960 → s.ended ≡ true → Starts store s 11
  starts-11 l e = subst (λ (b : Bool). StartsBy b store s 11) (sym (not-roomy store l)) (refl, e)

  pub starts-0 : 40960 ≤ length store → usable s ≡ true → progress s (take room store) ≡ begin (take room store) → Starts store s 0
  starts-0 l u e = subst (λ (b : Bool). StartsBy b store s 0) (sym (is-roomy store l)) (refl, u, e)

-- ---- what a call is answered that does not go on, and one that does

module _ (s : Stream) (store : List ℕ) where
  -- what a usable stream is
  pub open_of : usable s ≡ true → (s.ended ≡ false) × (s.got < size s.stage)
  open_of e = go s.ended refl e
    where
      go : (b : Bool) → s.ended ≡ b → pick b false (ltb s.got (size s.stage)) ≡ true → (s.ended ≡ false) × (s.got < size s.stage)
      go true h u = let z : ◌≡◌ {A = ℕ} 0 1 = cc in absurd (omega arith)
      go false h u = (h, ltb-true s.got (size s.stage) u)

  pub calls-5 : usable s ≡ false → ◌≡◌ {A = ℕ} 5 (call_number s store)
  calls-5 e = sym (ap (λ (b : Bool). pick b (pick (roomy store) 0 11) 5) e)

  pub calls-11 : usable s ≡ true → roomy store ≡ false → ◌≡◌ {A = ℕ} 11 (call_number s store)
  calls-11 e r = sym (ap₂ (λ (b c : Bool). pick b (pick c 0 11) 5) e r)

  pub calls-0 : usable s ≡ true → roomy store ≡ true → ◌≡◌ {A = ℕ} 0 (call_number s store)
  calls-0 e r = sym (ap₂ (λ (b c : Bool). pick b (pick c 0 11) 5) e r)

  -- it goes on
  pub admitted : ◌≡◌ {A = ℕ} 0 (call_number s store) → (usable s ≡ true) × (roomy store ≡ true)
  admitted e = go (usable s) (roomy store) e
    where
      go : (b c : Bool) → ◌≡◌ {A = ℕ} 0 (pick b (pick c 0 11) 5) → (b ≡ true) × (c ≡ true)
      go true true e = (refl, refl)
      go true false e = absurd (omega arith)
      go false c e = absurd (omega arith)

  pub feeds-not : (bytes : List ℕ) (n : ℕ) → n ≡ call_number s store → (n ≡ 0 → ⊥) → FeedsIn s store bytes s n store
  feeds-not bytes n e some = go (usable s) (roomy store) e
    where
      go : (b c : Bool) → n ≡ pick b (pick c 0 11) 5 → FeedsInBy b c s store bytes s n store
      go true true e = absurd (some e)
      go true false e = (e, refl, refl)
      go false c e = (e, refl, refl)

  pub feeds-0 : (bytes : List ℕ) → ◌≡◌ {A = ℕ} 0 (call_number s store) → (t : Stream) (after : List ℕ) → usable t ≡ true → progress t after ≡ chunk (progress s store) bytes → length after ≡ length store → FeedsIn s store bytes t 0 after
  feeds-0 bytes e t after u g l =
      let a = admitted e in
      subst (λ (b : Bool). FeedsInBy b (roomy store) s store bytes t 0 after) (sym a.0) (subst (λ (b : Bool). FeedsInBy true b s store bytes t 0 after) (sym a.1) (refl, u, g, l))

  pub finishes-not : (n : ℕ) → n ≡ call_number s store → (n ≡ 0 → ⊥) → FinishesIn s store s (refused n 0 0 0)
  finishes-not n e some = go (usable s) (roomy store) e
    where
      go : (b c : Bool) → n ≡ pick b (pick c 0 11) 5 → FinishesInBy b c s store s (refused n 0 0 0)
      go true true e = absurd (some e)
      go true false e = (ap (λ (k : ℕ). refused k 0 0 0) e, refl)
      go false c e = (ap (λ (k : ℕ). refused k 0 0 0) e, refl)

  pub finishes-0 : ◌≡◌ {A = ℕ} 0 (call_number s store) → (w : FileVerdict) → w ≡ known (answer (progress s store)) → FinishesIn s store (ended s) w
  finishes-0 e w h =
      let a = admitted e in
      subst (λ (b : Bool). FinishesInBy b (roomy store) s store (ended s) w) (sym a.0) (subst (λ (b : Bool). FinishesInBy true b s store (ended s) w) (sym a.1) (h, refl))

-- a fault has a number
pub some-number : (f : Fault) → number_of f ≡ 0 → ⊥
some-number kind.TooLong e = omega arith
some-number kind.Short e = omega arith
some-number kind.WrongTag e = omega arith
some-number kind.Unknown e = omega arith
some-number kind.OutOfRange e = omega arith
some-number kind.LeftOver e = omega arith
some-number kind.ListsDiffer e = omega arith
some-number kind.BadlyClosed e = omega arith
some-number kind.Unbalanced e = omega arith
some-number kind.TooDeep e = omega arith
some-number kind.NoRoom e = omega arith
some-number kind.NoRecord e = omega arith
some-number kind.WrongLength e = omega arith
some-number kind.NoCounterpart e = omega arith

-- the smaller of two numbers
pub least-of : (n a b : ℕ) → n ≡ min a b → (n ≤ a) × (n ≤ b) × (a < b → n ≡ a) × (b ≤ a → n ≡ b)
least-of n a b e = (omega arith, omega arith, λ h. omega (arith, h), λ h. omega (arith, h))

-- ---- a store that is too short is handed on as it is, of another its first bytes

module _ (s : Stream) (store bytes : List ℕ) (t : Stream) (number : ℕ) where
  pub feeds-short : (after : List ℕ) → length store < 40960 → FeedsIn s store bytes t number after → Feeds s store bytes t number after
  feeds-short after l f = go (usable s) (roomy store) (not-roomy store l) f
    where
      go : (u b : Bool) → b ≡ false → FeedsInBy u b s store bytes t number after → FeedsBy u b s store bytes t number after
      go true true e f = let z : ◌≡◌ {A = ℕ} 0 1 = cc in absurd (omega arith)
      go true false e f = f
      go false b e f = f

  -- the first bytes are what the call inside left, the others as they were
  pub feeds-long : (front : List ℕ) → 40960 ≤ length store → length front ≡ length (take room store) → FeedsIn s (take room store) bytes t number front → Feeds s store bytes t number (front ++ drop room store)
  feeds-long front l m f = go (usable s) (roomy (take room store)) (roomy store) (is-roomy store l) (is-roomy (take room store) (omega (arith, length-take-le room store l))) f
    where
      after : List ℕ
      after = front ++ drop room store

      long : length front ≡ room
      long = m ∙ length-take-le room store l

      first : take room after ≡ front
      first = ap (λ (n : ℕ). take n after) (sym long) ∙ take-append_seam front (drop room store)

      rest : drop room after ≡ drop room store
      rest = ap (λ (n : ℕ). drop n after) (sym long) ∙ drop-append_seam front (drop room store)

      same : front ≡ take room store → after ≡ store
      same h = ap (λ (x : List ℕ). x ++ drop room store) h ∙ take-append-drop room store

      sized : length after ≡ length store
      sized = length_front store front room m

      go : (u b c : Bool) → c ≡ true → b ≡ true → FeedsInBy u b s (take room store) bytes t number front → FeedsBy u c s store bytes t number after
      go true true true q z f = (f.0, f.1, ap (progress t) first ∙ f.2, rest, sized)
      go true true false q z f = let z : ◌≡◌ {A = ℕ} 0 1 = cc in absurd (omega arith)
      go true false true q z f = let z : ◌≡◌ {A = ℕ} 0 1 = cc in absurd (omega arith)
      go true false false q z f = let z : ◌≡◌ {A = ℕ} 0 1 = cc in absurd (omega arith)
      go false true true q z f = (f.0, f.1, same f.2)
      go false true false q z f = (f.0, f.1, same f.2)
      go false false true q z f = (f.0, f.1, same f.2)
      go false false false q z f = (f.0, f.1, same f.2)

-- a front of the store is lent on: all of one that is too short, else its first bytes
pub feeds-front : (s : Stream) (store bytes : List ℕ) (t : Stream) (number n : ℕ) (front : List ℕ) → (40960 < length store → n ≡ 40960) → (length store ≤ 40960 → n ≡ length store) → length front ≡ length (take n store) → FeedsIn s (take n store) bytes t number front → Feeds s store bytes t number (front ++ drop n store)
feeds-front s store bytes t number n front long short m f = go (leb 40960 (length store)) refl
  where
    go : (b : Bool) → leb 40960 (length store) ≡ b → Feeds s store bytes t number (front ++ drop n store)
    go true e =
        let l = leb-true 40960 (length store) e in
        let q : n ≡ 40960 = at_least l in
        subst (λ (k : ℕ). Feeds s store bytes t number (front ++ drop k store)) (sym q) (feeds-long s store bytes t number front l (m ∙ ap (λ (k : ℕ). length (take k store)) q) (subst (λ (k : ℕ). FeedsIn s (take k store) bytes t number front) q f))
      where
        at_least : 40960 ≤ length store → n ≡ 40960
        at_least l = either (ltb 40960 (length store)) refl
          where
            either : (c : Bool) → ltb 40960 (length store) ≡ c → n ≡ 40960
            either true h = long (ltb-true 40960 (length store) h)
            either false h = let g = ltb-false 40960 (length store) h in short g ∙ omega arith
    go false e =
        let l = leb-false 40960 (length store) e in
        let q : n ≡ length store = short (omega arith) in
        let a : front ++ drop n store ≡ front = ap (λ (k : ℕ). front ++ drop k store) q ∙ ap (λ (x : List ℕ). front ++ x) (drop-length store) ∙ append-nil front in
        subst (Feeds s store bytes t number) (sym a) (feeds-short s store bytes t number front l (subst (λ (x : List ℕ). FeedsIn s x bytes t number front) (ap (λ (k : ℕ). take k store) q ∙ take-length store) f))

module _ (s : Stream) (store : List ℕ) (t : Stream) (w : FileVerdict) where
  pub finishes-short : length store < 40960 → FinishesIn s store t w → Finishes s store t w
  finishes-short l f = go (usable s) (roomy store) (not-roomy store l) f
    where
      go : (u b : Bool) → b ≡ false → FinishesInBy u b s store t w → FinishesBy u b s store t w
      go true true e f = let z : ◌≡◌ {A = ℕ} 0 1 = cc in absurd (omega arith)
      go true false e f = f
      go false b e f = f

  pub finishes-long : 40960 ≤ length store → FinishesIn s (take room store) t w → Finishes s store t w
  finishes-long l f = go (usable s) (roomy (take room store)) (roomy store) (is-roomy store l) (is-roomy (take room store) (omega (arith, length-take-le room store l))) f
    where
      go : (u b c : Bool) → c ≡ true → b ≡ true → FinishesInBy u b s (take room store) t w → FinishesBy u c s store t w
      go true true true q z f = f
      go true true false q z f = let z : ◌≡◌ {A = ℕ} 0 1 = cc in absurd (omega arith)
      go true false true q z f = let z : ◌≡◌ {A = ℕ} 0 1 = cc in absurd (omega arith)
      go true false false q z f = let z : ◌≡◌ {A = ℕ} 0 1 = cc in absurd (omega arith)
      go false true true q z f = f
      go false true false q z f = f
      go false false true q z f = f
      go false false false q z f = f
