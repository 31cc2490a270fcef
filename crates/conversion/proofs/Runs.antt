-- What a run gives, said of its elements by their positions; and that runs come back. Assumes nothing.
use Prim.Native.Nat.{ℕ, zero, suc, ◌+◌, ◌-◌, ◌≤◌, ◌<◌}
use mathlib.Core.Path.{◌≡◌, refl, sym, ap, ◌∙◌}
use mathlib.Core.List.{List, [], ◌∷◌, ◌++◌}
use native.Mathlib.Omega.{arith}
use native.Mathlib.Nat.{add-zero}
use borrow.Author.Tests.{le-leb, lt-leb}
use lib.ListN.{length, get_or, drop, length-append, length-drop, get_or-append}
use lib.Seq.{get_or-drop, get_or-append-add}
use lib.Ieee.{Float, binary32, to_bits}
use Rattle.colour.specs.Models.{traits_of}
use Rattle.colour.specs.Spaces.{full}
use Rattle.colour.specs.declared.model.Model.{Model}
use Rattle.conversion.specs.Convert.{Converted, gives, refused, and_then, to_channel, to_sample, Counterparts, back}
use Rattle.conversion.proofs.Theorems.{all-return}
use Rattle.conversion.specs.Promise.{Each, FirstOf, Filled}
use Rattle.conversion.specs.Tray.{at_position, converted_in_order, lent, tray, to_bits_of}

-- no elements are accepted, whatever the conversion
pub none-given : (f : ℕ → Converted ℕ) (k : ℕ) → converted_in_order f k [] ≡ gives []
unfolding converted_in_order
none-given f k = refl

module _ (f : ℕ → Converted ℕ) where
  pub results-each : (k : ℕ) (xs ys : List ℕ) → converted_in_order f k xs ≡ gives ys → Each f xs ys
  unfolding converted_in_order
  results-each k [] ys e = go ys e
    where
      go : (ys : List ℕ) → gives [] ≡ gives ys → Each f [] ys
      go [] e = record { many = refl; own = λ j h. absurd (omega arith) }
      go (y ∷ ys) e = let z : ◌≡◌ {A = List ℕ} [] (y ∷ ys) = cc in let w : ◌≡◌ {A = ℕ} 0 1 = cc in absurd (omega arith)
  results-each k (x ∷ xs) ys e = go (f x) refl (converted_in_order f (k + 1) xs) (results-each (k + 1) xs) e
    where
      go : (c : Converted ℕ) → f x ≡ c → (m : Converted (List ℕ)) → ((zs : List ℕ) → m ≡ gives zs → Each f xs zs) → and_then (at_position k c) (λ z. and_then m (λ zs. gives (z ∷ zs))) ≡ gives ys → Each f (x ∷ xs) ys
      go (refused n p) c m h e = let z : ◌≡◌ {A = ℕ} 0 1 = cc in absurd (omega arith)
      go (gives y) c (refused n p) h e = let z : ◌≡◌ {A = ℕ} 0 1 = cc in absurd (omega arith)
      go (gives y) c (gives zs) h e = put ys cc
        where
          put : (ys : List ℕ) → ys ≡ y ∷ zs → Each f (x ∷ xs) ys
          put ys g = rw g (record { many = ap suc (h zs refl).many; own = at })
            where
              at : (j : ℕ) → j < suc (length xs) → f (get_or (x ∷ xs) j 0) ≡ gives (get_or (y ∷ zs) j 0)
              at zero l = c
              at (suc j) l = (h zs refl).own j (omega arith)

  pub refused-first : (k : ℕ) (xs : List ℕ) (n i : ℕ) → converted_in_order f k xs ≡ refused n i → (j : ℕ) × (i ≡ k + j) × FirstOf f xs n j
  unfolding converted_in_order
  refused-first k [] n i e = let z : ◌≡◌ {A = ℕ} 0 1 = cc in absurd (omega arith)
  refused-first k (x ∷ xs) n i e = go (f x) refl (converted_in_order f (k + 1) xs) (refused-first (k + 1) xs) e
    where
      go : (c : Converted ℕ) → f x ≡ c → (m : Converted (List ℕ)) → ((n i : ℕ) → m ≡ refused n i → (j : ℕ) × (i ≡ k + 1 + j) × FirstOf f xs n j) → and_then (at_position k c) (λ z. and_then m (λ zs. gives (z ∷ zs))) ≡ refused n i → (j : ℕ) × (i ≡ k + j) × FirstOf f (x ∷ xs) n j
      go (refused a p) c m h e =
          let at : i ≡ k = cc in
          let number : a ≡ n = cc in
          (0, at ∙ sym (add-zero k), record { inside = omega arith; own = (p, c ∙ ap (λ (z : ℕ). refused z p) number); before = λ h l. absurd (omega arith) })
      go (gives y) c (gives zs) h e = let z : ◌≡◌ {A = ℕ} 0 1 = cc in absurd (omega arith)
      go (gives y) c (refused a b) h e =
          let t = h n i cc in
          let w = t.2 in
          (suc t.0, later i k t.0 t.1, record { inside = omega (arith, w.inside); own = w.own; before = earlier w })
        where
          later : (i k j : ℕ) → i ≡ k + 1 + j → i ≡ k + suc j
          later i k j e = omega arith

          earlier : {j : ℕ} → FirstOf f xs n j → (h : ℕ) → h < suc j → (y : ℕ) × (f (get_or (x ∷ xs) h 0) ≡ gives y)
          earlier w zero l = (y, c)
          earlier w (suc h) l = w.before h (omega arith)

-- ---- into a lent run

module _ (f : ℕ → Converted ℕ) (xs out : List ℕ) where
  -- an element's refusal is the answer, however short the lent run, and changes nothing
  pub refused-answers : (n k : ℕ) → converted_in_order f 0 xs ≡ refused n k → (tray f xs out).0 ≡ refused n k
  refused-answers n k e = ap (λ (m : Converted (List ℕ)). (lent m out).0) e

  pub refused-keeps : (n k : ℕ) → converted_in_order f 0 xs ≡ refused n k → (tray f xs out).1 ≡ out
  refused-keeps n k e = ap (λ (m : Converted (List ℕ)). (lent m out).1) e

  -- 11 where the results do not fit, and nothing changes
  pub short-refused : (ys : List ℕ) → converted_in_order f 0 xs ≡ gives ys → length out < length ys → tray f xs out ≡ (refused 11 0, out)
  short-refused ys e h = ap (λ (m : Converted (List ℕ)). lent m out) e ∙ rw (lt-leb (length ys) (length out) h)

  -- else all are stored
  pub all-stored : (ys : List ℕ) → converted_in_order f 0 xs ≡ gives ys → length ys ≤ length out → ((tray f xs out).0 ≡ gives tt) × Filled ys out (tray f xs out).1
  all-stored ys e h = rw (e, le-leb (length ys) (length out) h) (refl, filled)
    where
      filled : Filled ys out (ys ++ drop (length ys) out)
      filled = record {
        same = omega (arith, length-append ys (drop (length ys) out), length-drop (length ys) out);
        stored = λ j l. get_or-append ys (drop (length ys) out) 0 j l;
        kept = λ j l. past j l;
      }
        where
          past : (j : ℕ) → length ys ≤ j → get_or (ys ++ drop (length ys) out) j 0 ≡ get_or out j 0
          past j l =
              let k : length ys + (j - length ys) ≡ j = omega arith in
              ap (λ (i : ℕ). get_or (ys ++ drop (length ys) out) i 0) (sym k)
              ∙ get_or-append-add ys (drop (length ys) out) (j - length ys) 0
              ∙ get_or-drop (length ys) out (j - length ys) 0
              ∙ ap (λ (i : ℕ). get_or out i 0) k

-- ---- a run of samples on their scale has channels, and they give the samples back

module _ {x : ℕ} {m : Model} (c : Counterparts x m) where
  one-returns : (v : ℕ) → v ≤ full x → (y : ℕ) × (to_bits_of x v ≡ gives y) × (to_sample (traits_of m).tag y ≡ gives v)
  one-returns v h = go (to_channel x v) (all-return c v h)
    where
      go : (r : Converted Float) → back (traits_of m).tag r ≡ gives v → (y : ℕ) × (and_then r (λ c. gives (to_bits binary32 c)) ≡ gives y) × (to_sample (traits_of m).tag y ≡ gives v)
      go (gives q) e = (to_bits binary32 q, refl, e)
      go (refused n p) e = let z : ◌≡◌ {A = ℕ} 0 1 = cc in absurd (omega arith)

  pub runs_return : (k : ℕ) (vs : List ℕ) → ((j : ℕ) → j < length vs → get_or vs j 0 ≤ full x) → (ys : List ℕ) × (converted_in_order (to_bits_of x) k vs ≡ gives ys) × (converted_in_order (to_sample (traits_of m).tag) k ys ≡ gives vs)
  unfolding converted_in_order
  runs_return k [] h = ([], refl, refl)
  runs_return k (v ∷ vs) h =
      let o = one-returns v (h 0 (omega arith)) in
      let r = runs_return (k + 1) vs (λ j l. h (suc j) (omega arith)) in
      (o.0 ∷ r.0, rw (o.1, r.1), rw (o.2, r.2))
