-- Pieces one after the other. Assumes nothing.
use Prim.Native.Nat.{ℕ, zero, suc, ◌+◌, ◌-◌, ◌≤◌}
use mathlib.Core.Path.{◌≡◌, refl, sym, ap, ap₂, ◌∙◌}
use mathlib.Core.List.{List, [], ◌∷◌, ◌++◌}
use lib.ListN.{length, length-append, length-take, length-drop}
use native.Mathlib.Omega.{arith}
use Rattle.algebra.specs.Numbers.{joined}
use Rattle.algebra.specs.Store.{part}
use Rattle.algebra.specs.Faults.{first_of, faults}
use Rattle.algebra.proofs.Places.{length-be, joined-append}
use Rattle.algebra.proofs.Tells.{first_some}
use Rattle.descriptor_entry.specs.Pieces.{Piece, number, run, units, doubles, size_of, bytes_of, size, bytes, Fit, Fits}

pub first-assoc : (a b c : ℕ) → first_of a (first_of b c) ≡ first_of (first_of a b) c
first-assoc zero b c = refl
first-assoc (suc a) b c = first_some (suc a) (first_of b c) (omega arith) ∙ sym (ap (λ (x : ℕ). first_of x c) (first_some (suc a) b (omega arith)) ∙ first_some (suc a) c (omega arith))

pub faults-append : {A : Type 0} (g : A → ℕ) (ps qs : List A) → faults g (ps ++ qs) ≡ first_of (faults g ps) (faults g qs)
unfolding faults
faults-append g [] qs = refl
faults-append g (p ∷ ps) qs = ap (λ (x : ℕ). first_of (g p) x) (faults-append g ps qs) ∙ first-assoc (g p) (faults g ps) (faults g qs)

pub size-append : (ps qs : List Piece) → size (ps ++ qs) ≡ size ps + size qs
unfolding size
size-append [] qs = omega arith
size-append (p ∷ ps) qs = omega (arith, size-append ps qs)

pub bytes-append : (text : List ℕ) (ps qs : List Piece) → bytes text (ps ++ qs) ≡ bytes text ps ++ bytes text qs
bytes-append text ps qs = joined-append (bytes_of text) ps qs

-- ---- pieces that fit their fields

pub fits-left : (text : List ℕ) (ps qs : List Piece) → Fits text (ps ++ qs) → Fits text ps
fits-left text [] qs h = tt
fits-left text (p ∷ ps) qs h = (h.0, fits-left text ps qs h.1)

pub fits-right : (text : List ℕ) (ps qs : List Piece) → Fits text (ps ++ qs) → Fits text qs
fits-right text [] qs h = h
fits-right text (p ∷ ps) qs h = fits-right text ps qs h.1

pub fits-join : (text : List ℕ) (ps qs : List Piece) → Fits text ps → Fits text qs → Fits text (ps ++ qs)
fits-join text [] qs h g = g
fits-join text (p ∷ ps) qs h g = (h.0, fits-join text ps qs h.1 g)

-- then their bytes are as many as they say
one-length : (text : List ℕ) (p : Piece) → Fit text p → length (bytes_of text p) ≡ size_of p
one-length text (number w v x) h = length-be w v
one-length text (run first n) h = h
one-length text (units first n) h = h
one-length text (doubles first n) h = h

pub bytes-length : (text : List ℕ) (ps : List Piece) → Fits text ps → length (bytes text ps) ≡ size ps
unfolding joined size
bytes-length text [] h = refl
bytes-length text (p ∷ ps) h = length-append (bytes_of text p) (bytes text ps) ∙ ap₂ (λ (x y : ℕ). x + y) (one-length text p h.0) (bytes-length text ps h.1)

-- a part of the text that is as long as it is given lies in it, save one of no bytes
pub part-inside : (text : List ℕ) (first n : ℕ) → length (part text first n) ≡ n → n ≤ length text - first
part-inside text first n h = let e : length (part text first n) ≤ length text - first = simp (length-take, length-drop) (omega arith) in omega arith
