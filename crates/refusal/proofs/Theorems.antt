-- What a user counts on: a sentence for each number, in printable ASCII, within the length that the header states. Assumes nothing.
use Prim.Native.Nat.{ℕ, zero, suc, ◌≤◌}
use Prim.Native.String.{String}
use mathlib.Core.Path.{◌≡◌, refl, ap}
use mathlib.Core.List.{List, [], ◌∷◌}
use mathlib.Core.Bool.{Bool, true, false, ◌&&◌}
use lib.ListN.{length, get_or}
use lib.Dec.{leb, eqb}
use borrow.Author.Tests.{leb-true, lt-ltb, eqb-true}
use native.Mathlib.Omega.{arith}
use Rattle.algebra.specs.Reader.{pick}
use Rattle.algebra.specs.Refusal.{Of, among, one_of, table}
use Rattle.refusal.specs.Sentences.{ascii, sentence, sentences, number_fault, most}

both : (a b : Bool) → (a && b) ≡ true → (a ≡ true) × (b ≡ true)
both true b e = (refl, e)
both false b e = let z : ◌≡◌ {A = ℕ} 0 1 = cc in absurd (omega arith)

abbrev all : {A : Type 0} → (A → Bool) → List A → Bool
all test [] = true
all test (a ∷ more) = test a && all test more

each_of : (test : String → Bool) → test "" ≡ true → (l : List String) → all test l ≡ true → (n : ℕ) → test (get_or l n "") ≡ true
each_of test e [] h n = e
each_of test e (a ∷ more) h zero = (both (test a) (all test more) h).0
each_of test e (a ∷ more) h (suc n) = each_of test e more (both (test a) (all test more) h).1 n

-- no sentence is longer than `most`
pub within-most : (n : ℕ) → length (sentence n) ≤ most
within-most n = leb-true _ _ (each_of (λ s. leb (length (ascii s)) 68) refl sentences refl n)

-- every byte of a sentence is printable ASCII
pub printable : (n : ℕ) → all (λ b. leb 0x20 b && leb b 0x7E) (sentence n) ≡ true
printable n = each_of (λ s. all (λ b. leb 0x20 b && leb b 0x7E) (ascii s)) refl sentences refl n

-- a number of some that are at most m
one-of : (m : ℕ) (ns : List ℕ) → all (λ n. leb n m) ns ≡ true → (x : ℕ) → one_of ns x ≡ true → x ≤ m
one-of m [] h x e = let z : ◌≡◌ {A = ℕ} 0 1 = cc in absurd (omega arith)
one-of m (n ∷ ns) h x e = go (eqb x n) refl e (one-of m ns (both (leb n m) (all (λ n. leb n m) ns) h).1 x)
  where
    go : (b : Bool) → eqb x n ≡ b → pick b true (one_of ns x) ≡ true → (one_of ns x ≡ true → x ≤ m) → x ≤ m
    go true f g later = let k = both (leb n m) (all (λ n. leb n m) ns) h in omega (arith, eqb-true x n f, leb-true n m k.0)
    go false f g later = later g

-- every number of the refusal table has a sentence
pub every-number : (n : ℕ) → Of table n → number_fault n ≡ 0
every-number n (among e) = let k = one-of 14 table refl n e in ap (λ (b : Bool). pick b 0 12) (lt-ltb n 15 (omega arith))
