-- How short fields and heads can be. Assumes nothing.
use Prim.Native.Nat.{ℕ, ◌+◌, ◌≤◌}
use mathlib.Core.Path.{◌≡◌}
use mathlib.Core.List.{List, [], ◌++◌}
use lib.ListN.{length, length-append}
use native.Mathlib.Omega.{arith}
use Rattle.algebra.specs.Chars.{chars}
use Rattle.algebra.specs.Numbers.{be}
use Rattle.algebra.proofs.Places.{length-be}
use Rattle.algebra.specs.Sets.{Field, Number, Prefixed}
use Rattle.descriptor_tree.specs.Grammar.{IdBody, Id, Class, Leaf}
use Rattle.algebra.specs.Sets.Number.{number}
use Rattle.algebra.specs.Sets.Seq.{seq}
use Rattle.algebra.specs.Sets.Prefixed.{prefixed}
use Rattle.descriptor_tree.specs.Grammar.IdBody.{char, string}
use Rattle.descriptor_tree.specs.Tree.{Place, Item, Member, head}

number_size : {w : ℕ} {P : ℕ → Type 0} {b : List ℕ} → Number w P b → length b ≡ w
number_size {w} (number n l p) = length-be w n

counted-size : {Y : ℕ → Field} {b : List ℕ} → Prefixed Y b → 4 ≤ length b
counted-size (prefixed n {y = y} l h) = omega (arith, length-append (be 4 n) y, length-be 4 n)

pub id-size : {b : List ℕ} → Id b → 5 ≤ length b
id-size (prefixed n {y = y} l h) = omega (arith, length-append (be 4 n) y, length-be 4 n, body h)
  where
    body : {n : ℕ} {b : List ℕ} → IdBody n b → 1 ≤ length b
    body (char e) = omega arith
    body (string h e) = omega arith

pub class-size : {b : List ℕ} → Class b → 9 ≤ length b
class-size (seq {x = x} {y = y} t i) = omega (arith, length-append x y, counted-size t, id-size i)

leaf-size : {kind : ℕ} {b : List ℕ} → Leaf kind b → 1 ≤ length b
leaf-size (Leaf.boolean h) = omega (arith, number_size h)
leaf-size (Leaf.class h) = omega (arith, class-size h)
leaf-size (Leaf.global_class h) = omega (arith, class-size h)
leaf-size (Leaf.double h) = omega (arith, number_size h)
leaf-size (Leaf.enumerated (seq {x = x} {y = y} t i)) = omega (arith, length-append x y, id-size t)
leaf-size (Leaf.alias h) = omega (arith, counted-size h)
leaf-size (Leaf.path h) = omega (arith, counted-size h)
leaf-size (Leaf.integer h) = omega arith
leaf-size (Leaf.large h) = omega arith
leaf-size (Leaf.raw h) = omega (arith, counted-size h)
leaf-size (Leaf.text h) = omega (arith, counted-size h)
leaf-size (Leaf.unit_double h) = omega (arith, counted-size h)

item-size : {kind n : ℕ} {c : Place} {b : List ℕ} → Item kind c n b → 1 ≤ length b
item-size (Item.leaf l) = leaf-size l
item-size (Item.list n l) = omega (arith, length-be 4 n)
item-size (Item.object n {b = b} l c) = omega (arith, length-append b (be 4 n), length-be 4 n)
item-size (Item.global n {b = b} l c) = omega (arith, length-append b (be 4 n), length-be 4 n)
item-size (Item.reference n l) = omega (arith, length-be 4 n)
item-size (Item.array m n {b = b} l g c) = omega (arith, length-append (be 4 m) (b ++ be 4 n), length-be 4 m)

pub length-head : (key : List ℕ) (kind : ℕ) (fields : List ℕ) → length (head key kind fields) ≡ length key + 4 + length fields
length-head key kind fields = omega (arith, length-append key (be 4 kind ++ fields), length-append (be 4 kind) fields, length-be 4 kind)

-- a head is never shorter than five bytes
pub head-size : {c below : Place} {key b : List ℕ} {kind n : ℕ} → Member c key kind below n b → 5 ≤ length (head key kind b)
head-size (Member.item {kind = kind} {b = b} i) = omega (arith, length-head [] kind b, item-size i)
head-size (Member.pair {key = key} {kind = kind} {b = b} y i) = omega (arith, length-head key kind b, item-size i)
head-size (Member.form {kind = kind} {b = b} (seq {x = x} {y = y} c f)) = omega (arith, length-head [] kind b, length-append x y, class-size c)
head-size (Member.column {key = key} {b = b} y x) = omega (arith, length-head key (chars "UnFl") b, id-size y)
