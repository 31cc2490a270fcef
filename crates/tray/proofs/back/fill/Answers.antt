use mathlib.Core.Path.{sym, ap, ◌∙◌}
use mathlib.Core.List.{List}
use Prim.Native.Nat.{ℕ}
use native.Mathlib.Omega.{arith}
use borrow.Author.Rules.{rules}
use lib.Seq.{sets}
use Rattle.conversion.specs.Scale.{sample_of_bits}
use Rattle.tray.specs.scaffold.Parts.{inked}
use Rattle.tray.proofs.Channels.{rgb-results, cmyk-results, gray-results, other-results}
use Rattle.tray.proofs.back.fill.Goals as goal

pub returns-then-tag : goal.returns-then-tag
returns-then-tag c = let a = c.args in c.store_each.ensures (sample_of_bits 65535) (λ j x y h e p. search rules) ∙ ap (λ (l : List ℕ). sets a.out.now 0 l) (sym (rgb-results a.tag a.bits.now (λ j. let fit = c.type_inv.bits j in omega arith) c.if-tag.true c.requires.0))

pub returns-then-tag-2 : goal.returns-then-tag-2
returns-then-tag-2 c = let a = c.args in c.store_each-then-tag-2.ensures inked (λ j x y h e p. search rules) ∙ ap (λ (l : List ℕ). sets a.out.now 0 l) (sym (cmyk-results a.tag a.bits.now (λ j. let fit = c.type_inv.bits j in omega arith) c.if-tag-2.true c.requires.0))

pub returns-then-tag-3 : goal.returns-then-tag-3
returns-then-tag-3 c = let a = c.args in c.store_each-then-tag-3.ensures (sample_of_bits 10000) (λ j x y h e p. search rules) ∙ ap (λ (l : List ℕ). sets a.out.now 0 l) (sym (gray-results a.tag a.bits.now (λ j. let fit = c.type_inv.bits j in omega arith) c.if-tag-3.true c.requires.0))

pub returns : goal.returns
returns c = let a = c.args in ap (λ (l : List ℕ). sets a.out.now 0 l) (sym (other-results a.tag a.bits.now c.if-tag.false c.if-tag-2.false c.if-tag-3.false c.requires.0))
