use mathlib.Core.Path.{sym, ap, ◌∙◌}
use mathlib.Core.List.{List}
use Prim.Native.Nat.{ℕ}
use borrow.Author.Rules.{rules}
use lib.Seq.{sets}
use Rattle.tray.specs.scaffold.Parts.{plain, turned}
use Rattle.tray.proofs.Samples.{rgb-results, cmyk-results, gray-results, other-results}
use Rattle.tray.proofs.there.fill.Goals as goal

pub returns-in-0 : goal.returns-in-0
returns-in-0 c = let a = c.args in c.store_each.ensures (plain 65535) (λ j x y h e p. search rules) ∙ ap (λ (l : List ℕ). sets a.out.now 0 l) (sym (rgb-results a.space a.samples.now c.in-0.is c.requires.0))

pub returns-in-2 : goal.returns-in-2
returns-in-2 c = let a = c.args in c.store_each-in-2.ensures turned (λ j x y h e p. search rules) ∙ ap (λ (l : List ℕ). sets a.out.now 0 l) (sym (cmyk-results a.space a.samples.now c.in-2.is c.requires.0))

pub returns-in-8 : goal.returns-in-8
returns-in-8 c = let a = c.args in c.store_each-in-8.ensures (plain 10000) (λ j x y h e p. search rules) ∙ ap (λ (l : List ℕ). sets a.out.now 0 l) (sym (gray-results a.space a.samples.now c.in-8.is c.requires.0))

pub returns-in_default : goal.returns-in_default
returns-in_default c = let a = c.args in let r = c.in_default.in_default-own.rest in ap (λ (l : List ℕ). sets a.out.now 0 l) (sym (other-results a.space a.samples.now r.0.0.1 r.0.1 r.1 c.requires.0))
