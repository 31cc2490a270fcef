use borrow.Author.Rules.{rules}
use lib.ListN.{length}
use Rattle.acb_write_judge.proofs.Judging.{colour_name}
use Rattle.acb_write.proofs.Puts.{put-colour}
use mathlib.Core.Path.{◌≡◌, sym, ap, ◌∙◌}
use mathlib.Core.List.{List}
use Prim.Native.Nat.{ℕ, ◌+◌}
use lib.Seq.{sets, take_all}
use Rattle.algebra.specs.Numbers.{be, joined}
use Rattle.acb_writing.specs.Writing.{components_in}
use native.Mathlib.Omega.{arith}
use Rattle.acb_write_judge.specs.Parts.{told_record}
use Rattle.acb_write.proofs.put_colour.Goals as goal

pub put_string-p-requires : goal.put_string-p-requires
put_string-p-requires c = let a = c.args in
    record { inside = omega (arith, c.requires.inside); sound = colour_name a.text.now a.n (told_record a.given) c.requires.sound }

pub returns-then-n-eq3 : goal.returns-then-n-eq3
returns-then-n-eq3 c = let a = c.args in
    let p = c.put_string-p in
    let g = told_record a.given in
    let o = c.put_bytes.new.out in
    let six : length a.given.code ≡ 6 = search rules in
    let three : 3 ≡ a.n = omega (arith, c.if-n-eq3.true) in
    let e = c.put_bytes-then-n-eq3.ensures ∙ ap (λ (k : ℕ). sets o (p.result + 6) (joined (be 1) (components_in k g))) three in
    (omega (arith, p.ensures.0), put-colour a.text.now a.n g six a.out.now _ _ _ a.at _ p.ensures.0 p.ensures.1 c.put_bytes.ensures e)

pub returns : goal.returns
returns c = let a = c.args in
    let p = c.put_string-p in
    let g = told_record a.given in
    let o = c.put_bytes.new.out in
    let six : length g.code ≡ 6 = search rules in
    let four : length g.components ≡ 4 = search rules in
    let all : components_in a.n g ≡ g.components = take_all a.n g.components (omega (arith, four, c.requires.least, c.if-n-eq3.false)) in
    let e = c.put_bytes-2.ensures ∙ ap (λ (l : List ℕ). sets o (p.result + 6) (joined (be 1) l)) (sym all) in
    (omega (arith, p.ensures.0, four, c.requires.least, c.requires.most, c.if-n-eq3.false), put-colour a.text.now a.n g six a.out.now _ _ _ a.at _ p.ensures.0 p.ensures.1 c.put_bytes.ensures e)
