use borrow.Author.Rules.{rules}
use native.Mathlib.Omega.{arith}
use Prim.Native.Nat.{ℕ, ◌+◌, ◌-◌}
use mathlib.Core.List.{List, ◌∷◌}
use mathlib.Core.Path.{refl, sym, ap, ap₂, ◌∙◌}
use Rattle.acb.specs.Reading.{components_of}
use Rattle.acb.specs.Row.{RecordRow}
use Rattle.acb_read.specs.Answer.{RecordPlaces}
use Rattle.acb_read.specs.Walked.{step, given_in, walked}
use Rattle.acb_read.proofs.Walking.{walked_start, walked-turn, walked_end}
use Rattle.listing.specs.Buffer.{put_all}
use Rattle.listing.specs.Text.{lines}
use Rattle.listing.proofs.Putting.{put_both}
use Rattle.acb_list.specs.scaffold.Parts.{record_text, given_line}
use Rattle.acb_list.proofs.Listed.{line-put, lines-put}
use Rattle.acb_list.proofs.put_records.Goals as goal

pub loop-i-init : goal.loop-i-init
loop-i-init c =
    let a = c.args in
    (omega arith, refl, ap (λ (gs : List RecordRow). put_all (a.out.now, a.n) (lines (given_line a.file.now (components_of a.space)) 0 gs)) (walked_start a.space a.file.now a.first a.count))

pub loop-i-preserved : goal.loop-i-preserved
loop-i-preserved c =
    let put = c.put_record-at in
    let num = c.put_number-at in
    let st = c.step_at-step in
    let h = c.loop-i-test.true in
    let l = c.loop-i in
    let a = c.args in
    let s = a.file.now in
    let n = ap (λ (w : RecordPlaces × ℕ). w.1) st.ensures in
    let e = walked-turn a.space s l.p a.count l.i h ∙ ap (λ (q : ℕ). given_in (step a.space s l.p).0 ∷ walked a.space s q (a.count - (l.i + 1))) (sym n) in
    let x = put_both _ _ _ num.ensures (put.ensures ∙ ap₂ (λ (k : ℕ) (g : RecordRow). put_all (num.new.out, num.result) (record_text s k g)) c.components_of-components.ensures (c.given.ensures ∙ ap (λ (w : RecordPlaces × ℕ). given_in w.0) st.ensures)) in
    (omega arith, search rules, line-put (given_line s (components_of a.space)) _ (l.out, l.at) l.i l.invariant.2 e x)

pub returns : goal.returns
returns c =
    let l = c.loop-i in
    let a = c.args in
    sym (lines-put (given_line a.file.now (components_of a.space)) _ (l.out, l.at) l.i l.invariant.2 (walked_end a.space a.file.now l.p a.count l.i c.loop-i-test.false))
