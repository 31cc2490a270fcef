use Rattle.descriptor_list.proofs.put_kind.Goals.{then-loop-k-test+else-tag-k-eq32, else-loop-k-test}
use native.Mathlib.Omega.{arith}
use Prim.Native.Nat.{ℕ}
use mathlib.Core.List.{List}
use lib.ListN.{take}
use mathlib.Core.Path.{◌≡◌, refl, sym, ap, ap₂, ◌∙◌}
use Rattle.algebra.specs.Numbers.{be}
use Rattle.algebra.proofs.Places.{length-be}
use Rattle.listing.specs.Buffer.{put_all}
use Rattle.listing.proofs.Wording.{stored-whole}
use Rattle.descriptor_list.specs.Listing.{kept}
use Rattle.descriptor_list.proofs.Listed.{kept-space, kept-all}
use Rattle.descriptor_list.proofs.put_kind.Goals as goal

pub loop-k-init : goal.loop-k-init
loop-k-init c = (omega arith, refl)

pub loop-k-preserved : goal.loop-k-preserved
loop-k-preserved c =
    let l = c.loop-k in
    (omega arith, l.invariant.1 ∙ kept-space c.put_number.new.out l.k c.loop-k-test.true c.if-tag-k-eq32.true)

pub returns : goal.returns
returns c =
    let l = c.loop-k in
    let u = c.put_number in
    let a = c.args in
    let last : kept u.new.out l.k ≡ l.k =
    elim c.loop-k-test.branch [ then-loop-k-test+else-tag-k-eq32 w ↦ kept-all u.new.out l.k (λ h e. w.if-tag-k-eq32.false e) | else-loop-k-test w ↦ kept-all u.new.out l.k (λ h e. omega (arith, w.loop-k-test.false)) ] in
    let tag = u.ensures ∙ stored-whole _ (be 4 a.kind) (length-be 4 a.kind) in
    c.put_text.ensures ∙ ap₂ (λ (k : ℕ) (t : List ℕ). put_all (a.out.now, a.n) (take k t)) (sym (l.invariant.1 ∙ last) ∙ ap (λ (t : List ℕ). kept t 4) tag) tag
