use Prim.Native.Nat.{ℕ, ◌+◌, ◌*◌}
use mathlib.Core.Path.{◌≡◌, sym, ap, ◌∙◌}
use native.Mathlib.Omega.{arith}
use native.Mathlib.Nat.{mul-zero}
use Rattle.acb_shown_values.specs.Pages.{records}
use Rattle.acb_shown_values.proofs.Sampling.{page-far, page-near, range-absent, range-there}
use Rattle.acb_shown_values.proofs.page.page_records.Goals.{then-n-ne0+else-count-n, else-n-ne0}
use Rattle.acb_shown_values.proofs.page.page_records.Goals as goal

pub returns-then-count-n : goal.returns-then-count-n
returns-then-count-n c =
    let a = c.args in
    sym (range-absent a.count a.size a.page (page-far a.count a.size a.page c.if-n-ne0.true c.if-count-n.true))

pub overflow_mul-first : goal.overflow_mul-first
overflow_mul-first c =
    let a = c.args in
    elim c.if-n-ne0.branch [
      | then-n-ne0+else-count-n w ↦ omega (arith, page-near a.count a.size a.page w.if-count-n.false)
      | else-n-ne0 w ↦ let z : a.page * a.size ≡ 0 = ap (λ (n : ℕ). a.page * n) w.if-n-ne0.false ∙ mul-zero a.page in omega arith
    ]

pub returns-then-count-first : goal.returns-then-count-first
returns-then-count-first c = let a = c.args in sym (range-absent a.count a.size a.page c.if-count-first.true)

pub returns : goal.returns
returns c =
    let a = c.args in
    ap (λ (n : ℕ). records (a.page * a.size) (a.page * a.size + n)) c.min.ensures ∙ sym (range-there a.count a.size a.page c.if-count-first.false)
