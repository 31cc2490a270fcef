use Prim.Native.Nat.{ℕ}
use mathlib.Core.Path.{sym, ap, ◌∙◌}
use mathlib.Core.List.{List}
use Rattle.report.proofs.Laws.{merged-fits, merged-full}
use borrow.Author.Rules.{rules}
use Rattle.report.proofs.sum_of.Goals as goal

pub returns-then-not-all_fit : goal.returns-then-not-all_fit
returns-then-not-all_fit c =
    let a = c.args in
    sym (merged-full a.first a.second (sym c.all_fit.ensures ∙ c.if-not-all_fit.true))

pub add_all-requires : goal.add_all-requires
add_all-requires c = (search rules, search rules, sym c.all_fit.ensures ∙ c.if-not-all_fit.false)

pub returns : goal.returns
returns c =
    let a = c.args in
    ap (λ (t : List ℕ). (0, t)) c.add_all.ensures ∙ sym (merged-fits a.first a.second (sym c.all_fit.ensures ∙ c.if-not-all_fit.false))
