use borrow.Author.Rules.{rules}
use borrow.Author.Tests.{eq-eqb, ne_eqb}
use native.Mathlib.Omega.{arith}
use Prim.Native.Nat.{ℕ, ◌+◌, ◌-◌}
use mathlib.Core.Path.{◌≡◌, refl, sym, ap, ◌∙◌}
use Rattle.acb_shown_values.specs.Answer.{Told}
use Rattle.listing.specs.Buffer.{put_all}
use Rattle.acb_list.specs.Listing.{page, pages_from}
use Rattle.acb_list.proofs.Listed.{pages-none, pages-turn}
use Rattle.acb_list.proofs.put_pages.Invariants.{shows}
use Rattle.acb_list.proofs.put_pages.Goals as goal

pub returns-then-size-eq0 : goal.returns-then-size-eq0
unfolding put_all
returns-then-size-eq0 c = rw (eq-eqb _ _ c.if-size-eq0.true)

pub loop-left-init : goal.loop-left-init
loop-left-init c =
    let a = c.args in
    let z : a.count ≡ a.count - 0 = omega arith in
    (omega arith, refl, ap (λ (k : ℕ). put_all (a.out.now, a.n) (pages_from (shows a.table.now a.count a.size a.offset) a.size k 0 a.count)) z)

pub returns-then-left-size : goal.returns-then-left-size
returns-then-left-size c =
    let l = c.loop-left in
    let a = c.args in
    let f = shows a.table.now a.count a.size a.offset in
    let x = c.put_page-at.ensures ∙ ap (λ (t : Told). put_all (l.out, l.at) (page l.page t)) c.page_in-shown.ensures in
    let t = pages-turn f a.size _ (l.out, l.at) a.count l.page l.left c.loop-left-test.true (omega (arith, c.loop-left-test.true, l.invariant.0)) l.invariant.2 x in
    rw (ne_eqb _ _ c.if-size-eq0.false) (sym (pages-none f a.size _ _ (a.count - (l.page + 1)) (l.page + 1) (l.left - a.size) (omega (arith, c.if-left-size.true)) t))

pub loop-left-preserved : goal.loop-left-preserved
loop-left-preserved c =
    let l = c.loop-left in
    let a = c.args in
    let f = shows a.table.now a.count a.size a.offset in
    let x = c.put_page-at.ensures ∙ ap (λ (t : Told). put_all (l.out, l.at) (page l.page t)) c.page_in-shown.ensures in
    let t = pages-turn f a.size _ (l.out, l.at) a.count l.page l.left c.loop-left-test.true (omega (arith, c.loop-left-test.true, l.invariant.0)) l.invariant.2 x in
    (omega arith, search rules, t)

pub returns : goal.returns
returns c =
    let l = c.loop-left in
    let a = c.args in
    let f = shows a.table.now a.count a.size a.offset in
    rw (ne_eqb _ _ c.if-size-eq0.false) (sym (pages-none f a.size _ (l.out, l.at) (a.count - l.page) l.page l.left (omega (arith, c.loop-left-test.false)) l.invariant.2))
