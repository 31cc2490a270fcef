use Rattle.std.proofs.Common.{◌≡◌, ◌∙◌, sym, subst, arith, ℕ, get_or}
use Rattle.acb_find.proofs.Checking.{SoFar, too_few, all_right, no_record, dummy, disorder, so-far-turn, some-place, no-place}
use Rattle.acb_find.proofs.Guide.is_index.Goals as goal

pub returns-then-index-shown : goal.returns-then-index-shown
returns-then-index-shown c =
    let b = c.args.self.now.book in
    let r = c.requires.0.judged in
    too_few b.file.now r.bytes b.count b.first b.components r.opened c.args.index.now c.args.shown c.requires.1 c.if-index-shown.true

pub returns-in_default : goal.returns-in_default
returns-in_default c =
    let b = c.args.self.now.book in
    let r = c.requires.0.judged in
    let t = c.args.index.now in
    let k = c.loop-k.k in
    no_record b.file.now r.bytes b.count b.first b.components r.opened t c.args.shown c.requires.1 k c.loop-k-test.true (no-place (get_or t k 0) b.count _ c.in_default.ensures)

pub returns-then-units_at-eq0 : goal.returns-then-units_at-eq0
returns-then-units_at-eq0 c =
    let b = c.args.self.now.book in
    let r = c.requires.0.judged in
    let t = c.args.index.now in
    let k = c.loop-k.k in
    let x = some-place (get_or t k 0) b.count c.in-Some.at _ c.in-Some.ensures in
    dummy b.file.now r.bytes b.count b.first b.components r.opened t c.args.shown c.requires.1 k c.loop-k-test.true x.0 c.in-Some.at x.1 (sym c.units_at.ensures.0 ∙ c.if-units_at-eq0.true)

pub returns-then-not-follows : goal.returns-then-not-follows
returns-then-not-follows c =
    let b = c.args.self.now.book in
    let r = c.requires.0.judged in
    let t = c.args.index.now in
    let k = c.loop-k.k in
    let x = some-place (get_or t k 0) b.count c.in-Some.at _ c.in-Some.ensures in
    disorder b.file.now r.bytes b.count b.first b.components r.opened t c.args.shown c.requires.1 k c.loop-k-test.true x.0 c.in-Some.at x.1 c.loop-k.last c.loop-k.invariant (sym c.follows.ensures ∙ c.if-not-follows.true)

pub loop-k-preserved : goal.loop-k-preserved
loop-k-preserved c =
    let b = c.args.self.now.book in
    let r = c.requires.0.judged in
    let t = c.args.index.now in
    let k = c.loop-k.k in
    let x = some-place (get_or t k 0) b.count c.in-Some.at _ c.in-Some.ensures in
    so-far-turn b.file.now r.bytes b.count b.first b.components r.opened t c.args.shown c.requires.1 k c.loop-k-test.true x.0 c.in-Some.at x.1 c.loop-k.last c.loop-k.invariant (λ z. c.if-units_at-eq0.false (c.units_at.ensures.0 ∙ z)) (sym c.follows.ensures ∙ c.if-not-follows.false)

pub returns : goal.returns
returns c =
    let b = c.args.self.now.book in
    let r = c.requires.0.judged in
    let t = c.args.index.now in
    let l = c.loop-k in
    let e : l.k ≡ c.args.shown = omega (arith, c.loop-k-test.false, l.auto.k-end) in
    all_right b.file.now r.bytes b.count b.first b.components r.opened t c.args.shown c.requires.1 l.last (omega (arith, c.if-index-shown.false)) (subst (λ (k : ℕ). SoFar b.file.now b.components b.first t k l.last) e l.invariant)
