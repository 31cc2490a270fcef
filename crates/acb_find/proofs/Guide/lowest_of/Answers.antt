use Rattle.std.proofs.Common.{◌∙◌, sym, ap, arith, not}
use Rattle.acb_order.specs.scaffold.Places.{names_in}
use Rattle.acb_order.proofs.Index.{begins-right}
use Rattle.acb_order.proofs.Files.{names-count}
use Rattle.acb_find.proofs.Bracket.{same_true, entry-is, bracket-found, bracket-none}
use Rattle.acb_find.proofs.Checking.{same-told}
use Rattle.acb_find.proofs.Guide.lowest_of.Goals as goal

pub returns-then-shown-k : goal.returns-then-shown-k
returns-then-shown-k c =
    let a = c.args in
    sym (bracket-none (names_in a.self.now.book.file.now) a.index.now a.shown c.requires.1 c.requires.2 a.name.now c.lower_bound-k.result c.lower_bound-k.ensures (λ h. absurd (omega (arith, c.if-shown-k.true))))

pub offset_bounds-index-k : goal.offset_bounds-index-k
offset_bounds-index-k c =
    let r = begins-right (names_in c.args.self.now.book.file.now) c.args.index.now c.args.shown c.requires.1 c.requires.2 in
    let room = r.room in
    omega (arith, room, c.if-shown-k.false)

pub bounds-index-k : goal.bounds-index-k
bounds-index-k c =
    let r = begins-right (names_in c.args.self.now.book.file.now) c.args.index.now c.args.shown c.requires.1 c.requires.2 in
    let room = r.room in
    omega (arith, room, c.if-shown-k.false)

pub returns-then-is_ne : goal.returns-then-is_ne
returns-then-is_ne c =
    let a = c.args in
    let b = a.self.now.book in
    let ns = names_in b.file.now in
    let j = c.requires.0.judged in
    let k = c.lower_bound-k.result in
    let all = names-count b.file.now j.bytes b.count b.first b.components j.opened in
    let d = same-told _ _ _ (c.against.ensures ∙ entry-is ns a.index.now a.shown c.requires.1 c.requires.2 a.name.now b.count all k (omega (arith, c.if-shown-k.false))) c.is_ne.ensures in
    sym (bracket-none ns a.index.now a.shown c.requires.1 c.requires.2 a.name.now k c.lower_bound-k.ensures (λ h. d ∙ ap not c.if-is_ne.true))

pub returns : goal.returns
returns c =
    let a = c.args in
    let b = a.self.now.book in
    let ns = names_in b.file.now in
    let j = c.requires.0.judged in
    let k = c.lower_bound-k.result in
    let all = names-count b.file.now j.bytes b.count b.first b.components j.opened in
    let d = same-told _ _ _ (c.against.ensures ∙ entry-is ns a.index.now a.shown c.requires.1 c.requires.2 a.name.now b.count all k (omega (arith, c.if-shown-k.false))) c.is_ne.ensures in
    sym (bracket-found ns a.index.now a.shown c.requires.1 c.requires.2 a.name.now k c.lower_bound-k.ensures (omega (arith, c.if-shown-k.false)) (same_true _ (d ∙ ap not c.if-is_ne.false)))
