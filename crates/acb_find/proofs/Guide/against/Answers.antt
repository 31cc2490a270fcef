use Rattle.std.proofs.Common.{ℕ, ◌∙◌, sym, ap}
use Rattle.acb_order.specs.Names.{compare_names}
use Rattle.acb_order.specs.Places.{name_at}
use Rattle.acb_order.proofs.Files.{known}
use Rattle.acb_find.proofs.Bracket.{in-book}
use Rattle.acb_find.proofs.Checking.{some-place}
use Rattle.acb_find.proofs.Guide.against.Goals as goal

pub returns-in-Some : goal.returns-in-Some
returns-in-Some c =
    let a = c.args in
    let b = a.self.now.book in
    let s = b.file.now in
    let r = c.requires.judged in
    let x = some-place a.i b.count c.in-Some.at _ c.in-Some.ensures in
    c.against.ensures ∙ ap (λ (p : ℕ). compare_names a.name.now (name_at s p)) x.1 ∙ ap (compare_names a.name.now) (sym (known s r.bytes b.count b.first b.components r.opened a.i x.0).name)
    ∙ sym (in-book a.i b.count _ x.0)
