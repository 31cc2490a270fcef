use mathlib.Core.Path.{sym, ◌∙◌, ap}
use Prim.Native.Nat.{◌+◌, ℕ}
use lib.ListN.{length}
use lib.Dec.{leb}
use Rattle.algebra.proofs.Stores.{no_room, put-counted}
use Rattle.fields.proofs.store.put_name.Goals as goal

pub returns-then-not-has_room : goal.returns-then-not-has_room
returns-then-not-has_room g c =
    let a = c.args in
    no_room g.N.Number.WIDTH a.out.now a.at (g.N.Number.value a.count) a.units.now
    (ap (λ (w : ℕ). leb (a.at + (w + 2 + length a.units.now)) (length a.out.now)) (sym c.WIDTH-width.ensures) ∙ sym c.has_room.ensures ∙ c.if-not-has_room.true)

pub returns : goal.returns
returns g c =
    let a = c.args in
    put-counted g.N.Number.WIDTH a.out.now a.at (g.N.Number.value a.count) a.units.now _ _
    (ap (λ (w : ℕ). leb (a.at + (w + 2 + length a.units.now)) (length a.out.now)) (sym c.WIDTH-width.ensures) ∙ sym c.has_room.ensures ∙ c.if-not-has_room.false)
    c.put_number.ensures (rw (← c.WIDTH-width.ensures) c.put_closed.ensures)
