-- Scaffolding: the form in which the code goes; cited by private contracts and by proofs.
use Rattle.std.specs.Prelude.{ℕ, List, length}
use Rattle.algebra.specs.Reader.{Res, ok, then, map_res}
use Rattle.resource.specs.Reading.{Part, sized_part}
use Rattle.resource.specs.declared.Record.{Record}

-- where bytes lie: the first's place, and their number
abbrev pub part_of : Part → ℕ × ℕ
part_of p = (p.first, length p.bytes)

-- a block's record from its name on, where its ID was read
unfoldable pub parts_from : ℕ → List ℕ → ℕ → Res Record
parts_from i s at =
    then (map_res part_of (sized_part 1 1 s at)) (λ nm p.
    then (map_res part_of (sized_part 4 0 s p)) (λ l q.
    ok (record { id = i; name = nm.0; letters = nm.1; payload = l.0; size = l.1 }) q))
