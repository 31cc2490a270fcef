-- Scaffolding: the form in which the code goes; cited by private contracts and by proofs.
-- Parts of the reading that the code goes by.
use Rattle.std.specs.Prelude.{ℕ, eqb, Option, Some, None}
use Rattle.algebra.specs.Chars.{chars}
use Rattle.algebra.specs.Reader.{Reader, ok, then, pick, each}
use Rattle.acb.specs.Grammar.{Tag, spot, process}
use Rattle.acb.specs.Reading.{colour, components_of, Header, strings, numbers, closing}

-- strings and numbers, behind an identifier
unfoldable pub header_from : ℕ → Reader Header
header_from i s at =
    then (strings s at) (λ ts p.
    then (numbers s p) (λ ns q.
    ok (record { identifier = i; texts = ts; numbers = ns }) q))

-- n records of a space, and the closing tag
unfoldable pub rest : ℕ → ℕ → Reader Tag
rest n x s at = then (each n 0 (λ i. colour (components_of x)) s at) (λ es q. closing s q)

-- whether eight bytes are a tag
abbrev pub known_tag : ℕ → Option Tag
known_tag t = pick (eqb t (chars "spflspot")) (Some spot) (pick (eqb t (chars "spflproc")) (Some process) None)
