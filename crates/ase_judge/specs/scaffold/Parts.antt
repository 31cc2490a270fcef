-- Scaffolding: the form in which the code goes; cited by private contracts and by proofs.
-- Parts of the reading that the code goes by.
use Rattle.std.specs.Prelude.{ℕ, ◌+◌, List, Bool, ltb, eqb, take}
use Rattle.algebra.specs.Reader.{Res, ok, Reader, then, pick, rule, Judged, unless, judged, each, ended}
use Rattle.std.specs.Float.{binary32}
use Rattle.std.specs.Float.Ieee.{of_bits}
use Rattle.std.specs.Float.Ieee.Scale.{finite}
use Rattle.colour.specs.Models.{channels_of}
use Rattle.colour.specs.Channels.{in_unit}
use Rattle.ase.specs.Reading.{Entry, group_end_read, model, channel, type, colour_content, group_content, inside, deepest, blocks}

-- a channel that may be any finite float where it is wide, else one from 0 to 1
abbrev pub channel_in : Bool → ℕ → Judged
channel_in w b = unless (pick w (finite (of_bits binary32 b)) (in_unit (of_bits binary32 b))) 5

-- what stands behind a colour's name
unfoldable pub after_name : Reader Unit
after_name s at =
    then (judged 4 model s at) (λ t p.
    then (each (channels_of t) 0 (λ i. judged 4 (channel t)) s p) (λ bs q.
    then (judged 2 type s q) (λ k r. ok tt r)))

-- the content of a block at `at` whose payload ends at `end`, where d groups stand open
unfoldable pub group_start_of : ℕ → ℕ → Reader Entry
group_start_of d end s at = rule (unless (ltb d deepest) 10) at (inside (at + 2) end (group_content (take end s) (at + 6)))

unfoldable pub group_end_of : ℕ → ℕ → ℕ → Res Entry
group_end_of d end at = rule (unless (eqb end (at + 6)) 13) (at + 2) (rule (unless (ltb 0 d) 9) at (ok group_end_read (at + 6)))

unfoldable pub colour_of : ℕ → Reader Entry
colour_of end s at = inside (at + 2) end (colour_content (take end s) (at + 6))

-- what follows the heading
unfoldable pub whole : ℕ → Reader (List Entry)
whole n s at = then (blocks n s at) (λ es q. ended es s q)
