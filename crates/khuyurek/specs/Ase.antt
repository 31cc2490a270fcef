-- What each exported answer about ASE says: refusal number 0 is accepted, and all that an answer does not have is 0.
use Rattle.std.specs.Prelude.{ℕ, List, [], ◌∷◌}
use Rattle.algebra.specs.Table.{Verdict, accepted, refused}
use Rattle.ase.specs.Row.{RecordRow}
use Rattle.khuyurek.specs.declared.palettes.AseAnswer.{AseAnswer}
use Rattle.khuyurek.specs.declared.palettes.AseRecord.{AseRecord}

abbrev pub palette_of : Verdict (ℕ × ℕ) → AseAnswer
palette_of (accepted a) = record { number = 0; place = 0; blocks = a.0; colours = a.1 }
palette_of (refused x p r f) = record { number = x; place = p; blocks = 0; colours = 0 }

abbrev pub palette_read_of : Verdict (ℕ × ℕ) × List ℕ → AseAnswer × List ℕ
palette_read_of v = (palette_of v.0, v.1)

-- a record that is no colour, or a refusal
abbrev pub plain : ℕ → ℕ → ℕ → ℕ → ℕ → AseRecord
plain x b p n u = record { number = x; block = b; place = p; name = n; units = u; model = 0; channels = 0 ∷ 0 ∷ 0 ∷ 0 ∷ []; ink = 0 }

abbrev pub block_of : Verdict RecordRow → AseRecord
block_of (accepted g) = record { number = 0; block = g.block; place = 0; name = g.first; units = g.units; model = g.model; channels = g.channels; ink = g.ink }
block_of (refused x p r f) = plain x 0 p 0 0
