-- What each exported answer about a walk says: number 0 with a colour, or with done 1 and none; else the refusal. All that an answer does not have is 0.
use Rattle.std.specs.Prelude.{ℕ, [], ◌∷◌}
use Rattle.colour.specs.declared.space.Colour.{Colour}
use Rattle.ase.specs.Row.{RecordRow}
use Rattle.walk.specs.Walk.{Call, gives, over, refused}
use Rattle.aco_walk.specs.Walking.{Started, starts, refusal}
use Rattle.ase_walk.specs.Walking as blocks
use Rattle.khuyurek.specs.declared.walks.AcoStart.{AcoStart}
use Rattle.khuyurek.specs.declared.walks.AcoStep.{AcoStep}
use Rattle.khuyurek.specs.declared.walks.AseStart.{AseStart}
use Rattle.khuyurek.specs.declared.walks.AseStep.{AseStep}

-- ---- ACO

abbrev pub aco_start : Started → AcoStart
aco_start (starts q) = record { number = 0; place = 0; rec = 0; field = 0; at = q }
aco_start (refusal x p r f) = record { number = x; place = p; rec = r; field = f; at = 0 }

-- a colour, the place of the next call, where the colour's name lies, and its ink
abbrev pub aco_given : Colour → ℕ → Call (ℕ × ℕ × ℕ) → AcoStep
aco_given c q (gives l) = record { number = 0; done = 0; next = q; name = l.0; units = l.1; space = c.space; samples = c.samples; ink = l.2 }
aco_given c q over = record { number = 0; done = 1; next = q; name = 0; units = 0; space = c.space; samples = c.samples; ink = 0 }
aco_given c q (refused x p) = record { number = x; done = 0; next = q; name = 0; units = 0; space = c.space; samples = c.samples; ink = 0 }

abbrev pub aco_step : Colour × Call (ℕ × ℕ × ℕ) × ℕ → AcoStep
aco_step w = aco_given w.0 w.2 w.1

-- no colour
abbrev pub aco_plain : ℕ → ℕ → ℕ → AcoStep
aco_plain x d q = record { number = x; done = d; next = q; name = 0; units = 0; space = 0; samples = 0 ∷ 0 ∷ 0 ∷ 0 ∷ []; ink = 0 }

-- ---- ASE

abbrev pub ase_start : blocks.Started → AseStart
ase_start (blocks.starts q) = record { number = 0; place = 0; at = q }
ase_start (blocks.refusal x p) = record { number = x; place = p; at = 0 }

-- a block that is no colour, or none
abbrev pub ase_plain : ℕ → ℕ → ℕ → ℕ → ℕ → ℕ → AseStep
ase_plain x d b p u q = record { number = x; done = d; block = b; units = u; next = q; name = p; model = 0; channels = 0 ∷ 0 ∷ 0 ∷ 0 ∷ []; ink = 0 }

abbrev pub ase_given : ℕ → Call RecordRow → AseStep
ase_given q (gives g) = record { number = 0; done = 0; block = g.block; units = g.units; next = q; name = g.first; model = g.model; channels = g.channels; ink = g.ink }
ase_given q over = ase_plain 0 1 0 0 0 q
ase_given q (refused x p) = ase_plain x 0 0 0 0 q

abbrev pub ase_step : Call RecordRow × ℕ → AseStep
ase_step w = ase_given w.1 w.0
