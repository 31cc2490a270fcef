-- What the exported answer about two palettes says: number 0 is compared, and all that an answer does not have is 0.
use Rattle.std.specs.Prelude.{ℕ, List, Option, Some, None, eqb}
use Rattle.algebra.specs.Reader.{pick}
use Rattle.palette.specs.Palette.{colours}
use Rattle.palette.specs.declared.Kind.{Kind}
use Rattle.palette.specs.declared.Kind.TheVariants.{Aco, Ase}
use Rattle.palette_compare.specs.Compare.{Comparison, compared, refused_by, comparison}
use Rattle.khuyurek.specs.declared.seasons.ComparedAnswer.{ComparedAnswer}

-- 0 ACO, 1 ASE; a comparison takes no other kind
unfoldable pub palette_kind : ℕ → Option Kind
palette_kind n = pick (eqb n 0) (Some Aco) (pick (eqb n 1) (Some Ase) None)

abbrev pub comparison_of : Comparison → ComparedAnswer
comparison_of (compared n d) = record { number = 0; file = 0; place = 0; rec = 0; field = 0; positions = n; differences = d }
comparison_of (refused_by w x p r f) = record { number = x; file = w; place = p; rec = r; field = f; positions = 0; differences = 0 }

-- 4 at place 0, before all else
abbrev pub unknown_kind : ComparedAnswer
unknown_kind = comparison_of (refused_by 0 4 0 0 0)

-- an answer, and what the lent table then holds
abbrev pub compared_of : Comparison × List ℕ → ComparedAnswer × List ℕ
compared_of v = (comparison_of v.0, v.1)

abbrev pub compared_by : Option Kind → List ℕ → Option Kind → List ℕ → List ℕ → ComparedAnswer × List ℕ
compared_by None s j t table = (unknown_kind, table)
compared_by (Some k) s None t table = (unknown_kind, table)
compared_by (Some k) s (Some j) t table = compared_of (comparison (colours k s) (colours j t) table)
