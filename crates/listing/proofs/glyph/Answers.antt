use mathlib.Core.Path.{sym}
use Rattle.listing.proofs.Wording.{digit_low, digit-high}
use Rattle.listing.proofs.glyph.Goals as goal

pub returns-then-x-lt10 : goal.returns-then-x-lt10
returns-then-x-lt10 c = sym (digit_low _ c.if-x-lt10.true)

pub returns-else-x-lt10 : goal.returns-else-x-lt10
returns-else-x-lt10 c = sym (digit-high _ c.if-x-lt10.false)
