-- What the tag of a book to be written says.
use Rattle.acb.specs.Grammar.{Ending, tagged, other}
use Rattle.acb_judge.specs.Answer.{told_tag}
use Rattle.acb_write_judge.specs.declared.Ending.{Ending as Given}
use Rattle.acb_write_judge.specs.declared.Ending.TheVariants as ve

-- the eight bytes of another tag are never written: zeros stand for them
abbrev pub told_ending : Given → Ending
told_ending (ve.Tagged t) = tagged (told_tag t)
told_ending ve.Other = other 0
