-- Scaffolding: the form in which the code goes; cited by private contracts and by proofs.
use Rattle.std.specs.Prelude.{ℕ, Result, Ok, Err}
use Rattle.descriptor_read.specs.declared.Extent.{Extent}
use Rattle.fault.specs.Fault.{number_of}
use Rattle.fault.specs.declared.Refusal.{Refusal}
use Rattle.descriptor_read.specs.Values.{RowAnswer, value_size, found, missing}

pub data Extent' : Type 0 where
  is : ℕ → ℕ → ℕ → Extent'
  refused : ℕ → ℕ → Extent'

abbrev pub extent_of : RowAnswer → Extent'
extent_of (found r) = is r.kind r.value (value_size r)
extent_of (missing x p) = refused x p

abbrev pub told_extent : Result Extent Refusal → Extent'
told_extent (Ok w) = is w.kind w.first w.length
told_extent (Err e) = refused (number_of e.0) e.1
