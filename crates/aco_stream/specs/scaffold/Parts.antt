-- Scaffolding: what the functions inside promise each other; no rule of the format.
use Rattle.std.specs.Prelude.{ℕ, ◌≡◌, ◌<◌, ◌≤◌, List, Bool, true, false, length, Option, Some, None}
use Rattle.algebra.specs.Reader.{pick}
use Rattle.fault.specs.Fault.{number_of}
use Rattle.fault.specs.declared.Fault.{Fault}
use Rattle.algebra.specs.Table.{refused}
use Rattle.aco_chunks.specs.declared.Stage.{Stage}
use Rattle.aco_stream.specs.declared.Stream.{Stream}
use Rattle.aco_chunks.specs.Chunks.{FileVerdict, chunk, answer}
use Rattle.aco_stream.specs.Answer.{progress, usable, roomy, ended, known}

abbrev pub open_stream : Stage → ℕ → ℕ → List ℕ → Stream
open_stream g total got carry = record { stage = g; total = total; got = got; carry = carry; ended = false }

-- whether a call may go on: 5 for a stream that is not usable, then 11 for a store that is too short; else 0
abbrev pub call_number : Stream → List ℕ → ℕ
call_number s store = pick (usable s) (pick (roomy store) 0 11) 5

-- the fault of a number that files have
abbrev pub Known : Option Fault → ℕ → Type 0
Known (Some f) n = (number_of f ≡ n) × (0 < n) × (n ≤ 8)
Known None n = 0 < n → 8 < n

abbrev pub FeedsInBy : Bool → Bool → Stream → List ℕ → List ℕ → Stream → ℕ → List ℕ → Type 0
FeedsInBy true true s store bytes t number after = (number ≡ 0) × (usable t ≡ true) × (progress t after ≡ chunk (progress s store) bytes) × (length after ≡ length store)
FeedsInBy true false s store bytes t number after = (number ≡ 11) × (t ≡ s) × (after ≡ store)
FeedsInBy false large s store bytes t number after = (number ≡ 5) × (t ≡ s) × (after ≡ store)

abbrev pub FeedsIn : Stream → List ℕ → List ℕ → Stream → ℕ → List ℕ → Type 0
FeedsIn s store bytes t number after = FeedsInBy (usable s) (roomy store) s store bytes t number after

abbrev pub FinishesInBy : Bool → Bool → Stream → List ℕ → Stream → FileVerdict → Type 0
FinishesInBy true true s store t w = (w ≡ known (answer (progress s store))) × (t ≡ ended s)
FinishesInBy true false s store t w = (w ≡ refused 11 0 0 0) × (t ≡ s)
FinishesInBy false large s store t w = (w ≡ refused 5 0 0 0) × (t ≡ s)

abbrev pub FinishesIn : Stream → List ℕ → Stream → FileVerdict → Type 0
FinishesIn s store t w = FinishesInBy (usable s) (roomy store) s store t w
