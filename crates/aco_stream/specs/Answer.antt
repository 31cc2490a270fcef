-- What each answer of the code says.
use Rattle.std.specs.Prelude.{ℕ, ◌≡◌, Bool, true, false, leb, ltb, eqb, List, take, drop, length, Result, Ok, Err}
use Rattle.aco_stream.specs.declared.Stream.{Stream}
use Rattle.aco_chunks.specs.Chunks.{FileVerdict, Progress, size, chunk, begin, answer}
use Rattle.algebra.specs.Reader.{pick}
use Rattle.algebra.specs.Table.{accepted, refused}
use Rattle.fault.specs.Fault.{number_of}
use Rattle.fault.specs.declared.Fault.{Fault}
use Rattle.aco_judge.specs.declared.Counts.{Counts}
use Rattle.aco_items.specs.declared.Flaw.{Flaw}

-- what a state and a store keep; places of the carried bytes past those that came count for nothing
abbrev pub progress : Stream → List ℕ → Progress
progress s store = record { stage = s.stage; total = s.total; carry = take s.got s.carry; store = store }

abbrev pub told : Result Counts Flaw → FileVerdict
told (Ok c) = accepted (c.colours, c.lists)
told (Err e) = refused (number_of e.fault) e.place e.rec e.field

-- what a start or a chunk is answered: the refusal's number, 0 where it is taken
abbrev pub told_fed : Result Unit Fault → ℕ
told_fed (Ok u) = 0
told_fed (Err f) = number_of f

-- ---- the calls: for each stream and store, what is answered, what the stream becomes and what the store then holds

-- the bytes of a store; what follows them is neither looked at nor changed
abbrev pub room : ℕ
room = 40960

abbrev pub roomy : List ℕ → Bool
roomy store = leb room (length store)

-- neither ended, nor with more bytes carried than its item has
abbrev pub usable : Stream → Bool
usable s = pick s.ended false (ltb s.got (size s.stage))

abbrev pub ended : Stream → Stream
ended s = record { stage = s.stage; total = s.total; got = s.got; carry = s.carry; ended = true }

-- a start: before the first byte; ended where the store is too short
abbrev pub StartsBy : Bool → List ℕ → Stream → ℕ → Type 0
StartsBy true store s number = (number ≡ 0) × (usable s ≡ true) × (progress s (take room store) ≡ begin (take room store))
StartsBy false store s number = (number ≡ 11) × (s.ended ≡ true)

abbrev pub Starts : List ℕ → Stream → ℕ → Type 0
Starts store s number = StartsBy (roomy store) store s number

-- a chunk: 5 for a stream that is not usable, then 11; these change nothing
abbrev pub FeedsBy : Bool → Bool → Stream → List ℕ → List ℕ → Stream → ℕ → List ℕ → Type 0
FeedsBy true true s store bytes t number after =
    (number ≡ 0) × (usable t ≡ true) × (progress t (take room after) ≡ chunk (progress s (take room store)) bytes) × (drop room after ≡ drop room store) × (length after ≡ length store)
FeedsBy true false s store bytes t number after = (number ≡ 11) × (t ≡ s) × (after ≡ store)
FeedsBy false large s store bytes t number after = (number ≡ 5) × (t ≡ s) × (after ≡ store)

abbrev pub Feeds : Stream → List ℕ → List ℕ → Stream → ℕ → List ℕ → Type 0
Feeds s store bytes t number after = FeedsBy (usable s) (roomy store) s store bytes t number after

-- a fault of a number that no file has stands only in an altered stream
abbrev pub known : FileVerdict → FileVerdict
known (accepted w) = accepted w
known (refused x p r f) = pick (eqb x 0) (refused 5 0 0 0) (pick (ltb 8 x) (refused 5 0 0 0) (refused x p r f))

-- the end: the same refusals, else the file's verdict, and the stream has ended
abbrev pub FinishesBy : Bool → Bool → Stream → List ℕ → Stream → FileVerdict → Type 0
FinishesBy true true s store t w = (w ≡ known (answer (progress s (take room store)))) × (t ≡ ended s)
FinishesBy true false s store t w = (w ≡ refused 11 0 0 0) × (t ≡ s)
FinishesBy false large s store t w = (w ≡ refused 5 0 0 0) × (t ≡ s)

abbrev pub Finishes : Stream → List ℕ → Stream → FileVerdict → Type 0
Finishes s store t w = FinishesBy (usable s) (roomy store) s store t w
