-- A stream of aco_stream in numbers, for every number in each place; each exported call promises what aco_stream promises of the stream that the numbers are.
use Rattle.std.specs.Prelude.{ℕ, ◌≡◌, List, [], ◌∷◌, Bool, true, false, eqb, ltb, take}
use Rattle.algebra.specs.Reader.{pick}
use Rattle.algebra.specs.Table.{refused}
use Rattle.aco_chunks.specs.declared.Stage.{Stage}
use Rattle.aco_chunks.specs.declared.Stage.TheVariants as v
use Rattle.aco_chunks.specs.Chunks.{answer}
use Rattle.aco_stream.specs.declared.Stream.{Stream}
use Rattle.aco_stream.specs.Answer.{progress, usable, roomy, room, known, Feeds}
use Rattle.khuyurek.specs.declared.stream.AcoStream.{AcoStream}
use Rattle.khuyurek.specs.declared.stream.AcoFinished.{AcoFinished}
use Rattle.khuyurek.specs.Aco.{answer_of}

-- a number that says yes or no
abbrev pub is_set : ℕ → Bool
is_set n = pick (eqb n 0) false true

-- the stages by their numbers, in the order of a file; the last is a fault
abbrev pub stage_of : AcoStream → Stage
stage_of x =
    pick (eqb x.stage 0) v.First
    (pick (eqb x.stage 1) (v.Colour x.count x.index)
    (pick (eqb x.stage 2) (v.Second x.count)
    (pick (eqb x.stage 3) (v.Entry x.count x.index)
    (pick (eqb x.stage 4) (v.Unit x.count x.index x.at x.left (is_set x.zero))
    (pick (eqb x.stage 5) (v.End x.count)
    (pick (eqb x.stage 6) (v.Fault x.number x.place x.rec x.field) v.First))))))

-- an unknown stage counts as ended
abbrev pub is_ended : ℕ → ℕ → Bool
is_ended e stage = pick (eqb e 0) (ltb 6 stage) true

abbrev pub stream_of : AcoStream → Stream
stream_of x = record { stage = stage_of x; total = x.total; got = x.got; carry = x.carry; ended = is_ended x.ended x.stage }

abbrev pub ended_numbers : AcoStream → AcoStream
ended_numbers x =
    record {
      total = x.total;
      got = x.got;
      place = x.place;
      stage = x.stage;
      ended = 1;
      number = x.number;
      at = x.at;
      left = x.left;
      zero = x.zero;
      count = x.count;
      index = x.index;
      rec = x.rec;
      field = x.field;
      carry = x.carry;
    }

-- the end: 5 for a stream that is not usable, then 11, which change nothing; else the file's verdict, and the stream has ended
abbrev pub finished_by : Bool → Bool → AcoStream → List ℕ → AcoFinished
finished_by true true x store = record { answer = answer_of (known (answer (progress (stream_of x) (take room store)))); stream = ended_numbers x }
finished_by true false x store = record { answer = answer_of (refused 11 0 0 0); stream = x }
finished_by false large x store = record { answer = answer_of (refused 5 0 0 0); stream = x }

abbrev pub finished_of : AcoStream → List ℕ → AcoFinished
finished_of x store = finished_by (usable (stream_of x)) (roomy store) x store

-- chunks fed one after the other, each with the numbers and the store that the call before handed back
abbrev pub FedInTurn : AcoStream → List ℕ → List (List ℕ) → List ℕ → AcoStream → List ℕ → Type 0
FedInTurn x store [] ns y after = (y ≡ x) × (after ≡ store) × (ns ≡ [])
FedInTurn x store (c ∷ cs) ns y after = (u : AcoStream) × (mid : List ℕ) × (n : ℕ) × Feeds (stream_of x) store c (stream_of u) n mid × (more : List ℕ) × (ns ≡ n ∷ more) × FedInTurn u mid cs more y after
