-- A palette fed in chunks, and what the calls come to: the words of proofs/AnyCutting.
use Rattle.std.specs.Prelude.{ℕ, ◌≡◌, List, [], ◌∷◌}
use Rattle.algebra.specs.Numbers.{All}
use Rattle.algebra.specs.Table.{verdict}
use Rattle.aco.specs.Reading.{aco}
use Rattle.aco_judge.specs.Answer.{report}
use Rattle.aco_chunks.specs.Chunks.{FileVerdict}
use Rattle.aco_chunks.specs.Promise.{join, sound_colours, held}
use Rattle.aco_stream.specs.declared.Stream.{Stream}
use Rattle.aco_stream.specs.Answer.{Feeds}

-- chunks fed one after the other, each with the stream and the store that the one before gave back; ns are the numbers that they are answered
abbrev pub Runs : Stream → List ℕ → List (List ℕ) → List ℕ → Stream → List ℕ → Type 0
Runs s store [] ns t after = (t ≡ s) × (after ≡ store) × (ns ≡ [])
Runs s store (c ∷ cs) ns t after = (u : Stream) × (mid : List ℕ) × (n : ℕ) × Feeds s store c u n mid × (more : List ℕ) × (ns ≡ n ∷ more) × Runs u mid cs more t after

-- of chunks cs and a store: n is the start's number, ns the chunks', w what the end answers, `after` what the store then holds
pub record Agrees (cs : List (List ℕ)) (store : List ℕ) (n : ℕ) (ns : List ℕ) (w : FileVerdict) (after : List ℕ) : Type 0 where
  -- the start is answered 0, and so is every chunk
  pub started : n ≡ 0
  pub fed : All (λ k x. x ≡ 0) 0 ns
  -- the end is answered what the whole file is found to be
  pub answers : w ≡ verdict report (aco (join cs))
  -- the store begins with the sound colours of list 1, and past them holds what it held
  pub holds : after ≡ held (sound_colours (join cs)) (join cs) store
