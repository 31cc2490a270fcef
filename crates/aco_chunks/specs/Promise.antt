-- What is promised of a palette in chunks, said of the whole file.
use Rattle.std.specs.Prelude.{ℕ, zero, suc, ◌+◌, ◌*◌, ◌≤◌, ◌≡◌, List, [], ◌∷◌, ◌++◌, length, drop}
use Rattle.algebra.specs.Reader.{Res, ok, refuse}
use Rattle.algebra.specs.Store.{part}
use Rattle.aco.specs.Reading.{heading, first_count, aco}
use Rattle.algebra.specs.Table.{verdict}
use Rattle.aco_judge.specs.Answer.{report}
use Rattle.aco_chunks.specs.Chunks.{colour_item, chunks, begin, answer}

-- the chunks as one file
unfoldable pub join : List (List ℕ) → List ℕ
join [] = []
join (c ∷ cs) = c ++ join cs

abbrev pub sound_by : Res ℕ → ℕ → ℕ
sound_by (ok u q) k = k + 1
sound_by (refuse x p r f) k = 0

-- how many of n colours from `at` stand whole and without a fault before the first that does not
unfoldable pub sound_from : ℕ → List ℕ → ℕ → ℕ
sound_from zero s at = 0
sound_from (suc n) s at = sound_by (colour_item s at) (sound_from n s (at + 10))

abbrev pub sound_in : Res ℕ → List ℕ → ℕ
sound_in (ok n q) s = sound_from n s q
sound_in (refuse x p r f) s = 0

-- the colours of list 1 that stand whole before the first fault
unfoldable pub sound_colours : List ℕ → ℕ
sound_colours s = sound_in (heading 1 first_count s 0) s

-- k colours of the file s in a store, and past them what it held
abbrev pub held : ℕ → List ℕ → List ℕ → List ℕ
held k s store = part s 4 (10 * k) ++ drop (10 * k) store

-- however the file is cut: the answer is the whole-file reader's, and the store then holds the sound colours of list 1, and past them what it held
abbrev pub AnyCutting : Type 0
AnyCutting =
    (cs : List (List ℕ)) (store : List ℕ) → 40960 ≤ length store →
    (answer (chunks (begin store) cs) ≡ verdict report (aco (join cs))) × ((chunks (begin store) cs).store ≡ held (sound_colours (join cs)) (join cs) store)
