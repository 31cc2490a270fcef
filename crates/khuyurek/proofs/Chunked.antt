-- However a palette is cut into chunks, the exported calls come to what judging the whole file answers, and the store holds the colours that are sound. Assumes nothing.
use Prim.Native.Nat.{ℕ, ◌≤◌}
use mathlib.Core.Path.{◌≡◌, refl, ap, ◌∙◌}
use mathlib.Core.List.{List, [], ◌∷◌}
use mathlib.Core.Bool.{Bool, true, false}
use lib.ListN.{length, take}
use Rattle.algebra.specs.Numbers.{All}
use Rattle.algebra.specs.Table.{verdict, refused}
use Rattle.aco.specs.Reading.{aco}
use Rattle.aco_judge.specs.Answer.{report}
use Rattle.aco_chunks.specs.Chunks.{FileVerdict, answer}
use Rattle.aco_chunks.specs.Promise.{join, sound_colours, held}
use Rattle.aco_stream.specs.declared.Stream.{Stream}
use Rattle.aco_stream.specs.Answer.{progress, usable, roomy, room, ended, known, Starts, Finishes, FinishesBy}
use Rattle.aco_stream.specs.Promise.{Runs}
use Rattle.aco_stream.proofs.AnyCutting.{calls-agree}
use Rattle.khuyurek.specs.declared.stream.AcoStream.{AcoStream}
use Rattle.khuyurek.specs.declared.stream.AcoFinished.{AcoFinished}
use Rattle.khuyurek.specs.Aco.{answer_of}
use Rattle.khuyurek.specs.Stream.{stream_of, finished_by, finished_of, FedInTurn}

fed-runs : (cs : List (List ℕ)) (x : AcoStream) (store ns : List ℕ) (y : AcoStream) (after : List ℕ) → FedInTurn x store cs ns y after → Runs (stream_of x) store cs ns (stream_of y) after
fed-runs [] x store ns y after h = (ap stream_of h.0, h.1, h.2)
fed-runs (c ∷ cs) x store ns y after h = (stream_of h.0, h.1, h.2, h.3, h.4, h.5, fed-runs cs h.0 h.1 h.4 y after h.6)

-- the end on the numbers is the end on the stream that they are
finishes : (x : AcoStream) (store : List ℕ) → (w : FileVerdict) × (t : Stream) × Finishes (stream_of x) store t w × ((finished_of x store).answer ≡ answer_of w)
finishes x store = go (usable (stream_of x)) (roomy store)
  where
    go : (u b : Bool) → (w : FileVerdict) × (t : Stream) × FinishesBy u b (stream_of x) store t w × ((finished_by u b x store).answer ≡ answer_of w)
    go true true = (known (answer (progress (stream_of x) (take room store))), ended (stream_of x), (refl, refl), refl)
    go true false = (refused 11 0 0 0, stream_of x, (refl, refl), refl)
    go false b = (refused 5 0 0 0, stream_of x, (refl, refl), refl)

pub exported-agree : (cs : List (List ℕ)) (store : List ℕ) → 40960 ≤ length store → (x : AcoStream) (n : ℕ) → Starts store (stream_of x) n → (ns : List ℕ) (y : AcoStream) (after : List ℕ) → FedInTurn x store cs ns y after → (z : AcoFinished) → z ≡ finished_of y after
    → (n ≡ 0) × All (λ k m. m ≡ 0) 0 ns × (z.answer ≡ answer_of (verdict report (aco (join cs)))) × (after ≡ held (sound_colours (join cs)) (join cs) store)
exported-agree cs store l x n b ns y after h z e =
    let f = finishes y after in
    let a = calls-agree cs store l (stream_of x) n b ns (stream_of y) after (fed-runs cs x store ns y after h) f.1 f.0 f.2 in
    (a.started, a.fed, ap (λ (q : AcoFinished). q.answer) e ∙ f.3 ∙ ap answer_of a.answers, a.holds)
