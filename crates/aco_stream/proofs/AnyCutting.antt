-- However a palette is cut into chunks, `start`, `feed` and `finish` come to what reading the whole file gives, and the store holds the colours that are sound. Assumes nothing.
use Prim.Native.Nat.{ℕ, ◌+◌, ◌*◌, ◌≤◌}
use mathlib.Core.Path.{◌≡◌, refl, sym, ap, ap₂, ◌∙◌, subst}
use mathlib.Core.List.{List, [], ◌∷◌, ◌++◌, append_assoc}
use mathlib.Core.Bool.{Bool, true}
use lib.ListN.{length, take, drop, take-append-drop}
use lib.Seq.{length-take-le, drop-append-le}
use native.Mathlib.Omega.{arith}
use Rattle.algebra.specs.Numbers.{All}
use Rattle.algebra.specs.Store.{part}
use Rattle.algebra.specs.Reader.{Res, ok, refuse}
use Rattle.aco.specs.Reading.{Contents, aco}
use Rattle.aco.proofs.Placed.{refused-placed}
use Rattle.algebra.specs.Table.{verdict}
use Rattle.aco_judge.specs.Answer.{report}
use Rattle.aco_stream.specs.declared.Stream.{Stream}
use Rattle.aco_chunks.specs.Chunks.{FileVerdict, Progress, chunks, begin, answer}
use Rattle.aco_chunks.specs.Promise.{join, sound_colours, held}
use Rattle.aco_stream.specs.Answer.{progress, usable, roomy, room, known, Starts, StartsBy, FeedsBy, Finishes, FinishesBy}
use Rattle.aco_stream.specs.Promise.{Runs, Agrees}
use Rattle.aco_stream.proofs.Calls.{is-roomy, known-item}
use Rattle.aco_chunks.proofs.Cutting.{any-cutting}
use Rattle.aco_chunks.proofs.Small.{few-sound}

-- what is known between two chunks
pub record Between (s : Stream) (store₀ store : List ℕ) : Type 0 where
  pub is_usable : usable s ≡ true
  pub long : 40960 ≤ length store
  pub rest : drop room store ≡ drop room store₀

runs-keep : (cs : List (List ℕ)) (ns : List ℕ) (i : ℕ) (s : Stream) (store₀ store : List ℕ) (t : Stream) (after : List ℕ) → Between s store₀ store → Runs s store cs ns t after
    → Between t store₀ after × (progress t (take room after) ≡ chunks (progress s (take room store)) cs) × All (λ k n. n ≡ 0) i ns
unfolding chunks
runs-keep [] ns i s store₀ store t after h r =
    let kept : Between t store₀ after = record {
      is_usable = ap usable r.0 ∙ h.is_usable;
      long = subst (λ (x : List ℕ). 40960 ≤ length x) (sym r.1) h.long;
      rest = ap (drop room) r.1 ∙ h.rest;
    } in
    (kept, ap (λ (x : Stream). progress x (take room after)) r.0 ∙ ap (λ (x : List ℕ). progress s (take room x)) r.1, subst (All (λ k n. n ≡ 0) i) (sym r.2) tt)
runs-keep (c ∷ cs) ns i s store₀ store t after h r =
    let f : FeedsBy true true s store c r.0 r.2 r.1 = subst (λ (b : Bool). FeedsBy true b s store c r.0 r.2 r.1) (is-roomy store h.long) (subst (λ (b : Bool). FeedsBy b (roomy store) s store c r.0 r.2 r.1) h.is_usable r.3) in
    let m : Between r.0 store₀ r.1 = record { is_usable = f.1; long = subst (λ (n : ℕ). 40960 ≤ n) (sym f.4) h.long; rest = f.3 ∙ h.rest } in
    let k = runs-keep cs r.4 (i + 1) r.0 store₀ r.1 t after m r.6 in
    (k.0, k.1 ∙ ap (λ (g : Progress). chunks g cs) f.2, subst (All (λ k n. n ≡ 0) i) (sym r.5) (f.0, k.2))

-- a file's number is one that files have
file-known : (s : List ℕ) → known (verdict report (aco s)) ≡ verdict report (aco s)
file-known s = go (aco s) refl
  where
    go : (m : Res Contents) → aco s ≡ m → known (verdict report m) ≡ verdict report m
    go (ok f q) e = refl
    go (refuse x p r f) e = sym (known-item x p r f (refused-placed s e).0)

-- chunks cut anywhere, empty ones among them, and any store of at least 40,960 bytes
pub calls-agree : (cs : List (List ℕ)) (store : List ℕ) → 40960 ≤ length store → (s : Stream) (n : ℕ) → Starts store s n → (ns : List ℕ) (t : Stream) (after : List ℕ) → Runs s store cs ns t after → (z : Stream) (w : FileVerdict) → Finishes t after z w → Agrees cs store n ns w after
calls-agree cs store l s n b ns t after r z w f =
    let b' : StartsBy true store s n = subst (λ (b : Bool). StartsBy b store s n) (is-roomy store l) b in
    let k = runs-keep cs ns 0 s store store t after (record { is_usable = b'.1; long = l; rest = refl }) r in
    let m = k.0 in
    let g : progress t (take room after) ≡ chunks (begin (take room store)) cs = k.1 ∙ ap (λ (x : Progress). chunks x cs) b'.2 in
    let h : FinishesBy true true t after z w = subst (λ (b : Bool). FinishesBy true b t after z w) (is-roomy after m.long) (subst (λ (b : Bool). FinishesBy b (roomy after) t after z w) m.is_usable f) in
    let e = length-take-le room store l in
    let a = any-cutting cs (take room store) (omega (arith, e)) in
    record {
      started = b'.0;
      fed = k.2;
      answers = h.0 ∙ ap known (ap answer g ∙ a.0) ∙ file-known (join cs);
      holds =
          sym (take-append-drop room after) ∙ ap₂ (λ (x y : List ℕ). x ++ y) (ap (λ (x : Progress). x.store) g ∙ a.1) m.rest
          ∙ held-front (join cs) store l;
    }
  where
    held-front : (f store : List ℕ) → 40960 ≤ length store → held (sound_colours f) f (take room store) ++ drop room store ≡ held (sound_colours f) f store
    held-front f store l =
        let k : ℕ = 10 * sound_colours f in
        append_assoc (part f 4 k) (drop k (take room store)) (drop room store)
        ∙ ap (λ (x : List ℕ). part f 4 k ++ x) (sym (drop-append-le k (take room store) (drop room store) (omega (arith, few-sound f, length-take-le room store l))) ∙ ap (drop k) (take-append-drop room store))
