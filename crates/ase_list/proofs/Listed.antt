-- A line for each call of a walk over blocks, and all of them for an accepted file. Assumes nothing.
use Prim.Native.Nat.{ℕ, suc, ◌+◌, ◌-◌, ◌≤◌, ◌<◌}
use mathlib.Core.Path.{◌≡◌, refl, sym, ap, ap₂, ◌∙◌}
use mathlib.Core.List.{List, [], ◌∷◌, ◌++◌}
use lib.ListN.{length, take}
use native.Mathlib.Omega.{arith}
use Rattle.algebra.specs.Numbers.{joined}
use Rattle.algebra.specs.Reader.{Res}
use Rattle.colour.specs.Inks.{ink_number}
use Rattle.colour.specs.Models.{traits_of, model_of, channels_of}
use Rattle.colour.specs.Channels.{bits_of, model_in}
use Rattle.colour.specs.declared.model.Traits.{Traits}
use Rattle.colour.specs.declared.model.Model.{Model}
use Rattle.colour.specs.declared.model.Model.TheVariants.{Rgb, Cmyk, Lab, Gray}
use Rattle.colour.specs.declared.channel.Channels.{Channels}
use Rattle.colour.specs.declared.channel.Channels.TheVariants as vc
use Rattle.ase.specs.Reading.{Entry, ase}
use Rattle.algebra.specs.Table.{accepted, refused as refusedFile, verdict}
use Rattle.algebra.proofs.Table.{accepted-of, refused-of}
use Rattle.ase.specs.Row.{RecordRow, group_start_row}
use Rattle.ase_judge.specs.Answer.{report}
use Rattle.ase_walk.specs.Walking.{first_place, block_walk}
use Rattle.ase_walk.specs.Answer.{record_call, call_and_place}
use Rattle.ase_read.specs.Answer.{shown_colour}
use Rattle.ase_read.specs.declared.NamedColour.{NamedColour}
use Rattle.ase_walk.proofs.Walked.{blocks-in-turn}
use Rattle.walk.specs.Walk.{Call, place_after, call, in_turn}
use Rattle.walk.specs.scaffold.Walk.{answers}
use Rattle.walk.proofs.Turns.{answers-start, answers-none, answers_next}
use Rattle.walk.specs.Names.{name_part}
use Rattle.listing.specs.Buffer.{Buffer, put_all}
use Rattle.listing.specs.Text.{ascii, name, lines, refusal}
use Rattle.listing.proofs.Putting.{put_both, lines-turn, lines_none}
use Rattle.ase_list.specs.Listing.{heading, model, tagged, channel, type, block, line, listing}
use Rattle.ase_list.specs.scaffold.Listing.{colour_text, answer_line, shown_walk}

-- ---- a colour

-- no model has more channels than bits are kept
pub few : (t : Traits) (m : Model) → t ≡ traits_of m → t.channels ≤ 4
few t Rgb e = omega (arith, ap (λ (x : Traits). x.channels) e)
few t Cmyk e = omega (arith, ap (λ (x : Traits). x.channels) e)
few t Lab e = omega (arith, ap (λ (x : Traits). x.channels) e)
few t Gray e = omega (arith, ap (λ (x : Traits). x.channels) e)

-- the bits of a colour are four
pub four-bits : (c : Channels) → length (bits_of c) ≡ 4
four-bits (vc.Rgb x y z) = refl
four-bits (vc.Cmyk x y z w) = refl
four-bits (vc.Lab x y z) = refl
four-bits (vc.Gray x) = refl

pub put-colour-content : (o : Buffer) (m : Model) (t : Traits) (bs : List ℕ) (c : Channels) (k : ℕ) (b nm : List ℕ) {p q r x : Buffer} → m ≡ model_in c → t ≡ traits_of m → bs ≡ bits_of c → nm ≡ b
    → p ≡ put_all o (model m) → q ≡ put_all p (joined channel (take t.channels bs)) → r ≡ put_all q (type k) → x ≡ put_all r (name nm) → x ≡ put_all o (colour_text c k b)
put-colour-content o m t bs c k b nm {r = r} d e f n g h i y =
    put_both _ _ _ (put_both _ _ _ (put_both _ _ _ g h) i) (y ∙ ap (λ (l : List ℕ). put_all r (name l)) n)
    ∙ ap₂ (λ (m : Model) (l : List ℕ). put_all o (model m ++ joined channel l ++ type k ++ name b)) d (ap₂ (λ (t : Traits) (l : List ℕ). take t.channels l) (e ∙ ap traits_of d) f)

-- the same by its model's tag
colour-content-is : (c : Channels) (k : ℕ) (b : List ℕ) → colour_text c k b ≡ tagged (model_of (traits_of (model_in c)).tag) ++ joined channel (take (channels_of (traits_of (model_in c)).tag) (bits_of c)) ++ type k ++ name b
unfolding model_of channels_of
colour-content-is (vc.Rgb x y z) k b = refl
colour-content-is (vc.Cmyk x y z w) k b = refl
colour-content-is (vc.Lab x y z) k b = refl
colour-content-is (vc.Gray x) k b = refl

-- ---- a block

module _ (s : List ℕ) (o : Buffer) where
  pub put-group : (place u : ℕ) {nm : List ℕ} {p q : Buffer} → nm ≡ name_part s place u → p ≡ put_all o (ascii " group ") → q ≡ put_all p (name nm) → q ≡ put_all o (block s (group_start_row place u))
  put-group place u n f g = put_both _ _ _ f g ∙ ap (λ (l : List ℕ). put_all o (ascii " group " ++ name l)) n

  pub put-shown : (c : NamedColour) {p q : Buffer} → p ≡ put_all o (ascii " colour ") → q ≡ put_all p (colour_text c.colour (ink_number c.ink) (name_part s c.place c.units)) → q ≡ put_all o (block s (shown_colour c))
  put-shown c f g =
      put_both _ _ _ f g ∙ ap (λ (l : List ℕ). put_all o (ascii " colour " ++ l)) (colour-content-is c.colour (ink_number c.ink) (name_part s c.place c.units))

-- ---- the loop

module _ (s : List ℕ) (all o : Buffer) (n i at : ℕ) where
  pub lines_start : {p : ℕ} → p ≡ at → all ≡ put_all o (lines (answer_line s) 0 (answers (shown_walk s) n at)) → all ≡ put_all o (lines (answer_line s) 0 (answers (shown_walk s) (n - 0) p))
  lines_start e g = g ∙ ap (λ (l : List (Call RecordRow)). put_all o (lines (answer_line s) 0 l)) (answers-start (shown_walk s) n e)

  module _ (all-is : all ≡ put_all o (lines (answer_line s) i (answers (shown_walk s) (n - i) at))) where
    by : {l : List (Call RecordRow)} → answers (shown_walk s) (n - i) at ≡ l → all ≡ put_all o (lines (answer_line s) i l)
    by e = all-is ∙ ap (λ (l : List (Call RecordRow)). put_all o (lines (answer_line s) i l)) e

    pub line-turn : (a : Call RecordRow) (q : ℕ) {p : Buffer} → i < n → (a, q) ≡ call_and_place (block_walk s at) → p ≡ put_all o (answer_line s i a) → all ≡ put_all p (lines (answer_line s) (i + 1) (answers (shown_walk s) (n - (i + 1)) q))
    line-turn a q h g x = lines-turn (answer_line s) all o i a (answers (shown_walk s) (n - (i + 1)) q) (by (answers_next (shown_walk s) n i at h (sym g))) x

    pub lines_end : n ≤ i → all ≡ o
    lines_end h = lines_none (answer_line s) all o i (by (answers-none (shown_walk s) n i at h))

-- ---- the whole listing

answers-lines : (s : List ℕ) (es : List Entry) (at i : ℕ) → ((k : ℕ) → call (block_walk s) at k ≡ in_turn es k) → lines (answer_line s) i (answers (shown_walk s) (length es) at) ≡ lines (line s) i es
unfolding answers lines place_after in_turn
answers-lines s [] at i h = refl
answers-lines s (e ∷ more) at i h =
    ap (λ (c : Call Entry). answer_line s i (record_call c) ++ lines (answer_line s) (i + 1) (answers (shown_walk s) (length more) (block_walk s at).1)) (h 0)
    ∙ ap (λ (l : List ℕ). line s i e ++ l) (answers-lines s more (block_walk s at).1 (i + 1) (λ k. h (suc k)))

pub listed-refused : (s : List ℕ) (m : Res (List Entry)) {x p : ℕ} → refusedFile x p 0 0 ≡ verdict report m → refusal x p ≡ listing s m
listed-refused s m v = sym (ap (listing s) (refused-of report m v))

pub listed-accepted : (s : List ℕ) {n l : ℕ} → accepted (n, l) ≡ verdict report (ase s) → heading n ++ lines (answer_line s) 0 (answers (shown_walk s) n (first_place s)) ++ ascii "end\n" ≡ listing s (ase s)
listed-accepted s {n} {l} v =
    let a = accepted-of report (ase s) v in
    let e : n ≡ length a.0 = sym (ap (λ (b : ℕ × ℕ). b.0) a.3) in
    ap (λ (n : ℕ). heading n ++ lines (answer_line s) 0 (answers (shown_walk s) n (first_place s)) ++ ascii "end\n") e
    ∙ ap (λ (x : List ℕ). heading (length a.0) ++ x ++ ascii "end\n") (answers-lines s a.0 (first_place s) 0 (blocks-in-turn s a.2))
    ∙ sym (ap (listing s) a.2)
