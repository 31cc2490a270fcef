-- What `read`, `record_at` and `name_at` answer, on plain values. Assumes nothing.
use Prim.Native.Nat.{ℕ, zero, suc, ◌+◌, ◌*◌, ◌-◌, ◌^◌, ◌≤◌, ◌<◌}
use mathlib.Core.Path.{◌≡◌, refl, sym, ap, ap₂, ◌∙◌, subst}
use mathlib.Core.List.{List, [], ◌∷◌}
use mathlib.Core.Bool.{Bool, true, false, ◌&&◌}
use lib.ListN.{length, get_or, take, drop, get_or-eq_default}
use lib.Dec.{leb, ltb}
use borrow.Author.Tests.{le-leb, lt-leb, ltb-true}
use native.Mathlib.Omega.{arith}
use native.Mathlib.Nat.{lt_of_not-le}
use native.Mathlib.Decide.{dec_le}
use Rattle.algebra.specs.Reader.{Res, ok, refuse, pick}
use Rattle.algebra.specs.Text.{Name}
use Rattle.colour.specs.Models.{traits_of, model_of, is_known_model, count_in, is_model, channels_of}
use Rattle.colour.specs.Channels.{allows_in, allows_bits, made, made_in, bits_of, model_in, channel}
use Rattle.colour.specs.declared.model.Model.{Model}
use Rattle.colour.specs.declared.model.Model.TheVariants.{Rgb, Cmyk, Lab, Gray}
use Rattle.std.specs.Prelude.{Option, Some, None, Result, Ok, Err}
use Rattle.std.specs.Option.{unwrap_or}
use Rattle.std.specs.Result.{IsOk, IsErrAnd}
use Rattle.std.proofs.lemmas.Result.{err_from_is_err_and}
use Rattle.fault.specs.Fault.{number_of}
use Rattle.fault.specs.declared.Refusal.{Refusal}
use Rattle.colour.specs.declared.ink.Ink.TheVariants.{NotStated}
use Rattle.ase_judge.specs.declared.Counts.{Counts}
use Rattle.ase_read.specs.declared.Record.{Record}
use Rattle.ase_read.specs.Answer.{told_record}
use Rattle.fault.specs.declared.Fault.{Fault}
use Rattle.fault.specs.declared.Fault.TheVariants.{OutOfRange}
use Rattle.colour.specs.declared.channel.Channels.{Channels}
use Rattle.colour.specs.declared.channel.Channels.TheVariants as vc
use Rattle.colour.specs.Inks.{ink_number, ink_of}
use Rattle.colour.specs.declared.ink.Ink.{Ink}
use Rattle.colour.proofs.Inks.{ink_small, number-back}
use Rattle.colour.proofs.Models.{tag-known}
use Rattle.colour.proofs.Kept.{same-four, bits-kept}
use Rattle.ase.specs.Reading.{Entry, group_start_read, group_end_read, colour_read, ase}
use Rattle.ase.specs.Row.{RecordRow, width, group_start_row, group_end_row, colour_row, given_of, given_in}
use Rattle.ase.specs.declared.RowNumbers.{RowNumbers}
use Rattle.algebra.specs.Numbers.{joined}
use Rattle.algebra.specs.Table.{Verdict, accepted, refused, verdict, seen}
use Rattle.algebra.proofs.Places.{length-joined}
use Rattle.algebra.proofs.Table.{accepted-of, accepted-by, record-found}
use Rattle.ase_judge.specs.Answer.{report, told}
use Rattle.ase_read.specs.Table.{row, record_at, name_bytes_in}
use Rattle.ase_read.specs.Table.{entries_of}
use Rattle.ase_read.specs.scaffold.Raw.{next_block, block_place, Accepted}
use Rattle.ase_read.specs.scaffold.Answer.{IsColour}
use Rattle.ase_read.proofs.Blocks.{Sound, NameIn}
use Rattle.ase_read.proofs.Filling.{here}

-- ---- a colour

module _ (t a b c d : ℕ) (is : IsColour t a b c d) where
  by-tag : made_in (model_of t) a b c d ≡ made is.0 a b c d
  by-tag = ap (λ (k : Option Model). made_in k a b c d) is.2

  -- the colour is made
  pub is_made : (r : Result Channels Fault) → r ≡ made_in (model_of t) a b c d → IsOk r
  is_made r e = rw (e ∙ by-tag ∙ is.3) refl

  pub colour-is : (x : Channels) → made_in (model_of t) a b c d ≡ Ok x → a < 2 ^ 32 → b < 2 ^ 32 → c < 2 ^ 32 → d < 2 ^ 32
      → (p u k : ℕ) → colour_row p u (traits_of (model_in x)).tag (bits_of x) k ≡ colour_row p u t (a ∷ b ∷ c ∷ d ∷ []) k
  colour-is x e ha hb hc hd p u k =
      let z = bits-kept is.0 a b c d ha hb hc hd x (sym by-tag ∙ e) in
      ap₂ (λ (g : ℕ) (l : List ℕ). colour_row p u g l k) (ap (λ (y : Model). (traits_of y).tag) z.0 ∙ tag-known t is.0 is.2) (z.1 ∙ is.4)

-- the ink with a number, where one has it
pub ink-known : (n : ℕ) (i : Ink) → ink_of n ≡ Some i → ink_number i ≡ pick (leb n 4) n 4
ink-known n i e = let b : ink_number i ≡ n = number-back n i e in b ∙ sym (rw (le-leb n 4 (omega (arith, ink_small i))))

few : (n : ℕ) → n ≤ 4 → ink_of n ≡ None → ⊥
unfolding ink_of
few zero h e = let w : ◌≡◌ {A = ℕ} 0 1 = cc in absurd (omega arith)
few (suc zero) h e = let w : ◌≡◌ {A = ℕ} 0 1 = cc in absurd (omega arith)
few (suc (suc zero)) h e = let w : ◌≡◌ {A = ℕ} 0 1 = cc in absurd (omega arith)
few (suc (suc (suc zero))) h e = let w : ◌≡◌ {A = ℕ} 0 1 = cc in absurd (omega arith)
few (suc (suc (suc (suc zero)))) h e = let w : ◌≡◌ {A = ℕ} 0 1 = cc in absurd (omega arith)
few (suc (suc (suc (suc (suc n))))) h e = absurd (omega arith)

pub ink-none : (n : ℕ) → ink_of n ≡ None → 4 ≡ pick (leb n 4) n 4
ink-none n e = elim (dec_le n 4) [
  | yes h ↦ absurd (few n h e)
  | no h ↦ sym (rw (lt-leb n 4 (lt_of_not-le h)))
]

-- the ink with a number, as it is found
pub ink-found : (n : ℕ) (r : Option Ink) → r ≡ ink_of n → (i : Ink) → i ≡ unwrap_or r NotStated → ink_number i ≡ pick (leb n 4) n 4
ink-found n (Some j) e i w = ap ink_number w ∙ ink-known n j (sym e)
ink-found n None e i w = ap ink_number w ∙ ink-none n (sym e)

-- the ink with a number that a file has
pub ink-is : (n x : ℕ) → x ≡ pick (leb n 4) n 4 → n ≤ 2 → x ≡ n
ink-is n x e h = e ∙ rw (le-leb n 4 (omega arith))

-- what is judged makes a colour
pub sound-colour : (nm : Name) (t : ℕ) (bs : List ℕ) (k : ℕ) → Sound (colour_read nm t bs k) → IsColour t (get_or bs 0 0) (get_or bs 1 0) (get_or bs 2 0) (get_or bs 3 0)
unfolding is_model channels_of allows_bits
sound-colour nm t bs k h = go (model_of t) refl h.0 h.1 h.2
  where
    none : (i : ℕ) → length bs ≤ i → get_or bs i 0 ≡ 0
    none i l = get_or-eq_default bs 0 l

    and : {p q : Bool} → p ≡ true → q ≡ true → (p && q) ≡ true
    and a b = rw (a, b)

    is : {x : Channels} {p : Bool} → p ≡ true → pick p (Ok x) (Err OutOfRange) ≡ Ok x
    is {x} a = ap (λ (p : Bool). pick p (Ok x) (Err OutOfRange)) a

    go : (w : Option Model) → model_of t ≡ w → is_known_model w ≡ true → length bs ≡ count_in w → ((i : ℕ) → i < length bs → allows_in w (get_or bs i 0) ≡ true) → IsColour t (get_or bs 0 0) (get_or bs 1 0) (get_or bs 2 0) (get_or bs 3 0)
    go (Some Rgb) e a n c = (
      Rgb,
      vc.Rgb (channel (get_or bs 0 0)) (channel (get_or bs 1 0)) (channel (get_or bs 2 0)),
      e,
      is (and (and (c 0 (omega arith)) (c 1 (omega arith))) (c 2 (omega arith))),
      same-four refl refl refl (sym (none 3 (omega arith))),
    )
    go (Some Cmyk) e a n c = (
      Cmyk,
      vc.Cmyk (channel (get_or bs 0 0)) (channel (get_or bs 1 0)) (channel (get_or bs 2 0)) (channel (get_or bs 3 0)),
      e,
      is (and (and (and (c 0 (omega arith)) (c 1 (omega arith))) (c 2 (omega arith))) (c 3 (omega arith))),
      refl,
    )
    go (Some Lab) e a n c = (
      Lab,
      vc.Lab (channel (get_or bs 0 0)) (channel (get_or bs 1 0)) (channel (get_or bs 2 0)),
      e,
      is (and (and (c 0 (omega arith)) (c 1 (omega arith))) (c 2 (omega arith))),
      same-four refl refl refl (sym (none 3 (omega arith))),
    )
    go (Some Gray) e a n c = (
      Gray,
      vc.Gray (channel (get_or bs 0 0)),
      e,
      is (c 0 (omega arith)),
      same-four refl (sym (none 1 (omega arith))) (sym (none 2 (omega arith))) (sym (none 3 (omega arith))),
    )
    go None e a n c = let z : ◌≡◌ {A = ℕ} 0 1 = cc in absurd (omega arith)

-- ---- a record by its numbers

block-is : (r : RowNumbers) {g : RecordRow} → given_in r ≡ g → r.block ≡ g.block
block-is r e = ap (λ (x : RecordRow). x.block) e

module _ (r : RowNumbers) where
  pub is-group : (e : Entry) → given_in r ≡ given_of e → r.block ≡ 0xC001 → group_start_row r.first r.units ≡ given_of e
  is-group (group_start_read nm) w h = ap (λ (x : RecordRow). group_start_row x.first x.units) w
  is-group group_end_read w h = let z : ◌≡◌ {A = ℕ} 0xC002 0xC001 = sym (block-is r w) ∙ h in absurd (omega arith)
  is-group (colour_read nm t bs k) w h = let z : ◌≡◌ {A = ℕ} 0x0001 0xC001 = sym (block-is r w) ∙ h in absurd (omega arith)

  pub is-close : (e : Entry) → given_in r ≡ given_of e → r.block ≡ 0xC002 → group_end_row ≡ given_of e
  is-close (group_start_read nm) w h = let z : ◌≡◌ {A = ℕ} 0xC001 0xC002 = sym (block-is r w) ∙ h in absurd (omega arith)
  is-close group_end_read w h = refl
  is-close (colour_read nm t bs k) w h = let z : ◌≡◌ {A = ℕ} 0x0001 0xC002 = sym (block-is r w) ∙ h in absurd (omega arith)

-- the colour that they make
pub record Hue (e : Entry) (r : RowNumbers) : Type 0 where
  pub is : IsColour r.model r.channel0 r.channel1 r.channel2 r.channel3
  pub ink : r.ink ≤ 2
  pub shows : colour_row r.first r.units r.model (r.channel0 ∷ r.channel1 ∷ r.channel2 ∷ r.channel3 ∷ []) r.ink ≡ given_of e

pub is-colour : (e : Entry) → Sound e → (r : RowNumbers) → given_in r ≡ given_of e → (r.block ≡ 0xC001 → ⊥) → (r.block ≡ 0xC002 → ⊥) → Hue e r
is-colour (group_start_read nm) o r w h g = absurd (h (block-is r w))
is-colour group_end_read o r w h g = absurd (g (block-is r w))
is-colour (colour_read nm t bs k) o r w h g = record {
  is = subst (λ (x : RecordRow). IsColour x.model (get_or x.channels 0 0) (get_or x.channels 1 0) (get_or x.channels 2 0) (get_or x.channels 3 0)) (sym w) (sound-colour nm t bs k o);
  ink = subst (λ (x : RecordRow). x.ink ≤ 2) (sym w) o.3;
  shows = ap (λ (x : RecordRow). colour_row x.first x.units x.model x.channels x.ink) w;
}

-- ---- from the verdict to what the file holds

-- what is told where a `?` hands a refusal on
pub record-exit : (r : Result Record Refusal) (e : Refusal) {m : Verdict RecordRow} → IsErrAnd r (λ y. y ≡ e) → refused (number_of e.0) e.1 0 0 ≡ m → told_record r ≡ m
record-exit r e h rest = let p = err_from_is_err_and r h in rw (p.1, p.2) rest

pub filled-exit : (r : Result Counts Refusal) (e : Refusal) (t : List ℕ) {m : Verdict (ℕ × ℕ) × List ℕ} → IsErrAnd r (λ y. y ≡ e) → (refused (number_of e.0) e.1 0 0, t) ≡ m → (told r, t) ≡ m
filled-exit r e t h rest = let p = err_from_is_err_and r h in rw (p.1, p.2) rest

pub judged-of : (m : Res (List Entry)) {n k : ℕ} → accepted (n, k) ≡ verdict report m → Accepted m n
judged-of m v = accepted-by report (λ b. b.0) m (accepted-of report m v)

pub rows-wide : (es : List Entry) → length (joined row es) ≡ width * length es
rows-wide es = omega (arith, length-joined row width (λ e. refl) es)

-- a record that the file has
pub record_is : (m : Res (List Entry)) (n i : ℕ) → Accepted m n → i < n → (g : RecordRow) → g ≡ given_of (get_or (entries_of m) i group_end_read) → accepted g ≡ record_at i m
record_is m n i a h g e = ap (λ (x : RecordRow). accepted x) e ∙ ap (seen given_of) (record-found (λ es. es) length (λ k. k) (λ es. refl) m group_end_read i a h)

-- ---- a record's name

-- the part of the file that a name is
pub name-part : (s : List ℕ) (v : Verdict RecordRow) (g : RecordRow) → accepted g ≡ v → take (g.first + 2 * g.units - g.first) (drop g.first s) ≡ name_bytes_in s v
name-part s v g e = let n : g.first + 2 * g.units - g.first ≡ 2 * g.units = omega arith in ap (λ (x : ℕ). take x (drop g.first s)) n ∙ ap (name_bytes_in s) e

-- it lies inside the file
pub name_in : (s : List ℕ) (i : ℕ) (g : RecordRow) → accepted g ≡ record_at i (ase s) → g.first + 2 * g.units ≤ length s
name_in s i g e = go (ase s) refl e
  where
    entry : (q : ℕ) → q ≤ length s → (x : Entry) → NameIn q x → accepted g ≡ accepted (given_of x) → g.first + 2 * g.units ≤ length s
    entry q l (group_start_read nm) h z = let w : g ≡ given_of (group_start_read nm) = cc in omega (arith, h, ap (λ (x : RecordRow). x.first) w, ap (λ (x : RecordRow). x.units) w)
    entry q l group_end_read h z = let w : g ≡ given_of group_end_read = cc in omega (arith, ap (λ (x : RecordRow). x.first) w, ap (λ (x : RecordRow). x.units) w)
    entry q l (colour_read nm t bs k) h z = let w : g ≡ given_of (colour_read nm t bs k) = cc in omega (arith, h, ap (λ (x : RecordRow). x.first) w, ap (λ (x : RecordRow). x.units) w)

    test : (es : List Entry) (q : ℕ) → ase s ≡ ok es q → (b : Bool) → ltb i (length es) ≡ b → accepted g ≡ seen given_of (pick b (accepted (get_or es i group_end_read)) (refused 12 0 0 0)) → g.first + 2 * g.units ≤ length s
    test es q x true l z =
        let h = here s (length es) (es, q, x, refl) i (ltb-true _ _ l) (block_place s i) refl in
        entry _ h.inside (get_or es i group_end_read) (subst (λ (y : List Entry). NameIn (next_block s (block_place s i)) (get_or y i group_end_read)) (ap entries_of x) h.named) z
    test es q x false l z = let w : ◌≡◌ {A = ℕ} 0 1 = cc in absurd (omega arith)

    go : (m : Res (List Entry)) → ase s ≡ m → accepted g ≡ record_at i m → g.first + 2 * g.units ≤ length s
    go (ok es q) x z = test es q x (ltb i (length es)) refl z
    go (refuse y r f h) x z = let w : ◌≡◌ {A = ℕ} 0 1 = cc in absurd (omega arith)
