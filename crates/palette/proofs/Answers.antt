-- What the answers of the code come to. Assumes nothing.
use Prim.Native.Nat.{ℕ}
use mathlib.Core.Path.{◌≡◌, refl, sym, ap, ◌∙◌}
use mathlib.Core.List.{List, [], ◌∷◌}
use lib.ListN.{length}
use native.Mathlib.Omega.{arith}
use Rattle.algebra.specs.Reader.{Res, map_res}
use Rattle.algebra.specs.Table.{accepted, refused, verdict}
use Rattle.algebra.proofs.Table.{accepted-of, refused-of}
use Rattle.algebra.proofs.Exact.{length-map}
use Rattle.aco.specs.Reading.{Contents, aco}
use Rattle.aco_judge.specs.Answer.{report}
use Rattle.ase.specs.Reading.{Entry as AseEntry, group_start_read, group_end_read, colour_read, ase}
use Rattle.ase_judge.specs.Answer.{colours as counted, report as reportAse}
use Rattle.walk.specs.Walk.{Call}
use Rattle.aco_walk.specs.Walking.{walk}
use Rattle.std.specs.Prelude.{Result, Option}
use Rattle.fault.specs.declared.Refusal.{Refusal}
use Rattle.aco_read.specs.declared.SwatchRecord.{SwatchRecord}
use Rattle.ase_read.specs.declared.NamedColour.{NamedColour}
use Rattle.aco_walk.specs.Answer.{told_given, told_colour_step, call_and_place}
use Rattle.aco_walk.specs.declared.ColourStep.{ColourStep}
use Rattle.aco.specs.Reading.{Entry}
use Rattle.ase_walk.specs.Answer.{told_next_colour as toldNextAse, told_colour_step as toldAseStep, call_and_place as aseCall}
use Rattle.ase_walk.specs.declared.ColourStep.{ColourStep as AseColourStep}
use Rattle.palette.specs.Palette.{aco_colour, aco_colours, ase_colours, colours}
use Rattle.palette.specs.PaletteStep.{view_of, aco_step, ase_step, step_of}
use Rattle.palette.specs.declared.Kind.{Kind}
use Rattle.palette.specs.declared.Kind.TheVariants.{Aco, Ase}
use Rattle.palette.specs.declared.View.{View}
use Rattle.palette.specs.declared.View.TheVariants.{Samples, Counterparts, Channels as ChannelBits}

-- ---- judging

refused-map : {A B C : Type 0} (report : A → C) (f : A → List B) (m : Res A) {x p r g : ℕ} → refused x p r g ≡ verdict report m → refused x p r g ≡ verdict length (map_res f m)
refused-map report f m e = sym (ap (λ (n : Res _). verdict length (map_res f n)) (refused-of report m e))

pub aco-refused : (s : List ℕ) {x p r g : ℕ} → refused x p r g ≡ verdict report (aco s) → refused x p r g ≡ verdict length (colours Aco s)
aco-refused s e = refused-map report aco_colours (aco s) e

pub aco-accepted : (s : List ℕ) {n l : ℕ} → accepted (n, l) ≡ verdict report (aco s) → accepted n ≡ verdict length (colours Aco s)
aco-accepted s {n} {l} e =
    let a = accepted-of report (aco s) e in
    let c : Contents = a.0 in
    ap accepted (sym (ap (λ (w : ℕ × ℕ). w.0) a.3) ∙ sym (length-map aco_colour c.records)) ∙ sym (ap (λ (m : Res Contents). verdict length (map_res aco_colours m)) a.2)

pub ase-refused : (s : List ℕ) {x p r g : ℕ} → refused x p r g ≡ verdict reportAse (ase s) → refused x p r g ≡ verdict length (colours Ase s)
ase-refused s e = refused-map reportAse ase_colours (ase s) e

colours-counted : (es : List AseEntry) → counted es ≡ length (ase_colours es)
unfolding counted ase_colours
colours-counted [] = refl
colours-counted (group_start_read nm ∷ es) = omega (arith, colours-counted es)
colours-counted (group_end_read ∷ es) = omega (arith, colours-counted es)
colours-counted (colour_read nm t bs k ∷ es) = omega (arith, colours-counted es)

pub ase-accepted : (s : List ℕ) {n l : ℕ} → accepted (n, l) ≡ verdict reportAse (ase s) → accepted l ≡ verdict length (colours Ase s)
ase-accepted s {n} {l} e =
    let a = accepted-of reportAse (ase s) e in
    ap accepted (sym (ap (λ (w : ℕ × ℕ). w.1) a.3) ∙ colours-counted a.0) ∙ sym (ap (λ (m : Res (List AseEntry)). verdict length (map_res ase_colours m)) a.2)

-- ---- five numbers

pub five-same : {t a b c d t' a' b' c' d' : ℕ} → t ≡ t' → a ≡ a' → b ≡ b' → c ≡ c' → d ≡ d' → ◌≡◌ {A = List ℕ} (t ∷ a ∷ b ∷ c ∷ d ∷ []) (t' ∷ a' ∷ b' ∷ c' ∷ d' ∷ [])
five-same t a b c d = λ i. t i ∷ a i ∷ b i ∷ c i ∷ d i ∷ []

-- ---- a step, by the variant that the code found

abbrev Stepped : Type 0
Stepped = List ℕ × ℕ × ℕ × ℕ

pub aco-given : (v : View) (r : ColourStep) (w : Call Entry × ℕ) {g : Result (Option SwatchRecord) Refusal} {z : Stepped} → told_colour_step r ≡ call_and_place w → r.given ≡ g → z ≡ aco_step v ((told_given g).0, (told_given g).1, r.next) → z ≡ aco_step v (call_and_place w)
aco-given v r w e f h = h ∙ ap (λ (g : Result (Option SwatchRecord) Refusal). aco_step v ((told_given g).0, (told_given g).1, r.next)) (sym f) ∙ ap (aco_step v) e

pub ase-given : (r : AseColourStep) (w : Call AseEntry × ℕ) {g : Result (Option NamedColour) Refusal} {z : Stepped} → toldAseStep r ≡ aseCall w → r.given ≡ g → z ≡ ase_step (toldNextAse g, r.next) → z ≡ ase_step (aseCall w)
ase-given r w e f h = h ∙ ap (λ (g : Result (Option NamedColour) Refusal). ase_step (toldNextAse g, r.next)) (sym f) ∙ ap ase_step e

pub with-numbers : {l m : List ℕ} (p u q : ℕ) → l ≡ m → ◌≡◌ {A = Stepped} (l, p, u, q) (m, p, u, q)
with-numbers p u q e = ap (λ (l : List ℕ). (l, p, u, q)) e

-- ---- by the view

pub samples-step : (v : View) (s : List ℕ) (at : ℕ) → v ≡ Samples → aco_step v (call_and_place (walk s at)) ≡ step_of v s at
samples-step v s at e = ap (λ (v : View). aco_step v (call_and_place (walk s at))) e ∙ sym (ap (λ (v : View). step_of v s at) e)

pub counterparts-step : (v : View) (s : List ℕ) (at : ℕ) → v ≡ Counterparts → aco_step v (call_and_place (walk s at)) ≡ step_of v s at
counterparts-step v s at e = ap (λ (v : View). aco_step v (call_and_place (walk s at))) e ∙ sym (ap (λ (v : View). step_of v s at) e)

pub ase-view : (k j : Kind) → k ≡ Ase → ChannelBits ≡ view_of k j
ase-view k j e = go j ∙ sym (ap (λ (k : Kind). view_of k j) e)
  where
    go : (j : Kind) → ChannelBits ≡ view_of Ase j
    go Aco = refl
    go Ase = refl
