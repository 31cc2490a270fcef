-- Scaffolding: the form in which the code goes; cited by private contracts and by proofs.
use Rattle.std.specs.Prelude.{ℕ, List, [], ◌∷◌, Option, Some, None, Result}
use Rattle.algebra.specs.Reader.{Res, ok}
use Rattle.fault.specs.Answer.{told, told_at}
use Rattle.fault.specs.declared.Refusal.{Refusal}
use Rattle.acb.specs.Grammar.{Tag}
use Rattle.acb.specs.Reading.{Numbers, Header}
use Rattle.acb_judge.specs.declared.Tag.{Tag as Ending}
use Rattle.acb_judge.specs.declared.Header.{Header as Heading}
use Rattle.acb_judge.specs.declared.Strings.{Strings}
use Rattle.acb_judge.specs.declared.Counts.{Counts}
use Rattle.acb_judge.specs.Answer.{told_text, HeaderPlaces, header_places, told_header, told_tag}

abbrev pub told_number : Result (ℕ × ℕ) Refusal → Res ℕ
told_number r = told_at (λ (n : ℕ). n) r

abbrev pub told_strings : Result (Strings × ℕ) Refusal → Res (List (ℕ × ℕ))
told_strings r = told_at (λ (t : Strings). told_text t.title ∷ told_text t.prefix ∷ told_text t.suffix ∷ told_text t.description ∷ []) r

abbrev pub told_counts : Result (Counts × ℕ) Refusal → Res Numbers
told_counts r = told_at (λ (n : Counts). record { count = n.count; size = n.size; offset = n.offset; space = n.space }) r

-- the header and the number of records
abbrev pub told_head : Result (Heading × ℕ × ℕ) Refusal → Res (HeaderPlaces × ℕ)
told_head r = told (λ (x : Heading × ℕ × ℕ). ok (told_header x.0, x.1) x.2) r

abbrev pub headed : Header → HeaderPlaces × ℕ
headed h = (header_places h, h.numbers.count)

abbrev pub told_known : Option Ending → Option Tag
told_known (Some t) = Some (told_tag t)
told_known None = None

-- the tag of a file of this length, which it ends
abbrev pub told_closing : ℕ → Result Ending Refusal → Res Tag
told_closing n r = told (λ (t : Ending). ok (told_tag t) n) r
