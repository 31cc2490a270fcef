-- Scaffolding: the form in which the code goes; cited by private contracts and by proofs.
-- What each answer of the code says, and parts of the reading that the code goes by.
use Rattle.std.specs.Prelude.{ℕ, List, Result, Option, Some, None}
use Rattle.algebra.specs.Reader.{Res, ok, Reader, then, judged, ◌>>=◌, each}
use Rattle.fault.specs.Answer.{told}
use Rattle.fault.specs.declared.Refusal.{Refusal}
use Rattle.descriptor.specs.Reading.{Known, is, unknown, Sort, leaf, list, object, reference, array, passing, skip, id, unicode, enumerated, double, doubles}
use Rattle.descriptor_fields.specs.declared.Value.{Value}
use Rattle.descriptor_fields.specs.declared.Value.TheVariants as vv
use Rattle.descriptor_fields.specs.declared.Form.{Form}
use Rattle.descriptor_fields.specs.declared.Form.TheVariants as vf

-- what stands after an item's type, where it is known; or a refusal
abbrev pub told_begun : Result (Option Value) Refusal → Res (Option Value)
told_begun r = told (λ v. ok v 0) r

-- the end of fields with no member among them, or their refusal
abbrev pub end_of : Res Unit → Res (Option Value)
end_of m = then m (λ u q. ok (Some (vv.Ends q)) 0)

-- fields are read to their end; of members only their sort is said
abbrev pub begun : Known Sort → List ℕ → ℕ → Res (Option Value)
begun (is (leaf p)) s at = end_of (p s at)
begun (is list) s at = ok (Some vv.List) 0
begun (is object) s at = ok (Some vv.Object) 0
begun (is reference) s at = ok (Some vv.Reference) 0
begun (is array) s at = ok (Some vv.Array) 0
begun unknown s at = ok None 0

abbrev pub reader_of : Form → Reader Unit
reader_of vf.Nothing = skip 0
reader_of vf.Enumerated = enumerated
reader_of vf.Id = id
reader_of vf.Text = unicode
reader_of vf.Long = skip 4

abbrev pub known : Option Form → Known (Reader Unit)
known (Some f) = is (reader_of f)
known None = unknown

-- after the unit: a count, which is m, else 5, and that many doubles
unfoldable pub counted : ℕ → Reader Unit
counted m = do
  n ← judged 4 (doubles m)
  passing (each n 0 (λ i. double))
