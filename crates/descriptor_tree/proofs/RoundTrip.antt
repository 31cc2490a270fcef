-- What is promised of descriptor files: reading and the trees agree. Assumes nothing.
use Prim.Native.Nat.{ℕ}
use mathlib.Core.Path.{◌≡◌, sym, ◌∙◌}
use mathlib.Core.List.{List}
use lib.ListN.{length}
use Rattle.algebra.specs.Numbers.{Bytes}
use Rattle.algebra.specs.Reader.{ok, refuse}
use Rattle.algebra.proofs.Inverse.{clash}
use Rattle.descriptor.specs.Reading.{Row, descriptor}
use Rattle.descriptor_tree.specs.Tree.{Descriptor, file_rows, File}
use Rattle.descriptor_tree.proofs.Whole.{file-inv, is_file, file-reads, file-sound}
use Rattle.descriptor_tree.proofs.Unique.{file-same}

-- the bytes of every allowed tree are accepted to their end, and read as its rows
pub allowed-reads : {t : Descriptor} {s : List ℕ} → File t s → descriptor s ≡ ok (file_rows t) (length s)
allowed-reads {t} {s} f = file-reads t s (file-inv f)

-- every accepted file is the bytes of an allowed tree, whose rows were read, and is read to its end
pub accepted-allowed : {s : List ℕ} → Bytes s → {rs : List Row} {q : ℕ} → descriptor s ≡ ok rs q → (t : Descriptor) × File t s × (file_rows t ≡ rs) × (q ≡ length s)
accepted-allowed {s} octets {rs} {q} e = let x = file-sound s octets rs q e in (x.0, is_file x.1, x.2, x.3)

-- no file is the bytes of two trees
pub allowed-unique : {t u : Descriptor} {s : List ℕ} → File t s → File u s → t ≡ u
allowed-unique {t} {u} {s} f g = file-same t u s (file-inv f) (file-inv g)

-- what is refused is the bytes of no allowed tree
pub refused_none : {t : Descriptor} {s : List ℕ} {x p r g : ℕ} → descriptor s ≡ refuse x p r g → File t s → ⊥
refused_none e f = clash (sym e ∙ allowed-reads f)
