use mathlib.Core.Path.{sym, ap}
use native.Mathlib.Omega.{arith}
use lib.ListN.{length}
use Rattle.unicode_text.proofs.Laws.{ascii-bytes, bytes-two, bytes-three, bytes-four}
use Rattle.unicode_utf8.proofs.scalar.width.Goals as goal

pub returns-then-c-lt-ONE_BYTE : goal.returns-then-c-lt-ONE_BYTE
returns-then-c-lt-ONE_BYTE c = (sym (ap length (ascii-bytes _ (omega arith))), omega arith)

pub returns-then-c-lt-TWO_BYTES : goal.returns-then-c-lt-TWO_BYTES
returns-then-c-lt-TWO_BYTES c = (sym (ap length (bytes-two _ (omega arith) (omega arith))), omega arith)

pub returns-then-c-lt-THREE_BYTES : goal.returns-then-c-lt-THREE_BYTES
returns-then-c-lt-THREE_BYTES c = (sym (ap length (bytes-three _ (omega arith) (omega arith))), omega arith)

pub returns : goal.returns
returns c = (sym (ap length (bytes-four _ (omega arith))), omega arith)
