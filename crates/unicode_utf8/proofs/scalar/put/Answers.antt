use mathlib.Core.Path.{sym, ap, ◌∙◌}
use mathlib.Core.List.{List}
use Prim.Native.Nat.{ℕ}
use native.Mathlib.Omega.{arith}
use lib.ListN.{length, length-set}
use lib.Seq.{sets}
use Rattle.unicode_text.proofs.Laws.{ascii-bytes, bytes-two, bytes-three, bytes-four}
use Rattle.unicode_utf8.proofs.Laws.{set-two, set-three, set-four}
use Rattle.unicode_utf8.proofs.scalar.put.Goals as goal

pub bounds-out-at : goal.bounds-out-at
bounds-out-at c = let a = c.args in let e = ap length (ascii-bytes a.c (omega arith)) in omega (arith, e)

pub returns-then-c-lt-ONE_BYTE : goal.returns-then-c-lt-ONE_BYTE
returns-then-c-lt-ONE_BYTE c =
    let a = c.args in
    let e = ascii-bytes a.c (omega arith) in
    let n = ap length e in
    (omega (arith, n), sym (ap (λ (l : List ℕ). sets a.out.now a.at l) e))

pub bounds-out-at-then-c-lt-TWO_BYTES : goal.bounds-out-at-then-c-lt-TWO_BYTES
bounds-out-at-then-c-lt-TWO_BYTES c = let a = c.args in let e = ap length (bytes-two a.c (omega arith) (omega arith)) in omega (arith, e)

pub bounds-out-at-then-c-lt-TWO_BYTES-2 : goal.bounds-out-at-then-c-lt-TWO_BYTES-2
bounds-out-at-then-c-lt-TWO_BYTES-2 c = let a = c.args in let e = ap length (bytes-two a.c (omega arith) (omega arith)) in simp length-set (omega (arith, e))

pub returns-then-c-lt-TWO_BYTES : goal.returns-then-c-lt-TWO_BYTES
returns-then-c-lt-TWO_BYTES c =
    let a = c.args in
    let e = bytes-two a.c (omega arith) (omega arith) in
    let n = ap length e in
    (omega (arith, n), set-two a.out.now a.at _ _ 0 0 ∙ sym (ap (λ (l : List ℕ). sets a.out.now a.at l) e))

pub bounds-out-at-then-c-lt-THREE_BYTES : goal.bounds-out-at-then-c-lt-THREE_BYTES
bounds-out-at-then-c-lt-THREE_BYTES c = let a = c.args in let e = ap length (bytes-three a.c (omega arith) (omega arith)) in omega (arith, e)

pub bounds-out-at-then-c-lt-THREE_BYTES-2 : goal.bounds-out-at-then-c-lt-THREE_BYTES-2
bounds-out-at-then-c-lt-THREE_BYTES-2 c = let a = c.args in let e = ap length (bytes-three a.c (omega arith) (omega arith)) in simp length-set (omega (arith, e))

pub bounds-out-at-then-c-lt-THREE_BYTES-3 : goal.bounds-out-at-then-c-lt-THREE_BYTES-3
bounds-out-at-then-c-lt-THREE_BYTES-3 c = let a = c.args in let e = ap length (bytes-three a.c (omega arith) (omega arith)) in simp length-set (omega (arith, e))

pub returns-then-c-lt-THREE_BYTES : goal.returns-then-c-lt-THREE_BYTES
returns-then-c-lt-THREE_BYTES c =
    let a = c.args in
    let e = bytes-three a.c (omega arith) (omega arith) in
    let n = ap length e in
    (omega (arith, n), set-three a.out.now a.at _ _ _ 0 ∙ sym (ap (λ (l : List ℕ). sets a.out.now a.at l) e))

pub bounds-out-at-2 : goal.bounds-out-at-2
bounds-out-at-2 c = let a = c.args in let e = ap length (bytes-four a.c (omega arith)) in omega (arith, e)

pub bounds-out-at-3 : goal.bounds-out-at-3
bounds-out-at-3 c = let a = c.args in let e = ap length (bytes-four a.c (omega arith)) in simp length-set (omega (arith, e))

pub bounds-out-at-4 : goal.bounds-out-at-4
bounds-out-at-4 c = let a = c.args in let e = ap length (bytes-four a.c (omega arith)) in simp length-set (omega (arith, e))

pub bounds-out-at-5 : goal.bounds-out-at-5
bounds-out-at-5 c = let a = c.args in let e = ap length (bytes-four a.c (omega arith)) in simp length-set (omega (arith, e))

pub returns : goal.returns
returns c =
    let a = c.args in
    let e = bytes-four a.c (omega arith) in
    let n = ap length e in
    (omega (arith, n), set-four a.out.now a.at _ _ _ _ ∙ sym (ap (λ (l : List ℕ). sets a.out.now a.at l) e))
