-- Scaffolding: the form in which the code goes; cited by private contracts and by proofs.
use Rattle.std.specs.Prelude.{ℕ, eqb}
use Rattle.algebra.specs.Reader.{Res, ok, refuse, pick}
use Rattle.descriptor_judge.specs.Answer.{Verdict, accepted, refused}

-- the root of a file of n bytes has been read: 6 where bytes are left
abbrev pub closing : ℕ → Res ℕ → Verdict
closing n (ok k q) = pick (eqb q n) (accepted k) (refused 6 q)
closing n (refuse x p r f) = refused x p
