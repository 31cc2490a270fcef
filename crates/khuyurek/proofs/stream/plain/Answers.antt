use Rattle.khuyurek.proofs.stream.plain.Goals as goal

pub returns : goal.returns
returns c = rw c.flag.ensures
