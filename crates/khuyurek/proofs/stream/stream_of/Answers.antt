use Rattle.khuyurek.proofs.stream.stream_of.Goals as goal

pub returns : goal.returns
returns c = rw (c.is_ended.ensures, c.stage_of.ensures)
