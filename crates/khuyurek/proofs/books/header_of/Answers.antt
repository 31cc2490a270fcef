use Rattle.khuyurek.proofs.books.header_of.Goals as goal

pub returns : goal.returns
returns c = rw c.number_of.ensures
