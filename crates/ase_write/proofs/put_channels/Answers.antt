use Rattle.ase_write.proofs.Puts.{put_one, put_three, put_four}
use Rattle.ase_write.proofs.put_channels.Goals as goal

pub returns-then-n-eq1 : goal.returns-then-n-eq1
returns-then-n-eq1 c =
    let a = c.args in
    let g = a.given in
    put_one g.model a.n g.channel0 g.channel1 g.channel2 g.channel3 a.out.now _ a.at c.requires.1 c.requires.0 c.put_number.ensures c.if-n-eq1.true

pub returns-then-n-eq3 : goal.returns-then-n-eq3
returns-then-n-eq3 c =
    let a = c.args in
    let g = a.given in
    put_three g.model a.n g.channel0 g.channel1 g.channel2 g.channel3 a.out.now _ a.at c.requires.1 c.requires.0 c.put_number.ensures _ _ c.put_number-2.ensures c.put_number-3.ensures c.if-n-eq3.true

pub returns : goal.returns
returns c =
    let a = c.args in
    let g = a.given in
    put_four g.model a.n g.channel0 g.channel1 g.channel2 g.channel3 a.out.now _ a.at c.requires.1 c.requires.0 c.put_number.ensures _ _ c.put_number-2.ensures c.put_number-3.ensures c.requires.2 c.if-n-eq1.false c.if-n-eq3.false _ c.put_number-4.ensures
