use Rattle.acb_write_judge.proofs.Judging.{sizes-four, four-sound}
use Rattle.acb_write.proofs.Puts.{put-texts}
use native.Mathlib.Omega.{arith}
use Rattle.acb_judge.specs.Answer.{told_text}
use Rattle.acb_writing.specs.Writing.{string_size, text_fault}
use Rattle.acb_write.proofs.put_texts.Goals as goal

pub put_string-a-requires : goal.put_string-a-requires
put_string-a-requires c = let a = c.args in
    let f = four-sound (text_fault a.text.now) (told_text a.header.title) (told_text a.header.prefix) (told_text a.header.suffix) (told_text a.header.description) c.requires.sound in
    record { inside = omega (arith, sizes-four string_size (told_text a.header.title) (told_text a.header.prefix) (told_text a.header.suffix) (told_text a.header.description), c.requires.inside); sound = f.0 }

pub put_string-b-requires : goal.put_string-b-requires
put_string-b-requires c = let a = c.args in
    let f = four-sound (text_fault a.text.now) (told_text a.header.title) (told_text a.header.prefix) (told_text a.header.suffix) (told_text a.header.description) c.requires.sound in
    record { inside = omega (arith, sizes-four string_size (told_text a.header.title) (told_text a.header.prefix) (told_text a.header.suffix) (told_text a.header.description), c.requires.inside, c.put_string-a.ensures.0, c.put_string-a.auto.out); sound = f.1 }

pub put_string-c-requires : goal.put_string-c-requires
put_string-c-requires c = let a = c.args in
    let f = four-sound (text_fault a.text.now) (told_text a.header.title) (told_text a.header.prefix) (told_text a.header.suffix) (told_text a.header.description) c.requires.sound in
    record { inside = omega (arith, sizes-four string_size (told_text a.header.title) (told_text a.header.prefix) (told_text a.header.suffix) (told_text a.header.description), c.requires.inside, c.put_string-b.ensures.0, c.put_string-b.auto.out, c.put_string-a.ensures.0, c.put_string-a.auto.out); sound = f.2 }

pub put_string-requires : goal.put_string-requires
put_string-requires c = let a = c.args in
    let f = four-sound (text_fault a.text.now) (told_text a.header.title) (told_text a.header.prefix) (told_text a.header.suffix) (told_text a.header.description) c.requires.sound in
    record { inside = omega (arith, sizes-four string_size (told_text a.header.title) (told_text a.header.prefix) (told_text a.header.suffix) (told_text a.header.description), c.requires.inside, c.put_string-c.ensures.0, c.put_string-c.auto.out, c.put_string-b.ensures.0, c.put_string-b.auto.out, c.put_string-a.ensures.0, c.put_string-a.auto.out); sound = f.3 }

pub returns : goal.returns
returns c = let a = c.args in
    let p = c.put_string-a in
    let q = c.put_string-b in
    let r = c.put_string-c in
    let t = c.put_string in
    (omega (arith, sizes-four string_size (told_text a.header.title) (told_text a.header.prefix) (told_text a.header.suffix) (told_text a.header.description), p.ensures.0, q.ensures.0, r.ensures.0, t.ensures.0), put-texts a.text.now (told_text a.header.title) (told_text a.header.prefix) (told_text a.header.suffix) (told_text a.header.description) a.out.now _ _ _ _ a.at _ _ _ p.ensures.1 p.ensures.0 q.ensures.1 q.ensures.0 r.ensures.1 r.ensures.0 t.ensures.1)
