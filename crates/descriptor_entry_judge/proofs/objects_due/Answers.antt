use Rattle.descriptor_entry_judge.proofs.Heads as H
use Rattle.descriptor_entry_judge.proofs.objects_due.Goals as goal

pub returns-then-what-gt2 : goal.returns-then-what-gt2
returns-then-what-gt2 c = H.due-objects _ _ c.if-what-gt2.true

pub returns-else-what-gt2 : goal.returns-else-what-gt2
returns-else-what-gt2 c = H.due-none _ _ c.if-what-gt2.false
