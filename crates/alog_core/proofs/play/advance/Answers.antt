use Rattle.alog_core.proofs.play.advance.Goals as goal

pub returns-in-Push : goal.returns-in-Push
returns-in-Push g c = rw c.in-Push.is (c.load_next.ensures c.args.actor)

pub returns-in-PushRead : goal.returns-in-PushRead
returns-in-PushRead g c = rw c.in-PushRead.is (c.load_sequence_to_push.ensures c.args.actor)

pub returns-in-PushClaimed : goal.returns-in-PushClaimed
returns-in-PushClaimed g c =
    rw c.in-PushClaimed.is (c.write.ensures c.args.actor (rw c.in-PushClaimed.is at c.requires.staged))

pub returns-in-Pop : goal.returns-in-Pop
returns-in-Pop g c = rw c.in-Pop.is (c.load_front.ensures c.args.actor)

pub returns-in-PopRead : goal.returns-in-PopRead
returns-in-PopRead g c = rw c.in-PopRead.is (c.load_sequence_to_pop.ensures c.args.actor)

pub returns-in-PopGrabbed : goal.returns-in-PopGrabbed
returns-in-PopGrabbed g c =
    rw c.in-PopGrabbed.is (c.take.ensures c.args.actor (rw c.in-PopGrabbed.is at c.requires.staged))

pub returns-in-PopFronted : goal.returns-in-PopFronted
returns-in-PopFronted g c = rw c.in-PopFronted.is (c.load_end_to_pop.ensures c.args.actor)
