use Rattle.alog_sink.proofs.SharedLaneRuns.{leaf_writes, fan_writes}
use Rattle.alog_sink.proofs.laws.lanes_write_their_texts.Goals as goal

pub returns-clause-leaf : goal.returns-clause-leaf
returns-clause-leaf g c = λ o n h opening ms told leads served stood.
    leaf_writes g.S.Store.tells g.S.Store.files g.S.Store.failures told o n h opening ms leads served stood

pub returns-clause-fan : goal.returns-clause-fan
returns-clause-fan g c = λ o n h stood told leads served all.
    fan_writes g.S.Store.tells g.S.Store.files g.S.Store.failures told o n h stood leads served all
