use Rattle.std.proofs.Common.{rules}
use Rattle.alog_sink.proofs.Turns.{takes_below}
use Rattle.alog_sink.proofs.leaf.Leaf.take.Goals as goal

pub returns-then-not-admits-clause-takes : goal.returns-then-not-admits-clause-takes
returns-then-not-admits-clause-takes g c =
    takes_below g.S.Store.tells g.S.Store.files g.S.Store.failures c.args.self.now c.args.message.now (search rules)
