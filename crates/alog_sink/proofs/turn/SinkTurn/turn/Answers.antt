use Rattle.alog_sink.proofs.SharedKeeps.{take_may, flush_may}
use Rattle.alog_sink.proofs.turn.SinkTurn.turn.Goals as goal

pub returns-in_err-take-in-Text-clause-keeps : goal.returns-in_err-take-in-Text-clause-keeps
returns-in_err-take-in-Text-clause-keeps g c =
    take_may g.S.Store.tells g.S.Store.files g.S.Store.failures c.args.self.now c.take.new.self c.in-Text.message c.take.result c.take.ensures.takes

pub returns-in_err-flush-in-Flush-clause-keeps : goal.returns-in_err-flush-in-Flush-clause-keeps
returns-in_err-flush-in-Flush-clause-keeps g c =
    flush_may g.S.Store.tells g.S.Store.files g.S.Store.failures c.args.self.now c.flush.new.self c.flush.result c.flush.ensures

pub returns-in_ok-take-in-Text-clause-keeps : goal.returns-in_ok-take-in-Text-clause-keeps
returns-in_ok-take-in-Text-clause-keeps g c =
    take_may g.S.Store.tells g.S.Store.files g.S.Store.failures c.args.self.now c.take.new.self c.in-Text.message c.take.result c.take.ensures.takes

pub returns-in_ok-flush-in-Flush-clause-keeps : goal.returns-in_ok-flush-in-Flush-clause-keeps
returns-in_ok-flush-in-Flush-clause-keeps g c =
    flush_may g.S.Store.tells g.S.Store.files g.S.Store.failures c.args.self.now c.flush.new.self c.flush.result c.flush.ensures
