use Rattle.alog_system.proofs.Steps.{dump_turn, serve_turn}
use Rattle.alog_system.proofs.system.System.turn.Goals as goal

pub returns-in-Dumps : goal.returns-in-Dumps
returns-in-Dumps g c =
    dump_turn g.S.Store.tells g.S.Store.files g.S.Store.failures c.args.self.now c.args.actor c.in-Dumps.ensures.duty
    c.take_duty.ensures.after c.dump.ensures.told c.dump.ensures.begun

pub returns-in-Serves : goal.returns-in-Serves
returns-in-Serves g c =
    serve_turn g.S.Store.tells g.S.Store.files g.S.Store.failures c.args.self.now c.in-Serves.ensures.duty c.take_duty.ensures.after
    c.serve.ensures
