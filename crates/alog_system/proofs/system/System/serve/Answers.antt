use Rattle.std.proofs.Common.{◌<◌, length, sym, subst}
use Rattle.alog_system.specs.System.{SystemView}
use Rattle.alog_system.proofs.Suits.{sink_there}
use Rattle.alog_system.proofs.system.System.serve.Goals as goal

pub turn_on-told-requires-clause-known : goal.turn_on-told-requires-clause-known
turn_on-told-requires-clause-known g c =
    let i = c.self.inside in
    subst (λ (s : SystemView g.row.S.Denot). c.in-Some.turn.sink < length s.outputs.sinks) c.self.view_is
    (sink_there (length i.outputs.sinks) i.roster c.args.ticket c.args.item c.args.done c.in-Some.turn c.self.invariant.loggers (sym c.in-Some.ensures.turn))
