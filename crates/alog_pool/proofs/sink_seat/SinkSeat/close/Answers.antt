use Rattle.std.proofs.Common.{subst}
use Rattle.alog_lane.specs.Calls.{Closes, LaneId}
use Rattle.alog_pool.specs.SinkSeat.{SinkSeatView}
use Rattle.alog_sink.specs.Sinks.{Turns}
use Rattle.alog_sink.specs.declared.sink.Sink.{Sink}
use Rattle.alog_pool.proofs.sink_seat.SinkSeat.close.Goals as goal

pub returns : goal.returns
returns g c =
    let S = g.row.S.Denot in
    subst (λ (b : SinkSeatView S). Closes (Turns g.S.Store.tells g.S.Store.files g.S.Store.failures) b.lane.first b.seat.known c.in-Ok.sink)
    c.self.view_is
    (subst (λ (l : LaneId (Sink S)). Closes (Turns g.S.Store.tells g.S.Store.files g.S.Store.failures) l.first c.self.inside.seat.known
    c.in-Ok.sink) c.alone-lane.ensures c.in-Ok.ensures.value)
