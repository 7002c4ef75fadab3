use Rattle.std.proofs.Common.{subst}
use Rattle.alog_lane.specs.Calls.{Closes, LaneId}
use Rattle.alog_pool.specs.SinkSeat.{SinkSeatView}
use Rattle.alog_sink.specs.Sinks.{Turns}
use Rattle.alog_sink.specs.declared.sink.Sink.{Sink}
use Rattle.alog_hosted.proofs.sink_place.SinkPlace.close.Goals as goal

pub returns : goal.returns
returns g c =
    let S = g.row.S.Denot in
    let T = Turns g.S.Store.tells g.S.Store.files g.S.Store.failures in
    subst (λ (l : LaneId (Sink S)). Closes T l.first c.args.self.seat.known c.in-Ok.sink) c.requires.lane
    (subst (λ (b : SinkSeatView S). Closes T c.args.lane.first b.seat.known c.in-Ok.sink) c.self.view_is c.in-Ok.ensures.value)
