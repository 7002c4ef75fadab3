use Rattle.std.proofs.Common.{◌≡◌, length, ap, sym, subst, ◌∙◌, arith}
use Rattle.std.proofs.lemmas.List.{length-map}
use Rattle.alog_pool.specs.SinkSeat.{SinkSeatView}
use Rattle.alog_pool.specs.Room.{HasRoom}
use Rattle.alog_pool.proofs.pool_parts.PoolParts.hire_all.Goals as goal

pub returns-clause-room : goal.returns-clause-room
returns-clause-room g c =
    let S = g.row.S.Denot in
    let crew = c.in_ok-workers.ensures.crew in
    let self = c.args.self.now in
    let parts = c.crew.new.self in
    let all = crew.all in
    let long = length-map c.in_ok-workers.workers.items (λ w. w.promise.start.value) in
    let workers : self.workers ≡ length c.in_ok-workers.workers.items = omega (arith, all, long) in
    let same = sym (length-map parts.sink_seats.items (λ (b : SinkSeatView S). b.lane)) ∙ ap (λ l. length l) crew.lanes
    ∙ length-map self.sink_seats.items (λ (b : SinkSeatView S). b.lane) in
    let sinks : c.len.result ≡ length parts.sink_seats.items = omega (arith, same, c.len.ensures, self.sink_seats.ok.0) in
    subst (λ n. HasRoom n (length parts.sink_seats.items) c.in_ok-blank.blank) workers
    (subst (λ n. HasRoom self.workers n c.in_ok-blank.blank) sinks c.in_ok-blank.ensures)
