use Rattle.std.proofs.Common.{refl, sym, ap, ◌∙◌, Bor}
use Rattle.alog_hosted.proofs.Onces.{once_leaves, keeps_once}
use Rattle.alog_lane.specs.Calls.{LaneId}
use Rattle.alog_pool.proofs.SharedProducing.{still_seated}
use Rattle.alog_pool.specs.BacktraceSeat.{BacktraceSeatView}
use Rattle.alog_registry.specs.Backtrace.{Room}
use Rattle.alog_hosted.proofs.backtrace_place.BacktracePlace.log_once.Goals as goal

pub shape_of-self-inside : goal.shape_of-self-inside
shape_of-self-inside c =
    let left = once_leaves c.args.loggers.now c.args.given.logger _ {a = c.args.port.now} c.log_once.result {b = c.log_once.new.port}
    {l = c.log_once.new.keeper} c.requires.known c.log_once.ensures.logs c.log_once.ensures.err in
    sym left.keeper.scratch

pub shape_of-self-inside-2 : goal.shape_of-self-inside-2
shape_of-self-inside-2 c =
    let left = once_leaves c.args.loggers.now c.args.given.logger _ {a = c.args.port.now} c.log_once.result {b = c.log_once.new.port}
    {l = c.log_once.new.keeper} c.requires.known c.log_once.ensures.logs c.log_once.ensures.err in
    sym left.keeper.seat

pub invariant_of-self : goal.invariant_of-self
invariant_of-self c =
    let left = once_leaves c.args.loggers.now c.args.given.logger _ {a = c.args.port.now} c.log_once.result {b = c.log_once.new.port}
    {l = c.log_once.new.keeper} c.requires.known c.log_once.ensures.logs c.log_once.ensures.err in
    still_seated c.self.invariant (c.requires.lane ∙ sym (ap (λ (v : BacktraceSeatView). v.lane) c.self.view_is)) refl left.keeper left.list
    c.log_once.ensures.ready.1

pub returns-clause-logs : goal.returns-clause-logs
returns-clause-logs c = λ s e.
    let left = once_leaves c.args.loggers.now c.args.given.logger _ {a = c.args.port.now} c.log_once.result {b = c.log_once.new.port}
    {l = c.log_once.new.keeper} c.requires.known c.log_once.ensures.logs c.log_once.ensures.err in
    keeps_once s _ c.args.port.now c.log_once.new.port {l = c.log_once.new.keeper} {v = c.args.self.now} c.log_once.result (record {
      lent = (
        c.requires.lane,
        ap (λ (v : BacktraceSeatView). v.seat) c.self.view_is,
        ap (λ (v : BacktraceSeatView). v.scratch) c.self.view_is,
      );
      left = (
        ap (λ (b : Bor (LaneId Room)). b.now) left.keeper.lane ∙ c.requires.lane
            ∙ sym (ap (λ (v : BacktraceSeatView). v.lane) c.self.view_is),
        refl,
        refl,
      );
    })
    (c.log_once.ensures.logs s e)

pub returns-clause-port : goal.returns-clause-port
returns-clause-port c =
    let left = once_leaves c.args.loggers.now c.args.given.logger _ {a = c.args.port.now} c.log_once.result {b = c.log_once.new.port}
    {l = c.log_once.new.keeper} c.requires.known c.log_once.ensures.logs c.log_once.ensures.err in
    (c.log_once.ensures.ready.0, left.port)
