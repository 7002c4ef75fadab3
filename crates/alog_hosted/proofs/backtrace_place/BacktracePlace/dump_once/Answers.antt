use Rattle.std.proofs.Common.{Bor, refl, sym, ap, ◌∙◌}
use Rattle.std.proofs.lemmas.Int.{to_z-of_z}
use Rattle.alog_lane.specs.Calls.{LaneId}
use Rattle.alog_policy.specs.Progress.{without_waiting}
use Rattle.alog_pool.specs.BacktraceSeat.{BacktraceSeatView}
use Rattle.alog_pool.proofs.SharedProducing.{dump_leaves, keeps_dump}
use Rattle.alog_registry.specs.Backtrace.{Room}
use Rattle.alog_hosted.proofs.backtrace_place.BacktracePlace.dump_once.Goals as goal

pub shape_of-self-inside : goal.shape_of-self-inside
shape_of-self-inside c =
    let left = dump_leaves (λ v. v.items) c.args.loggers.now c.args.number _ {a = c.args.port.now} c.dump_shared_once.result
    {b = c.dump_shared_once.new.outlet} {l = c.dump_shared_once.new.keeper} c.requires.known c.dump_shared_once.ensures.dumped
    c.dump_shared_once.ensures.err in
    sym left.1.scratch

pub shape_of-self-inside-2 : goal.shape_of-self-inside-2
shape_of-self-inside-2 c =
    let left = dump_leaves (λ v. v.items) c.args.loggers.now c.args.number _ {a = c.args.port.now} c.dump_shared_once.result
    {b = c.dump_shared_once.new.outlet} {l = c.dump_shared_once.new.keeper} c.requires.known c.dump_shared_once.ensures.dumped
    c.dump_shared_once.ensures.err in
    sym left.1.seat

pub returns-clause-dumped : goal.returns-clause-dumped
returns-clause-dumped c = λ s e.
    let dumped = simp (to_z-of_z, c.ranges.time) at c.dump_shared_once.ensures.dumped in
    keeps_dump (λ v. v.items) (without_waiting s.policy) c.args.number c.args.time c.args.thread c.args.port.now c.dump_shared_once.new.outlet
    {l = c.dump_shared_once.new.keeper} {v = c.args.self.now} c.dump_shared_once.result (record {
      lent = (
        c.requires.lane,
        ap (λ (v : BacktraceSeatView). v.seat) c.self.view_is,
        ap (λ (v : BacktraceSeatView). v.scratch) c.self.view_is,
      );
      left = (
        ap (λ (b : Bor (LaneId Room)). b.now) c.dump_shared_once.ensures.lane ∙ c.requires.lane
            ∙ sym (ap (λ (v : BacktraceSeatView). v.lane) c.self.view_is),
        refl,
        refl,
      );
    })
    (dumped s e)

pub returns-clause-port : goal.returns-clause-port
returns-clause-port c =
    let left = dump_leaves (λ v. v.items) c.args.loggers.now c.args.number _ {a = c.args.port.now} c.dump_shared_once.result
    {b = c.dump_shared_once.new.outlet} {l = c.dump_shared_once.new.keeper} c.requires.known c.dump_shared_once.ensures.dumped
    c.dump_shared_once.ensures.err in
    (c.dump_shared_once.ensures.ready.0, left.0)
