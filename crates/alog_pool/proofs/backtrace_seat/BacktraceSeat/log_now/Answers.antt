use Rattle.std.proofs.Common.{◌≡◌, ◌⊎◌, Bor, Some, refl, sym, ap, subst, ◌∙◌}
use Rattle.std.specs.Prelude.{IfOk}
use Rattle.alog_lane.specs.Calls.{LaneId}
use Rattle.alog_policy.specs.Progress.{without_waiting}
use Rattle.alog_pool.specs.BacktraceSeat.{BacktraceSeatView}
use Rattle.alog_pool.proofs.SharedProducing.{log_now_leaves, keeps_log, still_seated}
use Rattle.alog_registry.specs.Backtrace.{Room}
use Rattle.alog_registry.specs.Given.{IsWithin}
use Rattle.alog_registry.specs.Listed.{spec_at}
use Rattle.alog_registry.specs.Logging.{IsUnread}
use Rattle.alog_registry.specs.LaneKeeper.{Passes}
use Rattle.alog_registry.specs.declared.logger.Spec.{Spec}
use Rattle.alog_pool.proofs.backtrace_seat.BacktraceSeat.log_now.Goals as goal

pub shape_of-self-inside : goal.shape_of-self-inside
shape_of-self-inside c =
    let left = log_now_leaves (λ (s : Spec). without_waiting s.policy) c.args.loggers.now c.args.given.logger _ {a = c.args.port.now}
    c.log_ref_now.result {b = c.log_ref_now.new.outlet} {l = c.log_ref_now.new.keeper} c.requires.known c.log_ref_now.ensures.logs
    c.log_ref_now.ensures.err in
    sym (left.keeper.scratch ∙ c.keeper-keeper.ensures.scratch.0)

pub shape_of-self-inside-2 : goal.shape_of-self-inside-2
shape_of-self-inside-2 c =
    let left = log_now_leaves (λ (s : Spec). without_waiting s.policy) c.args.loggers.now c.args.given.logger _ {a = c.args.port.now}
    c.log_ref_now.result {b = c.log_ref_now.new.outlet} {l = c.log_ref_now.new.keeper} c.requires.known c.log_ref_now.ensures.logs
    c.log_ref_now.ensures.err in
    sym (left.keeper.seat ∙ c.keeper-keeper.ensures.seat.0)

pub invariant_of-self : goal.invariant_of-self
invariant_of-self c =
    let i = c.self.inside in
    let left = log_now_leaves (λ (s : Spec). without_waiting s.policy) c.args.loggers.now c.args.given.logger _ {a = c.args.port.now}
    c.log_ref_now.result {b = c.log_ref_now.new.outlet} {l = c.log_ref_now.new.keeper} c.requires.known c.log_ref_now.ensures.logs
    c.log_ref_now.ensures.err in
    still_seated c.self.invariant (c.keeper-keeper.ensures.lane ∙ c.deref.ensures) c.keeper-keeper.ensures.scratch.1 left.keeper left.list
    c.log_ref_now.ensures.ready.1

pub returns-clause-logs : goal.returns-clause-logs
returns-clause-logs c = λ s e.
    let left = log_now_leaves (λ (s : Spec). without_waiting s.policy) c.args.loggers.now c.args.given.logger _ {a = c.args.port.now}
    c.log_ref_now.result {b = c.log_ref_now.new.outlet} {l = c.log_ref_now.new.keeper} c.requires.known c.log_ref_now.ensures.logs
    c.log_ref_now.ensures.err in
    keeps_log Passes (without_waiting s.policy) s _ c.args.port.now c.log_ref_now.new.outlet {l = c.log_ref_now.new.keeper}
    {v = c.args.self.now} c.log_ref_now.result (record {
      lent = (
        c.keeper-keeper.ensures.lane ∙ c.deref.ensures ∙ ap (λ (v : BacktraceSeatView). v.lane) c.self.view_is,
        c.keeper-keeper.ensures.seat.1 ∙ ap (λ (v : BacktraceSeatView). v.seat) c.self.view_is,
        c.keeper-keeper.ensures.scratch.1 ∙ ap (λ (v : BacktraceSeatView). v.scratch) c.self.view_is,
      );
      left = (ap (λ (b : Bor (LaneId Room)). b.now) left.keeper.lane ∙ c.keeper-keeper.ensures.lane ∙ c.deref.ensures, refl, refl);
    })
    (c.log_ref_now.ensures.logs s e)

pub returns-clause-within : goal.returns-clause-within
returns-clause-within c =
    let same : c.self.inside.text_limit ≡ c.args.self.now.lane.first.limit =
    sym c.self.invariant.room.1 ∙ ap (λ (v : BacktraceSeatView). v.lane.first.limit) c.self.view_is in
    subst (λ n. (s : Spec) → spec_at c.args.loggers.now c.args.given.logger ≡ Some s
    → IfOk c.log_ref_now.result (λ r. IsUnread s r ⊎ IsWithin n c.args.given.text.now c.args.given.source)) same c.log_ref_now.ensures.within

pub returns-clause-port : goal.returns-clause-port
returns-clause-port c =
    let left = log_now_leaves (λ (s : Spec). without_waiting s.policy) c.args.loggers.now c.args.given.logger _ {a = c.args.port.now}
    c.log_ref_now.result {b = c.log_ref_now.new.outlet} {l = c.log_ref_now.new.keeper} c.requires.known c.log_ref_now.ensures.logs
    c.log_ref_now.ensures.err in
    (c.log_ref_now.ensures.ready.0, left.port)
