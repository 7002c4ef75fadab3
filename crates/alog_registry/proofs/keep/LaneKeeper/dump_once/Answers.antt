use Rattle.std.proofs.Common.{◌≡◌, refl, ap, ◌∙◌}
use Rattle.alog_registry.specs.Backtrace.{Room}
use Rattle.alog_registry.proofs.Keeping.{dump_replied, dumped_by_turn}
use Rattle.alog_registry.proofs.keep.LaneKeeper.dump_once.Goals as goal

pub unreachable-requires : goal.unreachable-requires
unreachable-requires c =
    let old = c.args.self.now in
    let is = c.in-Ok-default-Kept in
    let d = dump_replied old.lane.now.first old.seat.now.known c.turn_once.new.seat.known old.scratch.now c.turn_once.new.scratch
    (is.field-0-0, is.field-0-1) (is.ensures.turn) in
    let kept = is.field-0-1-is in
    let dumped = d.1 in
    cc

pub returns-in-Ok-default-Dumped-clause-most : goal.returns-in-Ok-default-Dumped-clause-most
returns-in-Ok-default-Dumped-clause-most c =
    let old = c.args.self.now in
    let is = c.in-Ok-default-Dumped in
    let d = dump_replied old.lane.now.first old.seat.now.known c.turn_once.new.seat.known old.scratch.now c.turn_once.new.scratch
    (is.field-0-0, is.field-0-1) (is.ensures.turn) in
    let replied = is.field-0-1-is in
    let dumped = d.1 in
    let same : is.list ≡ d.0 = cc in
    (ap (λ (r : Room). r.most) same ∙ d.2, ap (λ (r : Room). r.limit) same ∙ d.3)

pub returns-in-Ok-default-Dumped-clause-dumped : goal.returns-in-Ok-default-Dumped-clause-dumped
returns-in-Ok-default-Dumped-clause-dumped c =
    let is = c.in-Ok-default-Dumped in
    dumped_by_turn c.args.self.now _ is.list (is.field-0-0, is.field-0-1) (record { lane = refl; seat = refl; scratch = refl }) is.field-0-1-is
    is.ensures.turn
