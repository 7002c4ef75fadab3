use Rattle.std.proofs.Common.{◌≡◌, refl, ap, ◌∙◌}
use Rattle.alog_registry.specs.Backtrace.{Room}
use Rattle.alog_registry.specs.declared.turn.BacktraceReply.TheVariants.{Dumped}
use Rattle.alog_registry.proofs.Keeping.{dump_replied, dumped_by_turn}
use Rattle.alog_registry.proofs.keep.LaneKeeper.dump.Goals as goal

pub unreachable-requires : goal.unreachable-requires
unreachable-requires g c =
    let old = c.args.self.now in
    let d = dump_replied old.lane.now.first old.seat.now.known c.turn-reply.new.seat.known old.scratch.now c.turn-reply.new.scratch
    c.turn-reply.result c.turn-reply.ensures.turn in
    let kept = c.in-Kept.is in
    let dumped = d.1 in
    cc

pub returns-clause-most : goal.returns-clause-most
returns-clause-most g c =
    let old = c.args.self.now in
    let d = dump_replied old.lane.now.first old.seat.now.known c.turn-reply.new.seat.known old.scratch.now c.turn-reply.new.scratch
    c.turn-reply.result c.turn-reply.ensures.turn in
    let is = c.in-Dumped.is in
    let dumped = d.1 in
    let same : c.in-Dumped.list ≡ d.0 = cc in
    (ap (λ (r : Room). r.most) same ∙ d.2, ap (λ (r : Room). r.limit) same ∙ d.3)

pub returns-clause-dumped : goal.returns-clause-dumped
returns-clause-dumped g c =
    let is = c.in-Dumped.is in
    let replied : c.turn-reply.result.1 ≡ Dumped c.in-Dumped.list = cc in
    dumped_by_turn c.args.self.now _ c.in-Dumped.list c.turn-reply.result (record { lane = refl; seat = refl; scratch = refl }) replied
    c.turn-reply.ensures.turn
