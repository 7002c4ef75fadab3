use Rattle.std.proofs.Common.{◌<◌, length, ap, ◌∙◌, arith}
use Rattle.alog_system.specs.Roster.{empty_of}
use Rattle.alog_system.proofs.Rooms.{same_rooms, lent_room, lent_limit}
use Rattle.alog_system.proofs.roster.Roster.keep.Goals as goal

pub invariant_of-self : goal.invariant_of-self
invariant_of-self c =
    let i = c.self.inside in
    let lent = lent_room i.kept.items c.args.message.logger c.index_mut.result.now (omega (arith, c.if-number-len.true, c.len.ensures)) c.index_mut.ensures.value in
    same_rooms i.loggers i.levels.items i.kept.items c.args.message.logger c.keep.new.self
    (ap empty_of c.keep.ensures.kept ∙ ap empty_of lent) c.self.invariant

pub keep-requires : goal.keep-requires
keep-requires c =
    let i = c.self.inside in
    let below : c.args.message.logger < length i.kept.items = omega (arith, c.if-number-len.true, c.len.ensures) in
    let lent = lent_room i.kept.items c.args.message.logger c.index_mut.result.now below c.index_mut.ensures.value in
    let limit = lent_limit i.loggers i.levels.items i.kept.items c.args.message.logger c.index_mut.result.now below c.self.invariant lent in
    omega (arith, limit, c.requires)
