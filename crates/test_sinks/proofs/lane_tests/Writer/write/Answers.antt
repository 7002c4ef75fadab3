use Rattle.std.proofs.Common.{sym, subst}
use Rattle.alog_format.specs.Buffer.{Buffer}
use Rattle.alog_msg.specs.declared.item.Item.{Item}
use Rattle.alog_sink.specs.Sinks.{MayTurn}
use Rattle.alog_sink.proofs.SharedKeeps.{took_again}
use Rattle.test_sinks.proofs.lane_tests.Writer.write.Goals as goal

pub returns-in-Ok-clause-turn : goal.returns-in-Ok-clause-turn
returns-in-Ok-clause-turn c =
    let again = took_again _ _ _ c.args.lane.now.first _ _ _ _ c.in-Ok.ensures.turn c.loop.invariant.1 in
    subst (λ (i : Item). MayTurn c.args.lane.now.first i c.note.new.self.line) (sym c.note.ensures.1)
    (subst (λ (b : Buffer). MayTurn c.args.lane.now.first c.loop.self.text b) (sym c.note.ensures.2) again)
