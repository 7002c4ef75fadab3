use Rattle.std.proofs.Common.{Bor, Some, ap, sym, ◌∙◌}
use Rattle.alog_replay.specs.OfConfig.{holds}
use Rattle.alog_config.specs.declared.config.SinkConfig.{SinkConfig}
use Rattle.alog_replay.proofs.Placing.{placed, placed_at}
use Rattle.alog_replay.proofs.leaves.place_of.Goals as goal

pub returns-in_err-number : goal.returns-in_err-number
returns-in_err-number c =
    c.from_residual.ensures
    ∙ sym (placed c.args.tops.now c.args.sink.now c.if-is_fan.false c.is_fan.ensures c.as_str-name.ensures c.number_of.ensures c.in_err-number.was)

pub returns : goal.returns
returns c =
    ap Some (placed_at c.args.tops.now (λ (t : Bor SinkConfig). holds c.as_str-name.result.now t.now) c.new.ensures c.in_ok-number.ensures c.index-tops-number.is c.member_in.ensures)
    ∙ sym (placed c.args.tops.now c.args.sink.now c.if-is_fan.false c.is_fan.ensures c.as_str-name.ensures c.number_of.ensures c.in_ok-number.was)
