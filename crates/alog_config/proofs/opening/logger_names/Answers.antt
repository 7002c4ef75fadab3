use Rattle.std.proofs.Common.{◌≡◌, List, [], length, slice_get, Some, refl, ap, subst, arith}
use Rattle.std.proofs.lemmas.Option.{slice_get_read}
use Rattle.alog_config.proofs.Parting.{logger_sound_at}
use Rattle.alog_config.specs.declared.config.LoggerConfig.{LoggerConfig}
use Rattle.alog_config.proofs.opening.logger_names.Goals as goal

pub unreachable-requires : goal.unreachable-requires
unreachable-requires c =
    let config = c.args.config.now in
    let items = c.deref-logger-items.result.now in
    let i = c.loop-logger.logger-index in
    let l = c.logger-item.result in
    let here = slice_get_read items (length items) i l refl c.loop-logger-test.true c.logger-item.is in
    let there = subst (λ (ls : List LoggerConfig). slice_get ls i ≡ Some l) c.deref-logger-items.ensures.value here in
    let sound = logger_sound_at config.sinks.items [] config.loggers.items i l config.sound.each_logger there in
    let short = sound.short in
    let long = c.in-Err-NameTooLong.ensures.too_long.0 (rw c.in-Err-NameTooLong.field-0-is refl) in
    let same = ap length c.as_str.ensures in
    omega (arith, short, long, same)
