use Rattle.std.proofs.Common.{string_bytes, SFits, w64, to_z-of_z, rules}
use Rattle.alog_replay.proofs.Acting.{dumped, printed, quietly, same_log}
use Rattle.alog_replay.proofs.configured.ConfiguredMemStorePlayable.act.Goals as goal

pub returns-in-Work-clause-done : goal.returns-in-Work-clause-done
returns-in-Work-clause-done c = rw c.in-Work.is (quietly _ (string_bytes c.args.out.now) _ _ c.work.ensures.begun)

pub returns-in-Log-clause-done : goal.returns-in-Log-clause-done
returns-in-Log-clause-done c =
    let fits : SFits w64 c.in-Log.time = search rules in
    rw c.in-Log.is
    (printed c.log.result (string_bytes c.args.out.now) (string_bytes c.log.new.out) c.args.self.now c.log.new.self
    (same_log c.in-Log.actor c.in-Log.level (to_z-of_z fits) c.as_str-logger.ensures c.as_str-text.ensures) c.log.ensures.printed
    c.log.ensures.begun)

pub returns-in-Flush-clause-done : goal.returns-in-Flush-clause-done
returns-in-Flush-clause-done c =
    rw c.in-Flush.is (quietly _ (string_bytes c.args.out.now) _ _ (rw c.as_str.ensures at c.flush.ensures.begun))

pub returns-in-Dump-clause-done : goal.returns-in-Dump-clause-done
returns-in-Dump-clause-done c =
    let fits : SFits w64 c.in-Dump.time = search rules in
    rw c.in-Dump.is
    (quietly _ (string_bytes c.args.out.now) _ _
    (dumped c.dump.result c.args.self.now c.dump.new.self c.in-Dump.actor (to_z-of_z fits) c.as_str-in-Dump.ensures c.dump.ensures.begun))

pub returns-in-Level-clause-done : goal.returns-in-Level-clause-done
returns-in-Level-clause-done c =
    rw c.in-Level.is (quietly _ (string_bytes c.args.out.now) _ _ (rw c.as_str-in-Level.ensures at c.set_level.ensures.set))
