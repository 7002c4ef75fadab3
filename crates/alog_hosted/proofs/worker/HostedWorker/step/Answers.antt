use Rattle.std.proofs.Common.{refl}
use Rattle.alog_hosted.proofs.Handling.{ended_then, took_and_made}
use Rattle.alog_hosted.proofs.worker.HostedWorker.step.Goals as goal

pub returns-in-None-clause-ended : goal.returns-in-None-clause-ended
returns-in-None-clause-ended g c = λ none. (
  ended_then c.args.self.now c.take.new.self c.finish-in-None.new.self 0 1 (c.in-None.ensures.took refl).0 (c.finish-in-None.ensures.ended none).0,
  (c.finish-in-None.ensures.ended none).1,
)

pub returns-in-None-clause-pause : goal.returns-in-None-clause-pause
returns-in-None-clause-pause g c =
    took_and_made c.args.self.now c.take.new.self c.finish-in-None.new.self c.finish-in-None.result (c.in-None.ensures.took refl).0
    c.finish-in-None.ensures.pause
