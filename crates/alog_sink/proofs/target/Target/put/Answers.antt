use Rattle.std.proofs.Common.{subst}
use Rattle.alog_sink.specs.Kept.{IsKept}
use Rattle.alog_sink.proofs.Targets.{rotated_more}
use Rattle.alog_sink.proofs.target.Target.put.Goals as goal

pub returns-in-Rotating-clause-kept : goal.returns-in-Rotating-clause-kept
returns-in-Rotating-clause-kept g c = λ tells opening ws w shown line kept.
    rotated_more c.put-in-Rotating.result c.put-in-Rotating.new.self (g.S.Store.files c.put-in-Rotating.new.store)
    (c.put-in-Rotating.ensures.stands tells) ws w line
    (subst (λ t. IsKept t opening ws (g.S.Store.files c.args.store.now)) c.in-Rotating.is kept)
