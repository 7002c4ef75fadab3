use Rattle.alog_sink.specs.Rotation.{Limits}
use Rattle.alog_sink.specs.Refused.{IsRotating}
use Rattle.alog_sink.proofs.Opens.{opened}
use Rattle.alog_sink.proofs.sink.Sink.rotating.Goals as goal

pub returns-in-Ok-clause-opened : goal.returns-in-Ok-clause-opened
returns-in-Ok-clause-opened g c =
    let limits : Limits = record { file = c.args.file.now; max_size = c.args.max_size; max_files = c.args.max_files } in
    opened g.S.Store.files (IsRotating limits) {opening = g.S.Store.files c.args.store} c.open-in-Ok.ensures.opened c.in-Ok.ensures.limits
    c.in-Ok.ensures.stands
