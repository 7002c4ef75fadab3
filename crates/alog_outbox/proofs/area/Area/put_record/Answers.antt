use Rattle.alog_outbox.proofs.Records.{written}
use Rattle.alog_outbox.proofs.area.Area.put_record.Goals as goal

pub returns : goal.returns
returns c = cc (written c.args.kind c.args.name.now c.args.rest.now c.args.self.now)
