use Rattle.alog_outbox.proofs.Records.{appends, map_ok}
use Rattle.alog_outbox.proofs.store.OutboxStore.append.Goals as goal

pub returns-clause-done : goal.returns-clause-done
returns-clause-done c = map_ok c.tell.result _ _
    (λ told. appends c.args.self.now c.tell.new.self c.args.name.now c.as_bytes.result.now c.args.bytes.now c.as_bytes.ensures.value told c.tell.ensures.same.0)
    c.tell.ensures.told
