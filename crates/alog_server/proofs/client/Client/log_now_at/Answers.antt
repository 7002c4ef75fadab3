use Rattle.std.proofs.Common.{None, Result, sym, subst}
use Rattle.std.proofs.lemmas.Int.{to_z-of_z}
use Rattle.alog_pool.specs.Producer.{ProducerView}
use Rattle.alog_registry.specs.declared.logging.LogReply.{LogReply}
use Rattle.alog_server.specs.Says.{SaysAt, AtOnce}
use Rattle.alog_server.specs.declared.error.LogError.{LogError}
use Rattle.alog_server.proofs.Saying.{Did, at_once, said}
use Rattle.alog_server.proofs.client.Client.log_now_at.Goals as goal

pub returns : goal.returns
returns g c =
    let n = c.args.logger.now.number in
    let old = c.self.inside.producer in
    let new = c.log_now-answer.new.self in
    let does = c.log_now-answer.ensures in
    let logs = simp (to_z-of_z, c.ranges.time) at does.logs in
    let did : Did c.args.time AtOnce n c.args.level c.args.text.now None old new c.log_now-answer.result = record {
      logs = logs;
      waits = λ s at. at_once s c.log_now-answer.result;
      within = does.within;
      why = does.reason;
      memory = does.memory;
      left = does.err;
      same = does.same;
    } in
    subst (λ (o : ProducerView). SaysAt c.args.time AtOnce n c.args.level c.args.text.now None o c.answer_of.result new)
    c.self.view_is
    (subst (λ (q : Result LogReply LogError). SaysAt c.args.time AtOnce n c.args.level c.args.text.now None old q new)
    (sym c.answer_of.ensures)
    (said c.log_now-answer.result did))
