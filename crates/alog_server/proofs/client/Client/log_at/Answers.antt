use Rattle.std.proofs.Common.{Result, sym, subst}
use Rattle.std.proofs.lemmas.Int.{to_z-of_z}
use Rattle.alog_pool.specs.Producer.{ProducerView}
use Rattle.alog_registry.specs.declared.logging.LogReply.{LogReply}
use Rattle.alog_server.specs.Says.{SaysAt, Waiting}
use Rattle.alog_server.specs.declared.error.LogError.{LogError}
use Rattle.alog_server.proofs.Saying.{Did, may_wait, said}
use Rattle.alog_server.proofs.client.Client.log_at.Goals as goal

pub returns : goal.returns
returns g c =
    let n = c.args.logger.now.number in
    let old = c.self.inside.producer in
    let new = c.log-answer.new.self in
    let does = c.log-answer.ensures in
    let logs = simp (to_z-of_z, c.ranges.time) at does.logs in
    let did : Did c.args.time Waiting n c.args.level c.args.text.now c.args.source old new c.log-answer.result = record {
      logs = logs;
      waits = λ s at. may_wait s c.log-answer.result (does.blocks s at);
      within = does.within;
      why = does.reason;
      memory = does.memory;
      left = does.err;
      same = does.same;
    } in
    subst (λ (o : ProducerView). SaysAt c.args.time Waiting n c.args.level c.args.text.now c.args.source o c.answer_of.result new)
    c.self.view_is
    (subst (λ (q : Result LogReply LogError). SaysAt c.args.time Waiting n c.args.level c.args.text.now c.args.source old q new)
    (sym c.answer_of.ensures)
    (said c.log-answer.result did))
