use Rattle.std.proofs.Common.{[], ◌∷◌, ◌++◌, ap, ◌∙◌}
use Rattle.std.specs.Prelude.{List}
use Rattle.std.proofs.lemmas.Int.{to_z-of_z}
use Rattle.alog_pool.specs.Producer.{ProducerView}
use Rattle.test_laws.proofs.OneHostedText.{LoggedOnce, logged_alone}
use Rattle.test_laws.proofs.hosted.log_hosted.Goals as goal

pub returns-then-is_posted : goal.returns-then-is_posted
returns-then-is_posted g c =
    let logs = simp (to_z-of_z, c.ranges.time) at c.log_once-reply.ensures.logs in
    let p : ProducerView = c.log_once-reply.new.self in
    let all = c.push_reserved.ensures.items ∙ ap (λ (ps : List ProducerView). ps ++ p ∷ []) c.in-Ok.ensures.items in
    let once : LoggedOnce g.S.Store.tells g.S.Store.files g.S.Store.failures c.args.hosted c.args.number c.args.level c.args.time c.args.text.now
    c.end-report.result = record {
      first = c.args.host;
      host = c.producer.new.self;
      end = c.work.new.host;
      made = c.in-Ok-producer.producer;
      last = p;
      producers = c.push_reserved.new.self.items;
      workers = c.work.new.workers.items;
      reply = c.log_once-reply.result;
      lends = c.requires.hosted;
      makes = c.in-Ok-producer.ensures.made;
      new = c.requires.new.0;
      logs = logs;
      all = all;
      same = c.work.ensures.hosted;
      ends = c.end-report.ensures;
      posted = c.is_posted.ensures c.if-is_posted.true;
    } in
    λ tell s n found keeps single none.
    logged_alone g.S.Store.tells g.S.Store.files g.S.Store.failures c.hosted_pools_write_all.ensures c.posted_logs_put_their_text_in.ensures
    once tell (record { spec = s; found = found; keeps = keeps; once = single }) none
