use Rattle.std.proofs.Common.{[], ◌∷◌, ◌++◌, length, ap, ◌∙◌}
use Rattle.alog_policy.specs.Progress.{without_waiting}
use Rattle.alog_registry.proofs.Dumps.{Outcomes, not_none, dump_posts}
use Rattle.alog_registry.proofs.dumping.post_dumped.Goals as goal

pub returns-clause-posted : goal.returns-clause-posted
returns-clause-posted g c = λ n t th starts ends.
    let a = c.args in
    let ms = a.list.now.messages in
    let some = not_none c.is_empty.result (length ms) c.is_empty.ensures c.if-is_empty.false in
    dump_posts g.O.ItemOutlet.did (without_waiting a.policy) {n = n} {t = t} {th = th} {ms = ms} some (record {
      start = _;
      starts = starts;
      end = _;
      ends = ends;
      first = _;
      outcome = c.post.result;
      first_is = c.push_reserved.ensures.items ∙ ap (λ (os : Outcomes). os ++ c.post.result ∷ []) c.requires.none;
      more = c.post_all.new.outcomes.items;
      last = c.post-2.result;
      all_is = c.push_reserved-2.ensures.items;
      b = _;
      c = _;
      opens = c.post.ensures.post;
      between = c.post_all.ensures.posted;
      closes = c.post-2.ensures.post;
    })
