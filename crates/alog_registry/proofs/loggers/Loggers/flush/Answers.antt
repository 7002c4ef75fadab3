use Rattle.std.proofs.Common.{◌∙◌}
use Rattle.std.proofs.lemmas.Option.{same_Some}
use Rattle.alog_policy.specs.Progress.{without_waiting}
use Rattle.alog_registry.proofs.Posting.{posted_by}
use Rattle.alog_registry.proofs.loggers.Loggers.flush.Goals as goal

pub returns-clause-post : goal.returns-clause-post
returns-clause-post g c = λ s e.
    let o = g.O.ItemOutlet in
    posted_by o.did g.met.O.ItemOutlet.together without_waiting (same_Some _ _ (c.in-Some.ensures.value ∙ e)) c.flush-value.ensures.made
    c.flush-value.ensures.fit.1 c.post_now.ensures.post
