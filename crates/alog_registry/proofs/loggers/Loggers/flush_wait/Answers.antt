use Rattle.std.proofs.Common.{◌∙◌}
use Rattle.std.proofs.lemmas.Option.{same_Some}
use Rattle.alog_registry.proofs.Posting.{posted_by}
use Rattle.alog_registry.proofs.loggers.Loggers.flush_wait.Goals as goal

pub returns-clause-post : goal.returns-clause-post
returns-clause-post g c = λ s e.
    let o = g.O.ItemOutlet in
    posted_by o.did g.met.O.ItemOutlet.together (λ p. p) (same_Some _ _ (c.in-Some.ensures.value ∙ e)) c.flush.ensures.made
    c.flush.ensures.fit.1 c.post_waiting.ensures.post
