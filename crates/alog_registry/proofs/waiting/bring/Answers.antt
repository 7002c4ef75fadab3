use Rattle.std.proofs.Common.{not, ap, ◌∙◌}
use Rattle.alog_registry.specs.Given.{message_of}
use Rattle.alog_registry.proofs.Posting.{FromHand, brought_from}
use Rattle.alog_registry.proofs.waiting.bring.Goals as goal

pub returns-clause-brought : goal.returns-clause-brought
returns-clause-brought g c =
    let o = g.O.ItemOutlet in
    let a = c.args in
    let together = g.met.O.ItemOutlet.together in
    let from : FromHand o.did together o.is_fit o.shows a.own a.policy (message_of a.given) a.outlet.now c.post_waiting-outcome.new.self
    c.post_waiting-outcome.result = record {
      between = c.admit.new.outlet;
      hand = c.admit.new.hand;
      there = c.is_none.ensures ∙ ap not c.if-is_none.false;
      made = c.in_ok-admit.ensures.made;
      posted = c.post_waiting-outcome.ensures.post;
    } in
    brought_from o.did together a.kept from
