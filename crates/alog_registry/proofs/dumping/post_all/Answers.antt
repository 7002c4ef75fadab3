use Rattle.std.proofs.Common.{◌≡◌, ◌+◌, [], ◌∷◌, ◌++◌, length, drop, arith, sym, ap, subst, ◌∙◌, append_assoc}
use Rattle.alog_policy.specs.Progress.{without_waiting}
use Rattle.alog_registry.specs.Dumping.{PostsEach}
use Rattle.alog_registry.specs.Limit.{IsShort}
use Rattle.alog_registry.proofs.Dumps.{first_and_rest, taken_from, posts_more}
use Rattle.alog_registry.proofs.dumping.post_all.Goals as goal

pub loop-message-preserved : goal.loop-message-preserved
loop-message-preserved g c =
    let o = g.O.ItemOutlet in
    let left = c.loop-message.list.messages in
    let m = c.in-Some.message in
    let rest : c.take_oldest.new.self.messages ≡ drop 1 left = ap (λ l. l.messages) c.take_oldest.ensures.rest in
    let cut : left ≡ m ∷ drop 1 left = first_and_rest left m c.in-Some.ensures.oldest in
    let counted : length left ≡ length (drop 1 left) + 1 = ap length cut ∙ omega arith in
    let shorter = ap length rest in
    record {
      posted = λ before s h.
          let now = c.loop-message.invariant.posted before s h in
          let gone = now.0 in
          let all = posts_more o.did (without_waiting c.args.policy) (before ++ gone) s c.loop-message.outcomes.items now.2
          c.post.ensures.post in (
            gone ++ m ∷ [],
            taken_from c.args.list.now.messages gone left c.take_oldest.new.self.messages m now.1 c.in-Some.ensures.oldest rest,
            subst (λ ms. PostsEach o.did (without_waiting c.args.policy) ms s c.push_reserved.new.self.items c.post.new.outlet)
                (append_assoc before gone (m ∷ []))
                (subst (λ os. PostsEach o.did (without_waiting c.args.policy) ((before ++ gone) ++ m ∷ []) s os c.post.new.outlet)
                (sym c.push_reserved.ensures.items) all),
          );
      count = omega arith;
      room = c.push_reserved.ensures.capacity ∙ c.loop-message.invariant.room;
      most = ap (λ l. l.most) c.take_oldest.ensures.rest ∙ c.loop-message.invariant.most;
      ready = c.post.ensures.ready;
      limit = ap (λ l. l.limit) c.take_oldest.ensures.rest ∙ c.loop-message.invariant.limit;
      admitted = λ x h. c.post.ensures.admitted x (c.loop-message.invariant.admitted x h);
    }

pub post-requires : goal.post-requires
post-requires g c = record {
  ready = (
    c.loop-message.invariant.ready,
    c.loop-message.invariant.admitted c.in-Some.message
        (c.requires.ready.1 c.in-Some.message
        (subst (λ n. IsShort n c.in-Some.message) c.loop-message.invariant.limit c.in-Some.ensures.short)),
  );
}
