use Rattle.std.proofs.Common.{List, ◌++◌, ◌∷◌, [], length, length-append, ap, sym, subst, ◌∙◌, arith}
use Rattle.std.specs.Vec.Iter.{into_iter_items}
use Rattle.alog_core.specs.World.{Machine, reply_to, after_call, replies_to, after_calls}
use Rattle.alog_core.specs.Run.{GoesOn, entries_of_run, TellAll}
use Rattle.alog_core.specs.declared.said.Answer.{Answer}
use Rattle.alog_core.proofs.SharedCalls.{given_front, after_calls_last, replies_to_last, length-replies_to, all_given}
use Rattle.alog_core.proofs.SharedRuns.{run_goes_on, tell_all, each_has_its_cell}
use Rattle.alog_core.proofs.world.World.run.Goals as goal

pub push_reserved-requires : goal.push_reserved-requires
push_reserved-requires g c =
    let front =
    given_front c.into_iter-call-iterator.result c.loop-call.yielded c.loop-call.call-iterator c.loop-call.yielded_by in
    let more = ap length (sym c.into_iter-call-iterator.ensures.into_iter_gives.0 ∙ front)
    ∙ length-append c.loop-call.yielded (into_iter_items c.loop-call.call-iterator) in
    let first = ap length c.in-Some.ensures.steps.0 in
    let so_far = ap length c.loop-call.invariant.answers ∙ length-replies_to c.args.self.now c.loop-call.yielded in
    omega (arith, more, first, so_far, c.loop-call.answers.ok.0, c.loop-call.invariant.room)

pub loop-call-preserved : goal.loop-call-preserved
loop-call-preserved g c =
    let m = c.args.self.now in
    record {
      answers = c.push_reserved.ensures.items
          ∙ (ap (λ xs. xs ++ c.answer.result ∷ []) c.loop-call.invariant.answers
          ∙ (ap (λ x. replies_to m c.loop-call.yielded ++ x ∷ [])
          (c.answer.ensures.reply ∙ ap (λ k. reply_to k c.in-Some.call) c.loop-call.invariant.after)
          ∙ sym (replies_to_last m c.loop-call.yielded c.in-Some.call)));
      room = c.push_reserved.ensures.capacity ∙ c.loop-call.invariant.room;
      after = c.answer.ensures.after
          ∙ (ap (λ k. after_call k c.in-Some.call) c.loop-call.invariant.after
          ∙ sym (after_calls_last m c.loop-call.yielded c.in-Some.call));
    }

pub returns-clause-answers : goal.returns-clause-answers
returns-clause-answers g c =
    let all = all_given c.into_iter-call-iterator.result c.loop-call.yielded c.loop-call.call-iterator
    c.loop-call.yielded_by c.in-None.ensures.steps.0 in
    c.loop-call.invariant.answers
    ∙ ap (λ cs. replies_to c.args.self.now cs) (sym all ∙ c.into_iter-call-iterator.ensures.into_iter_gives.0)

pub returns-clause-after : goal.returns-clause-after
returns-clause-after g c =
    let all = all_given c.into_iter-call-iterator.result c.loop-call.yielded c.loop-call.call-iterator
    c.loop-call.yielded_by c.in-None.ensures.steps.0 in
    c.loop-call.invariant.after
    ∙ ap (λ cs. after_calls c.args.self.now cs) (sym all ∙ c.into_iter-call-iterator.ensures.into_iter_gives.0)

pub returns-clause-history : goal.returns-clause-history
returns-clause-history g c =
    let m = c.args.self.now in
    subst (λ (k : Machine g.row.T.Denot). GoesOn m (entries_of_run m c.args.calls.items) k)
    (sym (returns-clause-after g c))
    (run_goes_on m c.args.calls.items c.is_reached.ensures)

pub returns-clause-told : goal.returns-clause-told
returns-clause-told g c =
    let m = c.args.self.now in
    subst (λ (rs : List (Answer g.row.T.Denot)). TellAll c.args.calls.items rs (entries_of_run m c.args.calls.items))
    (sym (returns-clause-answers g c))
    (tell_all m c.args.calls.items)

pub returns-clause-cells : goal.returns-clause-cells
returns-clause-cells g c = each_has_its_cell c.args.self.now c.args.calls.items c.is_reached.ensures
