use Rattle.std.proofs.Common.{◌≡◌, ◌+◌, inl, inr, refl, subst, arith}
use Rattle.alog_hosted.specs.Workers.{HasEnded}
use Rattle.alog_hosted.proofs.Handling.{ended_self, ended_then, same_self, same_then, paused, still_of}
use Rattle.alog_hosted.proofs.worker.HostedWorker.work_some.Goals as goal

pub loop-items-init : goal.loop-items-init
loop-items-init g c = record {
  same = same_self c.args.self.now;
  ended = ended_self c.self.view_is c.self.invariant.0.work.faithful;
  whole = inl refl;
}

pub step-requires : goal.step-requires
step-requires g c = record { of = still_of c.loop-items.invariant.same c.requires.of }

pub returns-in-Some-clause-same : goal.returns-in-Some-clause-same
returns-in-Some-clause-same g c = same_then c.loop-items.invariant.same c.step.ensures.same

pub returns-in-Some-clause-ended : goal.returns-in-Some-clause-ended
returns-in-Some-clause-ended g c =
    let none : c.loop-items.items + 0 ≡ c.loop-items.items = omega arith in
    subst (λ n. HasEnded c.args.self.now c.step.new.self n) none
    (ended_then c.args.self.now c.loop-items.self c.step.new.self c.loop-items.items 0 c.loop-items.invariant.ended c.in-Some.ensures.pause.0)

pub loop-items-preserved : goal.loop-items-preserved
loop-items-preserved g c = record {
  same = same_then c.loop-items.invariant.same c.step.ensures.same;
  ended = ended_then c.args.self.now c.loop-items.self c.step.new.self c.loop-items.items 1 c.loop-items.invariant.ended (c.in_default.ensures.ended refl).0;
  whole = inr (c.in_default.ensures.ended refl).1;
}

pub returns-in-Some-clause-pause : goal.returns-in-Some-clause-pause
returns-in-Some-clause-pause g c =
    paused c.args.self.now c.loop-items.self c.step.new.self c.loop-items.items c.args.most c.loop-items.items c.in-Some.pause
    c.loop-items.invariant.ended c.in-Some.ensures.pause.1

pub returns-clause-same : goal.returns-clause-same
returns-clause-same g c = c.loop-items.invariant.same

pub returns-clause-ended : goal.returns-clause-ended
returns-clause-ended g c =
    let past = c.loop-items-test.false in
    let most = c.loop-items.auto.items-end in
    let same : c.loop-items.items ≡ c.args.most = omega (arith, past, most) in
    subst (λ n. HasEnded c.args.self.now c.loop-items.self n) same c.loop-items.invariant.ended
