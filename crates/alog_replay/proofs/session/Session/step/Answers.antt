use Rattle.std.proofs.Common.{OnOk, Result, Ok, Err, string_bytes}
use Rattle.std.proofs.lemmas.Result.{on_ok_weaker}
use Rattle.alog_replay.proofs.Duties.{free_stepped, turn_stepped, worker_stepped}
use Rattle.alog_replay.proofs.session.Session.step.Goals as goal

-- of two facts of a success, a third
both_on_ok : {T E A B C : Type 0} (r : Result T E) → (A → B → C) → OnOk r A → OnOk r B → OnOk r C
both_on_ok (Ok t) f a b = f a b
both_on_ok (Err e) f a b = tt

pub returns-in-Free-clause-stepped : goal.returns-in-Free-clause-stepped
returns-in-Free-clause-stepped g c =
    both_on_ok c.step_free.result (free_stepped c.args.self.now c.take_duty.new.self c.step_free.new.self c.args.actor
    (string_bytes c.args.out.now) (string_bytes c.step_free.new.out) c.take_duty.ensures.after c.in-Free.ensures.duty)
    c.step_free.ensures.stepped c.step_free.ensures.printed

pub returns-in-Works-clause-stepped : goal.returns-in-Works-clause-stepped
returns-in-Works-clause-stepped g c =
    both_on_ok c.step_worker.result (worker_stepped c.args.self.now c.take_duty.new.self c.step_worker.new.self c.args.actor
    (string_bytes c.args.out.now) (string_bytes c.step_worker.new.out) c.take_duty.ensures.after c.in-Works.ensures.duty)
    c.step_worker.ensures.stepped c.step_worker.ensures.printed

pub returns-in-Owes-clause-stepped : goal.returns-in-Owes-clause-stepped
returns-in-Owes-clause-stepped g c =
    on_ok_weaker c.settle.result (turn_stepped c.args.self.now c.take_duty.new.self c.settle.new.self c.args.actor
    (string_bytes c.args.out.now) (string_bytes c.settle.new.out) c.take_duty.ensures.after c.in-Owes.ensures.duty)
    c.settle.ensures.settled
