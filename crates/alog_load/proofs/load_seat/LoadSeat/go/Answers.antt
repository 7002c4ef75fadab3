use Rattle.std.proofs.Common.{◌≡◌, ◌<◌, ◌≤◌, ℕ, length, sym, ap, subst, ◌∙◌, arith}
use Rattle.alog_load.proofs.Going.{load_task_known, task_few}
use Rattle.alog_load.specs.Load.{HasLogged, load_task_of}
use Rattle.alog_load.specs.declared.load_task.LoadTask.{LoadTask}
use Rattle.alog_load.specs.declared.TheConstants.{LOAD_MESSAGES_MAX}
use Rattle.alog_load.proofs.load_seat.LoadSeat.go.Goals as goal

-- what `of` answers, by the producer's own number
task_is : (n m loggers messages : ℕ) (task : LoadTask) → task ≡ load_task_of n loggers messages → n ≡ m → task ≡ load_task_of m loggers messages
task_is n m loggers messages task of same = of ∙ ap (λ k. load_task_of k loggers messages) same

pub log_all-self-requires-clause-known : goal.log_all-self-requires-clause-known
log_all-self-requires-clause-known g c =
    let old = c.args.self.now.producer in
    let task = task_is c.number.result old.number c.args.loggers c.args.messages c.of-task.result c.of-task.ensures c.number.ensures in
    subst (λ (e : LoadTask). 0 < e.messages → e.logger < length old.shared.loggers) (sym task)
    (subst (λ n. 0 < (load_task_of old.number c.args.loggers c.args.messages).messages
    → (load_task_of old.number c.args.loggers c.args.messages).logger < n) c.requires.known
    (load_task_known old.number c.args.loggers c.args.messages))

pub log_all-self-requires-clause-few : goal.log_all-self-requires-clause-few
log_all-self-requires-clause-few g c =
    let old = c.args.self.now.producer in
    let task = task_is c.number.result old.number c.args.loggers c.args.messages c.of-task.result c.of-task.ensures c.number.ensures in
    let few = task_few old.number c.args.loggers c.args.messages in
    let most = c.requires.few.1 in
    subst (λ (e : LoadTask). e.messages ≤ LOAD_MESSAGES_MAX) (sym task) (omega (arith, few, most))

pub returns : goal.returns
returns g c =
    let old = c.args.self.now.producer in
    let task = task_is c.number.result old.number c.args.loggers c.args.messages c.of-task.result c.of-task.ensures c.number.ensures in
    record {
      same = c.log_all-self.ensures.same;
      served = λ t. subst (λ (e : LoadTask). HasLogged e.logger e.messages old c.log_all-self.new.producer) task (c.log_all-self.ensures.logged t);
    }
