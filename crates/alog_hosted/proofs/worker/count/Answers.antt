use Rattle.std.proofs.Common.{◌≡◌, ◌+◌, ◌%◌, ◌^◌, true, false, List, ℕ, refl, sym, subst}
use Rattle.alog_pool.proofs.SharedWorked.{account_of_stop, account_of_work}
use Rattle.alog_pool.specs.Working.{IsWorkOf}
use Rattle.alog_hosted.proofs.worker.count.Goals as goal

pub returns-then-not-is_stop-clause-counted : goal.returns-then-not-is_stop-clause-counted
returns-then-not-is_stop-clause-counted c = λ k l work moved.
    subst (λ (ts : List ℕ). IsWorkOf c.args.most l ts ((c.args.handled.now + 1) % 2 ^ 64)) (sym c.note.ensures.noted)
    (account_of_work work moved (λ is. let e : false ≡ true = c.if-not-is_stop.ensures.1 is in cc))

pub returns-else-not-is_stop-clause-counted : goal.returns-else-not-is_stop-clause-counted
returns-else-not-is_stop-clause-counted c = λ k l work moved. account_of_stop work moved (c.if-not-is_stop.ensures.0 refl)
