-- Queues are equal by their parts.
use Rattle.std.proofs.Common.{◌≡◌, ℕ, List, ap, ◌∙◌}
use Rattle.alog_core.specs.Queue.{Cell, Queue}

pub queue_is : {T : Type 0} (q r : Queue T) → q.next ≡ r.next → q.front ≡ r.front → q.cells ≡ r.cells → q ≡ r
queue_is {T} q r e f g =
    let Q : ℕ → ℕ → List (Cell T) → Queue T = λ n m cs. record { next = n; front = m; cells = cs } in
    ap (λ n. Q n q.front q.cells) e ∙ (ap (λ m. Q r.next m q.cells) f ∙ ap (λ cs. Q r.next r.front cs) g)
