use Rattle.std.proofs.Common.{ap, ◌∙◌}
use Rattle.std.specs.List.{range_with_len}
use Rattle.alog_pool.proofs.pool_parts.PoolParts.staff.Goals as goal

pub returns-in-Ok : goal.returns-in-Ok
returns-in-Ok g c =
    let crew = c.in-Ok.ensures.crew in
    let staffed = c.with.ensures in
    record {
      shared = staffed.shared ∙ crew.shared;
      lanes = staffed.lanes ∙ crew.lanes;
      backtrace_seats = staffed.backtrace_seats ∙ crew.backtrace_seats;
      made = staffed.made;
      limit = staffed.limit ∙ crew.kept.1;
      most = staffed.most ∙ crew.kept.0;
      crew = staffed.crew ∙ crew.kept.2;
      numbers = staffed.numbers ∙ ap (λ n. range_with_len 0 n) crew.kept.2;
    }
