-- The room for what a pool answers at its end.
use Rattle.std.specs.Prelude.{◌≡◌, ◌≤◌, ℕ, [], vec_capacity}
use Rattle.alog_pool.specs.declared.report.Blank.{Blank}

-- Its lists are empty, and have room for so many workers and sinks.
pub record HasRoom {S : Type 0} (workers sinks : ℕ) (blank : Blank S) : Type 0 where
  pub tickets : (blank.tickets.items ≡ []) × (workers ≤ vec_capacity blank.tickets)
  pub faults : (blank.faults.items ≡ []) × (sinks ≤ vec_capacity blank.faults)
  pub sinks_are : (blank.sinks.items ≡ []) × (sinks ≤ vec_capacity blank.sinks)
