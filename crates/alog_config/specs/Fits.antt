-- How what is built of a configuration fits together.
use Rattle.std.specs.Prelude.{◌≤◌, ◌<◌, ℕ}
use Rattle.std.specs.List.{All}
use Rattle.alog_registry.specs.declared.TheConstants.{KEPT_MAX}
use Rattle.alog_registry.specs.declared.logger.Logger.{Logger}

-- the sinks of a logger are among so many, and its backtrace is no longer than one may be
pub record LoggerFits (count : ℕ) (l : Logger) : Type 0 where
  pub sinks : All (λ s. s < count) l.spec.sinks.items
  pub backtrace : l.spec.backtrace ≤ KEPT_MAX
