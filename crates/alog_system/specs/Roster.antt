-- Loggers with their levels, and what each keeps.
use Rattle.std.specs.Prelude.{◌≡◌, ℕ, List, map, length, slice_get, slice_index_or, slice_set, unwrap_or}
use Rattle.alog_msg.specs.declared.item.Item.{Item}
use Rattle.alog_msg.specs.declared.level.Level.{Level}
use Rattle.alog_msg.specs.declared.level.Level.TheVariants.{Off}
use Rattle.alog_msg.specs.declared.limits.TheConstants.{TEXT_LIMIT_MAX}
use Rattle.alog_msg.specs.declared.message.Message.{Message}
use Rattle.alog_registry.specs.Backtrace.{Room, room_for, kept_with}
use Rattle.alog_policy.specs.declared.policy.Policy.{Policy}
use Rattle.alog_registry.specs.Listed.{spec_at}
use Rattle.alog_registry.specs.declared.logger.Logger.{Logger}
use Rattle.alog_registry.specs.declared.work.SinkTurn.{SinkTurn}
pub use Rattle.alog_system.specs.Acts.{first_level, policy_in, backtrace_in, logger_of, turns_by}

-- What callers see of them, by number: the loggers, their levels as they are now, and what each keeps.
pub record RosterView : Type 0 where
  pub loggers : List Logger
  pub levels : List Level
  pub kept : List Room

-- the room for what a logger keeps
abbrev pub room : ℕ → Room
room most = room_for most TEXT_LIMIT_MAX

abbrev pub room_of : Logger → Room
room_of l = room l.spec.backtrace

-- the room without its messages
abbrev pub empty_of : Room → Room
empty_of r = room_for r.most r.limit

-- each logger with its first level, and nothing kept
abbrev pub fresh_roster : List Logger → RosterView
fresh_roster loggers = record { loggers = loggers; levels = map first_level loggers; kept = map room_of loggers }

-- what the logger of this number keeps
abbrev pub kept_at : RosterView → ℕ → Room
kept_at r n = slice_index_or r.kept n (room 0)

-- the roster where this is kept by the logger of this number
abbrev pub with_room : RosterView → ℕ → Room → RosterView
with_room r n found = record { loggers = r.loggers; levels = r.levels; kept = slice_set r.kept n found }

-- a message is kept by its logger
abbrev pub keeping : RosterView → Message → RosterView
keeping r m = with_room r m.logger (kept_with (kept_at r m.logger) m)

-- what a logger kept is taken
abbrev pub emptied : RosterView → ℕ → RosterView
emptied r n = with_room r n (empty_of (kept_at r n))

-- a logger has this level from now on
abbrev pub with_level : RosterView → ℕ → Level → RosterView
with_level r n level = record { loggers = r.loggers; levels = slice_set r.levels n level; kept = r.kept }

-- each logger has a level, and room for as many messages as its spec says
abbrev pub backtrace_of : Logger → ℕ
backtrace_of l = l.spec.backtrace

pub record IsRoster (loggers : List Logger) (levels : List Level) (kept : List Room) : Type 0 where
  pub each : length levels ≡ length loggers
  pub rooms : map empty_of kept ≡ map room_of loggers

-- the policy of a logger, and how many messages it keeps at most
abbrev pub policy_at : RosterView → ℕ → Policy
policy_at r n = policy_in (spec_at r.loggers n)

abbrev pub backtrace_at : RosterView → ℕ → ℕ
backtrace_at r n = backtrace_in (spec_at r.loggers n)

-- the level of a logger as it is now
abbrev pub level_at : RosterView → ℕ → Level
level_at r n = unwrap_or (slice_get r.levels n) Off

-- the turns of the work on an item that was taken under this ticket
abbrev pub turns_for : RosterView → ℕ → Item → List SinkTurn
turns_for r ticket i = turns_by (spec_at r.loggers (logger_of i)) ticket i
