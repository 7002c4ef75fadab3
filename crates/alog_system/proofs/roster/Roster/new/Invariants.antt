use Rattle.std.proofs.Common.{◌≡◌, length, map, take, vec_capacity}
use Rattle.alog_system.specs.Roster.{first_level, room_of}
use Rattle.alog_system.proofs.roster.Roster.new.Given as goal

-- so far each logger has its level and its room
abbrev pub invariant-loop-number : goal.invariant-loop-number
invariant-loop-number l = record {
  levels : l.levels.items ≡ map first_level (take l.number l.fn.loggers);
  kept : l.kept.items ≡ map room_of (take l.number l.fn.loggers);
  level_room : vec_capacity l.levels ≡ length l.fn.loggers;
  kept_room : vec_capacity l.kept ≡ length l.fn.loggers;
  many : l.number-end ≡ length l.fn.loggers;
}
