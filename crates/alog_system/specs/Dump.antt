-- A dump: what is known of it before it takes anything, and what is left to post of it.
use Rattle.std.specs.Prelude.{◌≡◌, ℕ, ℤ, List, ◌++◌, codes}
use Rattle.std.specs.Option.{option_to_list}
use Rattle.alog_msg.specs.declared.limits.TheConstants.{TEXT_LIMIT_MAX}
use Rattle.alog_msg.specs.declared.message.Message.{Message}
use Rattle.alog_registry.specs.Backtrace.{room_for}
use Rattle.alog_registry.specs.Dumping.{marker}
use Rattle.alog_system.specs.declared.dump.Dump.TheInside as dump
use Rattle.alog_system.specs.declared.dump.Rest.TheInside as rest

-- the dump of a logger at a time by a thread, with room for so many messages
pub record DumpView : Type 0 where
  pub logger : ℕ
  pub time : ℤ
  pub thread : ℕ
  pub most : ℕ

-- the texts of its markers
abbrev pub start_text : List ℕ
start_text = codes "=== backtrace start ==="

abbrev pub end_text : List ℕ
end_text = codes "=== backtrace end ==="

abbrev pub view_of : dump.Inside → DumpView
view_of d = record { logger = d.logger; time = d.time; thread = d.thread; most = d.room.most }

-- its markers and its room are made
pub record IsReady (d : dump.Inside) : Type 0 where
  pub start : d.start ≡ marker d.logger d.time d.thread start_text
  pub room : d.room ≡ room_for d.room.most TEXT_LIMIT_MAX
  pub end : d.end ≡ marker d.logger d.time d.thread end_text

-- the messages that are left, in order
abbrev pub left_of : rest.Inside → List Message
left_of r = option_to_list r.start ++ r.list.messages ++ option_to_list r.end
