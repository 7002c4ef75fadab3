-- What is true of every system: texts keep to the limit wherever they are, and each logger's sinks are there.
use Rattle.std.specs.Prelude.{◌≡◌, ℕ, ◌<◌, ◌≤◌, Option, Some, None, length}
use Rattle.std.specs.List.{All}
pub use Rattle.alog_config.specs.Fits.{LoggerFits}
use Rattle.alog_core.specs.World.{Machine, brought}
use Rattle.alog_core.specs.declared.TheConstants.{ACTORS}
use Rattle.alog_core.specs.declared.said.Said.{Said}
use Rattle.alog_core.specs.declared.said.Said.TheVariants as said
use Rattle.alog_msg.specs.declared.message.Message.{Message}
use Rattle.alog_policy.specs.Desk.{DeskView}
use Rattle.alog_policy.specs.declared.post.Post.{Post}
use Rattle.alog_system.specs.Outputs.{IsShort}
use Rattle.alog_system.specs.Roster.{RosterView, backtrace_at}
use Rattle.alog_system.specs.System.{SystemView}
use Rattle.alog_system.specs.declared.duty.Duty.{Duty}
use Rattle.alog_system.specs.declared.duty.Duty.TheVariants.{Free, Keeps, Dumps, Posts, Works, Serves}

-- this is so of a value, where there is one
abbrev pub HasOnly : {T : Type 0} → (T → Type 0) → Option T → Type 0
HasOnly P None = Unit {0}
HasOnly P (Some x) = P x

abbrev pub HandHasOnly : {T : Type 0} → (T → Type 0) → Option (Post T) → Type 0
HandHasOnly P None = Unit {0}
HandHasOnly P (Some p) = HasOnly P p.hand

-- this is so of each value in the queue and in its actors' rounds, and in their posts
pub record MachineHas {T : Type 0} (P : T → Type 0) (m : Machine T) : Type 0 where
  pub cells : All (λ c. P c.item) m.queue.cells
  pub rounds : All (λ r. HasOnly P (brought r)) m.rounds

pub record DeskHas {T : Type 0} (P : T → Type 0) (d : DeskView T) : Type 0 where
  pub world : MachineHas P d.world
  pub posts : All (λ p. HandHasOnly P p) d.posts

-- and of the value that a step tells
abbrev pub SaidHasOnly : {T : Type 0} → (T → Type 0) → Said T → Type 0
SaidHasOnly P said.Nothing = Unit {0}
SaidHasOnly P (said.Claim t) = Unit {0}
SaidHasOnly P (said.Write t) = Unit {0}
SaidHasOnly P (said.Full t x) = HasOnly P x
SaidHasOnly P (said.Grab t) = Unit {0}
SaidHasOnly P (said.Take t x) = P x
SaidHasOnly P (said.Front t) = Unit {0}
SaidHasOnly P (said.Empty t) = Unit {0}
SaidHasOnly P (said.Idle t) = Unit {0}
SaidHasOnly P (said.Busy t x) = HasOnly P x
SaidHasOnly P (said.Spent x) = HasOnly P x

-- a message's text keeps to the limit
abbrev pub IsShortText : ℕ → Message → Type 0
IsShortText limit m = length m.text ≤ limit

-- what an actor does beside its round keeps to the limit, and a dump has room for what its logger keeps
abbrev pub DutyFits : RosterView → ℕ → Duty → Type 0
DutyFits r limit Free = Unit {0}
DutyFits r limit (Keeps m) = IsShortText limit m
DutyFits r limit (Dumps d) = (d.logger < length r.loggers) × (d.most ≡ backtrace_at r d.logger)
DutyFits r limit (Posts p ms) = All (IsShortText limit) ms
DutyFits r limit Works = Unit {0}
DutyFits r limit (Serves t i done) = IsShort limit i

pub record IsWithin {S : Type 0} (v : SystemView S) : Type 0 where
  pub duties : length v.duties ≡ ACTORS
  pub loggers : All (LoggerFits (length v.outputs.sinks)) v.roster.loggers
  pub desk : DeskHas (IsShort v.outputs.text_limit) v.desk
  pub kept : All (λ room. All (IsShortText v.outputs.text_limit) room.messages) v.roster.kept
  pub fit : All (DutyFits v.roster v.outputs.text_limit) v.duties
