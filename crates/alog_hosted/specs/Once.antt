-- A log that makes one round where its policy is to block.
use Rattle.std.specs.Prelude.{◌≡◌, ◌⊎◌, ℕ, Bool, [], ◌∷◌}
use Rattle.alog_core.specs.Queue.{Full, PushBusy}
use Rattle.alog_hosted.specs.declared.once.Once.{Once}
use Rattle.alog_hosted.specs.declared.once.Once.TheVariants.{Logged, WouldBlock}
use Rattle.alog_msg.specs.declared.level.Level.{Level}
use Rattle.alog_msg.specs.declared.message.Message.{Message}
use Rattle.alog_policy.specs.SwapPort.{SwapDid}
use Rattle.alog_policy.specs.declared.policy.Policy.TheVariants.{Block}
use Rattle.alog_registry.specs.BlockPort.{BlockPort}
use Rattle.alog_registry.specs.Keep.{KeptOr}
use Rattle.alog_registry.specs.LaneKeeper.{KeepsByTurn, Passes}
use Rattle.alog_registry.specs.Logging.{IsBrought, IsLogged, IsLoggedOrSpent, IsUnread, Logs, kept_by}
use Rattle.alog_registry.specs.declared.keep.LaneKeeper.{LaneKeeper}
use Rattle.alog_registry.specs.declared.logger.Spec.{Spec}

-- One round of a push was refused: the queue was full, or another push was faster. Nothing was put in or taken out, and nothing counted.
abbrev pub HadNoRoom : BlockPort → BlockPort → Type 0
HadNoRoom a b = ((ticket : ℕ) × SwapDid a (Full ticket ∷ []) 0 0 b) ⊎ ((ticket : ℕ) × SwapDid a (PushBusy ticket ∷ []) 0 0 b)

-- A log under the logger's own policy, which never waits: where it would have to, which it does under block alone, it says so, and nothing is kept.
abbrev pub LogsOnce : Spec → Message → BlockPort → LaneKeeper → Once → BlockPort → LaneKeeper → Type 0
LogsOnce s m a k (Logged reply) b l = Logs SwapDid KeepsByTurn Passes s.policy s m a k reply b l
LogsOnce s m a k WouldBlock b l = (s.policy ≡ Block) × HadNoRoom a b × (l ≡ k)

-- what came to its end is discarded only where no ticket is left
abbrev pub IsBlockedOrSpent : Once → Type 0
IsBlockedOrSpent (Logged reply) = IsLoggedOrSpent reply
IsBlockedOrSpent WouldBlock = Unit {0}

-- the text was not looked at: the message was filtered, and there is no backtrace
abbrev pub IsLoggedUnread : Spec → Once → Type 0
IsLoggedUnread s (Logged reply) = IsUnread s reply
IsLoggedUnread s WouldBlock = ⊥

-- What one round of a push of a message answers before it is kept, by the level that was read, as a log under block; the answer says this of its
-- being kept.
abbrev pub BringsOnce : Level → Bool → Message → BlockPort → Once → BlockPort → Type 0
BringsOnce own told m a (Logged reply) b = IsBrought SwapDid own Block told m a reply b × IsLoggedOrSpent reply
BringsOnce own told m a WouldBlock b = HadNoRoom a b

-- and what it answers when it was kept
abbrev pub BringsAndKeepsOnce : Level → Message → BlockPort → LaneKeeper → Once → BlockPort → LaneKeeper → Type 0
BringsAndKeepsOnce own m a k (Logged reply) b l =
    IsBrought SwapDid own Block (kept_by reply) m a reply b × IsLoggedOrSpent reply × KeptOr KeepsByTurn Passes (kept_by reply) k m l
BringsAndKeepsOnce own m a k WouldBlock b l = HadNoRoom a b × (l ≡ k)

-- a round of a push was made, whatever it answered
abbrev pub HasPushed : Once → Type 0
HasPushed (Logged reply) = IsLogged reply
HasPushed WouldBlock = Unit {0}
