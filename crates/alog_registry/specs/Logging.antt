-- What a logger does with a message.
use Rattle.std.specs.Prelude.{◌≡◌, ◌<◌, ◌==◌, ℕ, Bool, true, false, if◌then◌else◌, List, [], length, Option, None, Some}
use Rattle.alog_msg.specs.Level.{row_of}
use Rattle.alog_msg.specs.declared.item.Item.{Item}
use Rattle.alog_msg.specs.declared.item.Item.TheVariants.{Text}
use Rattle.alog_msg.specs.declared.level.Level.{Level}
use Rattle.alog_msg.specs.declared.message.Message.{Message}
use Rattle.alog_policy.specs.Outlet.{Doing, IsPostedOrSpent}
use Rattle.alog_policy.specs.declared.policy.Policy.{Policy}
use Rattle.alog_registry.specs.ItemOutlet.{PostsItem}
use Rattle.alog_registry.specs.Keep.{KeptOr}
use Rattle.alog_registry.specs.Listed.{spec_at}
use Rattle.alog_registry.specs.declared.logger.Logger.{Logger}
use Rattle.alog_registry.specs.declared.logger.Spec.{Spec}
use Rattle.alog_registry.specs.declared.logging.LogReply.{LogReply}
use Rattle.alog_registry.specs.declared.logging.LogReply.TheVariants as reply

-- a message of this level is filtered by a logger of that one
abbrev pub IsBelow : Level → Level → Type 0
IsBelow level own = (row_of level).number < (row_of own).number

-- Whether the logger of this number reads a message of this level: one that it does not read is below the level that it has then, and there is
-- no backtrace that keeps it.
abbrev pub IsOn : List Logger → ℕ → Level → Bool → Type 0
IsOn loggers number level true = number < length loggers
IsOn loggers number level false =
    (s : Spec) → spec_at loggers number ≡ Some s → (s.backtrace ≡ 0) × ((own : Level) × IsBelow level own)

-- what is kept of a message: all of it where its logger has a backtrace
abbrev pub copy_of : Spec → Message → Option Message
copy_of spec m = if spec.backtrace == 0 then None else Some m

module _ {K : Type 0} (keeps : K → Message → K → Type 0) (passes : K → K → Type 0) where
  -- where there is nothing to keep, the keeper is as it was; elsewhere it answers whether it kept it
  abbrev pub KeepsCopy : Option Message → Bool → K → K → Type 0
  KeepsCopy None kept old new = (kept ≡ false) × (new ≡ old)
  KeepsCopy (Some m) kept old new = KeptOr keeps passes kept old m new

module _ {S K : Type 0} (did : Doing S Item) (keeps : K → Message → K → Type 0) (passes : K → K → Type 0) where
  -- A message is filtered only where it is below the level that is told, and then nothing is posted. Otherwise the text that is
  -- exactly this message is posted under this policy. Either way it is kept as the answer says.
  abbrev pub Logs : Policy → Spec → Message → S → K → LogReply → S → K → Type 0
  Logs p spec m s k (reply.Filtered level kept) t l = IsBelow m.level level × (t ≡ s) × KeepsCopy keeps passes (copy_of spec m) kept k l
  Logs p spec m s k (reply.Logged outcome kept) t l =
      PostsItem did p (Text m) s t outcome × KeepsCopy keeps passes (copy_of spec m) kept k l

-- the text was not looked at: the message was filtered, and there is no backtrace
abbrev pub IsUnread : Spec → LogReply → Type 0
IsUnread spec (reply.Filtered level kept) = spec.backtrace ≡ 0
IsUnread spec (reply.Logged outcome kept) = ⊥

-- What was made of a message before anything is done, by the level that was read: nothing where it is below that level, and else the
-- value of the text.
module _ {S V : Type 0} (did : Doing S Item) (fit : S → V → Type 0) (shows : S → V → Item) where
  abbrev pub IsMade : Level → Message → S → Option V → S → Type 0
  IsMade own m old None new = IsBelow m.level own × (new ≡ old)
  IsMade own m old (Some v) new = ¬ IsBelow m.level own × (shows new v ≡ Text m) × fit new v × did old [] 0 0 new

-- What is answered of a message before it is kept, by the level that was read: where it is below that level, which is told, it was
-- not posted, and else the text that is exactly this message was posted under this policy. The answer says this of its being kept.
module _ {S : Type 0} (did : Doing S Item) where
  abbrev pub IsBrought : Level → Policy → Bool → Message → S → LogReply → S → Type 0
  IsBrought own p told m old (reply.Filtered level kept) new = (level ≡ own) × (kept ≡ told) × IsBelow m.level own × (new ≡ old)
  IsBrought own p told m old (reply.Logged outcome kept) new =
      (kept ≡ told) × ¬ IsBelow m.level own × PostsItem did p (Text m) old new outcome

-- the message was posted, or discarded by its post
abbrev pub IsLogged : LogReply → Type 0
IsLogged (reply.Filtered level kept) = ⊥
IsLogged (reply.Logged outcome kept) = Unit {0}

-- what is answered where the post waits for room: it is discarded only where no ticket is left
abbrev pub IsLoggedOrSpent : LogReply → Type 0
IsLoggedOrSpent (reply.Filtered level kept) = Unit {0}
IsLoggedOrSpent (reply.Logged outcome kept) = IsPostedOrSpent outcome

-- what an answer says of the message's being kept
abbrev pub kept_by : LogReply → Bool
kept_by (reply.Filtered level kept) = kept
kept_by (reply.Logged outcome kept) = kept
