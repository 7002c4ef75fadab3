-- A backtrace: the last messages that were kept since the start or the last dump.
use Rattle.std.specs.Prelude.{◌≡◌, ◌-◌, ℕ, List, [], ◌∷◌, ◌++◌, length, drop}
use Rattle.std.specs.List.{AllByRecursion}
use Rattle.alog_msg.specs.declared.message.Message.{Message}
use Rattle.alog_registry.specs.Limit.{IsShort}

-- the last of these messages, so many
abbrev pub last_of : ℕ → List Message → List Message
last_of most ms = drop (length ms - most) ms

-- Messages, oldest first, the most that there may be, and the most bytes of the text of each.
pub record Room : Type 0 where
  pub messages : List Message
  pub most : ℕ
  pub limit : ℕ

abbrev pub room_for : ℕ → ℕ → Room
room_for most limit = record { messages = []; most = most; limit = limit }

-- all texts keep to the limit
abbrev pub AreShort : ℕ → List Message → Type 0
AreShort limit ms = AllByRecursion (IsShort limit) ms

-- These messages were kept since the start or the last dump.
abbrev pub Keeps : Room → List Message → Type 0
Keeps b ms = b.messages ≡ last_of b.most ms

-- the backtrace with one message more
abbrev pub kept_with : Room → Message → Room
kept_with b m = record { messages = last_of b.most (b.messages ++ m ∷ []); most = b.most; limit = b.limit }
