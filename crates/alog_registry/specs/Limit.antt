-- Texts that keep to a limit.
use Rattle.std.specs.Prelude.{◌≡◌, ◌≤◌, ℕ, length, Option, None, Some}
use Rattle.alog_msg.specs.Block.{BlockFields}
use Rattle.alog_msg.specs.declared.item.Item.{Item}
use Rattle.alog_msg.specs.declared.item.Item.TheVariants.{Text, Flush, Stop}
use Rattle.alog_msg.specs.declared.message.Message.{Message}
use Rattle.alog_registry.specs.declared.limit.TextLimit.{TextLimit}

-- the message's text has at most so many bytes; what carries one does
abbrev pub IsShort : ℕ → Message → Type 0
IsShort limit m = length m.text ≤ limit

abbrev pub KeepsTo : ℕ → Item → Type 0
KeepsTo limit (Text m) = IsShort limit m
KeepsTo limit (Flush n) = Unit {0}
KeepsTo limit Stop = Unit {0}

-- a block of a ring with this limit has it, and its item keeps to it
abbrev pub HoldsTo : TextLimit → BlockFields → Type 0
HoldsTo limit b = (b.limit ≡ limit.most) × KeepsTo limit.most b.item

-- there is a message, and it is short; if there is one, it is
abbrev pub HasShort : ℕ → Option Message → Type 0
HasShort limit None = ⊥
HasShort limit (Some m) = IsShort limit m

abbrev pub IsNoLonger : ℕ → Option Message → Type 0
IsNoLonger limit None = Unit {0}
IsNoLonger limit (Some m) = IsShort limit m

-- each message that is short is admitted
abbrev pub AdmitsShort : {S : Type 0} → (S → Message → Type 0) → ℕ → S → Type 0
AdmitsShort admits limit s = (m : Message) → IsShort limit m → admits s m
