-- A port on a ring of blocks, as an outlet of items.
use Rattle.std.specs.Prelude.{Option, None, Some}
use Rattle.alog_msg.specs.Block.{BlockFields}
use Rattle.alog_msg.specs.declared.item.Item.{Item}
use Rattle.alog_msg.specs.declared.item.Item.TheVariants.{Stop}
use Rattle.alog_policy.specs.SwapPort.{IsThere, IsSwapFit}
use Rattle.alog_policy.specs.declared.swap_port.SwapPort.{SwapPort}
use Rattle.alog_registry.specs.Limit.{HoldsTo}
use Rattle.alog_registry.specs.declared.block_port.Contents.{Contents}
use Rattle.alog_registry.specs.declared.limit.TextLimit.{TextLimit}

-- a port on a ring of blocks
abbrev pub BlockPort : Type 0
BlockPort = SwapPort BlockFields Item Contents TextLimit

-- the note of an entry of such a ring: that of a take is the block that it brought
abbrev pub block_note : Type 0
block_note = Option BlockFields

-- the item of the block in a hand
abbrev pub item_in : Option BlockFields → Item
item_in None = Stop
item_in (Some b) = b.item

-- the port is fit for a post, and a block is in its hand
abbrev pub IsReadyPort : {W : Type 0} → SwapPort BlockFields Item W TextLimit → Type 0
IsReadyPort p = IsSwapFit HoldsTo p × IsThere (HoldsTo p.ring.now.ring.limit) p.hand.now
