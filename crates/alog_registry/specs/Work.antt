-- What a work makes: the turns of the worker that took an item under a ticket, from the spec of the item's logger.
use Rattle.std.specs.Prelude.{ℕ, Bool, false, nat_le, if◌then◌else◌, List, [], ◌++◌, map}
use Rattle.alog_msg.specs.Level.{row_of}
use Rattle.alog_msg.specs.declared.item.Item.{Item}
use Rattle.alog_msg.specs.declared.item.Item.TheVariants as item
use Rattle.alog_msg.specs.declared.level.Level.{Level}
use Rattle.alog_msg.specs.declared.level.Level.TheVariants.{Off}
use Rattle.alog_msg.specs.declared.message.Message.{Message}
use Rattle.alog_registry.specs.declared.logger.Spec.{Spec}
use Rattle.alog_registry.specs.declared.work.SinkDeed.{SinkDeed}
use Rattle.alog_registry.specs.declared.work.SinkDeed.TheVariants.{Take, Flush}
use Rattle.alog_registry.specs.declared.work.SinkTurn.{SinkTurn}

-- one turn of this deed on each of these sinks, in their order, tagged with the ticket
abbrev pub turns_on : List ℕ → ℕ → SinkDeed → List SinkTurn
turns_on sinks ticket deed = map (λ (s : ℕ). let t : SinkTurn = record { sink = s; tag = ticket; deed = deed } in t) sinks

-- a level at least that of the logger's flushes is due for one, but for off
abbrev pub is_flush_due : Spec → Level → Bool
is_flush_due spec Off = false
is_flush_due spec level = nat_le (row_of spec.flush_on).number (row_of level).number

-- A text: one text turn on each sink of its logger and then, where due, one flush turn on each.
abbrev pub turns_of_text : Spec → ℕ → Message → List SinkTurn
turns_of_text spec ticket m =
    turns_on spec.sinks.items ticket Take ++ (if is_flush_due spec m.level then turns_on spec.sinks.items ticket Flush else [])

-- A flush: one flush turn on each sink. A stop: none.
abbrev pub turns_of : Spec → ℕ → Item → List SinkTurn
turns_of spec ticket (item.Text m) = turns_of_text spec ticket m
turns_of spec ticket (item.Flush n) = turns_on spec.sinks.items ticket Flush
turns_of spec ticket item.Stop = []
