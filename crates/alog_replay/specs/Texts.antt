-- What is printed: steps and ends of posts, turns, cells, losses and files.
use Rattle.std.specs.Prelude.{ℕ, List, [], ◌∷◌, ◌++◌, Option, None, Some, length, codes}
use Rattle.std.specs.Fmt.{decimal}
use Rattle.std.specs.List.{flat_map}
use Rattle.alog_core.specs.declared.mark.Mark.{Mark}
use Rattle.alog_core.specs.declared.mark.Mark.TheVariants as mark
use Rattle.alog_core.specs.declared.said.Said.{Said}
use Rattle.alog_core.specs.declared.said.Said.TheVariants as said
use Rattle.alog_core.specs.declared.said.CellView.{CellView}
use Rattle.alog_policy.specs.declared.counts.Counts.{Counts}
use Rattle.alog_policy.specs.declared.policy.Why.{Why}
use Rattle.alog_policy.specs.declared.policy.Why.TheVariants as why
use Rattle.alog_policy.specs.declared.policy.Outcome.{Outcome}
use Rattle.alog_policy.specs.declared.policy.Outcome.TheVariants.{Posted, Discarded}
use Rattle.alog_policy.specs.declared.post.Stepped.{Stepped}

-- a line of an actor: its number, the words, and the end of the line
abbrev pub line_of : ℕ → List ℕ → List ℕ
line_of a words = decimal a ++ (32 ∷ words ++ 10 ∷ [])

-- the line of an event, which names a ticket
abbrev pub ticket_line : ℕ → List ℕ → ℕ → List ℕ
ticket_line a event t = line_of a (event ++ 32 ∷ decimal t)

-- the line of a take, which shows what was taken
abbrev pub take_line : ℕ → ℕ → List ℕ → List ℕ
take_line a t shown = line_of a (codes "take" ++ (32 ∷ decimal t ++ 32 ∷ shown))

-- what is printed of what a step was, where items are shown so
abbrev pub said_text : {T : Type 0} → (T → List ℕ) → ℕ → Said T → List ℕ
said_text shown a said.Nothing = []
said_text shown a (said.Claim t) = ticket_line a (codes "claim") t
said_text shown a (said.Write t) = ticket_line a (codes "write") t
said_text shown a (said.Full t x) = ticket_line a (codes "full") t
said_text shown a (said.Grab t) = ticket_line a (codes "grab") t
said_text shown a (said.Take t x) = take_line a t (shown x)
said_text shown a (said.Front t) = []
said_text shown a (said.Empty t) = ticket_line a (codes "empty") t
said_text shown a (said.Idle t) = ticket_line a (codes "idle") t
said_text shown a (said.Busy t x) = ticket_line a (codes "busy") t
said_text shown a (said.Spent x) = line_of a (codes "spent")

-- why a post was discarded
abbrev pub why_name : Why → List ℕ
why_name why.Full = codes "full"
why_name why.Stalled = codes "stalled"
why_name why.Busy = codes "busy"
why_name why.Spent = codes "spent"

-- the end of the line of a post: how many items it overran
abbrev pub overran_text : ℕ → List ℕ
overran_text k = codes " overran " ++ (decimal k ++ 10 ∷ [])

-- what is printed of how a post ended
abbrev pub outcome_text : {T : Type 0} → ℕ → Outcome T → List ℕ
outcome_text a (Posted t k) = decimal a ++ (codes " posted " ++ (decimal t ++ overran_text k))
outcome_text a (Discarded x w k) = decimal a ++ (codes " discarded " ++ (why_name w ++ overran_text k))

-- what is printed of a step with which a post ended, or none did
abbrev pub ended_text : {T : Type 0} → ℕ → Option (Outcome T) → List ℕ
ended_text a None = []
ended_text a (Some o) = outcome_text a o

-- what is printed of a step: what it was, and then how the actor's post ended, if it did
abbrev pub stepped_text : {T : Type 0} → (T → List ℕ) → ℕ → Stepped T → List ℕ
stepped_text shown a s = said_text shown a s.said ++ ended_text a s.outcome

-- what is printed of a turn on a sink: what it was, the ticket, and the sink's name
abbrev pub turn_text : ℕ → List ℕ → ℕ → List ℕ → List ℕ
turn_text a what t sink = line_of a (what ++ (32 ∷ decimal t ++ 32 ∷ sink))

abbrev pub mark_name : Mark → List ℕ
mark_name mark.Claimed = codes "claimed"
mark_name mark.Written = codes "written"
mark_name mark.Emptying = codes "emptying"

-- a cell as it is printed
abbrev pub cell_text : CellView → List ℕ
cell_text c = 32 ∷ decimal c.ticket ++ (58 ∷ mark_name c.mark)

abbrev pub cells_line : List CellView → List ℕ
cells_line cells = codes "cells" ++ (flat_map cell_text cells ++ 10 ∷ [])

-- the losses as they are printed
abbrev pub counts_text : Counts → List ℕ
counts_text c = codes "overrun " ++ (decimal c.overrun ++ (codes " discarded " ++ (decimal c.discarded ++ 10 ∷ [])))

-- a file of a sink as it is printed at the end: both names, how many bytes it has, and the bytes
abbrev pub file_text : List ℕ → List ℕ → List ℕ → List ℕ
file_text sink file bytes = codes "== " ++ (sink ++ 32 ∷ (file ++ 32 ∷ (decimal (length bytes) ++ 10 ∷ bytes)))
