-- What is printed of acts and steps are whole lines, and a line that says a fault stays one among others.
use Rattle.std.proofs.Common.{◌≡◌, ℕ, Option, None, Some, List, [], ◌∷◌, ◌++◌, inl, inr, refl, sym, ap, subst, ◌∙◌, append_assoc}
use Rattle.std.specs.Prelude.{◌⊎◌, codes}
use Rattle.std.specs.Fmt.{decimal}
use Rattle.std.specs.List.{flat_map}
use Rattle.std.proofs.lemmas.List.{append-nil}
use Rattle.alog_core.specs.declared.said.CellView.{CellView}
use Rattle.alog_core.specs.declared.said.Said.{Said}
use Rattle.alog_core.specs.declared.said.Said.TheVariants as said
use Rattle.alog_msg.specs.Level.{row_of}
use Rattle.alog_msg.specs.declared.item.Item.{Item}
use Rattle.alog_msg.specs.declared.level.Level.{Level as LogLevel}
use Rattle.alog_policy.specs.declared.counts.Counts.{Counts}
use Rattle.alog_policy.specs.declared.policy.Outcome.{Outcome}
use Rattle.alog_policy.specs.declared.policy.Outcome.TheVariants.{Posted, Discarded}
use Rattle.alog_policy.specs.declared.post.Stepped.{Stepped as DeskStepped}
use Rattle.alog_system.specs.declared.stepped.Stepped.{Stepped}
use Rattle.alog_system.specs.declared.stepped.Stepped.TheVariants.{Round, Took, Turned}
use Rattle.alog_system.specs.declared.stepped.Turn.{Turn}
use Rattle.alog_system.specs.declared.stepped.Turn.TheVariants as turn
use Rattle.alog_replay.specs.Configured.{filtered_text, shown_item, sink_name, told_text, told_turn, took_text}
use Rattle.alog_replay.specs.Faultless.{AreWholeLines, HasFaultLine, HasNoFault, IsWell}
use Rattle.alog_replay.specs.Texts.{cell_text, cells_line, counts_text, ended_text, line_of, outcome_text, overran_text, said_text}
use Rattle.alog_replay.specs.Texts.{stepped_text, turn_text, why_name}

abbrev Ended : List ℕ → Type 0
Ended text = (front : List ℕ) × (text ≡ front ++ 10 ∷ [])

ended_behind : (x y : List ℕ) → Ended y → Ended (x ++ y)
ended_behind x y h = (x ++ h.0, ap (λ z. x ++ z) h.1 ∙ sym (append_assoc x h.0 (10 ∷ [])))

pub lines_behind : (x y : List ℕ) → AreWholeLines x → AreWholeLines y → AreWholeLines (x ++ y)
lines_behind x y h (inl e) = subst AreWholeLines (sym (ap (λ z. x ++ z) e ∙ append-nil x)) h
lines_behind x y h (inr e) = inr (ended_behind x y e)

pub no_line : AreWholeLines []
no_line = inl refl

-- a line that says a fault, in front of more and behind whole lines
pub fault_before : (x y : List ℕ) → HasFaultLine x → HasFaultLine (x ++ y)
fault_before x y h =
    let line = turn_text h.actor (codes "fault") h.ticket h.sink in
    record {
      before = h.before;
      actor = h.actor;
      ticket = h.ticket;
      sink = h.sink;
      after = h.after ++ y;
      begins = h.begins;
      split = ap (λ z. z ++ y) h.split ∙ (append_assoc h.before (line ++ h.after) y ∙ ap (λ z. h.before ++ z) (append_assoc line h.after y));
    }

pub fault_behind : (x y : List ℕ) → AreWholeLines x → HasFaultLine y → HasFaultLine (x ++ y)
fault_behind x y whole h =
    let line = turn_text h.actor (codes "fault") h.ticket h.sink in
    record {
      before = x ++ h.before;
      actor = h.actor;
      ticket = h.ticket;
      sink = h.sink;
      after = h.after;
      begins = lines_behind x h.before whole h.begins;
      split = ap (λ z. x ++ z) h.split ∙ sym (append_assoc x h.before (line ++ h.after));
    }

pub fault_alone : (a t : ℕ) (sink : List ℕ) → HasFaultLine (turn_text a (codes "fault") t sink)
fault_alone a t sink = record {
  before = [];
  actor = a;
  ticket = t;
  sink = sink;
  after = [];
  begins = no_line;
  split = sym (append-nil (turn_text a (codes "fault") t sink));
}

-- what is printed, form by form
one_line : (a : ℕ) (words : List ℕ) → AreWholeLines (line_of a words)
one_line a words = inr (ended_behind (decimal a) (32 ∷ (words ++ 10 ∷ [])) (32 ∷ words, refl))

pub filtered_lines : (a : ℕ) (o : Option LogLevel) → AreWholeLines (filtered_text a o)
filtered_lines a None = no_line
filtered_lines a (Some level) = one_line a (codes "filtered " ++ (row_of level).name)

pub cells_lines : (cells : List CellView) → AreWholeLines (cells_line cells)
cells_lines cells =
    inr (ended_behind (codes "cells") (flat_map cell_text cells ++ 10 ∷ []) (flat_map cell_text cells, refl))

pub counts_lines : (c : Counts) → AreWholeLines (counts_text c)
counts_lines c =
    let last : List ℕ = decimal c.discarded ++ 10 ∷ [] in
    let end = ended_behind (codes " discarded ") last (decimal c.discarded, refl) in
    let number = ended_behind (decimal c.overrun) (codes " discarded " ++ last) end in
    inr (ended_behind (codes "overrun ") (decimal c.overrun ++ (codes " discarded " ++ last)) number)

overran : (k : ℕ) → Ended (overran_text k)
overran k = ended_behind (codes " overran ") (decimal k ++ 10 ∷ []) (decimal k, refl)

outcome_lines : (a : ℕ) (o : Outcome Item) → AreWholeLines (outcome_text a o)
outcome_lines a (Posted t k) =
    let end = ended_behind (decimal t) (overran_text k) (overran k) in
    let words = ended_behind (codes " posted ") (decimal t ++ overran_text k) end in
    inr (ended_behind (decimal a) (codes " posted " ++ (decimal t ++ overran_text k)) words)
outcome_lines a (Discarded x w k) =
    let end = ended_behind (why_name w) (overran_text k) (overran k) in
    let words = ended_behind (codes " discarded ") (why_name w ++ overran_text k) end in
    inr (ended_behind (decimal a) (codes " discarded " ++ (why_name w ++ overran_text k)) words)

ended_lines : (a : ℕ) (o : Option (Outcome Item)) → AreWholeLines (ended_text a o)
ended_lines a None = no_line
ended_lines a (Some o) = outcome_lines a o

said_lines : (a : ℕ) (s : Said Item) → AreWholeLines (said_text shown_item a s)
said_lines a said.Nothing = no_line
said_lines a (said.Claim t) = one_line a (codes "claim" ++ 32 ∷ decimal t)
said_lines a (said.Write t) = one_line a (codes "write" ++ 32 ∷ decimal t)
said_lines a (said.Full t x) = one_line a (codes "full" ++ 32 ∷ decimal t)
said_lines a (said.Grab t) = one_line a (codes "grab" ++ 32 ∷ decimal t)
said_lines a (said.Take t x) = one_line a (codes "take" ++ (32 ∷ decimal t ++ 32 ∷ shown_item x))
said_lines a (said.Front t) = no_line
said_lines a (said.Empty t) = one_line a (codes "empty" ++ 32 ∷ decimal t)
said_lines a (said.Idle t) = one_line a (codes "idle" ++ 32 ∷ decimal t)
said_lines a (said.Busy t x) = one_line a (codes "busy" ++ 32 ∷ decimal t)
said_lines a (said.Spent x) = one_line a (codes "spent")

stepped_lines : (a : ℕ) (s : DeskStepped Item) → AreWholeLines (stepped_text shown_item a s)
stepped_lines a s = lines_behind (said_text shown_item a s.said) (ended_text a s.outcome) (said_lines a s.said) (ended_lines a s.outcome)

took_lines : (a t : ℕ) (held : Option Item) → AreWholeLines (took_text a t held)
took_lines a t None = no_line
took_lines a t (Some i) = one_line a (codes "take" ++ (32 ∷ decimal t ++ 32 ∷ shown_item i))

pub turn_lines : (names : List (List ℕ)) (a : ℕ) (t : Turn) → AreWholeLines (told_turn names a t)
turn_lines names a turn.Kept = one_line a (codes "kept")
turn_lines names a (turn.Dumped k) = one_line a (codes "dumped " ++ decimal k)
turn_lines names a (turn.Line t n) = one_line a (codes "line" ++ (32 ∷ decimal t ++ 32 ∷ sink_name names n))
turn_lines names a (turn.Below t n) = one_line a (codes "below" ++ (32 ∷ decimal t ++ 32 ∷ sink_name names n))
turn_lines names a (turn.Fault t n) = one_line a (codes "fault" ++ (32 ∷ decimal t ++ 32 ∷ sink_name names n))
turn_lines names a (turn.Flushed t n) = one_line a (codes "flush" ++ (32 ∷ decimal t ++ 32 ∷ sink_name names n))

pub told_lines : (names : List (List ℕ)) (a : ℕ) (held : Option Item) (told : Stepped) → AreWholeLines (told_text names a held told)
told_lines names a held (Round s) = stepped_lines a s
told_lines names a held (Took t) = took_lines a t held
told_lines names a held (Turned t) = turn_lines names a t

-- a step met no fault, or says so
turn_or_fault : (names : List (List ℕ)) (a : ℕ) (t : Turn) → IsWell t ⊎ HasFaultLine (told_turn names a t)
turn_or_fault names a turn.Kept = inl tt
turn_or_fault names a (turn.Dumped k) = inl tt
turn_or_fault names a (turn.Line t n) = inl tt
turn_or_fault names a (turn.Below t n) = inl tt
turn_or_fault names a (turn.Fault t n) = inr (fault_alone a t (sink_name names n))
turn_or_fault names a (turn.Flushed t n) = inl tt

pub well_or_fault : (names : List (List ℕ)) (a : ℕ) (held : Option Item) (told : Stepped)
    → HasNoFault told ⊎ HasFaultLine (told_text names a held told)
well_or_fault names a held (Round s) = inl tt
well_or_fault names a held (Took t) = inl tt
well_or_fault names a held (Turned t) = turn_or_fault names a t
