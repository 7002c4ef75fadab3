-- What is true of every system stays true where one of its parts has moved.
use Rattle.std.proofs.Common.{◌≡◌, ◌≤◌, ℕ, true, List, [], ◌∷◌, length, ap, ◌∙◌, get_or, zero, suc, arith}
use Rattle.std.specs.Prelude.{ℤ, codes, replicate}
use Rattle.std.specs.List.{All}
use Rattle.std.proofs.lemmas.List.Elements.{All-nil, All-cons, All-head, All-tail, All-append, All-map, All-weaker, All-replicate}
use Rattle.std.proofs.lemmas.List.{length-replicate}
use Rattle.alog_core.specs.declared.TheConstants.{ACTORS}
use Rattle.alog_msg.specs.declared.item.Item.{Item}
use Rattle.alog_msg.specs.declared.message.Message.{Message}
use Rattle.alog_policy.specs.Desk.{DeskView, fresh_desk}
use Rattle.alog_registry.specs.Backtrace.{Room}
use Rattle.alog_registry.specs.Dumping.{marker, posted_of}
use Rattle.alog_registry.specs.declared.TheConstants.{KEPT_MAX}
use Rattle.alog_registry.specs.declared.logger.Logger.{Logger}
use Rattle.alog_sink.specs.declared.sink.Sink.{Sink}
use Rattle.alog_system.specs.Outputs.{OutputsView, IsShort}
use Rattle.alog_system.specs.Roster.{RosterView, room_of, backtrace_of, fresh_roster, room}
use Rattle.alog_system.specs.System.{SystemView, fresh_system, with_desk}
use Rattle.alog_system.specs.Within.{DeskHas, DutyFits, IsShortText, IsWithin, LoggerFits}
use Rattle.alog_system.proofs.Desks.{fresh_has}
use Rattle.alog_system.specs.declared.duty.Duty.{Duty}
use Rattle.alog_system.specs.declared.duty.Duty.TheVariants.{Free}

module _ {S : Type 0} (v : SystemView S) (w : IsWithin v) where
  -- where the desk has moved
  pub desk_within : (desk : DeskView Item) → DeskHas (IsShort v.outputs.text_limit) desk → IsWithin (with_desk v desk)
  desk_within desk has = record { duties = w.duties; loggers = w.loggers; desk = has; kept = w.kept; fit = w.fit }

at_or : {X : Type 0} (Q : X → Type 0) (xs : List X) (i : ℕ) (d : X) → Q d → All Q xs → Q (get_or xs i d)
at_or Q [] i d h all = h
at_or Q (x ∷ xs) zero d h all = All-head Q x xs all
at_or Q (x ∷ xs) (suc i) d h all = at_or Q xs i d h (All-tail Q x xs all)

-- what is posted of kept messages keeps to the limit
pub posted_short : (limit n : ℕ) (time : ℤ) (thread : ℕ) (ms : List Message) → 64 ≤ limit → All (IsShortText limit) ms
    → All (IsShortText limit) (posted_of n time thread ms)
posted_short limit n time thread [] least all = all
posted_short limit n time thread (m ∷ ms) least all =
    let P = IsShortText limit in
    let start = marker n time thread (codes "=== backtrace start ===") in
    let end = marker n time thread (codes "=== backtrace end ===") in
    All-append P (start ∷ m ∷ ms) (end ∷ []) (All-cons P start (m ∷ ms) (omega (arith, least)) all)
    (All-cons P end [] (omega (arith, least)) (All-nil P))

pub kept_short : (limit : ℕ) (kept : List Room) (n : ℕ) → All (λ (room : Room). All (IsShortText limit) room.messages) kept
    → All (IsShortText limit) (get_or kept n (room 0)).messages
kept_short limit kept n all = at_or (λ (room : Room). All (IsShortText limit) room.messages) kept n (room 0) (All-nil (IsShortText limit)) all

-- a new system
pub fresh_within : {S : Type 0} (places limit : ℕ) (loggers : List Logger) (sinks : List (Sink S)) → All (LoggerFits (length sinks)) loggers
    → IsWithin (fresh_system places limit loggers sinks)
fresh_within places limit loggers sinks all = record {
  duties = length-replicate ACTORS Free;
  loggers = all;
  desk = fresh_has (IsShort limit) places 0;
  kept = All-map (λ (room : Room). All (IsShortText limit) room.messages) room_of loggers
      (All-weaker (LoggerFits (length sinks)) (λ l. All (IsShortText limit) (room_of l).messages) (λ l h. All-nil (IsShortText limit)) loggers all);
  fit = All-replicate (DutyFits (fresh_roster loggers) limit) ACTORS Free tt;
}

pub few_kept : (count : ℕ) (loggers : List Logger) → All (LoggerFits count) loggers → All (λ l. backtrace_of l ≤ KEPT_MAX) loggers
few_kept count loggers all = All-weaker (LoggerFits count) (λ l. backtrace_of l ≤ KEPT_MAX) (λ l h. h.backtrace) loggers all

pub made_fresh : {S : Type 0} {v : SystemView S} {places limit n : ℕ} {loggers : List Logger} {sinks : List (Sink S)}
    → v.desk ≡ fresh_desk places 0
    → v.duties ≡ replicate n Free → n ≡ ACTORS → v.roster ≡ fresh_roster loggers → v.outputs ≡ record { sinks = sinks; text_limit = limit }
    → v ≡ fresh_system places limit loggers sinks
made_fresh {S} {v} {places} {loggers} desk duties all roster outputs =
    ap (λ (d : DeskView Item). let r : SystemView S = record { desk = d; duties = v.duties; roster = v.roster; outputs = v.outputs } in r) desk
    ∙ (ap (λ (ds : List Duty). let r : SystemView S = record { desk = fresh_desk places 0; duties = ds; roster = v.roster; outputs = v.outputs } in r)
    (duties ∙ ap (λ k. replicate k Free) all)
    ∙ (ap (λ (r : RosterView). let s : SystemView S = record { desk = fresh_desk places 0; duties = replicate ACTORS Free; roster = r; outputs = v.outputs } in s) roster
    ∙ ap (λ (o : OutputsView S). let r : SystemView S = record { desk = fresh_desk places 0; duties = replicate ACTORS Free; roster = fresh_roster loggers; outputs = o } in r) outputs))
