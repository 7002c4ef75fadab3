-- A message that a turn of a lane kept.
use Rattle.std.proofs.Common.{◌≡◌, ℕ, true, Some, List, [], ◌∷◌, ◌++◌, Result, Ok, Err, refl, sym, ap, subst, ◌∙◌}
use Rattle.std.specs.Result.{IfOk, is_ok}
use Rattle.alog_lane.specs.Seats.{Entry, Known}
use Rattle.alog_lane.specs.Turns.{Turned, Leads}
use Rattle.alog_lane.specs.Calls.{TakesTurn}
use Rattle.alog_msg.specs.declared.message.Message.{Message}
use Rattle.alog_registry.specs.Backtrace.{Room}
use Rattle.alog_registry.specs.LaneKeeper.{LendsSame, KeepsByTurn, DumpsByTurn}
use Rattle.alog_registry.specs.Turn.{Turns, scratch_of}
use Rattle.alog_registry.specs.declared.keep.LaneKeeper.{LaneKeeper}
use Rattle.alog_registry.specs.declared.turn.BacktraceItem.{BacktraceItem}
use Rattle.alog_registry.specs.declared.turn.BacktraceItem.TheVariants.{Keep, Dump}
use Rattle.alog_registry.specs.declared.turn.BacktraceReply.{BacktraceReply}
use Rattle.alog_registry.specs.declared.turn.BacktraceReply.TheVariants.{Dumped}
use Rattle.alog_registry.specs.declared.turn.BacktraceScratch.{BacktraceScratch}

abbrev pub Deed : Type 0
Deed = Turned BacktraceItem BacktraceScratch BacktraceReply

-- what an answer tells, where it is no refusal
pub told : {A E : Type 0} (P : A → Type 0) (r : Result A E) → is_ok r ≡ true → IfOk r P → (a : A) × P a
told P (Ok a) ok h = (a, h)
told P (Err e) ok h = absurd (cc ok)

-- the last turn of a history leads to its end, from where the others lead
pub last_turn : (v : Room) (h : List (Entry Deed)) (x : Entry Deed) (w : Room) → Leads Turns v (h ++ x ∷ []) w
    → (u : Room) × Leads Turns v h u × Turns u x.deed.before x.deed.item x.deed.reply w x.deed.after
last_turn v [] x w l = (v, refl, subst (λ z. Turns v x.deed.before x.deed.item x.deed.reply z x.deed.after) l.2 l.1)
last_turn v (y ∷ h) x w l = let r = last_turn l.0 h x w l.2 in (r.0, (l.0, l.1, r.1), r.2)

-- no turn changes how many messages are kept at most, and how long their texts are
most_in : (v : Room) (s : BacktraceScratch) (i : BacktraceItem) (r : BacktraceReply) (w : Room) (t : BacktraceScratch) → Turns v s i r w t
    → (w.most ≡ v.most) × (w.limit ≡ v.limit)
most_in v s Keep r w t h = (ap (λ (z : Room). z.most) h.kept, ap (λ (z : Room). z.limit) h.kept)
most_in v s Dump r w t h = (ap (λ (z : Room). z.most) h.emptied, ap (λ (z : Room). z.limit) h.emptied)

pub most_stays : (v : Room) (h : List (Entry Deed)) (w : Room) → Leads Turns v h w → (w.most ≡ v.most) × (w.limit ≡ v.limit)
most_stays v [] w l = (ap (λ (z : Room). z.most) (sym l), ap (λ (z : Room). z.limit) (sym l))
most_stays v (x ∷ h) w l =
    let later = most_stays l.0 h w l.2 in
    let one = most_in v x.deed.before x.deed.item x.deed.reply l.0 x.deed.after l.1 in (later.0 ∙ one.0, later.1 ∙ one.1)

-- the turn of a keep that brought this message
abbrev pub keep_of : Message → LaneKeeper → ℕ × BacktraceReply → LaneKeeper → Deed
keep_of m old a new = record {
  tag = 0;
  item = Keep;
  before = scratch_of (Some m) old.scratch.now.list;
  reply = a.1;
  after = new.scratch.now;
}

pub kept_by_turn : (old new : LaneKeeper) (m : Message) (a : ℕ × BacktraceReply) → LendsSame old new
    → TakesTurn Turns old.lane.now.first old.seat.now.known new.seat.now.known (keep_of m old a new) a.0 → KeepsByTurn old m new
kept_by_turn old new m a lends turn =
    let x : Entry Deed = record { seat = old.seat.now.known.seat; deed = keep_of m old a new } in
    let leads = subst (λ h. Leads Turns old.lane.now.first h turn.value) turn.ends turn.leads in
    let last = last_turn old.lane.now.first turn.before x turn.value leads in
    record {
      lends = lends;
      deed = keep_of m old a new;
      tag = refl;
      item = refl;
      before = refl;
      after = refl;
      index = a.0;
      turn = turn;
      list = ap (λ (s : BacktraceScratch). s.list) last.2.after_is;
    }

-- the turn of a dump
abbrev pub dump_of : LaneKeeper → ℕ × BacktraceReply → LaneKeeper → Deed
dump_of old a new = record { tag = 0; item = Dump; before = old.scratch.now; reply = a.1; after = new.scratch.now }

pub dumped_by_turn : (old new : LaneKeeper) (d : Room) (a : ℕ × BacktraceReply) → LendsSame old new → a.1 ≡ Dumped d
    → TakesTurn Turns old.lane.now.first old.seat.now.known new.seat.now.known (dump_of old a new) a.0 → DumpsByTurn old d new
dumped_by_turn old new d a lends replied turn =
    let x : Entry Deed = record { seat = old.seat.now.known.seat; deed = dump_of old a new } in
    let leads = subst (λ h. Leads Turns old.lane.now.first h turn.value) turn.ends turn.leads in
    let last = last_turn old.lane.now.first turn.before x turn.value leads in
    record {
      lends = lends;
      deed = dump_of old a new;
      tag = refl;
      item = refl;
      before = refl;
      reply = replied;
      message = ap (λ (s : BacktraceScratch). s.message) last.2.after_is;
      index = a.0;
      turn = turn;
    }

-- what a turn replied that was to dump
pub dump_replied : (first : Room) (old new : Known Deed) (before after : BacktraceScratch) (a : ℕ × BacktraceReply)
    → TakesTurn Turns first old new (record { tag = 0; item = Dump; before = before; reply = a.1; after = after }) a.0
    → (u : Room) × (a.1 ≡ Dumped u) × (u.most ≡ first.most) × (u.limit ≡ first.limit)
dump_replied first old new before after a turn =
    let x : Entry Deed = record { seat = old.seat; deed = record { tag = 0; item = Dump; before = before; reply = a.1; after = after } } in
    let leads = subst (λ h. Leads Turns first h turn.value) turn.ends turn.leads in
    let last = last_turn first turn.before x turn.value leads in
    let stays = most_stays first turn.before last.0 last.1 in (last.0, last.2.reply_is, stays.0, stays.1)
