use Rattle.std.proofs.Common.{ℕ, refl, sym, subst, ◌∙◌}
use Rattle.alog_lane.specs.Calls.{TakesTurn}
use Rattle.alog_registry.specs.Turn.{Turns}
use Rattle.alog_registry.specs.declared.turn.BacktraceItem.TheVariants.{Keep}
use Rattle.alog_registry.specs.declared.turn.BacktraceReply.{BacktraceReply}
use Rattle.alog_registry.specs.declared.turn.BacktraceScratch.{BacktraceScratch}
use Rattle.alog_registry.proofs.Keeping.{told, kept_by_turn}
use Rattle.alog_registry.proofs.keep.LaneKeeperKeep.keep_now.Goals as goal

pub returns-else-not-kept-clause-kept : goal.returns-else-not-kept-clause-kept
returns-else-not-kept-clause-kept c =
    let old = c.args.self.now in
    let m = c.args.message in
    let ok = sym c.is_ok-kept.ensures.value ∙ c.if-not-kept.false in
    let P : BacktraceScratch → ℕ × BacktraceReply → Type 0 = λ s r.
    TakesTurn Turns old.lane.now.first old.seat.now.known c.turn_once.new.seat.known
    (record { tag = 0; item = Keep; before = s; reply = r.1; after = c.turn_once.new.scratch }) r.0 in
    let one = told (P c.bring.new.self) c.turn_once.result ok c.turn_once.ensures.turn in
    let turn = subst (λ s. P s one.0) c.bring.ensures one.1 in
    rw c.if-not-kept.false (kept_by_turn old _ m one.0 (record { lane = refl; seat = refl; scratch = refl }) turn)
