use Rattle.std.proofs.Common.{refl, subst, ◌∙◌}
use Rattle.alog_lane.specs.Calls.{TakesTurn}
use Rattle.alog_registry.specs.Turn.{Turns}
use Rattle.alog_registry.specs.declared.turn.BacktraceItem.TheVariants.{Keep}
use Rattle.alog_registry.specs.declared.turn.BacktraceScratch.{BacktraceScratch}
use Rattle.alog_registry.proofs.Keeping.{kept_by_turn}
use Rattle.alog_registry.proofs.keep.LaneKeeper.keep.Goals as goal

pub returns-clause-kept : goal.returns-clause-kept
returns-clause-kept g c =
    let old = c.args.self.now in
    let r = c.turn.result in
    let P : BacktraceScratch → Type 0 = λ s.
    TakesTurn Turns old.lane.now.first old.seat.now.known c.turn.new.seat.known
    (record { tag = 0; item = Keep; before = s; reply = r.1; after = c.turn.new.scratch }) r.0 in
    kept_by_turn old _ c.args.message r (record { lane = refl; seat = refl; scratch = refl })
    (subst P c.bring.ensures c.turn.ensures.turn)

pub returns-clause-list : goal.returns-clause-list
returns-clause-list g c = λ h. (returns-clause-kept g c).list ∙ h
