use Rattle.std.proofs.Common.{List, sym, subst, ap, ◌∙◌, ◌-◌, ◌≤◌, arith, length}
use Rattle.alog_msg.specs.Block.{BlockFields}
use Rattle.alog_msg.specs.declared.item.Item.{Item}
use Rattle.alog_pool.specs.Deeds.{HaveMade, all_dues}
use Rattle.alog_pool.specs.Gaps.{gap_item, gap_text}
use Rattle.alog_pool.specs.SinkSeat.{AreServable, places_of}
use Rattle.alog_pool.proofs.SharedDeeds.{have_none}
use Rattle.alog_pool.proofs.SharedGaps.{no_gap}
use Rattle.alog_pool.proofs.SharedWorked.{all_servable}
use Rattle.alog_pool.proofs.gaps.Gaps.say.Goals as goal

pub returns-then-missing-eq0-clause-turns : goal.returns-then-missing-eq0-clause-turns
returns-then-missing-eq0-clause-turns g c =
    let bs = c.args.sink_seats.now.items in
    let none = no_gap (c.args.ticket - c.args.self.now.next) c.args.ticket c.args.message.now
    (omega (arith, c.saturating_sub-missing.ensures, c.if-missing-eq0.true)) in
    subst (λ (l : List _). HaveMade 0 bs bs (all_dues c.args.loggers.now l)) (sym none) (have_none 0 bs)

pub make_turns-requires-clause-servable : goal.make_turns-requires-clause-servable
make_turns-requires-clause-servable g c =
    let places = places_of c.args.sink_seats.now.items in
    let limit = c.requires.places.0 in
    let m = c.args.message.now in
    let fits : length (gap_text c.saturating_sub-missing.result) ≤ limit = omega (arith, c.write.ensures.fits, c.requires.places.1) in
    subst (λ (x : Item). AreServable x places) (sym (c.item-text.ensures ∙ ap (λ (b : BlockFields). b.item) c.write.ensures.written))
    (all_servable limit (gap_item c.saturating_sub-missing.result m) places c.requires.places.2 fits (λ e. absurd (cc e)))
