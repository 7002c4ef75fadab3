use Rattle.std.proofs.Common.{◌≡◌, ◌∷◌, [], List, refl, sym, subst, ap, ◌∙◌, Bor}
use Rattle.alog_msg.specs.declared.item.Item.{Item}
use Rattle.alog_pool.specs.SinkSeat.{AreServable, places_of}
use Rattle.alog_pool.specs.Deeds.{Due, HaveMade, dues_by, given_by}
use Rattle.alog_pool.proofs.SharedDeeds.{have_none, have_then, dues_next, dues_whole}
use Rattle.alog_pool.proofs.SharedTurning.{flush_servable}
use Rattle.alog_registry.specs.declared.logger.Spec.{Spec}
use Rattle.alog_registry.specs.declared.work.SinkDeed.{SinkDeed}
use Rattle.std.specs.Prelude.{Option}
use Rattle.alog_pool.proofs.worker.make_turns.Goals.{in-Take, in-Flush}
use Rattle.alog_pool.proofs.worker.make_turns.Goals as goal

pub returns-in_default-clause-turns : goal.returns-in_default-clause-turns
returns-in_default-clause-turns g c =
    let bs = c.args.sink_seats.now.items in
    subst (λ (o : Option Spec). HaveMade 0 bs bs (dues_by o c.args.logger c.args.ticket c.args.item.now)) c.in_default.ensures.value
    (have_none 0 bs)

pub loop-place-init : goal.loop-place-init
loop-place-init g c = record { places = refl; line = c.requires.line; turns = have_none 0 c.args.sink_seats.now.items }

pub serve_at-requires-clause-servable : goal.serve_at-requires-clause-servable
serve_at-requires-clause-servable g c =
    let places = places_of c.loop-place.sink_seats.items in
    elim c.match-turn.branch [
      | in-Take w ↦ subst (λ (z : Bor Item). AreServable z.now places) (sym w.given-is)
          (subst (λ (ps : _). AreServable c.args.item.now ps) (sym c.loop-place.invariant.places) c.requires.servable)
      | in-Flush w ↦ subst (λ (z : Bor Item). AreServable z.now places) (sym w.given-is) (flush_servable c.args.logger places)
    ]

pub returns-in_default-turn_of_work-clause-turns : goal.returns-in_default-turn_of_work-clause-turns
returns-in_default-turn_of_work-clause-turns g c =
    subst (λ (l : List Due). HaveMade 0 c.args.sink_seats.now.items c.loop-place.sink_seats.items l)
    (dues_whole _ c.in-Some.spec.now c.args.logger c.args.ticket c.args.item.now c.loop-place.place c.in-Some.ensures.value
    (sym c.in_default-turn_of_work.ensures)) c.loop-place.invariant.turns

pub loop-place-preserved : goal.loop-place-preserved
loop-place-preserved g c =
    let turn = c.in-Some-turn_of_work.turn in
    let given : c.match-turn.given.now ≡ given_by c.args.logger c.args.item.now turn.deed =
    elim c.match-turn.branch [
      | in-Take w ↦ ap (λ (z : Bor Item). z.now) w.given-is
          ∙ sym (ap (λ (d : SinkDeed). given_by c.args.logger c.args.item.now d) w.in-Take.is)
      | in-Flush w ↦ ap (λ (z : Bor Item). z.now) w.given-is
          ∙ sym (ap (λ (d : SinkDeed). given_by c.args.logger c.args.item.now d) w.in-Flush.is)
    ] in
    let next = subst (λ (x : Item). HaveMade 0 c.loop-place.sink_seats.items c.serve_at.new.sink_seats.items
    (record { sink = turn.sink; tag = turn.tag; item = x } ∷ [])) given c.serve_at.ensures.turn in
    record {
      places = c.serve_at.ensures.places ∙ c.loop-place.invariant.places;
      line = c.serve_at.ensures.line;
      turns = subst (λ (l : List Due). HaveMade 0 c.args.sink_seats.now.items c.serve_at.new.sink_seats.items l)
          (sym (dues_next c.args.logger c.args.ticket c.args.item.now c.loop-place.place c.in-Some.ensures.value
          (sym c.in-Some-turn_of_work.ensures)))
          (have_then 0 c.args.sink_seats.now.items c.loop-place.sink_seats.items c.serve_at.new.sink_seats.items _ _ c.loop-place.invariant.turns next);
    }
