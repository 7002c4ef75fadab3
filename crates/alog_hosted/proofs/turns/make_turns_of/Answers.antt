use Rattle.std.proofs.Common.{◌≡◌, ◌∷◌, [], List, refl, sym, subst, ap, ◌∙◌, Bor}
use Rattle.std.specs.Prelude.{Option, drop}
use Rattle.alog_msg.specs.declared.item.Item.{Item}
use Rattle.alog_pool.specs.SinkSeat.{AreServable, places_of}
use Rattle.alog_pool.specs.Deeds.{Due, HaveMade, dues_by, given_by}
use Rattle.alog_pool.proofs.SharedRows.{place_lanes}
use Rattle.alog_pool.proofs.SharedTurning.{flush_servable}
use Rattle.alog_registry.specs.Listed.{spec_at}
use Rattle.alog_registry.specs.declared.logger.Spec.{Spec}
use Rattle.alog_registry.specs.declared.work.SinkDeed.{SinkDeed}
use Rattle.alog_hosted.specs.Owed.{MakesPart}
use Rattle.alog_hosted.proofs.Tries.{drop_nothing, dues_end, dues_past, dues_rest, part_all, part_held, part_more, part_none, still_alone}
use Rattle.alog_hosted.proofs.turns.make_turns_of.Goals.{in-Take, in-Flush}
use Rattle.alog_hosted.proofs.turns.make_turns_of.Goals as goal

pub returns-in_default-clause-turns : goal.returns-in_default-clause-turns
returns-in_default-clause-turns g c =
    let bs = c.args.places.now.items in
    subst (λ (o : Option Spec). MakesPart bs bs (drop c.args.from (dues_by o c.args.logger c.args.ticket c.args.item.now)) []) c.in_default.ensures.value
    (part_all (drop_nothing c.args.from) (part_none bs (drop c.args.from [])))

pub loop-place-init : goal.loop-place-init
loop-place-init g c = record { places = refl; line = c.requires.line; turns = part_none c.args.places.now.items _ }

pub returns-in_default-turn_of_work-clause-turns : goal.returns-in_default-turn_of_work-clause-turns
returns-in_default-turn_of_work-clause-turns g c =
    part_all (dues_end _ c.in-Some.spec.now c.args.logger c.args.ticket c.args.item.now c.loop-place.place c.in-Some.ensures.value
    (sym c.in_default-turn_of_work.ensures)) c.loop-place.invariant.turns

pub returns-in_default-turn_of_work-clause-places : goal.returns-in_default-turn_of_work-clause-places
returns-in_default-turn_of_work-clause-places g c = c.loop-place.invariant.places

pub returns-in_default-turn_of_work-clause-line : goal.returns-in_default-turn_of_work-clause-line
returns-in_default-turn_of_work-clause-line g c = c.loop-place.invariant.line

pub serve_at-requires-clause-lanes : goal.serve_at-requires-clause-lanes
serve_at-requires-clause-lanes g c =
    place_lanes c.args.places.now.items c.loop-place.places.items c.loop-place.invariant.places ∙ c.requires.lanes

pub serve_at-requires-clause-servable : goal.serve_at-requires-clause-servable
serve_at-requires-clause-servable g c =
    let places = places_of c.loop-place.places.items in
    elim c.match-turn.branch [
      | in-Take w ↦ subst (λ (z : Bor Item). AreServable z.now places) (sym w.given-is)
          (subst (λ (ps : _). AreServable c.args.item.now ps) (sym c.loop-place.invariant.places) c.requires.servable)
      | in-Flush w ↦ subst (λ (z : Bor Item). AreServable z.now places) (sym w.given-is) (flush_servable c.args.logger places)
    ]

pub serve_at-requires-clause-line : goal.serve_at-requires-clause-line
serve_at-requires-clause-line g c = c.loop-place.invariant.line

pub returns-in-Err-clause-turns : goal.returns-in-Err-clause-turns
returns-in-Err-clause-turns g c = part_held c.in-Err.ensures.held c.loop-place.invariant.turns

pub returns-in-Err-clause-parted : goal.returns-in-Err-clause-parted
returns-in-Err-clause-parted g c = λ is alone.
    c.in-Err.ensures.parted refl (still_alone c.args.places.now.items c.loop-place.places.items c.loop-place.invariant.places alone)

pub returns-in-Err-clause-places : goal.returns-in-Err-clause-places
returns-in-Err-clause-places g c = c.serve_at.ensures.places ∙ c.loop-place.invariant.places

pub loop-place-preserved : goal.loop-place-preserved
loop-place-preserved g c =
    let turn = c.in-Some-turn_of_work.turn in
    let given : c.match-turn.given.now ≡ given_by c.args.logger c.args.item.now turn.deed =
    elim c.match-turn.branch [
      | in-Take w ↦ ap (λ (z : Bor Item). z.now) w.given-is
          ∙ sym (ap (λ (d : SinkDeed). given_by c.args.logger c.args.item.now d) w.in-Take.is)
      | in-Flush w ↦ ap (λ (z : Bor Item). z.now) w.given-is
          ∙ sym (ap (λ (d : SinkDeed). given_by c.args.logger c.args.item.now d) w.in-Flush.is)
    ] in
    let next = subst (λ (x : Item). HaveMade 0 c.loop-place.places.items c.serve_at.new.places.items
    (record { sink = turn.sink; tag = turn.tag; item = x } ∷ [])) given c.in-Ok.ensures.turn in
    record {
      places = c.serve_at.ensures.places ∙ c.loop-place.invariant.places;
      line = c.serve_at.ensures.line;
      turns = part_more _
          (subst (λ (r : List Due). MakesPart c.args.places.now.items c.loop-place.places.items
          (drop c.args.from (dues_by (spec_at c.args.loggers.now c.args.logger) c.args.logger c.args.ticket c.args.item.now)) r)
          (dues_rest c.args.logger c.args.ticket c.args.item.now c.loop-place.place c.in-Some.ensures.value (sym c.in-Some-turn_of_work.ensures))
          c.loop-place.invariant.turns) next;
    }

pub returns-clause-turns : goal.returns-clause-turns
returns-clause-turns g c =
    part_all (dues_past _ c.in-Some.spec.now c.args.logger c.args.ticket c.args.item.now c.loop-place.place c.in-Some.ensures.value
    c.loop-place-test.false) c.loop-place.invariant.turns

pub returns-clause-places : goal.returns-clause-places
returns-clause-places g c = c.loop-place.invariant.places

pub returns-clause-line : goal.returns-clause-line
returns-clause-line g c = c.loop-place.invariant.line
