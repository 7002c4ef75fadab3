use Rattle.std.proofs.Common.{◌-◌, ◌^◌, ◌+◌, min, false, rules, refl, sym, subst, ◌∙◌, ap}
use Rattle.alog_lane.specs.Calls.{LaneId, TakesTurn}
use Rattle.alog_sink.specs.Sinks.{Turns}
use Rattle.alog_sink.specs.declared.sink.Sink.{Sink}
use Rattle.alog_pool.specs.SinkSeat.{SinkSeatView, Serves, is_fan, unflushed_after, unflushed_by}
use Rattle.alog_pool.proofs.SharedFlushed.{unflushed-more}
use Rattle.alog_pool.proofs.SharedTurning.{same_capacity}
use Rattle.alog_hosted.proofs.sink_place.SinkPlace.serve_once.Goals as goal

pub invariant_of-self : goal.invariant_of-self
invariant_of-self g c =
    let i = c.self.inside in
    let made = c.in-Ok.ensures.turn.made.own in
    let fan = is_fan i.lane.value.first in
    let more = ap (λ h. unflushed_after fan false h) made ∙ unflushed-more fan false i.seat.known.own _ in
    let owes = c.is_unflushed-self-inside.ensures
    ∙ (λ j. unflushed_by (c.self.invariant.2 j) (c.self.invariant.3 j) c.args.item.now c.in-Ok.reply) ∙ sym more in
    let lane = c.requires.lane ∙ sym (ap (λ (v : SinkSeatView g.row.S.Denot). v.lane) c.self.view_is) in
    search (rules, owes, lane)

pub returns-in-Ok-clause-serves : goal.returns-in-Ok-clause-serves
returns-in-Ok-clause-serves g c =
    let i = c.self.inside in
    let T = Turns g.S.Store.tells g.S.Store.files g.S.Store.failures in
    let lane = c.requires.lane ∙ sym (ap (λ (v : SinkSeatView g.row.S.Denot). v.lane) c.self.view_is) in
    let new : SinkSeatView g.row.S.Denot =
    record {
      lane = i.lane.value;
      seat = c.turn_once.new.seat;
      faults = c.saturating_add-self-inside.result;
      limit = i.text_limit;
    } in
    subst (λ (v : SinkSeatView g.row.S.Denot). Serves g.S.Store.tells g.S.Store.files g.S.Store.failures v c.args.tag c.args.item.now new) c.self.view_is
    (record {
      lane = refl;
      limit = refl;
      deed = _;
      tag_is = refl;
      item_is = refl;
      index = c.in-Ok.field-0-0;
      turn = subst (λ (l : LaneId (Sink g.row.S.Denot)). TakesTurn T l.first i.seat.known c.turn_once.new.seat.known
          (record { tag = c.args.tag; item = c.args.item.now; before = c.args.line.now; reply = c.in-Ok.reply; after = c.turn_once.new.scratch })
          c.in-Ok.field-0-0) lane c.in-Ok.ensures.turn;
      faults = c.saturating_add-self-inside.ensures ∙ ap (λ n. min (i.faults + n) (2 ^ 64 - 1)) c.fault_in.ensures;
    })

pub returns-in-Ok-clause-line : goal.returns-in-Ok-clause-line
returns-in-Ok-clause-line g c =
    same_capacity g.S.Store.tells g.S.Store.files g.S.Store.failures _ _ _ _ _ c.in-Ok.ensures.turn ∙ c.requires.line
