use Rattle.std.proofs.Common.{◌≡◌, ◌≤◌, ◌+◌, ◌%◌, ◌^◌, true, false, ◌∷◌, ◌++◌, [], take, length, vec_capacity, ℕ, List, refl, sym, subst, ap, ◌∙◌, inl, inr}
use Rattle.std.specs.Arc.{arc_value}
use Rattle.alog_msg.specs.declared.item.Item.{Item}
use Rattle.alog_pool.specs.SinkSeat.{AreServable, places_of}
use Rattle.alog_pool.specs.Deeds.{HaveMade, all_dues, dues_of}
use Rattle.alog_pool.specs.Gaps.{gap_at, next_after, next_of, with_gaps}
use Rattle.alog_pool.proofs.SharedDeeds.{have_own, took_more, took_no_more}
use Rattle.alog_pool.proofs.SharedGaps.{made_for, made_for_stop, next_more, next_stop}
use Rattle.alog_pool.specs.declared.shared.Shared.{Shared}
use Rattle.alog_pool.proofs.SharedWorked.{took_nothing, took_work, took_stop, few_tickets, all_servable}
use Rattle.alog_pool.specs.Working.{AreLimited, IsWorkOf}
use Rattle.alog_registry.specs.Limit.{KeepsTo, HoldsTo}
use Rattle.alog_ring.specs.Known.{IsPassOf}
use Rattle.alog_pool.proofs.worker.Worker.goes_on.Goals as goal

pub take_waiting-requires-clause-ring : goal.take_waiting-requires-clause-ring
take_waiting-requires-clause-ring g c =
    let at_work = c.requires.1 in
    subst (λ (s : Shared). IsPassOf s.ring.ring c.args.self.now.pass) (sym (c.deref.ensures ∙ at_work.shared)) at_work.ring

pub take_waiting-requires-clause-faithful : goal.take_waiting-requires-clause-faithful
take_waiting-requires-clause-faithful g c = c.requires.1.work.faithful

pub take_waiting-requires-clause-block : goal.take_waiting-requires-clause-block
take_waiting-requires-clause-block g c =
    let at_work = c.requires.1 in
    subst (λ (s : Shared). HoldsTo s.ring.ring.limit c.args.self.now.block) (sym (c.deref.ensures ∙ at_work.shared)) at_work.block

pub take_waiting-requires-clause-line : goal.take_waiting-requires-clause-line
take_waiting-requires-clause-line g c = c.requires.1.line

pub flush_all-requires : goal.flush_all-requires
flush_all-requires g c = record { line = c.take_waiting.ensures.line }

pub note-requires-clause-room : goal.note-requires-clause-room
note-requires-clause-room g c =
    let at_work = c.requires.1 in
    subst (λ n. n ≤ vec_capacity c.args.self.now.tickets) (sym at_work.most) at_work.room

pub note-requires-clause-few : goal.note-requires-clause-few
note-requires-clause-few g c =
    let at_work = c.requires.1 in
    subst (λ n. length c.args.self.now.tickets.items ≤ n) (sym at_work.most) (few_tickets _ _ _ _ at_work.work)

pub handle-requires-clause-servable : goal.handle-requires-clause-servable
handle-requires-clause-servable g c =
    let t = c.in-Some.ticket in
    let x = c.take_waiting.new.block.item in
    let found = c.in-Some.ensures.finds in
    let at_work = c.requires.1 in
    let keeps = subst (λ (s : Shared). KeepsTo s.ring.ring.limit.most x) (c.deref.ensures ∙ at_work.shared) found.1 in
    let fits = all_servable _ x _ at_work.limits keeps (λ is. let e : false ≡ true = c.if-is_stop.ensures.1 (c.item.ensures ∙ is) in cc) in
    subst (λ (y : Item). AreServable y (places_of c.tell_gap.new.sink_seats.items)) (sym c.item-item.ensures)
    (subst (λ (ps : _). AreServable x ps) (sym (c.tell_gap.ensures.places ∙ (c.take_waiting.ensures.places ∙ at_work.places))) fits)

pub tell_gap-requires-clause-places : goal.tell_gap-requires-clause-places
tell_gap-requires-clause-places g c =
    let at_work = c.requires.1 in
    let limit = (arc_value c.requires.0.shared).ring.ring.limit.most in
    (limit, at_work.tells, subst (λ (ps : _). AreLimited limit ps) (sym (c.take_waiting.ensures.places ∙ at_work.places)) at_work.limits)

pub tell_gap-requires-clause-line : goal.tell_gap-requires-clause-line
tell_gap-requires-clause-line g c = c.take_waiting.ensures.line

pub returns-in_default : goal.returns-in_default
returns-in_default g c = λ start at_work turned.
    let ended = c.in_default.ensures.finds in
    let w = took_nothing _ _ _ _ _ at_work.work at_work.stops ended.0 in
    record {
      number = at_work.number;
      ring = subst (λ (s : Shared). IsPassOf s.ring.ring c.take_waiting.new.pass) (c.deref.ensures ∙ at_work.shared) c.take_waiting.ensures.ring;
      work = w.0;
      ended = inr (w.1, ended.1);
      turns = record {
        gots = turned.gots;
        next = turned.next;
        took = took_no_more start.pass.known c.args.self.now.pass.known c.take_waiting.new.pass.known turned.gots turned.took ended.0;
        turns = have_own start.sink_seats.items c.args.self.now.sink_seats.items c.take_waiting.new.sink_seats.items
            (all_dues (arc_value start.shared).loggers (with_gaps (next_of start.gaps) turned.gots)) turned.turns
            c.take_waiting.ensures.turns;
      };
      flushed = c.in_default.ensures.flushed refl;
      places = c.take_waiting.ensures.places ∙ at_work.places;
    }

pub returns-then-is_stop : goal.returns-then-is_stop
returns-then-is_stop g c = λ start at_work turned.
    let t = c.in-Some.ticket in
    let x = c.take_waiting.new.block.item in
    let found = c.in-Some.ensures.finds in
    let is = sym c.item.ensures ∙ c.if-is_stop.ensures.0 refl in
    let dues = all_dues (arc_value start.shared).loggers (with_gaps (next_of start.gaps) turned.gots) in
    let w = took_stop at_work.work at_work.stops found.0 is in
    record {
      number = at_work.number;
      ring = subst (λ (s : Shared). IsPassOf s.ring.ring c.take_waiting.new.pass) (c.deref.ensures ∙ at_work.shared) c.take_waiting.ensures.ring;
      work = w.0;
      ended = inl w.1;
      turns = record {
        gots = turned.gots ++ (t, x) ∷ [];
        took = took_more start.pass.known c.args.self.now.pass.known c.take_waiting.new.pass.known turned.gots ((t, x) ∷ []) turned.took
            found.0;
        next = next_stop (next_of start.gaps) turned.gots t x is turned.next;
        turns = made_for_stop (arc_value start.shared).loggers (next_of start.gaps) start.sink_seats.items
            c.flush_all.new.sink_seats.items turned.gots t x is
            (have_own start.sink_seats.items c.take_waiting.new.sink_seats.items c.flush_all.new.sink_seats.items dues
            (have_own start.sink_seats.items c.args.self.now.sink_seats.items c.take_waiting.new.sink_seats.items dues turned.turns
            c.take_waiting.ensures.turns) c.flush_all.ensures.turns);
      };
      flushed = c.flush_all.ensures.flushed;
      places = c.flush_all.ensures.places ∙ (c.take_waiting.ensures.places ∙ at_work.places);
    }

pub returns : goal.returns
returns g c = λ start at_work turned.
    let t = c.in-Some.ticket in
    let x = c.take_waiting.new.block.item in
    let old = c.args.self.now in
    let seats = c.take_waiting.new.sink_seats.items in
    let told = c.tell_gap.new.sink_seats.items in
    let found = c.in-Some.ensures.finds in
    let w = took_work at_work.work at_work.stops found.0
    (λ is. let e : false ≡ true = c.if-is_stop.ensures.1 (c.item.ensures ∙ is) in cc) in (
      record {
        shared = at_work.shared;
        ring = subst (λ (s : Shared). IsPassOf s.ring.ring c.take_waiting.new.pass) (c.deref.ensures ∙ at_work.shared)
            c.take_waiting.ensures.ring;
        work = subst (λ (ts : List ℕ). IsWorkOf start.most c.take_waiting.new.pass.known ts ((old.handled + 1) % 2 ^ 64))
            (sym (c.note.ensures.noted ∙ ap (λ n. take n (old.tickets.items ++ t ∷ [])) at_work.most)) w.0;
        stops = w.1;
        most = at_work.most;
        number = at_work.number;
        room = subst (λ n. start.most ≤ n) (sym c.note.ensures.room) at_work.room;
        line = c.handle.ensures.line;
        block = subst (λ (s : Shared). HoldsTo s.ring.ring.limit c.take_waiting.new.block) (c.deref.ensures ∙ at_work.shared)
            c.take_waiting.ensures.block;
        places = c.handle.ensures.places ∙ (c.tell_gap.ensures.places ∙ (c.take_waiting.ensures.places ∙ at_work.places));
        limits = at_work.limits;
        tells = c.tell_gap.ensures.block (arc_value start.shared).ring.ring.limit.most at_work.tells;
      },
      record {
        gots = turned.gots ++ (t, x) ∷ [];
        took = took_more start.pass.known old.pass.known c.take_waiting.new.pass.known turned.gots ((t, x) ∷ []) turned.took found.0;
        next = next_more (next_of start.gaps) turned.gots (t, x) turned.next
            (c.tell_gap.ensures.next ∙ ap (λ (z : Item). next_after (next_of old.gaps) t z) c.item-item.ensures);
        turns = made_for (arc_value start.shared).loggers (next_of start.gaps) start.sink_seats.items seats told c.handle.new.sink_seats.items
            turned.gots (t, x) turned.next
            (have_own start.sink_seats.items old.sink_seats.items seats
            (all_dues (arc_value start.shared).loggers (with_gaps (next_of start.gaps) turned.gots)) turned.turns c.take_waiting.ensures.turns)
            (subst (λ (z : Shared × Item). HaveMade 0 seats told (all_dues z.0.loggers (gap_at (next_of old.gaps) t z.1)))
            (λ i. ((c.deref-2.ensures ∙ at_work.shared) i, c.item-item.ensures i)) c.tell_gap.ensures.turns)
            (subst (λ (z : Shared × Item). HaveMade 0 told c.handle.new.sink_seats.items (dues_of z.0.loggers t z.1))
            (λ i. ((c.deref-3.ensures ∙ at_work.shared) i, c.item-item.ensures i)) c.handle.ensures.turns);
      },
    )
