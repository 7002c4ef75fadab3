use Rattle.std.proofs.Common.{ℕ, List, [], ◌∷◌, ◌++◌, map, length, length-append, refl, ap, sym, subst, ◌∙◌, arith}
use Rattle.std.proofs.lemmas.List.{map-append, length-map}
use Rattle.std.specs.Prelude.{Vec}
use Rattle.std.specs.List.{AllByRecursion}
use Rattle.std.specs.Vec.Iter.{into_iter_items}
use Rattle.std.specs.declared.alloc.Global.{Global}
use Rattle.std.specs.declared.thread.PromisedHandle.{PromisedHandle}
use Rattle.alog_core.proofs.SharedCalls.{given_front}
use Rattle.alog_msg.specs.declared.item.Item.{Item}
use Rattle.alog_pool.specs.Back.{HasBack, worker_member}
use Rattle.alog_pool.specs.SinkSeat.{SinkSeatView}
use Rattle.alog_pool.specs.Collected.{HaveBack}
use Rattle.alog_pool.specs.Places.{Each2}
use Rattle.alog_pool.specs.Pool.{Begins, lanes_of}
use Rattle.alog_pool.specs.Working.{HasWorked}
use Rattle.alog_pool.specs.declared.worker.Worker.{Worker}
use Rattle.alog_pool.specs.declared.shared.Shared.{Shared}
use Rattle.alog_pool.specs.declared.works.Works.{Works}
use Rattle.alog_pool.proofs.SharedBack.{back_starts, back_one, sum_more}
use Rattle.alog_pool.proofs.SharedRows.{each_lane, ones, place_lanes, rows_lanes, rows_more, rows_start}
use Rattle.alog_pool.proofs.SharedSharing.{all_map_next, each2_length, each2_more}
use Rattle.alog_pool.proofs.shutdown.collect.Goals as goal
use Rattle.alog_registry.specs.BlockPort.{block_note}
use Rattle.alog_ring.specs.Known.{IsPassOf, Member}

pub loop-worker-init : goal.loop-worker-init
loop-worker-init g c = record {
  ring = c.requires.ring;
  collects = record {
    crew = [];
    worked = tt;
    passes = back_starts c.args.pass.now.known c.requires.faithful;
    places = rows_start c.args.sink_seats.now.items c.requires.unused;
    tickets_are = ap (λ (l : List (Vec ℕ Global)). map (λ (v : Vec ℕ Global). v.items) l) c.requires.room.0;
    handled_is = refl;
  };
  room = c.requires.room.1;
}

pub join-requires-clause-other : goal.join-requires-clause-other
join-requires-clause-other g c =
    let S = g.row.S.Denot in
    let W : Type 0 = PromisedHandle (Worker S) (Works S) in
    let yielded = c.loop-worker.yielded in
    let front = given_front c.into_iter-worker-iterator.result yielded c.loop-worker.worker-iterator c.loop-worker.yielded_by in
    let all = sym c.into_iter-worker-iterator.ensures.into_iter_gives.0 ∙ front ∙ ap (λ (l : List W). yielded ++ l) c.in-Some.ensures.steps.0 in
    let f : W → Worker S = λ h. h.promise.start.value in
    let P : Worker S → Type 0 = Begins c.args.shared.now (lanes_of c.args.sink_seats.now.items) c.requires.began.0 in
    let begins = all_map_next f P yielded c.in-Some.worker _ (subst (λ (l : List W). AllByRecursion P (map f l)) all c.requires.began.1) in
    subst (λ (s : Shared). IsPassOf s.ring.ring c.join-own.result.pass) begins.shares c.join-own.ensures.ring

pub take_all_back-requires : goal.take_all_back-requires
take_all_back-requires g c =
    let S = g.row.S.Denot in
    let W : Type 0 = PromisedHandle (Worker S) (Works S) in
    let yielded = c.loop-worker.yielded in
    let front = given_front c.into_iter-worker-iterator.result yielded c.loop-worker.worker-iterator c.loop-worker.yielded_by in
    let all = sym c.into_iter-worker-iterator.ensures.into_iter_gives.0 ∙ front ∙ ap (λ (l : List W). yielded ++ l) c.in-Some.ensures.steps.0 in
    let f : W → Worker S = λ h. h.promise.start.value in
    let P : Worker S → Type 0 = Begins c.args.shared.now (lanes_of c.args.sink_seats.now.items) c.requires.began.0 in
    let begins = all_map_next f P yielded c.in-Some.worker _ (subst (λ (l : List W). AllByRecursion P (map f l)) all c.requires.began.1) in
    let collected = c.loop-worker.invariant.collects in
    each_lane c.loop-worker.sink_seats.items c.join-own.result.sink_seats.items
    (place_lanes (f c.in-Some.worker).sink_seats.items c.join-own.result.sink_seats.items c.join-own.ensures.places ∙ begins.lanes_are
    ∙ sym (rows_lanes c.args.sink_seats.now.items c.loop-worker.sink_seats.items (map (λ (h : Worker S). h.sink_seats.items) collected.crew)
    collected.places))

pub push_reserved-requires : goal.push_reserved-requires
push_reserved-requires g c =
    let S = g.row.S.Denot in
    let W : Type 0 = PromisedHandle (Worker S) (Works S) in
    let f : W → Worker S = λ h. h.promise.start.value in
    let yielded = c.loop-worker.yielded in
    let front = given_front c.into_iter-worker-iterator.result yielded c.loop-worker.worker-iterator c.loop-worker.yielded_by in
    let more = ap length (sym c.into_iter-worker-iterator.ensures.into_iter_gives.0 ∙ front)
    ∙ length-append yielded (into_iter_items c.loop-worker.worker-iterator) in
    let first = ap length c.in-Some.ensures.steps.0 in
    let collected = c.loop-worker.invariant.collects in
    let many = each2_length HasWorked (map f yielded) collected.crew collected.worked ∙ length-map yielded f in
    let listed = sym (length-map c.loop-worker.tickets.items (λ (v : Vec ℕ Global). v.items))
    ∙ ap (λ (l : List (List ℕ)). length l) collected.tickets_are ∙ length-map collected.crew (λ (h : Worker S). h.tickets.items) in
    let room = c.loop-worker.invariant.room in
    omega (arith, more, first, many, listed, room, c.loop-worker.tickets.ok.0)

pub loop-worker-preserved : goal.loop-worker-preserved
loop-worker-preserved g c =
    let S = g.row.S.Denot in
    let W : Type 0 = PromisedHandle (Worker S) (Works S) in
    let f : W → Worker S = λ h. h.promise.start.value in
    let yielded = c.loop-worker.yielded in
    let front = given_front c.into_iter-worker-iterator.result yielded c.loop-worker.worker-iterator c.loop-worker.yielded_by in
    let all = sym c.into_iter-worker-iterator.ensures.into_iter_gives.0 ∙ front ∙ ap (λ (l : List W). yielded ++ l) c.in-Some.ensures.steps.0 in
    let P : Worker S → Type 0 = Begins c.args.shared.now (lanes_of c.args.sink_seats.now.items) c.requires.began.0 in
    let begins = all_map_next f P yielded c.in-Some.worker _ (subst (λ (l : List W). AllByRecursion P (map f l)) all c.requires.began.1) in
    let collected = c.loop-worker.invariant.collects in
    let crew = collected.crew in
    let worker = c.join-own.result in
    let M : Type 0 = Member Item block_note in
    let V : Type 0 = Vec ℕ Global in
    let room = c.loop-worker.invariant.room in
    record {
      ring = c.join-in-loop-worker-2.ensures.ring;
      collects = record {
        crew = crew ++ worker ∷ [];
        worked = subst (λ (l : List (Worker S)). Each2 HasWorked l (crew ++ worker ∷ [])) (sym (map-append f yielded (c.in-Some.worker ∷ [])))
            (each2_more HasWorked (map f yielded) crew (f c.in-Some.worker) worker collected.worked c.join-own.ensures);
        passes = subst (λ (l : List M). HasBack c.args.pass.now.known c.join-in-loop-worker-2.new.pass.known l)
            (sym (map-append (λ (h : Worker S). worker_member h) crew (worker ∷ [])))
            (back_one collected.passes c.join-in-loop-worker-2.ensures.joined c.join-own.ensures.work.joined c.join-own.ensures.work.parts);
        places = subst (λ (l : List (List (SinkSeatView S))). HaveBack c.args.sink_seats.now.items c.take_all_back.new.sink_seats.items l)
            (sym (map-append (λ (h : Worker S). h.sink_seats.items) crew (worker ∷ [])))
            (rows_more c.args.sink_seats.now.items c.loop-worker.sink_seats.items c.take_all_back.new.sink_seats.items worker.sink_seats.items
            (map (λ (h : Worker S). h.sink_seats.items) crew) collected.places c.take_all_back.ensures
            (ones (f c.in-Some.worker).sink_seats.items worker.sink_seats.items c.join-own.ensures.places begins.seats));
        tickets_are = ap (λ (l : List V). map (λ (v : V). v.items) l) c.push_reserved.ensures.items
            ∙ map-append (λ (v : V). v.items) c.loop-worker.tickets.items (worker.tickets ∷ [])
            ∙ (λ i. collected.tickets_are i ++ worker.tickets.items ∷ [])
            ∙ sym (map-append (λ (h : Worker S). h.tickets.items) crew (worker ∷ []));
        handled_is = sum_more (λ (h : Worker S). h.handled) crew worker c.loop-worker.all collected.handled_is;
      };
      room = omega (arith, room, c.push_reserved.ensures.capacity);
    }
