use Rattle.std.proofs.Common.{◌≡◌, ◌+◌, ◌%◌, ◌^◌, ℕ, List, [], ◌∷◌, ◌++◌, map, length, length-append, append_assoc, refl, ap, sym, subst, ◌∙◌, arith}
use Rattle.std.proofs.lemmas.List.{length-map}
use Rattle.std.specs.Prelude.{Vec}
use Rattle.std.specs.List.{AllByRecursion}
use Rattle.std.specs.Vec.Iter.{into_iter_items}
use Rattle.std.specs.declared.alloc.Global.{Global}
use Rattle.alog_hosted.specs.Closing.{AreAtLimit, Collects, halves_of, owed_in}
use Rattle.alog_hosted.specs.Owed.{owed_of}
use Rattle.alog_hosted.specs.Workers.{WorkerView}
use Rattle.alog_hosted.specs.declared.blank.Half.{Half}
use Rattle.alog_pool.specs.Pool.{lanes_of}
use Rattle.alog_pool.specs.declared.shared.Shared.{Shared}
use Rattle.alog_pool.proofs.SharedRows.{each_lane, rows_lanes, rows_start}
use Rattle.alog_pool.proofs.SharedBack.{back_starts}
use Rattle.alog_pool.proofs.SharedSharing.{all_next}
use Rattle.alog_hosted.proofs.AllEnded.{took_limits}
use Rattle.alog_core.specs.Accounts.{takes}
use Rattle.alog_hosted.proofs.Handling.{owes_last}
use Rattle.alog_hosted.proofs.Closings.{collects_more, few_halves, front_next, limit_halves, owed_halves, was_worker}
use Rattle.alog_hosted.proofs.disband.collect.Goals as goal
use Rattle.alog_registry.specs.Limit.{KeepsTo}
use Rattle.alog_ring.specs.Known.{IsPassOf}

pub loop-worker-init : goal.loop-worker-init
loop-worker-init g c = record {
  done = [];
  front = sym c.into_iter-rest.ensures.rest;
  ring = c.requires.ring;
  collects = record {
    passes = back_starts c.args.pass.now.known c.requires.faithful;
    places_are = rows_start c.args.places.now.items c.requires.unused;
    tickets_are = ap (λ (l : List (Vec ℕ Global)). map (λ (v : Vec ℕ Global). v.items) l) c.requires.tickets.0;
    handled_is = refl;
    owed = ap (λ (l : List Half). owed_in c.args.shared.now.loggers l) c.requires.halves.0;
    limits = subst (λ (l : List Half). AllByRecursion (AreAtLimit c.args.shared.now.ring.ring.limit.most) l) (sym c.requires.halves.0) tt;
    worked = tt;
  };
  limits = refl;
  few = let none = ap (λ (l : List Half). length l) c.requires.halves.0 in omega (arith, none);
  tickets_room = c.requires.tickets.1;
  halves_room = c.requires.halves.1;
}

pub join-requires-clause-other : goal.join-requires-clause-other
join-requires-clause-other g c =
    let W : Type 0 = WorkerView g.row.S.Denot in
    let i = c.loop-worker.invariant in
    let new = into_iter_items c.next.new.self in
    let front = front_next {X = W} c.args.workers.items i.done (into_iter_items c.loop-worker.rest) c.in-Some.worker new i.front
    c.in-Some.ensures.items in
    let P : W → Type 0 = λ w. (w.shared ≡ c.args.shared.now) × (lanes_of w.places ≡ c.args.lanes.now) in
    let own = all_next P i.done c.in-Some.worker new (subst (λ (l : List W). AllByRecursion P l) front c.requires.own) in
    subst (λ (s : Shared). IsPassOf s.ring.ring c.worker.inside.pass) (ap (λ (v : W). v.shared) c.worker.view_is ∙ own.0)
    c.worker.invariant.0.ring

pub take_all_back-requires-clause-lanes : goal.take_all_back-requires-clause-lanes
take_all_back-requires-clause-lanes g c =
    let W : Type 0 = WorkerView g.row.S.Denot in
    let i = c.loop-worker.invariant in
    rows_lanes c.args.places.now.items c.loop-worker.places.items (map (λ (w : W). w.places) i.done) i.collects.places_are ∙ c.requires.lanes

pub take_all_back-requires-clause-same : goal.take_all_back-requires-clause-same
take_all_back-requires-clause-same g c =
    let W : Type 0 = WorkerView g.row.S.Denot in
    let i = c.loop-worker.invariant in
    let new = into_iter_items c.next.new.self in
    let front = front_next {X = W} c.args.workers.items i.done (into_iter_items c.loop-worker.rest) c.in-Some.worker new i.front
    c.in-Some.ensures.items in
    let P : W → Type 0 = λ w. (w.shared ≡ c.args.shared.now) × (lanes_of w.places ≡ c.args.lanes.now) in
    let own = all_next P i.done c.in-Some.worker new (subst (λ (l : List W). AllByRecursion P l) front c.requires.own) in
    let here = rows_lanes c.args.places.now.items c.loop-worker.places.items (map (λ (w : W). w.places) i.done) i.collects.places_are
    ∙ c.requires.lanes in
    each_lane c.loop-worker.places.items c.worker.inside.places.items
    (ap (λ (v : W). lanes_of v.places) c.worker.view_is ∙ own.1 ∙ sym here)

pub push_reserved-requires : goal.push_reserved-requires
push_reserved-requires g c =
    let W : Type 0 = WorkerView g.row.S.Denot in
    let i = c.loop-worker.invariant in
    let more = ap length i.front ∙ length-append i.done (into_iter_items c.loop-worker.rest) in
    let first = ap length c.in-Some.ensures.items in
    let listed = sym (length-map c.loop-worker.tickets.items (λ (v : Vec ℕ Global). v.items))
    ∙ ap (λ (l : List (List ℕ)). length l) i.collects.tickets_are ∙ length-map i.done (λ (w : W). w.tickets) in
    let room = i.tickets_room in
    omega (arith, more, first, listed, room, c.loop-worker.tickets.ok.0)

pub keep_half-requires : goal.keep_half-requires
keep_half-requires g c =
    let i = c.loop-worker.invariant in
    let more = ap length i.front ∙ length-append i.done (into_iter_items c.loop-worker.rest) in
    let first = ap length c.in-Some.ensures.items in
    let few = i.few in
    let room = i.halves_room in
    record { room = omega (arith, more, first, few, room) }

pub loop-worker-preserved : goal.loop-worker-preserved
loop-worker-preserved g c =
    let W : Type 0 = WorkerView g.row.S.Denot in
    let V : Type 0 = Vec ℕ Global in
    let i = c.loop-worker.invariant in
    let p = c.in-Some.worker in
    let inside = c.worker.inside in
    let is = c.worker.invariant.0 in
    let shared : Shared = c.args.shared.now in
    let new = into_iter_items c.next.new.self in
    let front = front_next {X = W} c.args.workers.items i.done (into_iter_items c.loop-worker.rest) c.in-Some.worker new i.front
    c.in-Some.ensures.items in
    let P : W → Type 0 = λ w. (w.shared ≡ c.args.shared.now) × (lanes_of w.places ≡ c.args.lanes.now) in
    let own = all_next P i.done p new (subst (λ (l : List W). AllByRecursion P l) front c.requires.own) in
    let same = ap (λ (v : W). v.shared) c.worker.view_is ∙ own.0 in
    let keeps = subst (λ (s : Shared). KeepsTo s.ring.ring.limit.most inside.block.item) same is.block_fits.1 in
    let all = (c.loop-worker.all + inside.handled) % 2 ^ 64 in
    let halves = c.loop-worker.halves.items ++ halves_of inside.block inside.owed in
    let noted = c.loop-worker.tickets.items ++ inside.tickets ∷ [] in
    let pass = c.join.new.pass.known in
    let places = c.take_all_back.new.places.items in
    let old = c.args.places.now.items in
    let known = c.args.pass.now.known in
    let more = collects_more shared i.done known c.loop-worker.pass.known pass old c.loop-worker.places.items places
    c.loop-worker.tickets.items c.loop-worker.halves.items c.loop-worker.all inside.tickets (halves_of inside.block inside.owed)
    _ i.collects (record {
      joins = c.join.ensures.joined;
      takes = c.take_all_back.ensures;
      noted_are = refl;
      owed = owed_halves shared.loggers inside.block inside.owed
          ∙ sym (ap (λ (s : Shared). owed_of s.loggers inside.owed inside.block.item) same);
      limits = limit_halves shared.ring.ring.limit.most inside.block inside.owed keeps;
      was = was_worker _ inside.block is
          (owes_last inside.shared.value.loggers (takes inside.pass.known.own) inside.owed inside.block.item c.worker.invariant.3);
    }) in
    let few = i.few in
    let halves_are = ap (λ (l : List Half). length l) c.keep_half.ensures.kept
    ∙ length-append c.loop-worker.halves.items (halves_of inside.block inside.owed) in
    let one = few_halves inside.block inside.owed in
    let long = length-append i.done (p ∷ []) in
    record {
      done = i.done ++ p ∷ [];
      front = front ∙ sym {A = List W} (append_assoc i.done (p ∷ []) new);
      ring = c.join.ensures.ring;
      collects = subst (λ (hs : List Half). Collects shared (i.done ++ p ∷ []) known pass old places c.push_reserved.new.self.items hs all)
          (sym {A = List Half} c.keep_half.ensures.kept)
          (subst (λ (ts : List V). Collects shared (i.done ++ p ∷ []) known pass old places ts halves all)
          (sym {A = List V} c.push_reserved.ensures.items)
          (subst (λ (w : W). Collects shared (i.done ++ w ∷ []) known pass old places noted halves all) c.worker.view_is more));
      limits = took_limits _ _ _ c.take_all_back.ensures ∙ i.limits;
      few = omega (arith, few, halves_are, one, long);
      tickets_room = let room = i.tickets_room in omega (arith, room, c.push_reserved.ensures.capacity);
      halves_room = let room = i.halves_room in omega (arith, room, c.keep_half.ensures.room);
    }

pub returns-clause-limits : goal.returns-clause-limits
returns-clause-limits g c = c.loop-worker.invariant.limits
