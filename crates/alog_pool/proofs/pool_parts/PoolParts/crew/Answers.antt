use Rattle.std.proofs.Common.{◌≡◌, ◌∷◌, [], length, length-append, map, ap, sym, subst, ◌∙◌, arith}
use Rattle.std.proofs.lemmas.List.{length-map}
use Rattle.std.specs.Arc.{arc_value}
use Rattle.std.specs.List.{AllByRecursion, range_with_len}
use Rattle.alog_pool.specs.Pool.{Begins, Stands, lanes_of}
use Rattle.alog_pool.specs.Working.{numbers_of}
use Rattle.alog_pool.proofs.SharedHiring.{number_more}
use Rattle.alog_pool.proofs.SharedSharing.{all_map_more}
use Rattle.alog_pool.proofs.pool_parts.PoolParts.crew.Goals as goal

pub loop-number-preserved : goal.loop-number-preserved
loop-number-preserved g c =
    let i = c.loop-number.invariant in
    let n = c.loop-number.number in
    let self = c.args.self.now in
    let parts = c.loop-number.self in
    let below = c.loop-number-test.true in
    let end = i.end in
    let most = c.requires.workers in
    let h = c.in-Ok.ensures.hires n i.stands (omega (arith, below, end, most)) in
    let worker = c.in-Ok.worker in
    let begins = subst (λ s. Begins s (lanes_of self.sink_seats.items) self.tickets_max worker.promise.start.value) i.shared
    (subst (λ l. Begins (arc_value parts.shared) l self.tickets_max worker.promise.start.value) i.lanes
    (subst (λ m. Begins (arc_value parts.shared) (lanes_of parts.sink_seats.items) m worker.promise.start.value)
    i.most h.begins)) in
    let longer = ap (λ l. length l) c.push_reserved.ensures.items ∙ length-append c.loop-number.workers.items (worker ∷ []) in
    let count = i.count in
    let room = i.room in
    let told = c.in-Ok.ensures.number in
    record {
      stands = h.stands;
      block = c.in-Ok.ensures.block;
      shared = h.shared ∙ i.shared;
      lanes = h.lanes ∙ i.lanes;
      backtrace_seats = h.backtrace_seats ∙ i.backtrace_seats;
      most = h.kept.0 ∙ i.most;
      limit = h.kept.1 ∙ i.limit;
      workers = h.kept.2 ∙ i.workers;
      began = subst (λ l. AllByRecursion (Begins (arc_value self.shared) (lanes_of self.sink_seats.items) self.tickets_max)
          (map (λ w. w.promise.start.value) l)) (sym c.push_reserved.ensures.items)
          (all_map_more (λ w. w.promise.start.value) (Begins (arc_value self.shared) (lanes_of self.sink_seats.items) self.tickets_max)
          c.loop-number.workers.items worker i.began begins);
      count = omega (arith, longer, count);
      numbers = ap (λ l. numbers_of (map (λ w. w.promise.start.value) l)) c.push_reserved.ensures.items
          ∙ number_more (λ w. w.promise.start.value) c.loop-number.workers.items worker n i.numbers (omega (arith, told, below, most));
      within = omega (arith, below);
      end = i.end;
      room = omega (arith, room, c.push_reserved.ensures.capacity);
    }

pub returns-clause-crew : goal.returns-clause-crew
returns-clause-crew g c =
    let i = c.loop-number.invariant in
    let self = c.args.self.now in
    let workers = c.loop-number.workers.items in
    let crew = map (λ w. w.promise.start.value) workers in
    let below = i.within in
    let end = i.end in
    let done = c.loop-number-test.false in
    let count = i.count in
    let long = length-map workers (λ w. w.promise.start.value) in
    let all : c.loop-number.number ≡ self.workers = omega (arith, end, below, done) in
    let many : c.loop-number.number ≡ length crew = omega (arith, long, count) in
    record {
      stands = subst (λ n. Stands n c.loop-number.self) many i.stands;
      shared = i.shared;
      lanes = i.lanes;
      backtrace_seats = i.backtrace_seats;
      kept = (i.most, i.limit, i.workers);
      began = i.began;
      all = omega (arith, many, all);
      numbers = i.numbers ∙ ap (λ n. range_with_len 0 n) all;
    }
