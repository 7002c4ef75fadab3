use Rattle.std.proofs.Common.{◌≤◌, ◌+◌, ℕ, List, [], ◌∷◌, ◌++◌, map, length, length-append, append_assoc, sym, ap, subst, ◌∙◌, arith}
use Rattle.std.specs.Prelude.{Option}
use Rattle.std.specs.List.{AllByRecursion}
use Rattle.std.specs.Option.{option_or}
use Rattle.std.specs.Vec.Iter.{into_iter_items}
use Rattle.std.proofs.lemmas.List.{map-append}
use Rattle.alog_core.proofs.SharedCalls.{no_more}
use Rattle.alog_pool.proofs.SharedSharing.{all_more}
use Rattle.alog_pool.specs.Producer.{ProducerView}
use Rattle.alog_server.specs.Ends.{first_error}
use Rattle.alog_server.specs.declared.seats.Seat.{Seat}
use Rattle.alog_server.proofs.SharedEnding.{first_more}
use Rattle.alog_server.proofs.seats.rise_all.Goals as goal

pub push_reserved-requires : goal.push_reserved-requires
push_reserved-requires g c =
    let i = c.loop-seat.invariant in
    let all = ap length i.front ∙ length-append i.up (into_iter_items c.loop-seat.rest) in
    let one = ap length c.in-Some.ensures.items in
    omega (arith, all, one, i.count, i.room, c.loop-seat.back.ok.0)

pub loop-seat-preserved : goal.loop-seat-preserved
loop-seat-preserved g c =
    let i = c.loop-seat.invariant in
    let seat = c.in-Some.seat in
    let new = into_iter_items c.next.new.self in
    let error = λ (s : Seat g.row.H.Denot g.row.E.Denot). s.error in
    let P : ProducerView → Type 0 = λ p. g.H.Home.is_home p.shared in
    let p = c.into_producer.result in
    record {
      up = i.up ++ seat ∷ [];
      front = i.front ∙ ap (λ (l : List (Seat g.row.H.Denot g.row.E.Denot)). i.up ++ l) c.in-Some.ensures.items
          ∙ sym (append_assoc i.up (seat ∷ []) new);
      home = subst (λ (l : List ProducerView). AllByRecursion P l) (sym c.push_reserved.ensures.items)
          (all_more P c.loop-seat.back.items p i.home c.into_producer.ensures.home);
      count = ap length c.push_reserved.ensures.items ∙ length-append c.loop-seat.back.items (p ∷ []) ∙ ap (λ (n : ℕ). n + 1) i.count
          ∙ sym (length-append i.up (seat ∷ []));
      first = c.or-first.ensures ∙ ap (λ (o : Option g.row.E.Denot). option_or o seat.error) i.first
          ∙ sym (first_more (map error i.up) seat.error) ∙ ap first_error (sym (map-append error i.up (seat ∷ [])));
      room = subst (λ (n : ℕ). length c.args.seats.items ≤ n) (sym c.push_reserved.ensures.capacity) i.room;
    }

pub returns-clause-count : goal.returns-clause-count
returns-clause-count g c =
    let i = c.loop-seat.invariant in
    i.count ∙ ap length (sym (i.front ∙ no_more i.up (into_iter_items c.loop-seat.rest) (omega (arith, c.in_default.ensures.cases.0, c.loop-seat.rest.rest.ok.0))))

pub returns-clause-first : goal.returns-clause-first
returns-clause-first g c =
    let i = c.loop-seat.invariant in
    let error = λ (s : Seat g.row.H.Denot g.row.E.Denot). s.error in
    i.first
    ∙ ap (λ (l : List (Seat g.row.H.Denot g.row.E.Denot)). first_error (map error l))
    (sym (i.front ∙ no_more i.up (into_iter_items c.loop-seat.rest) (omega (arith, c.in_default.ensures.cases.0, c.loop-seat.rest.rest.ok.0))))
