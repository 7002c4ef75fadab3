use Rattle.std.proofs.Common.{◌≡◌, ◌≤◌, ◌++◌, List, map, length, vec_capacity}
use Rattle.std.specs.List.{AllByRecursion}
use Rattle.std.specs.Vec.Iter.{into_iter_items, into_iter_len}
use Rattle.alog_pool.specs.Producer.{ProducerView}
use Rattle.alog_server.specs.Ends.{first_error}
use Rattle.alog_server.proofs.seats.rise_all.Given as goal

abbrev pub decreases-loop-seat : goal.decreases-loop-seat
decreases-loop-seat g l = into_iter_len l.rest

abbrev pub invariant-loop-seat : goal.invariant-loop-seat
invariant-loop-seat g l = record {
  up : List _;
  front : l.fn.seats.items ≡ up ++ into_iter_items l.rest;
  home : AllByRecursion (λ (p : ProducerView). g.H.Home.is_home p.shared) l.back.items;
  count : length l.back.items ≡ length up;
  first : l.first ≡ first_error (map (λ s. s.error) up);
  room : length l.fn.seats.items ≤ vec_capacity l.back;
}
