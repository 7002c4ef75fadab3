use Rattle.std.proofs.Common.{◌≡◌, ◌≤◌, ◌+◌, length, vec_capacity}
use Rattle.std.specs.Prelude.{None}
use Rattle.std.specs.List.{AllByRecursion}
use Rattle.std.specs.Vec.Iter.{into_iter_items, into_iter_len}
use Rattle.alog_server.specs.Homes.{IsAtHome}
use Rattle.alog_server.proofs.seats.seat_all.Given as goal

abbrev pub decreases-loop-producer : goal.decreases-loop-producer
decreases-loop-producer g l = into_iter_len l.rest

abbrev pub invariant-loop-producer : goal.invariant-loop-producer
invariant-loop-producer g l = record {
  count : length l.seats.items + length (into_iter_items l.rest) ≡ length l.fn.producers.items;
  home : AllByRecursion (λ p. IsAtHome g.H.Home.is_home g.H.Home.loggers p) (into_iter_items l.rest);
  fresh : AllByRecursion (λ s. s.error ≡ None) l.seats.items;
  room : length l.fn.producers.items ≤ vec_capacity l.seats;
}
