use Rattle.std.proofs.Common.{◌≡◌, ◌≤◌, true, List, ◌++◌, length, vec_capacity}
use Rattle.std.specs.Vec.Iter.{into_iter_items, into_iter_len}
use Rattle.alog_load.proofs.Going.{producers_at}
use Rattle.alog_load.specs.Producers.{AreDone}
use Rattle.alog_load.specs.declared.load_seat.LoadSeat.{LoadSeat}
use Rattle.alog_load.proofs.producers.rise_all.Given as goal

abbrev pub decreases-loop-seat : goal.decreases-loop-seat
decreases-loop-seat l = into_iter_len l.rest

abbrev pub invariant-loop-seat : goal.invariant-loop-seat
invariant-loop-seat l = record {
  up : List LoadSeat;
  front : l.fn.seats.items ≡ up ++ into_iter_items l.rest;
  back : l.back.items ≡ producers_at up;
  done : l.all ≡ true → AreDone up;
  room : length l.fn.seats.items ≤ vec_capacity l.back;
}
