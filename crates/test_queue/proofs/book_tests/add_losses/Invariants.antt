use Rattle.std.proofs.Common.{◌≡◌, ◌+◌, ◌*◌}
use Rattle.alog_policy.specs.BookAdds.{items_in, posts_in}
use Rattle.alog_policy.specs.BookCalls.{IsSeatOf}
use Rattle.test_queue.proofs.book_tests.add_losses.Given as goal

abbrev pub invariant-loop : goal.invariant-loop
invariant-loop l = record {
  seat : IsSeatOf l.book l.seat;
  parts : l.seat.known.parts ≡ l.initial.seat.known.parts;
  joined : l.seat.known.joined ≡ l.initial.seat.known.joined;
  overrun : items_in l.seat.known.own ≡ items_in l.initial.seat.known.own + l.counter;
  discarded : posts_in l.seat.known.own ≡ posts_in l.initial.seat.known.own + 2 * l.counter;
}
