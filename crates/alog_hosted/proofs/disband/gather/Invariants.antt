use Rattle.std.proofs.Common.{◌≡◌, List, ◌++◌, map}
use Rattle.std.specs.Vec.Iter.{into_iter_items, into_iter_len}
use Rattle.alog_policy.specs.BookCalls.{IsSeatOf}
use Rattle.alog_pool.specs.Back.{AreAccounts, HasBack, HasSeatsBack, loss_member, pass_member}
use Rattle.alog_pool.specs.Producer.{ProducerView}
use Rattle.alog_ring.specs.Known.{IsPassOf}
use Rattle.alog_hosted.proofs.disband.gather.Given as goal

abbrev pub decreases-loop-producer : goal.decreases-loop-producer
decreases-loop-producer l = into_iter_len l.rest

abbrev pub invariant-loop-producer : goal.invariant-loop-producer
invariant-loop-producer l = record {
  done : List ProducerView;
  front : l.fn.producers.items ≡ done ++ into_iter_items l.rest;
  ring : IsPassOf l.shared.ring.ring l.pass;
  book : IsSeatOf l.shared.book l.losses;
  passes : HasBack l.fn.pass.known l.pass.known (map pass_member done);
  seats : HasSeatsBack l.fn.losses.known l.losses.known (map loss_member done);
  accounts : AreAccounts done;
}
