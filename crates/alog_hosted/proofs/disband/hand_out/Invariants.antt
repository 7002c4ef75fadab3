use Rattle.std.specs.Prelude.{◌≡◌, ◌+◌, ◌%◌, ◌^◌}
use Rattle.alog_core.specs.Accounts.{weigh}
use Rattle.alog_hosted.specs.Closing.{items_of}
use Rattle.alog_hosted.proofs.disband.hand_out.Given as goal
use Rattle.alog_pattern.specs.declared.patterns.TheConstants.{LINE_MAX}
use Rattle.alog_pool.specs.Accounts.{of_work}
use Rattle.alog_pool.specs.Deeds.{HaveMade, all_dues}
use Rattle.alog_pool.specs.SinkSeat.{places_of}

abbrev pub invariant-loop-ticket : goal.invariant-loop-ticket
invariant-loop-ticket g l = record {
  turns : HaveMade 0 l.fn.places.items l.places.items (all_dues l.loggers (items_of l.yielded));
  places : places_of l.places.items ≡ places_of l.fn.places.items;
  line : l.line.capacity ≡ LINE_MAX;
  handled : l.handled ≡ (l.fn.taken + weigh of_work (items_of l.yielded)) % 2 ^ 64;
}
