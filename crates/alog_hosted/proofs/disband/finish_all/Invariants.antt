use Rattle.std.specs.Prelude.{◌≡◌}
use Rattle.alog_hosted.specs.Closing.{owed_in}
use Rattle.alog_hosted.proofs.disband.finish_all.Given as goal
use Rattle.alog_pattern.specs.declared.patterns.TheConstants.{LINE_MAX}
use Rattle.alog_pool.specs.Deeds.{HaveMade}
use Rattle.alog_pool.specs.SinkSeat.{places_of}

abbrev pub invariant-loop-half : goal.invariant-loop-half
invariant-loop-half g l = record {
  turns : HaveMade 0 l.fn.places.items l.places.items (owed_in l.loggers l.yielded);
  places : places_of l.places.items ≡ places_of l.fn.places.items;
  line : l.line.capacity ≡ LINE_MAX;
}
