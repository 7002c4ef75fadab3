use Rattle.std.specs.Prelude.{◌≡◌, [], take, length}
use Rattle.alog_pattern.specs.declared.patterns.TheConstants.{LINE_MAX}
use Rattle.alog_pool.specs.Deeds.{HaveMade}
use Rattle.alog_pool.specs.SinkSeat.{AreFlushed, places_of}
use Rattle.alog_hosted.proofs.turns.flush_all.Given as goal

abbrev pub invariant-loop-number : goal.invariant-loop-number
invariant-loop-number g l = record {
  turns : HaveMade 0 l.fn.places.items l.places.items [];
  flushed : AreFlushed (take l.number l.places.items);
  once : AreFlushed l.fn.places.items → l.places.items ≡ l.fn.places.items;
  places : places_of l.places.items ≡ places_of l.fn.places.items;
  line : l.line.capacity ≡ LINE_MAX;
  end : l.number-end ≡ length l.fn.places.items;
}
