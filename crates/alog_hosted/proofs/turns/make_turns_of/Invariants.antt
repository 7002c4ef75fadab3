use Rattle.std.specs.Prelude.{◌≡◌, drop}
use Rattle.alog_hosted.specs.Owed.{MakesPart}
use Rattle.alog_pattern.specs.declared.patterns.TheConstants.{LINE_MAX}
use Rattle.alog_pool.specs.Deeds.{dues_by}
use Rattle.alog_pool.specs.SinkSeat.{places_of}
use Rattle.alog_registry.specs.Listed.{spec_at}
use Rattle.alog_hosted.proofs.turns.make_turns_of.Given as goal

abbrev pub invariant-loop-place : goal.invariant-loop-place
invariant-loop-place g l = record {
  places : places_of l.places.items ≡ places_of l.initial.places.items;
  line : l.line.capacity ≡ LINE_MAX;
  turns : MakesPart l.initial.places.items l.places.items (drop l.fn.from (dues_by (spec_at l.loggers l.logger) l.logger l.ticket l.item))
      (drop l.place (dues_by (spec_at l.loggers l.logger) l.logger l.ticket l.item));
}
