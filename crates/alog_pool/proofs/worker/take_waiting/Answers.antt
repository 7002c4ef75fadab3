use Rattle.std.proofs.Common.{[], refl, ap, ◌∙◌}
use Rattle.alog_pool.specs.Working.{is_idle}
use Rattle.alog_pool.proofs.SharedDeeds.{have_none, have_own}
use Rattle.alog_pool.proofs.SharedMoves.{moved_more, not_moved, refused_moved, refused_last, finds_there}
use Rattle.alog_pool.proofs.worker.take_waiting.Goals as goal

pub loop-init : goal.loop-init
loop-init g c = record {
  ring = c.requires.ring;
  block = c.requires.block;
  moved = not_moved _ c.requires.faithful;
  turns = have_none 0 c.args.sink_seats.now.items;
  places = refl;
  line = c.requires.line;
}

pub returns-in-Ok-clause-finds : goal.returns-in-Ok-clause-finds
returns-in-Ok-clause-finds g c =
    finds_there c.args.shared.now.ring.ring.limit.most c.in-Ok.ticket c.pop_swap_into.new.hand.item c.loop.invariant.moved
    c.in-Ok.ensures.popped c.in-Ok.ensures.limit.1

pub returns-then-is_end-clause-finds : goal.returns-then-is_end-clause-finds
returns-then-is_end-clause-finds g c =
    let old = c.loop.pass.known in
    let new = c.pop_swap_into.new.pass.known in
    let e = c.in-Err.error in
    let refused = c.in-Err.ensures.refused in (
      moved_more c.loop.invariant.moved (refused_moved old new e refused),
      refused_last old new e (c.if-is_end.ensures.0 refl) refused,
    )

pub returns-then-is_end-clause-turns : goal.returns-then-is_end-clause-turns
returns-then-is_end-clause-turns g c =
    have_own c.args.sink_seats.now.items c.loop.sink_seats.items c.flush_if_idle.new.sink_seats.items [] c.loop.invariant.turns
    c.flush_if_idle.ensures.turns

pub returns-then-is_end-clause-flushed : goal.returns-then-is_end-clause-flushed
returns-then-is_end-clause-flushed g c = λ none. c.flush_if_idle.ensures.idle (ap is_idle (c.if-is_end.ensures.0 refl))

pub returns-then-is_end-clause-places : goal.returns-then-is_end-clause-places
returns-then-is_end-clause-places g c = c.flush_if_idle.ensures.places ∙ c.loop.invariant.places

pub loop-preserved : goal.loop-preserved
loop-preserved g c =
    let old = c.loop.pass.known in
    let new = c.pop_swap_into.new.pass.known in
    record {
      ring = c.pop_swap_into.ensures.ring;
      block = c.pop_swap_into.ensures.limit;
      moved = moved_more c.loop.invariant.moved (refused_moved old new c.in-Err.error c.in-Err.ensures.refused);
      turns = have_own c.args.sink_seats.now.items c.loop.sink_seats.items c.flush_if_idle.new.sink_seats.items [] c.loop.invariant.turns
          c.flush_if_idle.ensures.turns;
      places = c.flush_if_idle.ensures.places ∙ c.loop.invariant.places;
      line = c.flush_if_idle.ensures.line;
    }
