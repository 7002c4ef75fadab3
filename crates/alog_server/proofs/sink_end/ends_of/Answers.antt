use Rattle.std.proofs.Common.{List, [], length, take, refl, sym, subst, arith}
use Rattle.std.proofs.lemmas.Option.{slice_get_read}
use Rattle.alog_config.specs.Sound.{AreSoundSinks}
use Rattle.alog_config.specs.declared.config.SinkConfig.{SinkConfig}
use Rattle.alog_config.proofs.SharedPicking.{take_one_more}
use Rattle.alog_server.specs.SinkEnds.{TellsEach}
use Rattle.alog_server.proofs.Telling.{each_writes, next_few, take_past, told_more}
use Rattle.alog_server.proofs.sink_end.ends_of.Goals as goal

pub add-requires-clause-lines : goal.add-requires-clause-lines
add-requires-clause-lines c =
    let config = c.args.config.now in
    let all = c.as_slice-sinks.result.now in
    let i = c.loop-sink.sink-index in
    let here = slice_get_read all (length all) i c.sink-item.result refl c.loop-sink-test.true c.sink-item.is in
    each_writes config.text [] all i c.sink-item.result
    (subst (λ (ss : List SinkConfig). AreSoundSinks config.text [] ss) (sym c.as_slice-sinks.ensures.value) config.sound.each_sink) here

pub loop-sink-preserved : goal.loop-sink-preserved
loop-sink-preserved c =
    let all = c.as_slice-sinks.result.now in
    let i = c.loop-sink.sink-index in
    let s = c.sink-item.result in
    let here = slice_get_read all (length all) i s refl c.loop-sink-test.true c.sink-item.is in
    let next = c.in_ok-add.ensures.next in
    let more = next_few all s c.loop-sink.ends.items c.add.new.ends.items next in
    let few = c.loop-sink.invariant.few in
    let room = c.loop-sink.invariant.room in
    let same = c.add.ensures.capacity in
    record {
      room = omega (arith, room, same);
      few = omega (arith, few, more);
      told = subst (λ (done : List SinkConfig). TellsEach all done c.add.new.ends.items) (sym (take_one_more all i s here))
          (told_more all (take i all) s c.loop-sink.ends.items c.add.new.ends.items c.loop-sink.invariant.told next);
    }

pub returns : goal.returns
returns c =
    let all = c.as_slice-sinks.result.now in
    let ends = c.loop-sink.ends.items in
    let past = c.loop-sink-test.false in
    subst (λ (ss : List SinkConfig). TellsEach ss ss ends) c.as_slice-sinks.ensures.value
    (subst (λ (done : List SinkConfig). TellsEach all done ends) (take_past all c.loop-sink.sink-index (λ low. omega (arith, low, past)))
    c.loop-sink.invariant.told)
