use Rattle.std.proofs.Common.{◌≡◌, List, length, slice_get, Some, refl, subst}
use Rattle.std.proofs.lemmas.Option.{slice_get_read}
use Rattle.alog_config.specs.declared.config.SinkConfig.{SinkConfig}
use Rattle.alog_config.proofs.Handing.{fault_of, may_make, next_left, next_made}
use Rattle.alog_config.proofs.Parting.{IsNext}
use Rattle.alog_config.proofs.building.parts_of.Goals as goal

pub made-requires : goal.made-requires
made-requires g c =
    let config = c.args.config.now in
    let items = c.as_slice-sinks.result.now in
    let i = c.loop-number.number in
    let s = c.index-sinks-number.result in
    let here = slice_get_read items (length items) i s refl c.loop-number-test.true c.index-sinks-number.is in
    let next : IsNext g.S.Store.tells g.S.Store.files g.S.Store.failures config c.args.stores.items i c.loop-number.parts.items s = record {
      sound = config.sound.each_sink;
      built = c.loop-number.invariant.built;
      at = subst (λ (ss : List SinkConfig). slice_get ss i ≡ Some s) c.as_slice-sinks.ensures.value here;
    } in
    may_make g.S.Store.tells g.S.Store.files g.S.Store.failures next c.requires c.loop-number.invariant.left

pub returns-in-Err-clause-fault : goal.returns-in-Err-clause-fault
returns-in-Err-clause-fault g c =
    let items = c.as_slice-sinks.result.now in
    let i = c.loop-number.number in
    let s = c.index-sinks-number.result in
    let here = slice_get_read items (length items) i s refl c.loop-number-test.true c.index-sinks-number.is in
    let at = subst (λ (ss : List SinkConfig). slice_get ss i ≡ Some s) c.as_slice-sinks.ensures.value here in
    fault_of g.S.Store.failures g.S.Store.why c.args.config.now.sinks.items c.args.stores.items c.loop-number.stores.items i s c.in-Err.error
    at c.loop-number.invariant.left c.in-Err.ensures.fault c.in-Err.ensures.rotates

pub loop-number-preserved : goal.loop-number-preserved
loop-number-preserved g c =
    let config = c.args.config.now in
    let items = c.as_slice-sinks.result.now in
    let i = c.loop-number.number in
    let s = c.index-sinks-number.result in
    let here = slice_get_read items (length items) i s refl c.loop-number-test.true c.index-sinks-number.is in
    let next : IsNext g.S.Store.tells g.S.Store.files g.S.Store.failures config c.args.stores.items i c.loop-number.parts.items s = record {
      sound = config.sound.each_sink;
      built = c.loop-number.invariant.built;
      at = subst (λ (ss : List SinkConfig). slice_get ss i ≡ Some s) c.as_slice-sinks.ensures.value here;
    } in
    record {
      built = rw (c.in_ok-add.ensures) (next_made g.S.Store.tells g.S.Store.files g.S.Store.failures c.made.new.stores.items
          c.made.new.parts.items _ next refl c.loop-number.invariant.left c.in-Ok.ensures.made);
      left = next_left g.S.Store.tells g.S.Store.files g.S.Store.failures {rest = c.made.new.stores.items} c.made.new.parts.items c.in-Ok.sink
          {k = s.kind} next refl c.loop-number.invariant.left c.in-Ok.ensures.made;
    }
