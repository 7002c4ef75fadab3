use Rattle.std.proofs.Common.{◌<◌, List, length, take, refl, sym, subst, arith}
use Rattle.std.proofs.lemmas.Option.{slice_get_read}
use Rattle.alog_config.specs.Built.{IsPlace}
use Rattle.alog_config.specs.Parts.{IsPartName}
use Rattle.alog_config.specs.declared.parts.Part.{Part}
use Rattle.alog_config.proofs.SharedPicking.{take_one_more}
use Rattle.alog_config.proofs.Taking.{IsAt, not_in_front, still_there, takes_more}
use Rattle.alog_config.proofs.parts.taken.Goals as goal

pub unreachable-requires : goal.unreachable-requires
unreachable-requires g c =
    let names = c.args.names.now in
    let i = c.loop-name.name-index in
    let name = c.name-item.result in
    let none = c.in_default.ensures.none refl in
    let left = c.loop-name.parts.items in
    let gone : ¬ IsPartName left name = λ has.
    none (subst (IsPartName c.as_slice.result.now) (sym c.as_str.ensures)
    (subst (λ (ps : List (Part g.row.S.Denot)). IsPartName ps name) (sym c.as_slice.ensures.value) has)) in
    c.requires.known (
      i,
      name,
      c.loop-name-test.true,
      sym c.name-item.is,
      λ has. gone (still_there c.args.parts.now.items (take i names) c.loop-name.sinks.items left name
          (not_in_front names i c.requires.apart c.loop-name-test.true (sym c.name-item.is)) c.loop-name.invariant.taken has),
    )

pub loop-name-preserved : goal.loop-name-preserved
loop-name-preserved g c =
    let names = c.args.names.now in
    let i = c.loop-name.name-index in
    let name = c.name-item.result in
    let left = c.loop-name.parts.items in
    let k = c.in-Some.place in
    let p = c.remove-sink.result in
    let here = slice_get_read names (length names) i name refl c.loop-name-test.true c.name-item.is in
    let at : IsAt left name k p = record {
      within = subst (λ (ps : List (Part g.row.S.Denot)). k < length ps) c.as_slice.ensures.value c.in-Some.ensures.within;
      here = c.remove-sink.ensures.value;
      place = subst (λ (ps : List (Part g.row.S.Denot)). IsPlace ps name k) c.as_slice.ensures.value
          (subst (λ n. IsPlace c.as_slice.result.now n k) c.as_str.ensures c.in-Some.ensures.place);
    } in
    let old = c.loop-name.invariant.count in
    let len = c.push_reserved.ensures.len in
    let capacity = c.push_reserved.ensures.capacity in
    let room = c.loop-name.invariant.room in
    record {
      count = omega (arith, old, len);
      room = omega (arith, capacity, room);
      taken = rw (take_one_more names i name here, c.push_reserved.ensures.items, c.remove-sink.ensures.items)
          (takes_more c.args.parts.now.items (take i names) c.loop-name.sinks.items c.loop-name.invariant.taken at);
    }
