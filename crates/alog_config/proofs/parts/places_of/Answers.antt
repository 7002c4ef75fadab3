use Rattle.std.proofs.Common.{length, take, refl, sym, subst, arith}
use Rattle.std.proofs.lemmas.Option.{slice_get_read}
use Rattle.alog_config.specs.Built.{IsPlace}
use Rattle.alog_config.specs.Parts.{IsPartName}
use Rattle.alog_config.proofs.SharedPicking.{each_is_more, take_one_more}
use Rattle.alog_config.proofs.parts.places_of.Goals as goal

pub unreachable-requires : goal.unreachable-requires
unreachable-requires g c =
    let none = c.in_default.ensures.none refl in
    c.requires.known (
      c.loop-name.name-index,
      c.name-item.result,
      c.loop-name-test.true,
      sym c.name-item.is,
      λ has. none (subst (IsPartName c.args.parts.now) (sym c.as_str.ensures) has),
    )

pub loop-name-preserved : goal.loop-name-preserved
loop-name-preserved g c =
    let names = c.args.names.now in
    let i = c.loop-name.name-index in
    let name = c.name-item.result in
    let here = slice_get_read names (length names) i name refl c.loop-name-test.true c.name-item.is in
    let place = subst (λ n. IsPlace c.args.parts.now n c.in-Some.place) c.as_str.ensures c.in-Some.ensures.place in
    let old = c.loop-name.invariant.count in
    let len = c.push_reserved.ensures.len in
    let capacity = c.push_reserved.ensures.capacity in
    let room = c.loop-name.invariant.room in
    record {
      count = omega (arith, old, len);
      room = omega (arith, capacity, room);
      each = rw (take_one_more names i name here, c.push_reserved.ensures.items)
          (each_is_more (IsPlace c.args.parts.now) (take i names) c.loop-name.places.items name c.in-Some.place c.loop-name.invariant.each place);
    }
