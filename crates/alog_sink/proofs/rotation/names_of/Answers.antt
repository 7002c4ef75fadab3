use Rattle.std.proofs.Common.{ap, length, arith}
use Rattle.std.proofs.lemmas.List.{length_push}
use Rattle.alog_sink.proofs.RotatedPut.{numbers_push}
use Rattle.alog_sink.proofs.rotation.names_of.Goals as goal

pub loop-i-preserved : goal.loop-i-preserved
loop-i-preserved c =
    let names = c.loop-i.names.items in
    let name = c.in_ok-numbered.field-0 in
    record {
      count = omega (arith, ap length c.in_ok-push.ensures.items, length_push names name, c.loop-i.invariant.count);
      numbered = rw c.in_ok-push.ensures.items
          (numbers_push c.args.file.now names name c.loop-i.i c.loop-i.invariant.count c.loop-i.invariant.numbered
          c.in_ok-numbered.ensures);
    }
