use Rattle.std.proofs.Common.{ap, sym, ◌∙◌, ◌+◌}
use Rattle.alog_pattern.specs.declared.items.Item.TheVariants.{Byte}
use Rattle.alog_format.proofs.Named.{one_more}
use Rattle.alog_format.proofs.naming.count_named.Goals as goal

pub loop-item-preserved : goal.loop-item-preserved
loop-item-preserved c = record {
  counted = ap (λ n. n + 1) c.loop-item.invariant.counted;
  named = one_more c.args.items.now c.loop-item.item-index (Byte 0) c.loop-item-test.true c.loop-item.invariant.named
      (sym c.names.ensures ∙ c.if-not-names.false);
}
