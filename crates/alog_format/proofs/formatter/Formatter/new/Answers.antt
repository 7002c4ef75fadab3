use Rattle.std.proofs.Common.{drop, pos, refl, rules}
use Rattle.alog_format.proofs.Seconds.{seconds_are}
use Rattle.alog_format.proofs.formatter.Formatter.new.Goals as goal

pub invariant_of-result : goal.invariant_of-result
invariant_of-result c = (
  seconds_are (pos 0) (pos 0) (pos 0) c.local-at.result c.local-at.ensures refl,
  rw c.fields_of.ensures refl,
  search rules,
  search rules,
  c.no_names.ensures (drop c.start_of_names-from.result c.args.pattern.items),
)
