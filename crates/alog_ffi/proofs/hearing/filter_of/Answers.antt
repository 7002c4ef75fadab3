use Rattle.std.proofs.Common.{rules}
use Rattle.alog_ffi.proofs.hearing.filter_of.Goals as goal

pub returns-then-number : goal.returns-then-number
returns-then-number c = record {
  level = c.in_ok-level.level;
  is = search rules;
  below = search rules;
  spec = c.in_ok-spec.spec.now;
  of = search rules;
  plain = search rules;
}
