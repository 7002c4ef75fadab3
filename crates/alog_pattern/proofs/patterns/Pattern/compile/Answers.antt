-- The lengths and the items are those of the plain program, whose reading is the only one.
use Rattle.std.proofs.Common.{refl, arith}
use Rattle.std.proofs.lemmas.Result.{err_from_is_err_and}
use Rattle.alog_pattern.proofs.SharedReadings.{has_reading, line_exceeds, line_within}
use Rattle.alog_pattern.proofs.patterns.Pattern.compile.Goals as goal

pub returns-then-longest-gt-LINE_MAX-clause-line_too_long :
    goal.returns-then-longest-gt-LINE_MAX-clause-line_too_long
returns-then-longest-gt-LINE_MAX-clause-line_too_long c = (
  λ e. (omega arith, line_exceeds 65536 c.args.text_limit c.args.spelling.now (omega (arith, c.longest_line-longest.ensures))),
  λ x. refl,
)

pub returns-in_err-items-clause-line_too_long : goal.returns-in_err-items-clause-line_too_long
returns-in_err-items-clause-line_too_long c = (
  λ e. let p = err_from_is_err_and c.from_residual.result c.from_residual.ensures.1 in let q = p.1 in let r = p.2 in absurd cc,
  λ x. absurd (omega (arith, c.longest_line-longest.ensures, line_within 65536 c.args.text_limit c.args.spelling.now x.1)),
)

pub returns-clause-items : goal.returns-clause-items
returns-clause-items c = rw c.in_ok-items.ensures (has_reading c.args.spelling.now)

pub returns-clause-line_too_long : goal.returns-clause-line_too_long
returns-clause-line_too_long c = (
  λ e. absurd cc,
  λ x. absurd (omega (
    arith,
    c.longest_line-longest.ensures,
    line_within 65536 c.args.text_limit c.args.spelling.now x.1,
  )),
)
