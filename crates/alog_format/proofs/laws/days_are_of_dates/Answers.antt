use Rattle.std.proofs.Common.{ℤ, pos, ap, sym, ◌∙◌}
use Rattle.std.specs.Int.{int_div_euclid}
use Rattle.jiff_core.proofs.DateTimeLemmas.{epoch_day-civil_nanos}
use Rattle.alog_format.proofs.laws.days_are_of_dates.Goals as goal

pub returns : goal.returns
returns c zone time at shown = ap (λ (n : ℤ). int_div_euclid n (pos 86_400_000_000_000)) (sym shown) ∙ sym (epoch_day-civil_nanos at)
