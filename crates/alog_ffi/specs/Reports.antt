-- What C is told of a report.
use Rattle.std.specs.Prelude.{◌≡◌, ℕ}
use Rattle.alog_ffi.specs.declared.report.AlogReport.{AlogReport}
use Rattle.alog_hosted.specs.Faults.{capped_sum_by}
use Rattle.alog_pool.specs.declared.report.Report.{Report}

-- the totals, and the sum of the faults of all sinks
pub record IsReportOf {S : Type 0} (r : Report S) (told : AlogReport) : Type 0 where
  pub asked : told.asked ≡ r.totals.asked
  pub posted : told.posted ≡ r.totals.posted
  pub discarded : told.discarded ≡ r.totals.discarded
  pub overrun : told.overrun ≡ r.totals.overrun
  pub handled : told.handled ≡ r.totals.handled
  pub faults : told.faults ≡ capped_sum_by (λ (n : ℕ). n) r.faults.items
