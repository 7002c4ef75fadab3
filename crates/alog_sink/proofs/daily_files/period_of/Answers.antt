use Rattle.std.proofs.Common.{◌∙◌, ap, arith, rules, FitsSigned}
use Rattle.std.specs.Int.{w64}
use Rattle.jiff_core.proofs.SignedLemmas.{signed_arith}
use Rattle.std.proofs.lemmas.Int.{to_z-of_z}
use Rattle.alog_format.specs.Civil.{day_at, second_at}
use Rattle.alog_sink.proofs.DailyDays.{before_change, day_bound, since_change, year_from_0}
use Rattle.alog_sink.proofs.daily_files.period_of.Goals as goal

pub overflow_sub-result : goal.overflow_sub-result
overflow_sub-result c =
    let fits : FitsSigned w64 c.args.message.now.time = search rules in
    let t = to_z-of_z w64 c.args.message.now.time fits in
    let day = c.clock_time-clock.ensures.day ∙ ap (day_at c.args.zone.now) t in
    let near = day_bound c.args.zone.now c.args.message.now.time c.requires fits in
    let known : FitsSigned w64 c.clock_time-clock.result.day = search rules in
    simp to_z-of_z (omega (arith, signed_arith, near, day))

pub returns-then-clock-from-clause-period : goal.returns-then-clock-from-clause-period
returns-then-clock-from-clause-period c = λ at shown.
    let fits : FitsSigned w64 c.args.message.now.time = search rules in
    let t = to_z-of_z w64 c.args.message.now.time fits in
    before_change c.args.zone.now c.args.message.now.time at c.requires fits shown c.args.change c.ranges.change.fits
    c.clock_time-clock.result.day c.clock_time-clock.result.second c.from.result
    (c.clock_time-clock.ensures.day ∙ ap (day_at c.args.zone.now) t) (c.clock_time-clock.ensures.second ∙ ap (second_at c.args.zone.now) t)
    c.from.ensures c.if-clock-from.true

pub returns-else-clock-from-clause-period : goal.returns-else-clock-from-clause-period
returns-else-clock-from-clause-period c = λ at shown.
    let fits : FitsSigned w64 c.args.message.now.time = search rules in
    let t = to_z-of_z w64 c.args.message.now.time fits in
    since_change c.args.zone.now c.args.message.now.time at c.requires fits shown c.args.change c.ranges.change.fits
    c.clock_time-clock.result.day c.clock_time-clock.result.second c.from.result
    (c.clock_time-clock.ensures.day ∙ ap (day_at c.args.zone.now) t) (c.clock_time-clock.ensures.second ∙ ap (second_at c.args.zone.now) t)
    c.from.ensures c.if-clock-from.false

pub returns-then-clock-from-clause-year : goal.returns-then-clock-from-clause-year
returns-then-clock-from-clause-year c = λ at shown. year_from_0 c.args.zone.now c.args.message.now.time at c.requires (search rules) shown

pub returns-else-clock-from-clause-year : goal.returns-else-clock-from-clause-year
returns-else-clock-from-clause-year c = λ at shown. year_from_0 c.args.zone.now c.args.message.now.time at c.requires (search rules) shown
