use Rattle.std.proofs.Common.{◌≡◌, ◌∙◌, FitsSigned, w64, rules}
use Rattle.std.proofs.lemmas.Int.{to_z-of_z}
use Rattle.alog_format.specs.Civil.{clock_seconds, day_at, offset_seconds, second_at}
use Rattle.alog_format.proofs.Seconds.{day_of_seconds, second_of_seconds}
use Rattle.alog_format.proofs.civil.clock_time.Goals as goal

pub returns-clause-day : goal.returns-clause-day
returns-clause-day c =
    let time : FitsSigned w64 c.args.time = search rules in
    let all : FitsSigned w64 c.clock_seconds-seconds.result = search rules in
    let fits : FitsSigned w64 c.day_of.result = search rules in
    let seconds : c.clock_seconds-seconds.result ≡ clock_seconds c.args.zone.now c.args.time = simp to_z-of_z at c.clock_seconds-seconds.ensures in
    let day = simp to_z-of_z at c.day_of.ensures in
    let is : c.day_of.result ≡ day_at c.args.zone.now c.args.time =
    day ∙ day_of_seconds (offset_seconds c.args.zone.now c.args.time) c.args.time c.clock_seconds-seconds.result seconds in
    to_z-of_z w64 c.day_of.result fits ∙ is

pub returns-clause-second : goal.returns-clause-second
returns-clause-second c =
    let time : FitsSigned w64 c.args.time = search rules in
    let all : FitsSigned w64 c.clock_seconds-seconds.result = search rules in
    let fits : FitsSigned w64 c.second_of.result = search rules in
    let seconds : c.clock_seconds-seconds.result ≡ clock_seconds c.args.zone.now c.args.time = simp to_z-of_z at c.clock_seconds-seconds.ensures in
    let second = simp to_z-of_z at c.second_of.ensures in
    let is : c.second_of.result ≡ second_at c.args.zone.now c.args.time =
    second ∙ second_of_seconds (offset_seconds c.args.zone.now c.args.time) c.args.time c.clock_seconds-seconds.result seconds in
    to_z-of_z w64 c.second_of.result fits ∙ is
