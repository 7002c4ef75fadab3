use Rattle.std.proofs.Common.{rules, ◌<◌, length, to_z-of_z}
use Rattle.alog_ffi.proofs.logging.dump_of.Goals as goal

pub returns-in-Ok : goal.returns-in-Ok
returns-in-Ok c =
    let e = c.in-Ok.ensures in
    let known : c.args.logger < length c.args.producer.now.hosted.shared.loggers = search rules in
    let dumped = simp (to_z-of_z, c.ranges.time) at e.dumped in
    (known, record { same = record { hosted = e.same.0; producer = e.same.1 }; dumps = dumped })
