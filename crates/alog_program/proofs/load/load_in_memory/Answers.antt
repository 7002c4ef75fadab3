use Rattle.alog_program.proofs.Loading.{no_memory}
use Rattle.std.proofs.Common.{None}
use Rattle.alog_program.proofs.load.load_in_memory.Goals as goal

pub returns-in-Err : goal.returns-in-Err
returns-in-Err g c =
    no_memory _ _ _ _ c.args.config.now c.args.request.now c.refuse_load.result (g.O.Write.contents c.args.output.now) c.refuse_load.ensures

pub returns-in-Ok : goal.returns-in-Ok
returns-in-Ok g c = c.load_over.ensures None tt
