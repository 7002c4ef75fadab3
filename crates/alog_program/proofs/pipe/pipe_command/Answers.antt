use Rattle.std.proofs.Common.{inr}
use Rattle.std.proofs.KnownBytes.{Keeps-refl}
use Rattle.alog_program.proofs.pipe.pipe_command.Goals as goal

pub returns-in-Err : goal.returns-in-Err
returns-in-Err g c =
    inr (c.in-Err.ensures, (Keeps-refl (g.I.Read.remaining c.args.input.now), Keeps-refl (g.O.Write.contents c.args.output.now)))
