use Rattle.std.proofs.Common.{subst}
use Rattle.std.specs.Prelude.{IfOk}
use Rattle.std.proofs.lemmas.Result.{IfOk-weaker}
use Rattle.alog_program.specs.CommandLine.{StandsFor}
use Rattle.alog_program.proofs.Commands.{command_added}
use Rattle.alog_program.proofs.command.with.Goals as goal

pub returns : goal.returns
returns c app own was is =
    let stands : StandsFor c.in_ok-below.field-0 own = subst (λ below. IfOk below (λ b. StandsFor b own)) c.in_ok-below.was is in
    IfOk-weaker c.subcommand.result _ _ (λ command adds. command_added _ _ _ _ _ adds was stands) c.subcommand.ensures
