use Rattle.std.proofs.Common.{codes}
use Rattle.std.proofs.lemmas.Result.{IfOk-weaker}
use Rattle.clap.specs.Words.{new_app}
use Rattle.alog_program.specs.CommandLine.{StandsFor}
use Rattle.alog_program.proofs.Commands.{argument_added}
use Rattle.alog_program.proofs.command.check.Goals as goal

pub returns : goal.returns
returns c =
    let l0 : StandsFor c.long_about.result (new_app (codes "check")) =
    (rw (c.long_about.ensures, c.about.ensures) c.new.ensures.app, rw (c.long_about.ensures, c.about.ensures) c.new.ensures.local) in
    IfOk-weaker c.arg.result _ _ (λ command adds. argument_added _ _ _ adds c.argument.ensures.global c.argument.ensures.rule l0) c.arg.ensures
