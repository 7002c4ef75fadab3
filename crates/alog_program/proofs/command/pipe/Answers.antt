use Rattle.std.proofs.Common.{codes}
use Rattle.std.proofs.lemmas.Result.{IfOk-weaker}
use Rattle.clap.specs.Words.{new_app}
use Rattle.alog_program.specs.CommandLine.{StandsFor}
use Rattle.alog_program.proofs.Commands.{argument_added}
use Rattle.alog_program.proofs.command.pipe.Goals as goal

pub returns : goal.returns
returns c =
    let l0 : StandsFor c.long_about.result (new_app (codes "pipe")) =
    (rw (c.long_about.ensures, c.about.ensures) c.new.ensures.app, rw (c.long_about.ensures, c.about.ensures) c.new.ensures.local) in
    let l1 = argument_added _ _ _ c.in_ok-arg.ensures c.argument.ensures.global c.argument.ensures.rule l0 in
    let l2 = argument_added _ _ _ c.in_ok-arg-2.ensures c.needed_option.ensures.global c.needed_option.ensures.rule l1 in
    let l3 = argument_added _ _ _ c.in_ok-arg-3.ensures c.option.ensures.global c.option.ensures.rule l2 in
    let l4 = argument_added _ _ _ c.in_ok-arg-4.ensures c.option-2.ensures.global c.option-2.ensures.rule l3 in
    IfOk-weaker c.arg-5.result _ _ (λ command adds. argument_added _ _ _ adds c.flag.ensures.global c.flag.ensures.rule l4) c.arg-5.ensures
