use Rattle.std.proofs.Common.{ap, true}
use Rattle.std.proofs.lemmas.Result.{IfOk-weaker}
use Rattle.clap.specs.Words.{App, with_subcommand}
use Rattle.alog_program.specs.CommandLine.{StandsFor, replay_app, top_app}
use Rattle.alog_program.proofs.command.alog.Goals as goal

pub returns : goal.returns
returns c =
    let top : StandsFor c.subcommand_required-command.result top_app = (
      rw (c.subcommand_required-command.ensures, c.about.ensures, c.version.ensures)
          (ap (λ (app : App). record app { top = record app.top { has_version = true; subcommand_required = true } }) c.new.ensures.app),
      rw (c.subcommand_required-command.ensures, c.about.ensures, c.version.ensures) c.new.ensures.local,
    ) in
    let one : StandsFor c.in_ok-command.command (with_subcommand top_app replay_app.top) =
    c.in_ok-command.ensures _ _ top c.replay.ensures in
    let two : StandsFor c.in_ok-command-2.command _ = c.in_ok-command-2.ensures _ _ one c.format.ensures in
    let three : StandsFor c.in_ok-command-3.command _ = c.in_ok-command-3.ensures _ _ two c.check.ensures in
    let four : StandsFor c.in_ok-command-4.command _ = c.in_ok-command-4.ensures _ _ three c.load.ensures in
    IfOk-weaker c.with-5.result _ _ (λ command stands. stands.0) (c.with-5.ensures _ _ four c.pipe.ensures)
