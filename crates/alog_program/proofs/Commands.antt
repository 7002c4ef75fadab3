-- What a command is that arguments and subcommands are added to.
use Rattle.std.proofs.Common.{◌≡◌, ◌∙◌, ap, ap₂, false, refl}
use Rattle.clap.specs.Words.{App, Rule, AddsArg, AddsSubcommand, rule_of, with_rule, with_subcommand}
use Rattle.clap.specs.declared.builder.arg.Arg.{Arg}
use Rattle.clap.specs.declared.builder.command.Command.{Command}
use Rattle.alog_program.specs.CommandLine.{StandsFor}

pub argument_added : (old new : Command) (a : Arg) {app : App} {rule : Rule} → AddsArg old a new → a.global ≡ false → rule_of a ≡ rule
    → StandsFor old app → StandsFor new (with_rule app rule)
argument_added old new a adds local is was = (adds.shape local ∙ ap₂ with_rule was.0 is, rw (adds.globals, was.1, local) refl)

pub command_added : (old sub new : Command) (app own : App) → AddsSubcommand old sub new → StandsFor old app → StandsFor sub own
    → StandsFor new (with_subcommand app own.top)
command_added old sub new app own adds was is =
    (adds.shape is.1 ∙ ap₂ with_subcommand was.0 (ap (λ (a : App). a.top) is.0), rw (adds.globals, was.1, is.1) refl)
