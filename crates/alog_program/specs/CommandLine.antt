-- What command lines the program takes, in the words of `clap`, which defines what it makes of them.
use Rattle.std.specs.Prelude.{◌≡◌, ◌⊎◌, List, [], ◌∷◌, Option, Some, IsNone, IsSome, codes, true, false}
use Rattle.clap.specs.Words.{App, Row, Rule, Text, first_of, new_app, new_rule, with_rule, with_subcommand, subcommand_of, fault_of}
use Rattle.clap.specs.Words.{HasKind, app_of, subcommand_rows_of}
use Rattle.clap.specs.declared.builder.action.ArgAction.TheVariants.{SetTrue}
use Rattle.clap.specs.declared.builder.command.Command.TheViews.{out-Command}
use Rattle.clap.specs.declared.builder.command.Command.{Command}
use Rattle.clap.specs.declared.parser.matches.ArgMatches.{ArgMatches}
use Rattle.alog_program.specs.LoadOptions.{AsksForLoad, IsFirstUnread}
use Rattle.alog_program.specs.Options.{Values, AsksFor, IsFirstRefused, Refuses, text_of}
use Rattle.alog_program.specs.PipeOptions.{AsksForPipe}
use Rattle.alog_program.specs.declared.options.FormatOption.TheVariants as option
use Rattle.alog_program.specs.declared.request.Request.{Request}
use Rattle.alog_program.specs.declared.request.Request.TheVariants.{Replay, ReplayConfig, Format, Check, Load, Pipe}
use Rattle.alog_program.specs.declared.words.WordsError.{WordsError}
use Rattle.alog_program.specs.declared.words.WordsError.TheVariants.{Clap, Value, LoadValue}

-- an argument that is needed, and an option with a value
abbrev pub argument_of : Text → Rule
argument_of name = record (new_rule name) { required = true }

abbrev pub option_of : Text → Rule
option_of name = record (new_rule name) { long = Some name; value_names = 1 }

-- an option with a value that is needed, and one without a value
abbrev pub needed_option_of : Text → Rule
needed_option_of name = record (new_rule name) { long = Some name; value_names = 1; required = true }

abbrev pub flag_of : Text → Rule
flag_of name = record (new_rule name) { long = Some name; action = Some SetTrue }

abbrev pub with_rules : App → List Rule → App
with_rules app [] = app
with_rules app (r ∷ rs) = with_rules (with_rule app r) rs

-- a command takes this, and none of its arguments holds for the commands below it too
abbrev pub StandsFor : Command → App → Type 0
StandsFor command app = (app_of command ≡ app) × ((out-Command command).has_globals ≡ false)

-- `alog replay`
abbrev pub replay_app : App
replay_app = with_rules (new_app (codes "replay")) (option_of (codes "config") ∷ [])

-- `alog format`, and of it the options that say what a message is of
abbrev pub origin_options : List Rule
origin_options = option_of (codes "level") ∷ option_of (codes "thread") ∷ option_of (codes "process") ∷ option_of (codes "file")
    ∷ option_of (codes "line") ∷ option_of (codes "function") ∷ option_of (codes "previous") ∷ []

abbrev pub format_app : App
format_app = with_rules (with_rules (new_app (codes "format"))
    (argument_of (codes "PATTERN") ∷ argument_of (codes "TEXT") ∷ option_of (codes "time") ∷ option_of (codes "offset")
    ∷ option_of (codes "zone") ∷ option_of (codes "name") ∷ [])) origin_options

-- `alog check`
abbrev pub check_app : App
check_app = with_rules (new_app (codes "check")) (argument_of (codes "FILE") ∷ [])

-- `alog load`
abbrev pub load_app : App
load_app = with_rules (new_app (codes "load"))
    (argument_of (codes "CONFIG") ∷ option_of (codes "producers") ∷ option_of (codes "messages") ∷ option_of (codes "folder") ∷ [])

-- `alog pipe`
abbrev pub pipe_app : App
pipe_app = with_rules (new_app (codes "pipe"))
    (argument_of (codes "CONFIG") ∷ needed_option_of (codes "folder") ∷ option_of (codes "logger") ∷ option_of (codes "level")
    ∷ flag_of (codes "totals") ∷ [])

-- the program: a version, `replay`, `format`, `check`, `load`, and `pipe`
abbrev pub top_app : App
top_app = let app = new_app (codes "alog") in record app { top = record app.top { has_version = true; subcommand_required = true } }

abbrev pub alog_app : App
alog_app =
    with_subcommand (with_subcommand (with_subcommand (with_subcommand (with_subcommand top_app replay_app.top) format_app.top) check_app.top)
    load_app.top) pipe_app.top

-- the words name this command, and these are its arguments
abbrev pub Names : Text → List Text → List Row → Type 0
Names command words rows = subcommand_of alog_app words ≡ Some (command, rows)

-- they do so without a fault
abbrev pub AsksCommand : Text → List Text → List Row → Type 0
AsksCommand command words rows = (fault_of alog_app words ≡ []) × Names command words rows

abbrev pub AsksFormat : List Text → List Row → Type 0
AsksFormat words rows = AsksCommand (codes "format") words rows

abbrev pub AsksCheck : List Text → List Row → Type 0
AsksCheck words rows = AsksCommand (codes "check") words rows

abbrev pub AsksLoad : List Text → List Row → Type 0
AsksLoad words rows = AsksCommand (codes "load") words rows

abbrev pub AsksPipe : List Text → List Row → Type 0
AsksPipe words rows = AsksCommand (codes "pipe") words rows

-- the value of each argument that is given
abbrev pub values_in : List Row → Values
values_in rows name = first_of name rows

-- the file that `--config` names, if it is given
abbrev pub config_in : List Row → Option Text
config_in rows = values_in rows (codes "config")

-- the folder that `--folder` names, if it is given
abbrev pub folder_in : List Row → Option Text
folder_in rows = values_in rows (codes "folder")

-- the words have no fault, and these are their matches
abbrev pub AreMatchesOf : List Text → ArgMatches → Type 0
AreMatchesOf words m = (fault_of alog_app words ≡ []) × (subcommand_rows_of m ≡ subcommand_of alog_app words)

-- `alog replay --config`
abbrev pub AsksReplayConfig : List Text → List Row → Type 0
AsksReplayConfig words rows = AsksCommand (codes "replay") words rows × IsSome (config_in rows)

-- the words have no fault, and ask for this
abbrev pub Asks : List Text → Request → Type 0
Asks words Replay =
    (fault_of alog_app words ≡ []) × ((rows : List Row) → ¬ Names (codes "format") words rows)
    × ((rows : List Row) → ¬ Names (codes "check") words rows) × ((rows : List Row) → ¬ Names (codes "load") words rows)
    × ((rows : List Row) → ¬ Names (codes "pipe") words rows)
    × ((rows : List Row) → Names (codes "replay") words rows → IsNone (config_in rows))
Asks words (ReplayConfig file) =
    (rows : List Row) × AsksCommand (codes "replay") words rows × (config_in rows ≡ Some file.now)
Asks words (Format r) = (rows : List Row) × AsksFormat words rows × AsksFor (values_in rows) r
Asks words (Check file) = (rows : List Row) × AsksCheck words rows × (file.now ≡ text_of (values_in rows) (codes "FILE"))
Asks words (Load r) = (rows : List Row) × AsksLoad words rows × AsksForLoad (values_in rows) r
Asks words (Pipe r) = (rows : List Row) × AsksPipe words rows × AsksForPipe (values_in rows) r

-- there was no memory, or the words have this fault: one of `clap`, or a value that is refused
abbrev pub IsRefusedBy : List Text → WordsError → Type 0
IsRefusedBy words (Clap error) = HasKind (fault_of alog_app words) error
IsRefusedBy words (Value fault) = (rows : List Row) × ((AsksFormat words rows × IsFirstRefused (values_in rows) fault)
    ⊎ (AsksPipe words rows × Refuses (values_in rows) option.Level fault))
IsRefusedBy words (LoadValue fault) = (rows : List Row) × AsksLoad words rows × IsFirstUnread (values_in rows) fault
