use Rattle.std.proofs.Common.{ap}
use Rattle.std.specs.Option.{option_copied}
use Rattle.alog_replay.proofs.FormLemmas.{is_no_name}
use Rattle.alog_replay.proofs.parser.name_alone.Goals as goal

pub returns-in-Some : goal.returns-in-Some
returns-in-Some c = is_no_name _ _ _ (ap option_copied c.in_ok-rest.was) c.cut.ensures (ap option_copied c.in-Some.is)
