use Rattle.std.proofs.Common.{None, false}
use Rattle.alog_replay.specs.Plain.{plain, plain_goes_on}
use Rattle.alog_replay.proofs.PlainLemmas.{plain_is_certain}
use Rattle.alog_replay.specs.Lines.{lines_of}
use Rattle.alog_replay.proofs.Holding.{lines_may}
use Rattle.alog_replay.proofs.Agreeing.{one_script}
use Rattle.alog_replay.proofs.Going.{some_script}
use Rattle.alog_replay.proofs.player.one_text.Goals as goal

pub returns : goal.returns
returns c script =
    let t = some_script (plain false) (plain_goes_on false) None script in
    (t.0, t.1, lines_may (lines_of script) None 0 t.0 tt t.1, λ u h. one_script (plain false) plain_is_certain None script t.0 u t.1 h)
