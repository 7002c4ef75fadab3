use Rattle.std.proofs.Common.{length}
use Rattle.alog_system.specs.Begin.{is_unread}
use Rattle.alog_system.specs.System.{is_free}
use Rattle.alog_replay.proofs.Fitting.{iff_then, refused_log}
use Rattle.alog_replay.proofs.configured.Configured+MemStore.begin_log.Goals as goal

pub returns-clause-refused : goal.returns-clause-refused
returns-clause-refused c =
    let v = c.args.self.now.system in
    iff_then c.begin.ensures.refused
    (refused_log (is_free v c.args.actor) (is_unread v.roster c.args.logger c.args.level) v.outputs.text_limit (length c.args.text.now))
