use Rattle.std.proofs.Common.{◌≤◌, List, sym, subst, arith}
use Rattle.std.specs.List.{All}
use Rattle.alog_msg.specs.declared.message.Message.{Message}
use Rattle.alog_system.specs.System.{SystemView}
use Rattle.alog_system.specs.Within.{IsShortText}
use Rattle.alog_system.proofs.Parts.{posted_short, kept_short}
use Rattle.alog_system.proofs.system.System.take_kept.Goals as goal

pub returns-clause-short : goal.returns-clause-short
returns-clause-short g c =
    let i = c.self.inside in
    let d = c.args.dump in
    let limit = i.outputs.text_limit in
    let least : 64 ≤ limit = omega (arith, c.text_limit-limit.ensures.limit, c.text_limit-limit.ensures.within.0) in
    let all = posted_short limit d.logger d.time d.thread _ least (kept_short limit i.roster.kept d.logger c.self.invariant.kept) in
    subst (λ (s : SystemView g.row.S.Denot). All (IsShortText s.outputs.text_limit) c.dump.result) c.self.view_is
    (subst (λ (ms : List Message). All (IsShortText limit) ms) (sym c.dump.ensures.posts) all)
