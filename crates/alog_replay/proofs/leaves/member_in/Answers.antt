use Rattle.std.proofs.Common.{ap, sym, ◌∙◌, rules, tests}
use Rattle.std.specs.List.{position}
use Rattle.std.specs.Str.{bytes_eq}
use Rattle.std.proofs.lemmas.Iterator.{YieldsList-from_slice}
use Rattle.std.proofs.lemmas.Iterator.Search.{position_from_yields_List}
use Rattle.alog_replay.specs.OfConfig.{member_in}
use Rattle.alog_replay.proofs.leaves.member_in.Goals as goal

pub returns-in-Fan : goal.returns-in-Fan
returns-in-Fan c =
    position_from_yields_List (λ n. bytes_eq n c.args.name.now) _ _ _ c.position.ensures.ran (YieldsList-from_slice c.as_slice.result.now (cc)) (λ x b q k. search (rules, tests))
    ∙ (ap (position (λ n. bytes_eq n c.args.name.now)) c.as_slice.ensures ∙ sym (ap (member_in c.args.name.now) c.in-Fan.is))
