use Rattle.std.proofs.Common.{ap, ◌∙◌}
use Rattle.alog_owned.proofs.Laying.{lays}
use Rattle.alog_owned.proofs.desk.lay.Goals as goal

pub try_push_as-requires-clause-rule : goal.try_push_as-requires-clause-rule
try_push_as-requires-clause-rule g c items views few desk e =
    lays c.args.common.now.hosted _ _ c.requires.pass.knows (ap (λ b. b.hosted.value) c.new_unchecked-back.ensures ∙ c.requires.of) _ items views desk e
