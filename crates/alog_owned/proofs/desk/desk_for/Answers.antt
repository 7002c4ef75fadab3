use Rattle.std.proofs.Common.{ap, ◌∙◌}
use Rattle.alog_owned.proofs.Laying.{goes, seeds}
use Rattle.alog_owned.proofs.desk.desk_for.Goals as goal
use mathlib.Core.Option as maybe

pub try_push_as-requires-clause-rule : goal.try_push_as-requires-clause-rule
try_push_as-requires-clause-rule g c items views few desk e =
    seeds c.new_unchecked-seed.result _ items views desk (e ∙ ap maybe.some (c.in_ok-desk.ensures.3))

pub try_pop_as-seed-requires-clause-rule : goal.try_pop_as-seed-requires-clause-rule
try_pop_as-seed-requires-clause-rule g c x items views desk e = goes c.new_unchecked-seed.result.value.hosted.value _ c.in-Ok.ensures.rule _ x items views desk e
