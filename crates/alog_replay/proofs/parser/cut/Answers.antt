use Rattle.std.proofs.Common.{lit<}
use Rattle.alog_replay.proofs.CutLemmas.{cut_at_first, uncut}
use Rattle.alog_replay.proofs.parser.cut.Goals as goal

pub returns-in-Some : goal.returns-in-Some
returns-in-Some c = cut_at_first _ _ _ (c.in-Some.ensures.byte (lit< tt) (λ w o h. h))

pub returns-in-None : goal.returns-in-None
returns-in-None c = uncut _ (c.in-None.ensures.byte (lit< tt) (λ w o h. h))
