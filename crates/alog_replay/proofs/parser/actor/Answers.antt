use Rattle.std.proofs.lemmas.Option.{none-some}
use Rattle.alog_replay.proofs.CutLemmas.{none_of}
use Rattle.alog_replay.proofs.parser.actor.Goals as goal

pub returns-in_err-n : goal.returns-in_err-n
returns-in_err-n c = none_of _ _ c.from_residual.ensures (λ n p. none-some n ((c.in_err-n.ensures.spelled n).1 p))

pub returns : goal.returns
returns c = rw c.new.ensures c.in_ok-n.ensures.spelled
