use Rattle.alog_replay.specs.declared.entry.Entry.TheVariants.{Does}
use Rattle.std.proofs.lemmas.Result.{on_ok_weaker}
use Rattle.alog_replay.proofs.player.play_line.Goals as goal

pub returns-in-Does-clause-done : goal.returns-in-Does-clause-done
returns-in-Does-clause-done g c =
    on_ok_weaker c.carry_out.result (λ d. (Does c.in-Does.command, (c.entry_of.ensures (Does c.in-Does.command)).0 c.in-Does.is, d))
    c.carry_out.ensures.done
