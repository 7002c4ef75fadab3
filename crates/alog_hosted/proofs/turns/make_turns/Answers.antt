use Rattle.std.proofs.Common.{[], sym, subst}
use Rattle.std.specs.Prelude.{drop}
use Rattle.alog_msg.specs.declared.item.Item.{Item}
use Rattle.alog_hosted.specs.Owed.{MakesPart}
use Rattle.alog_pool.specs.Deeds.{Due, dues_of}
use Rattle.alog_hosted.proofs.Tries.{drop_nothing, part_all, part_none}
use Rattle.alog_hosted.proofs.turns.make_turns.Goals as goal

pub returns-in-Stop-clause-turns : goal.returns-in-Stop-clause-turns
returns-in-Stop-clause-turns g c =
    let bs = c.args.places.now.items in
    subst (λ (x : Item). MakesPart bs bs (drop c.args.from (dues_of c.args.loggers.now c.args.ticket x)) []) (sym c.in-Stop.is)
    (part_all (drop_nothing c.args.from) (part_none bs (drop {A = Due} c.args.from [])))
