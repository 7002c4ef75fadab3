use Rattle.std.proofs.Common.{Some, set, refl, ap}
use Rattle.alog_core.specs.Table.{held}
use Rattle.alog_core.proofs.Advancing.{claims}
use Rattle.alog_core.proofs.play.claim.Goals as goal

pub returns : goal.returns
returns g c =
    claims c.args.table.now _ c.requires.table c.args.actor refl c.args.ticket c.args.item c.requires.staged
    c.if-table-ticket.false refl refl refl
    (ap (λ i. set c.args.table.now.slots.items i (Some (held c.args.item c.args.actor))) c.place_of.ensures)
