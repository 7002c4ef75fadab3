use Rattle.std.proofs.Common.{◌≡◌, ◌-◌, map}
use Rattle.alog_core.specs.World.{shown}
use Rattle.alog_core.specs.Table.{places_of, read_in, cells_from}
use Rattle.alog_core.proofs.table.views.Given as goal

abbrev pub invariant-loop-ticket : goal.invariant-loop-ticket
invariant-loop-ticket g l =
    let low = l.table.next - places_of l.table in
    l.views.items ≡ map shown (cells_from (read_in l.table) low (l.ticket - low))
