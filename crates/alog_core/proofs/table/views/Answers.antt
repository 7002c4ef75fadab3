use Rattle.std.proofs.Common.{ℕ, ◌-◌, ◌≤◌, Option, List, Vec, Global, sym, ap, ◌∙◌, arith}
use Rattle.alog_core.specs.Table.{places_of, read_in}
use Rattle.alog_core.specs.declared.said.CellView.{CellView}
use Rattle.alog_core.proofs.Reading.{shows_none, shows_one}
use Rattle.alog_core.proofs.table.views.Goals.{in-Some+in_ok-push, in_default}
use Rattle.alog_core.proofs.table.views.Goals as goal

pub loop-ticket-preserved : goal.loop-ticket-preserved
loop-ticket-preserved g c =
    let t = c.args.table.now
    in let low : ℕ = t.next - places_of t
    in let from : low ≤ c.loop-ticket.ticket = omega (arith, c.loop-ticket.auto.ticket, c.saturating_sub-ticket.ensures)
    in let items : Vec CellView Global → List CellView = λ v. v.items
    in let here = shows_one (read_in t) low c.loop-ticket.ticket from c.loop-ticket.views.items c.loop-ticket.invariant
    in let gone = shows_none (read_in t) low c.loop-ticket.ticket from c.loop-ticket.views.items c.loop-ticket.invariant
    in elim c.match-view_of.branch [
      | in-Some+in_ok-push w ↦
          let shown_now = here w.in-Some.view (◌∙◌ {A = Option CellView} (sym w.in-Some.is) c.view_of.ensures)
          in let pushed = ◌∙◌ {A = List CellView} w.in_ok-push.ensures.items shown_now
          in ◌∙◌ {A = List CellView} (ap items w.views-is) pushed
      | in_default w ↦
          let shown_now = gone (◌∙◌ {A = Option CellView} (sym w.in_default.is) c.view_of.ensures)
          in ◌∙◌ {A = List CellView} (ap items w.views-is) shown_now
    ]
