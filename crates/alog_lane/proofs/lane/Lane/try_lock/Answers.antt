use Rattle.std.proofs.Common.{sym, ap, ◌∙◌, arith}
use Rattle.alog_lane.proofs.SharedSteps.{tries}
use Rattle.alog_lane.proofs.lane.Lane.try_lock.Goals as goal

pub compare_exchange-requires : goal.compare_exchange-requires
compare_exchange-requires g c =
    let sized = c.self.inside.sized
    in (
      c.requires.table ∙ ap (λ l. l.table) (sym c.self.view_is),
      omega (arith, sized.0),
      tries g.T.Turn.turns g.T.Turn.may_turn c.self.inside.table.shared.key.value c.self.inside.table.shared.table_id.slots
          c.args.own.now.id c.args.own.now.me c.requires.stage,
    )
