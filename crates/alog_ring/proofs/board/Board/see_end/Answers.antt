use Rattle.std.proofs.Common.{arith}
use Rattle.alog_ring.proofs.Limits.{none_held}
use Rattle.alog_ring.proofs.Places.{see_end_may}
use Rattle.alog_ring.proofs.board.Board.see_end.Goals as goal

pub load-requires : goal.load-requires
load-requires g c =
    let sized = c.args.self.now.sized
    in (
      c.requires.table,
      omega (arith, sized.0),
      see_end_may g.K.Kind.kind c.args.self.now.table.shared.key.firsts.value.items (g.L.Limit.admits c.args.self.now.table.shared.key.limit) c.args.self.now.table.shared.key.places c.args.self.now.table.shared.key.first
          c.args.self.now.table.shared.table_id.slots c.args.seat.now.id c.args.seat.now.me
          (none_held (g.L.Limit.admits c.args.self.now.table.shared.key.limit) c.args.seat.now.me.1 c.requires.home) c.args.ticket
          c.requires.stage,
    )

pub returns-clause-end : goal.returns-clause-end
returns-clause-end g c = c.load.ensures.2 c.args.ticket c.requires.stage
