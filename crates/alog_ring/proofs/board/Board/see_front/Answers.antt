use Rattle.std.proofs.Common.{arith}
use Rattle.alog_ring.proofs.Limits.{none_held}
use Rattle.alog_ring.proofs.Places.{see_front_may}
use Rattle.alog_ring.proofs.board.Board.see_front.Goals as goal

pub load-requires : goal.load-requires
load-requires g c =
    let sized = c.args.self.now.sized
    in (
      c.requires.table,
      omega (arith, sized.0),
      see_front_may g.K.Kind.kind c.args.self.now.table.shared.key.firsts.value.items (g.L.Limit.admits c.args.self.now.table.shared.key.limit) c.args.self.now.table.shared.key.places c.args.self.now.table.shared.key.first
          c.args.self.now.table.shared.table_id.slots c.args.seat.now.id c.args.seat.now.me
          (none_held (g.L.Limit.admits c.args.self.now.table.shared.key.limit) c.args.seat.now.me.1 c.requires.home) c.requires.stage,
    )
