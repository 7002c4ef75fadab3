use Rattle.std.proofs.Common.{ℕ, ◌<◌, sym, ap, subst, ◌∙◌, arith}
use Rattle.alog_ring.specs.Seats.{taking_in, gone}
use Rattle.alog_ring.proofs.Joining.{joins}
use Rattle.alog_ring.proofs.Limits.{none_held, joins_in}
use Rattle.alog_ring.proofs.Places.{see_both_may}
use Rattle.alog_ring.proofs.board.Board.take_in.Goals as goal

pub join_seat-requires : goal.join_seat-requires
join_seat-requires g c =
    let sized = c.args.self.now.sized
    in (
      c.requires.table.0,
      c.requires.table.1,
      c.requires.home.1,
      omega (arith, sized.0),
      joins_in g.K.Kind.kind c.args.self.now.table.shared.key.firsts.value.items (g.L.Limit.admits c.args.self.now.table.shared.key.limit) c.args.self.now.table.shared.key.places c.args.self.now.table.shared.key.first
          c.args.seat.now.id c.args.seat.now.me.0 c.args.other.id c.args.other.me.0
          (taking_in c.args.seat.now.me.0 c.args.other.me.0) gone
          (joins g.K.Kind.kind.has (g.K.Kind.kind.spare c.args.self.now.table.shared.key.firsts.value.items) c.args.self.now.table.shared.key.places c.args.self.now.table.shared.key.first
          c.args.seat.now.id c.args.other.id c.args.seat.now.me.0 c.args.other.me.0 c.requires.stage.0 c.requires.some.0
          c.requires.stage.1 c.requires.some.1),
    )

pub load-requires : goal.load-requires
load-requires g c =
    let sized = c.args.self.now.sized
    in let is = c.join_seat.ensures.2
    in let P : ℕ → Type 0 = λ z. 0 < z
    in (
      c.join_seat.ensures.0 ∙ c.requires.table.0,
      omega (arith, sized.0),
      see_both_may g.K.Kind.kind c.args.self.now.table.shared.key.firsts.value.items (g.L.Limit.admits c.args.self.now.table.shared.key.limit) c.args.self.now.table.shared.key.places c.args.self.now.table.shared.key.first
          c.args.self.now.table.shared.table_id.slots c.join_seat.new.seat.id c.join_seat.new.seat.me
          (none_held (g.L.Limit.admits c.args.self.now.table.shared.key.limit) c.join_seat.new.seat.me.1 (ap (λ m. m.1) is ∙ c.requires.home.0))
          c.args.other.me.0.known.seen (subst P (sym (ap (λ m. m.0.known.parts) is)) (omega (arith, c.requires.some.0)))
          (ap (λ m. m.0.stage) is),
    )
