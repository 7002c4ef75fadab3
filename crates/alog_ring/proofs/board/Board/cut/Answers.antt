use Rattle.std.proofs.Common.{ℕ, ◌<◌, refl, sym, ap, subst, ◌∙◌, inl, arith}
use Rattle.alog_ring.specs.Sight.{Fresh}
use Rattle.alog_ring.specs.Seats.{kept_part, given_part}
use Rattle.alog_ring.proofs.Splitting.{splits}
use Rattle.alog_ring.proofs.Limits.{none_held, splits_in}
use Rattle.alog_ring.proofs.Places.{name_may}
use Rattle.alog_ring.proofs.board.Board.cut.Goals as goal

pub split_seat-given-requires : goal.split_seat-given-requires
split_seat-given-requires g c =
    let sized = c.args.self.now.sized
    in let F : ℕ → Type 0 = λ z. z < c.args.seat.now.me.0.known.parts
    in (
      c.requires.table,
      omega (arith, sized.0),
      splits_in g.K.Kind.kind c.args.self.now.table.shared.key.firsts.value.items (g.L.Limit.admits c.args.self.now.table.shared.key.limit) c.args.self.now.table.shared.key.places c.args.self.now.table.shared.key.first c.args.seat.now.id
          c.args.seat.now.me.0 (kept_part g.A.Amount.parts c.args.seat.now.me.0)
          (given_part g.A.Amount.parts c.args.seat.now.me.0)
          (splits c.args.self.now.table.shared.key.places c.args.self.now.table.shared.key.first c.args.seat.now.id
          c.args.seat.now.me.0 g.A.Amount.parts Fresh (subst F c.requires.amount c.requires.fewer)
          (inl refl) c.requires.stage g.K.Kind.kind.has (g.K.Kind.kind.spare c.args.self.now.table.shared.key.firsts.value.items)),
    )

pub load-requires : goal.load-requires
load-requires g c =
    let sized = c.args.self.now.sized
    in let is = c.split_seat-given.ensures.4
    in let P : ℕ → Type 0 = λ z. 0 < z
    in (
      c.split_seat-given.ensures.3 ∙ c.requires.table,
      omega (arith, sized.0),
      name_may g.K.Kind.kind c.args.self.now.table.shared.key.firsts.value.items (g.L.Limit.admits c.args.self.now.table.shared.key.limit) c.args.self.now.table.shared.key.places c.args.self.now.table.shared.key.first
          c.args.self.now.table.shared.table_id.slots c.split_seat-given.result.id c.split_seat-given.result.me
          (none_held (g.L.Limit.admits c.args.self.now.table.shared.key.limit) c.split_seat-given.result.me.1 (ap (λ m. m.1) is))
          (subst P (sym (ap (λ m. m.0.known.parts) is)) (subst P c.requires.amount c.requires.some))
          (ap (λ m. m.0.stage) is) (ap (λ m. m.0.known.own) is) (ap (λ m. m.0.known.joined) is),
    )
