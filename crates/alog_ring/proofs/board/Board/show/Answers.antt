use Rattle.std.proofs.Common.{ℕ, ◌<◌, refl, sym, ap, subst, ◌∙◌, inr, arith}
use Rattle.alog_ring.specs.Sight.{Lent}
use Rattle.alog_ring.proofs.Splitting.{splits}
use Rattle.alog_ring.specs.Seats.{kept_part, lent_note, reading_note, gone}
use Rattle.alog_ring.proofs.Joining.{reads_note}
use Rattle.alog_ring.proofs.Limits.{none_held, splits_in, joins_in}
use Rattle.alog_ring.proofs.Places.{see_both_may}
use Rattle.alog_ring.proofs.board.Board.show.Goals as goal

pub split_seat-note-requires : goal.split_seat-note-requires
split_seat-note-requires g c =
    let sized = c.args.self.now.sized
    in (
      c.requires.table.0,
      omega (arith, sized.0),
      splits_in g.K.Kind.kind c.args.self.now.table.shared.key.firsts.value.items (g.L.Limit.admits c.args.self.now.table.shared.key.limit) c.args.self.now.table.shared.key.places c.args.self.now.table.shared.key.first c.args.from.now.id
          c.args.from.now.me.0 (kept_part 0 c.args.from.now.me.0) (lent_note c.args.from.now.me.0)
          (splits c.args.self.now.table.shared.key.places c.args.self.now.table.shared.key.first c.args.from.now.id
          c.args.from.now.me.0 0 Lent c.requires.some.0 (inr refl) c.requires.stage.0 g.K.Kind.kind.has (g.K.Kind.kind.spare c.args.self.now.table.shared.key.firsts.value.items)),
    )

pub join_seat-requires : goal.join_seat-requires
join_seat-requires g c =
    let sized = c.args.self.now.sized
    in let is = c.split_seat-note.ensures.4
    in (
      c.requires.table.1,
      c.split_seat-note.ensures.3 ∙ c.requires.table.0,
      ap (λ m. m.1) is,
      omega (arith, sized.0),
      joins_in g.K.Kind.kind c.args.self.now.table.shared.key.firsts.value.items (g.L.Limit.admits c.args.self.now.table.shared.key.limit) c.args.self.now.table.shared.key.places c.args.self.now.table.shared.key.first
          c.args.to.now.id c.args.to.now.me.0 c.split_seat-note.result.id c.split_seat-note.result.me.0
          (reading_note c.args.to.now.me.0 c.split_seat-note.result.me.0) gone
          (reads_note g.K.Kind.kind.has (g.K.Kind.kind.spare c.args.self.now.table.shared.key.firsts.value.items) c.args.self.now.table.shared.key.places c.args.self.now.table.shared.key.first
          c.args.to.now.id c.split_seat-note.result.id c.args.to.now.me.0 c.split_seat-note.result.me.0 c.requires.stage.1
          c.requires.some.1
          (ap (λ m. m.0.stage) is) (ap (λ m. m.0.known.parts) is)),
    )

pub load-requires : goal.load-requires
load-requires g c =
    let sized = c.args.self.now.sized
    in let is = c.join_seat.ensures.2
    in let P : ℕ → Type 0 = λ z. 0 < z
    in (
      c.join_seat.ensures.0 ∙ c.requires.table.1,
      omega (arith, sized.0),
      see_both_may g.K.Kind.kind c.args.self.now.table.shared.key.firsts.value.items (g.L.Limit.admits c.args.self.now.table.shared.key.limit) c.args.self.now.table.shared.key.places c.args.self.now.table.shared.key.first
          c.args.self.now.table.shared.table_id.slots c.join_seat.new.seat.id c.join_seat.new.seat.me
          (none_held (g.L.Limit.admits c.args.self.now.table.shared.key.limit) c.join_seat.new.seat.me.1 (ap (λ m. m.1) is ∙ c.requires.home))
          c.split_seat-note.result.me.0.known.seen (subst P (sym (ap (λ m. m.0.known.parts) is)) c.requires.some.1)
          (ap (λ m. m.0.stage) is),
    )
