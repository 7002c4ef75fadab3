use Rattle.std.proofs.Common.{ℕ, ◌≡◌, ◌+◌, ◌*◌, ◌%◌, sym, ap, ◌∙◌, arith}
use Rattle.alog_ring.specs.declared.words.TheConstants.{SEQUENCES, APART}
use Rattle.alog_ring.specs.Rule.{seq_of}
use Rattle.alog_ring.proofs.Limits.{none_held}
use Rattle.alog_ring.proofs.Places.{see_free_may}
use Rattle.alog_ring.proofs.board.Board.see_free.Goals as goal

pub load-requires : goal.load-requires
load-requires g c =
    let sized = c.args.self.now.sized
    in let t : ℕ = c.args.ticket
    in let n : ℕ = c.args.self.now.table.shared.key.places
    in let place : c.place_of.result ≡ t % n = c.place_of.ensures.place ∙ ap (λ (z : ℕ). t % z) (sym sized.2)
    in let word : c.place_of.result * APART + SEQUENCES ≡ seq_of n t = ap (λ (z : ℕ). z * APART + SEQUENCES) place
    in (
      c.requires.table,
      omega (arith, sized.0, c.place_of.ensures.within),
      see_free_may g.K.Kind.kind c.args.self.now.table.shared.key.firsts.value.items (g.L.Limit.admits c.args.self.now.table.shared.key.limit) n c.args.self.now.table.shared.key.first c.args.self.now.table.shared.table_id.slots c.args.seat.now.id
          c.args.seat.now.me
          (none_held (g.L.Limit.admits c.args.self.now.table.shared.key.limit) c.args.seat.now.me.1 c.requires.home) (c.place_of.result * APART + SEQUENCES) t word c.requires.stage,
    )

pub returns-clause-sequence : goal.returns-clause-sequence
returns-clause-sequence g c = c.load.ensures.2 c.args.ticket c.requires.stage
