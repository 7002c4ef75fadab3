use Rattle.std.proofs.Common.{ℕ, ◌≡◌, ◌+◌, ◌*◌, ◌%◌, ◌∷◌, sym, ap, ◌∙◌, refl, arith}
use Rattle.atomic_table.specs.Table.{rest}
use Rattle.alog_ring.specs.declared.words.TheConstants.{SEQUENCES, APART}
use Rattle.alog_ring.specs.Rule.{seq_of}
use Rattle.alog_ring.proofs.Limits.{none_held, one_held, held_first}
use Rattle.alog_ring.proofs.Places.{grab_may, take_may}
use Rattle.alog_ring.proofs.SharedCalling.{emptying_stage, emptying_place, empties}
use Rattle.alog_ring.proofs.board.Board.grab_and_swap.Goals as goal

pub compare_exchange_with-found-requires : goal.compare_exchange_with-found-requires
compare_exchange_with-found-requires g c =
    let sized = c.args.self.now.sized
    in let key = c.args.self.now.table.shared.key
    in let admits = g.L.Limit.admits key.limit
    in (
      c.requires.table,
      omega (arith, sized.0),
      grab_may g.K.Kind.kind key.firsts.value.items admits key.places key.first c.args.self.now.table.shared.table_id.slots
          c.args.seat.now.id c.args.seat.now.me (none_held admits c.args.seat.now.me.1 c.requires.home) c.args.ticket
          (c.args.ticket + 1) c.args.hand.now g.P.Picks.admits c.requires.limit c.requires.stage refl,
    )

pub swap-requires-clause-out : goal.swap-requires-clause-out
swap-requires-clause-out g c =
    let sized = c.args.self.now.sized
    in let did = c.compare_exchange_with-found.ensures.2.0.0 c.if-found-ticket.false
    in let slot : c.place_of-place.result ≡ c.compare_exchange_with-found.result % c.args.self.now.table.shared.table_id.slots =
    c.place_of-place.ensures.place ∙ (λ i. sym c.if-found-ticket.false i % sym sized.1 i)
    in (did.2.0, did.2.1 ∙ (λ i. (sym slot i, did.2.0) ∷ sym (ap rest did.2.1) i))

pub store-requires : goal.store-requires
store-requires g c =
    let sized = c.args.self.now.sized
    in let key = c.args.self.now.table.shared.key
    in let kind = g.K.Kind.kind
    in let admits = g.L.Limit.admits key.limit
    in let t : ℕ = c.args.ticket
    in let n : ℕ = key.places
    in let slots : ℕ = c.args.self.now.table.shared.table_id.slots
    in let place : c.place_of-place.result ≡ t % n = c.place_of-place.ensures.place ∙ ap (λ (z : ℕ). t % z) (sym sized.2)
    in let word : c.place_of-place.result * APART + SEQUENCES ≡ seq_of n t = ap (λ (z : ℕ). z * APART + SEQUENCES) place
    in let told = c.compare_exchange_with-found.ensures.2.0
    in let mid = c.compare_exchange_with-found.new.seat.me
    in let out = c.swap.new.seat.me
    in let hit = c.if-found-ticket.false
    in let brought = c.args.hand.now
    in let stage = emptying_stage kind slots t (t + 1) c.place_of-place.result c.compare_exchange_with-found.result n brought brought
    c.swap.new.hand c.args.seat.now.me mid out told hit c.swap.ensures.before c.swap.ensures.after place
    in let has = emptying_place kind slots t (t + 1) c.place_of-place.result c.compare_exchange_with-found.result n brought brought
    c.swap.new.hand c.args.seat.now.me mid out told hit c.swap.ensures.before c.swap.ensures.after place
    in (
      c.swap.ensures.same.0 ∙ c.compare_exchange_with-found.ensures.0 ∙ c.requires.table,
      omega (arith, sized.0, c.place_of-place.ensures.within),
      take_may kind key.firsts.value.items admits n key.first slots c.swap.new.seat.id out
          (one_held admits out.1 (t % n) brought (has ∙ (λ i. (t % n, brought) ∷ c.requires.home i)) c.requires.admitted) t (told.0 hit).0
          c.requires.brought.0 c.requires.brought.1 word (ap (λ (z : ℕ). t + z) (sym sized.2)) stage has,
    )

pub returns-clause-emptied : goal.returns-clause-emptied
returns-clause-emptied g c _ =
    let sized = c.args.self.now.sized
    in let kind = g.K.Kind.kind
    in let t : ℕ = c.args.ticket
    in let n : ℕ = c.args.self.now.table.shared.key.places
    in let slots : ℕ = c.args.self.now.table.shared.table_id.slots
    in let place : c.place_of-place.result ≡ t % n = c.place_of-place.ensures.place ∙ ap (λ (z : ℕ). t % z) (sym sized.2)
    in let told = c.compare_exchange_with-found.ensures.2.0
    in let mid = c.compare_exchange_with-found.new.seat.me
    in let out = c.swap.new.seat.me
    in let hit = c.if-found-ticket.false
    in let brought = c.args.hand.now
    in let stage = emptying_stage kind slots t (t + 1) c.place_of-place.result c.compare_exchange_with-found.result n brought brought
    c.swap.new.hand c.args.seat.now.me mid out told hit c.swap.ensures.before c.swap.ensures.after place
    in let has = emptying_place kind slots t (t + 1) c.place_of-place.result c.compare_exchange_with-found.result n brought brought
    c.swap.new.hand c.args.seat.now.me mid out told hit c.swap.ensures.before c.swap.ensures.after place
    in (
      empties kind slots t (t + 1) c.place_of-place.result c.compare_exchange_with-found.result n brought brought c.swap.new.hand
          c.args.seat.now.me mid out told hit c.swap.ensures.before c.swap.ensures.after place c.store.new.seat.me
          c.requires.brought.0 c.requires.brought.1
          (c.store.ensures.2 t (told.0 hit).0 (t % n) brought c.args.seat.now.me.1 c.requires.brought.0 stage has c.requires.brought.1),
      held_first g.P.Picks.admits mid.1 c.place_of-place.result c.swap.new.hand c.swap.ensures.before
          c.compare_exchange_with-found.ensures.2.1,
    )
