use Rattle.std.proofs.Common.{◌≡◌, ℕ, ◌+◌, ◌%◌, ◌<◌, ◌≤◌, Bool, false, List, [], ◌∷◌, ◌++◌, set, length, bit_and, vec_capacity, refl}
use Rattle.std.proofs.Common.{sym, ap, subst, ◌∙◌, arith}
use Rattle.std.proofs.lemmas.List.{length-append}
use mathlib.Core.Option as maybe
use lib.ListN.{get_elem?}
use Rattle.std.specs.Mem.Slots.{slots_items, slots_filled, slots_counts}
use Rattle.alog_ring.specs.Taken.{AreOf}
use Rattle.alog_ring.proofs.SwapTaking.{Emptied, none_emptied, one_emptied, one_more_of}
use Rattle.alog_ring.proofs.swap_close.take_cells.Goals as goal

pub loop-ticket-init : goal.loop-ticket-init
loop-ticket-init g c =
    let n : ℕ = c.args.mask + 1
    in let slots = c.args.closed.now.slots
    in let items : List g.row.B.Denot = slots_items slots
    in (
      none_emptied n c.args.front (slots_filled slots) (omega arith) (sym (slots_counts slots).1 ∙ c.requires.places.1)
          (λ k low. c.requires.places.0 k (omega arith) (omega (arith, c.requires.places.1))),
      refl,
      c.requires.places.1,
      subst (λ (l : List (ℕ × g.row.B.Denot)). AreOf items n c.args.front l) (sym c.requires.room.0) tt,
      omega (arith, ap length c.requires.room.0),
      c.requires.room.1,
    )

pub take-value-requires : goal.take-value-requires
take-value-requires g c =
    let n : ℕ = c.args.mask + 1
    in let inv = c.loop-ticket.invariant
    in let t : ℕ = c.loop-ticket.ticket
    in let at : bit_and t c.args.mask ≡ t % n = c.requires.sizes.2 t
    in let low : t % n < n = Rattle.std.proofs.Common.mod-lt t (omega arith)
    in (
      omega (arith, at, low, inv.2),
      let full = inv.0.full t (omega arith) (omega (arith, c.loop-ticket-test.true, c.requires.tickets.1))
          in subst (λ (z : ℕ). Rattle.std.specs.Bool.IsTrue (Rattle.std.proofs.Common.get_or (slots_filled c.loop-ticket.closed.slots) z false))
          (sym at) full,
    )

pub push_reserved-requires : goal.push_reserved-requires
push_reserved-requires g c =
    let inv = c.loop-ticket.invariant
    in omega (arith, inv.4, inv.5, c.loop-ticket-test.true, c.requires.tickets.1)

pub loop-ticket-preserved : goal.loop-ticket-preserved
loop-ticket-preserved g c =
    let n : ℕ = c.args.mask + 1
    in let inv = c.loop-ticket.invariant
    in let t : ℕ = c.loop-ticket.ticket
    in let before : List g.row.B.Denot = slots_items c.args.closed.now.slots
    in let now : List g.row.B.Denot = slots_items c.loop-ticket.closed.slots
    in let filled : List Bool = slots_filled c.loop-ticket.closed.slots
    in let at : bit_and t c.args.mask ≡ t % n = c.requires.sizes.2 t
    in let lies : get_elem? now (t % n) ≡ maybe.some c.take-value.result =
    subst (λ (z : ℕ). get_elem? now z ≡ maybe.some c.take-value.result) at c.take-value.ensures.value
    in let others = c.take-value.ensures.others
    in let filled_now : slots_filled c.take-value.new.self.slots ≡ set filled (t % n) false = others.1
    ∙ ap (λ (z : ℕ). set filled z false) at
    in let high : t < c.args.front + n = omega (arith, c.loop-ticket-test.true, c.requires.tickets.1)
    in let more : c.push_reserved.new.self.items ≡ c.loop-ticket.cells.items ++ (t, c.take-value.result) ∷ [] =
    c.push_reserved.ensures.items
    in (
      subst (λ (z : List Bool). Emptied n c.args.front (t + 1) z) (sym filled_now)
          (one_emptied n c.args.front t filled (omega arith) c.loop-ticket.auto.ticket high inv.0),
      others.0 ∙ inv.1,
      others.2 ∙ inv.2,
      subst (λ (l : List (ℕ × g.row.B.Denot)). AreOf before n c.args.front l) (sym more)
          (one_more_of before n c.args.front c.loop-ticket.cells.items t c.take-value.result inv.3 inv.4
          (subst (λ (z : List g.row.B.Denot). get_elem? z (t % n) ≡ maybe.some c.take-value.result) inv.1 lies)),
      omega (arith, ap length more, length-append c.loop-ticket.cells.items ((t, c.take-value.result) ∷ []), inv.4),
      omega (arith, inv.5, c.push_reserved.ensures.capacity),
    )

pub returns-clause-same : goal.returns-clause-same
returns-clause-same g c = (c.loop-ticket.invariant.1, c.loop-ticket.invariant.2)

pub returns-clause-taken : goal.returns-clause-taken
returns-clause-taken g c t from below = c.loop-ticket.invariant.0.taken t from (omega (arith, c.loop-ticket-test.false))

pub returns-clause-full : goal.returns-clause-full
returns-clause-full g c t above below =
    let end : c.loop-ticket.ticket ≤ c.args.next = c.loop-ticket.auto.ticket-end c.requires.tickets.0
    in c.loop-ticket.invariant.0.full t (omega (arith, end)) below

pub returns-clause-cells : goal.returns-clause-cells
returns-clause-cells g c =
    let end : c.loop-ticket.ticket ≤ c.args.next = c.loop-ticket.auto.ticket-end c.requires.tickets.0
    in (c.loop-ticket.invariant.3, omega (arith, end, c.loop-ticket-test.false, c.loop-ticket.invariant.4))
