use Rattle.std.proofs.Common.{◌≡◌, ℕ, ◌+◌, ◌-◌, ◌%◌, ◌<◌, ◌≤◌, Bool, false, List, [], ◌∷◌, ◌++◌, set, bit_and, get_or, vec_capacity, refl}
use Rattle.std.proofs.Common.{sym, ap, subst, ◌∙◌, arith}
use mathlib.Core.Option as maybe
use lib.ListN.{get_elem?}
use Rattle.std.specs.Bool.{IsTrue}
use Rattle.std.specs.Mem.Slots.{slots_items, slots_filled, slots_len, slots_counts}
use Rattle.alog_ring.specs.Swaps.{ComesAt}
use Rattle.alog_ring.proofs.SwapTaking.{place_ticket, Spared, none_spared, cell_spared, spare_spared}
use Rattle.alog_ring.proofs.swap_close.take_spares.Goals as goal
use Rattle.alog_ring.proofs.swap_close.take_spares.Goals.{then-ticket-next, else-ticket-next}

-- the ticket that the code computes is the place's
comes_here : (front place mask : ℕ) → ((t : ℕ) → bit_and t mask ≡ t % (mask + 1)) → place < mask + 1
    → ComesAt front (mask + 1) place (front + bit_and (place + (mask + 1) - bit_and front mask) mask)
comes_here front place mask masks low =
    let is : bit_and (place + (mask + 1) - bit_and front mask) mask ≡ (place + (mask + 1) - front % (mask + 1)) % (mask + 1) =
    ap (λ (z : ℕ). bit_and (place + (mask + 1) - z) mask) (masks front) ∙ masks (place + (mask + 1) - front % (mask + 1))
    in subst (λ (z : ℕ). ComesAt front (mask + 1) place (front + z)) (sym is) (place_ticket (mask + 1) front place low)

pub loop-place-init : goal.loop-place-init
loop-place-init g c =
    let n : ℕ = c.args.mask + 1
    in let slots = c.args.closed.slots
    in (
      none_spared (slots_items slots) n c.args.front c.args.next (slots_filled slots) c.args.spares.items
          (sym (slots_counts slots).1 ∙ c.requires.places) c.requires.room.0 c.requires.taken c.requires.full,
      refl,
      c.requires.places,
      c.requires.room.1,
    )

pub take-requires : goal.take-requires
take-requires g c =
    let n : ℕ = c.args.mask + 1
    in let inv = c.loop-place.invariant
    in let place : ℕ = c.loop-place.place
    in let comes = comes_here c.args.front place c.args.mask c.requires.sizes.2 c.loop-place-test.true
    in let filled : List Bool = slots_filled c.loop-place.closed.slots
    in let full = inv.0.full _ c.if-ticket-next.true comes.1 (omega (arith, comes.2))
    in (omega (arith, inv.2, c.loop-place-test.true), subst (λ (z : ℕ). IsTrue (get_or filled z false)) comes.2 full)

pub loop-place-preserved : goal.loop-place-preserved
loop-place-preserved g c =
    let n : ℕ = c.args.mask + 1
    in let inv = c.loop-place.invariant
    in let place : ℕ = c.loop-place.place
    in let before : List g.row.B.Denot = slots_items c.args.closed.slots
    in let filled : List Bool = slots_filled c.loop-place.closed.slots
    in let t : ℕ = c.args.front + bit_and (place + (c.args.mask + 1) - bit_and c.args.front c.args.mask) c.args.mask
    in let comes : ComesAt c.args.front n place t =
    comes_here c.args.front place c.args.mask c.requires.sizes.2 c.loop-place-test.true
    in let S : List Bool → List g.row.B.Denot → Type 0 =
    λ f ys. Spared before n c.args.front c.args.next (place + 1) f ys
    in elim c.if-ticket-next.branch [
      | then-ticket-next w ↦
          let lies : get_elem? before (t % n) ≡ maybe.some w.take.result =
          subst (λ (z : ℕ). get_elem? before z ≡ maybe.some w.take.result) (sym comes.2)
          (subst (λ (l : List g.row.B.Denot). get_elem? l place ≡ maybe.some w.take.result) inv.1 w.take.ensures.value)
          in let more : c.if-ticket-next.spares.items ≡ c.loop-place.spares.items ++ w.take.result ∷ [] =
          ap (λ v. v.items) w.spares-is ∙ w.push_reserved.ensures.items
          in let filled_now : slots_filled c.if-ticket-next.closed.slots ≡ set filled place false =
          ap (λ k. slots_filled k.slots) w.closed-is ∙ w.take.ensures.others.1
          in (
            subst (λ (f : List Bool). S f c.if-ticket-next.spares.items) (sym filled_now)
                (subst (λ (l : List g.row.B.Denot). S (set filled place false) l) (sym more)
                (spare_spared before n c.args.front c.args.next place filled c.loop-place.spares.items inv.0 t comes w.take.result
                c.loop-place-test.true w.if-ticket-next.true lies)),
            ap (λ k. slots_items k.slots) w.closed-is ∙ w.take.ensures.others.0 ∙ inv.1,
            ap (λ k. slots_len k.slots) w.closed-is ∙ w.take.ensures.others.2 ∙ inv.2,
            subst (λ v. n ≤ vec_capacity v) (sym w.spares-is) (omega (arith, inv.3, w.push_reserved.ensures.capacity)),
          )
      | else-ticket-next w ↦
          let same : c.if-ticket-next.spares.items ≡ c.loop-place.spares.items = ap (λ v. v.items) w.spares-is
          in let filled_now : slots_filled c.if-ticket-next.closed.slots ≡ filled = ap (λ k. slots_filled k.slots) w.closed-is
          in (
            subst (λ (f : List Bool). S f c.if-ticket-next.spares.items) (sym filled_now)
                (subst (λ (l : List g.row.B.Denot). S filled l) (sym same)
                (cell_spared before n c.args.front c.args.next place filled c.loop-place.spares.items inv.0 t comes
                w.if-ticket-next.false)),
            ap (λ k. slots_items k.slots) w.closed-is ∙ inv.1,
            ap (λ k. slots_len k.slots) w.closed-is ∙ inv.2,
            subst (λ v. n ≤ vec_capacity v) (sym w.spares-is) inv.3,
          )
    ]
