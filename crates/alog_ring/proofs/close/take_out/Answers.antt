use Rattle.std.proofs.Common.{◌≡◌, ℕ, ◌+◌, ◌%◌, ◌<◌, ◌≤◌, Bool, false, Option, Some, None, List, [], ◌∷◌, ◌++◌, set, bit_and}
use Rattle.std.proofs.Common.{vec_capacity, sym, ap, subst, ◌∙◌, arith}
use lib.ListN.{get_elem?}
use mathlib.Core.Option as maybe
use Rattle.std.specs.Mem.Slots.{slots_items, slots_filled, slots_len, slots_counts}
use Rattle.alog_ring.proofs.Taking.{HasTaken, taken_none, takes_value, takes_nothing, all_taken, none_filled}
use Rattle.alog_ring.proofs.close.take_out.Goals as goal
use Rattle.alog_ring.proofs.close.take_out.Goals.{in-Some, in-None}

pub loop-i-init : goal.loop-i-init
loop-i-init g c =
    let n : ℕ = c.args.mask + 1
    in let slots = c.args.closed.slots
    in let len : slots_len slots ≡ n = c.requires.places.1
    in (
      taken_none {first = c.args.first} {items = slots_items slots} {filled = slots_filled slots} (omega arith)
          (sym (slots_counts slots).1 ∙ len) (λ k low. c.requires.places.0 k (omega arith) (omega arith)) c.requires.room.0,
      len,
      c.requires.room.1,
    )

pub loop-i-preserved : goal.loop-i-preserved
loop-i-preserved g c =
    let n : ℕ = c.args.mask + 1
    in let i : ℕ = c.loop-i.i
    in let inv = c.loop-i.invariant
    in let place : ℕ = (c.args.first + i) % n
    in let before : List (Option g.row.T.Denot) = slots_items c.args.closed.slots
    in let now : List (Option g.row.T.Denot) = slots_items c.loop-i.closed.slots
    in let filled : List Bool = slots_filled c.loop-i.closed.slots
    in let at : bit_and (c.args.first + i) c.args.mask ≡ place = c.requires.sizes.2 (c.args.first + i)
    in let value : get_elem? now place ≡ maybe.some c.take.result =
    subst (λ (z : ℕ). get_elem? now z ≡ maybe.some c.take.result) at c.take.ensures.value
    in let others = c.take.ensures.others
    in let filled_now : slots_filled c.take.new.self.slots ≡ set filled place false = others.1
    ∙ ap (λ (z : ℕ). set filled z false) at
    in let len : slots_len c.take.new.self.slots ≡ n = others.2 ∙ inv.1
    in let some : 1 ≤ n = omega arith
    in let low : i < n = c.loop-i-test.true
    in elim c.match-take.branch [
      | in-Some w ↦
          let x : g.row.T.Denot = w.in-Some.value
          in let left : c.match-take.left.items ≡ c.loop-i.left.items ++ (c.args.first + i, x) ∷ [] =
          ap (λ v. v.items) w.left-is ∙ w.push_reserved.ensures.items
          in let got : get_elem? now place ≡ maybe.some (Some x) = value ∙ ap maybe.some w.in-Some.is
          in let done = takes_value n c.args.first i before now filled c.loop-i.left.items inv.0 some low x got
          in (
            subst (λ (z : List (Option g.row.T.Denot)).
                HasTaken n c.args.first (i + 1) before z (slots_filled c.take.new.self.slots) c.match-take.left.items)
                (sym others.0)
                (subst (λ (z : List Bool). HasTaken n c.args.first (i + 1) before now z c.match-take.left.items)
                (sym filled_now)
                (subst (λ (z : List (ℕ × g.row.T.Denot)).
                HasTaken n c.args.first (i + 1) before now (set filled place false) z) (sym left) done)),
            len,
            subst (λ v. n ≤ vec_capacity v) (sym w.left-is) (omega (arith, inv.2, w.push_reserved.ensures.capacity)),
          )
      | in-None w ↦
          let left : c.match-take.left.items ≡ c.loop-i.left.items = ap (λ v. v.items) w.left-is
          in let got : get_elem? now place ≡ maybe.some None = value ∙ ap maybe.some w.in-None.is
          in let done = takes_nothing n c.args.first i before now filled c.loop-i.left.items inv.0 some low got
          in (
            subst (λ (z : List (Option g.row.T.Denot)).
                HasTaken n c.args.first (i + 1) before z (slots_filled c.take.new.self.slots) c.match-take.left.items)
                (sym others.0)
                (subst (λ (z : List Bool). HasTaken n c.args.first (i + 1) before now z c.match-take.left.items)
                (sym filled_now)
                (subst (λ (z : List (ℕ × g.row.T.Denot)).
                HasTaken n c.args.first (i + 1) before now (set filled place false) z) (sym left) done)),
            len,
            subst (λ v. n ≤ vec_capacity v) (sym w.left-is) inv.2,
          )
    ]

pub free-requires : goal.free-requires
free-requires g c =
    let n : ℕ = c.args.mask + 1
    in let inv = c.loop-i.invariant
    in let end : c.loop-i.i ≡ n = omega arith
    in let H : ℕ → Type 0 =
    λ z.
    HasTaken n c.args.first z (slots_items c.args.closed.slots) (slots_items c.loop-i.closed.slots)
    (slots_filled c.loop-i.closed.slots) c.loop-i.left.items
    in λ k low.
    none_filled (omega arith) (subst H end inv.0) k (omega (arith, inv.1))

pub returns : goal.returns
returns g c =
    let n : ℕ = c.args.mask + 1
    in let inv = c.loop-i.invariant
    in let end : c.loop-i.i ≡ n = omega arith
    in let H : ℕ → Type 0 =
    λ z.
    HasTaken n c.args.first z (slots_items c.args.closed.slots) (slots_items c.loop-i.closed.slots)
    (slots_filled c.loop-i.closed.slots) c.loop-i.left.items
    in λ cells lie.
    all_taken (subst H end inv.0) lie
