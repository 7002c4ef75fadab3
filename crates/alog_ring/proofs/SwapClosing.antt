-- What was taken out of the places of a closed swap ring is what its history leaves.
use Rattle.std.proofs.Common.{◌≡◌, ℕ, ◌+◌, ◌-◌, ◌%◌, ◌<◌, ◌≤◌, Option, List, map, length, sym, subst, ◌∙◌, arith}
use Rattle.std.specs.List.{AllByRecursion}
use mathlib.Core.Option as maybe
use mathlib.Core.Option.{some-injective}
use lib.ListN.{get_elem?}
use Rattle.alog_core.specs.Queue.{Queue, start}
use Rattle.alog_core.specs.History.{left_by}
use Rattle.alog_ring.specs.Known.{Known}
use Rattle.alog_ring.specs.Kinds.{swap_kind}
use Rattle.alog_ring.specs.Spares.{IsSpare}
use Rattle.alog_ring.specs.Share.{ticket_and_item}
use Rattle.alog_ring.specs.Board.{LeftBy}
use Rattle.alog_ring.specs.Swaps.{AreSpares}
use Rattle.alog_ring.specs.Taken.{LiesFor, AreOf}
use Rattle.alog_ring.proofs.SwapTaking.{cells_shown, spares_as, each_spare}

module _ {B T : Type 0} (shows : B → T) (firsts : List B) (admits : B → Type 0) (k : Known T (Option B)) (n front next : ℕ)
    (places : List B) (left : LeftBy (swap_kind shows) firsts admits k k.seen n places front next) where
  abbrev pub queue : Queue T
  queue = left_by (start k.first) k.seen

  pub cells_left : (ps : List (ℕ × B)) → AreOf places n front ps → front + length ps ≡ next
      → (map (λ (p : ℕ × B). (p.0, shows p.1)) ps ≡ map ticket_and_item queue.cells)
      × AllByRecursion (λ (p : ℕ × B). admits p.1) ps
  cells_left ps are all =
      cells_shown places n shows admits front ps queue.cells are left.lie.in_row (omega (arith, left.count, all))
      (λ i c at. left.lie.items i c at)

  -- what lies in the place of a ticket to come is its spare
  spare_here : (t : ℕ) (y : B) → next ≤ t → t < front + n → LiesFor places n t y → IsSpare firsts n k.seen t y × admits y
  spare_here t y above below lies =
      let e : front + (t - front) ≡ t = omega (arith, left.count)
      in let here = left.lie.spares (t - front) (omega (arith, left.count)) (omega (arith, left.count))
      in let at : get_elem? places (t % n) ≡ maybe.some here.0 =
      subst (λ (z : ℕ). get_elem? places (z % n) ≡ maybe.some here.0) e here.1
      in let same : here.0 ≡ y = some-injective here.0 y (sym at ∙ lies)
      in subst (λ (z : B). IsSpare firsts n k.seen t z × admits z) same
      (subst (λ (z : ℕ). IsSpare firsts n k.seen z here.0) e here.3, here.2)

  pub spares_left : (ys : List B) → AreSpares front next n (LiesFor places n) n ys
      → AreSpares queue.front queue.next n (IsSpare firsts n k.seen) n ys × AllByRecursion admits ys
  spares_left ys are =
      let mine : AreSpares front next n (IsSpare firsts n k.seen) n ys =
      spares_as front next n (LiesFor places n) (IsSpare firsts n k.seen) n ys
      (λ t y above below lies. (spare_here t y above below lies).0) are
      in (
        subst (λ (z : ℕ). AreSpares queue.front z n (IsSpare firsts n k.seen) n ys) left.next_is
            (subst (λ (z : ℕ). AreSpares z next n (IsSpare firsts n k.seen) n ys) left.front_is mine),
        each_spare front next n (LiesFor places n) (LiesFor places n) admits n ys
            (λ t y above below lies. (spare_here t y above below lies).1) are,
      )
