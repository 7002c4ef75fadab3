-- What each place shows after an event of one ticket.
use Rattle.std.proofs.Common.{◌≡◌, ◌≢◌, ℕ, ◌+◌, ◌-◌, ◌%◌, ◌<◌, ◌≤◌, ◌⊎◌, None, Some, [], ◌∷◌, ◌++◌, refl, sym, ap, subst, ◌∙◌}
use Rattle.std.proofs.Common.{inl, inr, arith}
use native.Mathlib.Nat.{add-mod_right}
use Rattle.alog_core.specs.Queue.{Cell, Queue, cell_of, marked, without, IsRoom, IsSound}
use Rattle.alog_core.specs.Words.{IsByPlace}
use Rattle.alog_core.specs.declared.mark.Mark.{Mark}
use Rattle.alog_core.proofs.SharedCells.{cell_of-append_other, cell_of-marked_other, cell_of-without_other}
use Rattle.alog_core.proofs.SharedLaps.{same_or_not, near_apart, far_apart}
use Rattle.alog_core.proofs.SharedRising.{listed_within}

-- Only the look-up of t changes.
pub record Turn {T : Type 0} (n t : ℕ) (q r : Queue T) : Type 0 where
  pub others : (u : ℕ) → t ≢ u → cell_of u r.cells ≡ cell_of u q.cells
  pub next : (r.next ≡ q.next) ⊎ ((r.next ≡ q.next + 1) × (t ≡ q.next))
  pub near : r.next ≤ t + n
  pub below : t < r.next

module _ {T : Type 0} (n : ℕ) (q : Queue T) where
  pub turn_claim : (c : Cell T) → 1 ≤ n → c.ticket ≡ q.next
      → Turn n c.ticket q (record { next = q.next + 1; front = q.front; cells = q.cells ++ c ∷ [] })
  turn_claim c some is = record {
    others = λ u apart. cell_of-append_other u q.cells c apart;
    next = inr (refl, is);
    near = omega arith;
    below = omega arith;
  }

  module _ (t : ℕ) (c : Cell T) (sound : IsSound n q) (has : cell_of t q.cells ≡ Some c) where
    within : (q.next ≤ t + n) × (t < q.next)
    within = let w = listed_within t (q.next - n) q.cells q.next c sound.rising has in (omega (arith, w.0), w.1)

    pub turn_mark : (m : Mark) (a front : ℕ)
        → Turn n t q (record { next = q.next; front = front; cells = marked t m a q.cells })
    turn_mark m a front = record {
      others = λ u apart. cell_of-marked_other u t m a q.cells apart;
      next = inl refl;
      near = within.0;
      below = within.1;
    }

    pub turn_take : Turn n t q (record { next = q.next; front = q.front; cells = without t q.cells })
    turn_take = record {
      others = λ u apart. cell_of-without_other u t q.cells apart;
      next = inl refl;
      near = within.0;
      below = within.1;
    }

-- the ticket's place shows what became of it, and the other places show what they did
pub record Turned {T X : Type 0} (n t : ℕ) (r : Queue T) (at at' : ℕ → X) (of_cell : ℕ → Cell T → X) (waiting : ℕ → X) : Type 0 where
  pub others : (i : ℕ) → i ≢ t % n → at' i ≡ at i
  pub here : (c : Cell T) → cell_of t r.cells ≡ Some c → at' (t % n) ≡ of_cell t c
  pub gone : cell_of t r.cells ≡ None → at' (t % n) ≡ waiting (t + n)

pub by_place_turn : {T X : Type 0} {n t : ℕ} {q r : Queue T} (at at' : ℕ → X) (of_cell : ℕ → Cell T → X)
    (waiting : ℕ → X)
    → IsSound n r → Turn n t q r → IsByPlace n q at of_cell waiting → Turned n t r at at' of_cell waiting
    → IsByPlace n r at' of_cell waiting
by_place_turn {T} {n} {t} {q} {r} at at' of_cell waiting sound turn old shows = record {
  cells =
      λ u c is.
      elim (same_or_not t u) [
        | inl same ↦
            let P : ℕ → Type 0 = λ z. (d : Cell T) → cell_of z r.cells ≡ Some d → at' (z % n) ≡ of_cell z d
            in subst P same shows.here c is
        | inr apart ↦
            let w : (r.next - n ≤ u) × (u < r.next) = listed_within u (r.next - n) r.cells r.next c sound.rising is
            in let places_apart : u % n ≢ t % n =
            near_apart n t u apart (omega (arith, w.0, turn.below)) (omega (arith, w.1, turn.near))
            in shows.others (u % n) places_apart ∙ old.cells u c (sym (turn.others u apart) ∙ is)
      ];
  free =
      λ u from to room.
      elim (same_or_not u (t + n)) [
        | inl same ↦
            let place : u % n ≡ t % n = ap (λ (z : ℕ). z % n) same ∙ add-mod_right t n
            in ap at' place ∙ shows.gone (room t (sym same)) ∙ ap waiting (sym same)
        | inr other ↦
            let places_apart : u % n ≢ t % n =
            far_apart n t u other (omega (arith, turn.below)) (omega (arith, turn.near))
            in let from_q : q.next ≤ u = elim turn.next [ inl e ↦ omega (arith, e) | inr e ↦ omega (arith, e.0) ]
            in let to_q : u < q.next + n =
            elim turn.next [ inl e ↦ omega (arith, e) | inr e ↦ omega (arith, e.0, e.1) ]
            in let old_room : IsRoom n u q.cells = λ v e. let apart : t ≢ v = λ z.
            other (sym e ∙ ap (λ (y : ℕ). y + n) (sym z)) in sym (turn.others v apart) ∙ room v e
            in shows.others (u % n) places_apart ∙ old.free u from_q to_q old_room
      ];
}

-- what shows of a ticket that has a cell after the event
pub turned : {T X : Type 0} {n t : ℕ} {q r : Queue T} {c : Cell T} (at at' : ℕ → X) (of_cell : ℕ → Cell T → X)
    {waiting : ℕ → X}
    → IsSound n r → Turn n t q r → cell_of t r.cells ≡ Some c → IsByPlace n q at of_cell waiting
    → ((i : ℕ) → i ≢ t % n → at' i ≡ at i) × (at' (t % n) ≡ of_cell t c) → IsByPlace n r at' of_cell waiting
turned {T} {n} {t} {q} {r} {c} at at' of_cell {waiting} sound turn has old shows =
    by_place_turn at at' of_cell waiting sound turn old
    (record {
      others = shows.0;
      here =
          λ d is. let same : c ≡ d = cc in let P : Cell T → Type 0 = λ z. at' (t % n) ≡ of_cell t z in subst P same shows.1;
      gone = λ none. let bad : None ≡ Some c = sym none ∙ has in absurd (cc);
    })
