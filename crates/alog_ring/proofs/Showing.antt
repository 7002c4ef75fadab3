-- The words and the places after a turn.
use Rattle.std.proofs.Common.{◌≡◌, ◌≢◌, ℕ, ◌+◌, ◌-◌, ◌*◌, ◌%◌, ◌<◌, ◌≤◌, List, length, get_or, Some, None, sym, ap, subst, ◌∙◌}
use Rattle.std.proofs.Common.{inl, inr, arith}
use mathlib.Core.Option.{Option, some}
use native.Mathlib.Nat.{add-mod_right}
use lib.ListN.{get_elem?}
use Rattle.alog_core.specs.Queue.{Cell, Queue, last, cell_of, IsRoom, IsSound}
use Rattle.alog_core.specs.History.{Entry}
use Rattle.alog_core.proofs.SharedLaps.{near_apart, far_apart, same_or_not}
use Rattle.alog_ring.specs.declared.words.TheConstants.{NEXT, FRONT, SEQUENCES, APART}
use Rattle.alog_ring.specs.Rule.{seq_of, ShowsCell, Shown}
use Rattle.alog_ring.proofs.Turning.{Turn, within}

module _ {S T N : Type 0} (has : S → T → Type 0) (spare : ℕ → List (Entry T N) → ℕ → S → Type 0) where
  -- what a turn of ticket t does to the words and the places
  pub record Turned (n t : ℕ) (r : Queue T) (h h' : List (Entry T N)) (words words' : List ℕ)
      (homes homes' : List (Option S)) : Type 0 where
    pub wide : length words' ≡ length words
    pub places : length homes' ≡ length homes
    pub next : get_or words' NEXT 0 ≡ r.next
    pub front : get_or words' FRONT 0 ≡ r.front
    pub bounded : r.next ≤ last
    pub words_else : (i : ℕ) → i ≢ t % n → get_or words' (i * APART + SEQUENCES) 0 ≡ get_or words (i * APART + SEQUENCES) 0
    pub homes_else : (i : ℕ) → i ≢ t % n → get_elem? homes' i ≡ get_elem? homes i
    pub cell_here : (c : Cell T) → cell_of t r.cells ≡ Some c
        → ShowsCell has spare t (get_or words' (seq_of n t) 0) (get_elem? homes' (t % n)) c.item c.mark
    pub free_here : cell_of t r.cells ≡ None
        → (get_or words' (seq_of n t) 0 ≡ t + n)
        × ((y : S) × (get_elem? homes' (t % n) ≡ some (some y)) × spare n h' (t + n) y)
    pub spare_else : (u : ℕ) → u ≢ t + n → (y : S) → spare n h u y → spare n h' u y

  pub shown_turn : {n a t : ℕ} {q r : Queue T} {h h' : List (Entry T N)} {words words' : List ℕ}
      {homes homes' : List (Option S)}
      → IsSound n r → Turn n a t q r → t < r.next → Shown has spare n h q words homes
      → Turned n t r h h' words words' homes homes' → Shown has spare n h' r words' homes'
  shown_turn {n} {t} {q} {r} {h'} {words} {words'} {homes'} sound turn below shown turned = record {
    wide = turned.wide ∙ shown.wide;
    places = turned.places ∙ shown.places;
    next = turned.next;
    front = turned.front;
    bounded = turned.bounded;
    cells =
        λ u c is.
        elim (same_or_not t u) [
          | inl same ↦
              let P : ℕ → Type 0 = λ z. (d : Cell T) → cell_of z r.cells ≡ Some d
              → ShowsCell has spare z (get_or words' (seq_of n z) 0) (get_elem? homes' (z % n)) d.item d.mark
              in subst P same turned.cell_here c is
          | inr apart ↦
              let w : (r.next - n ≤ u) × (u < r.next) = within n r u c sound is
              in let places_apart : u % n ≢ t % n =
              near_apart n t u apart (omega (arith, w.0)) (omega (arith, w.1, turn.near))
              in let old = shown.cells u c (sym (turn.others u apart) ∙ is)
              in let Q : ℕ → Type 0 = λ z. ShowsCell has spare u z (get_elem? homes' (u % n)) c.item c.mark
              in let R : Option (Option S) → Type 0 =
              λ z. ShowsCell has spare u (get_or words (seq_of n u) 0) z c.item c.mark
              in subst Q (sym (turned.words_else (u % n) places_apart))
              (subst R (sym (turned.homes_else (u % n) places_apart)) old)
        ];
    free =
        λ u from to room.
        elim (same_or_not u (t + n)) [
          | inl same ↦
              let now : (get_or words' (seq_of n t) 0 ≡ t + n)
              × ((y : S) × (get_elem? homes' (t % n) ≡ some (some y)) × spare n h' (t + n) y) =
              turned.free_here (room t (sym same))
              in let place : u % n ≡ t % n = ap (λ (z : ℕ). z % n) same ∙ add-mod_right t n
              in let P : ℕ → Type 0 = λ z. spare n h' z now.1.0
              in (
                ap (λ (z : ℕ). get_or words' (z * APART + SEQUENCES) 0) place ∙ now.0 ∙ sym same,
                (now.1.0, ap (λ (z : ℕ). get_elem? homes' z) place ∙ now.1.1, subst P (sym same) now.1.2),
              )
          | inr other ↦
              let places_apart : u % n ≢ t % n = far_apart n t u other (omega arith) (omega (arith, turn.near))
              in let from_q : q.next ≤ u = elim turn.next [ inl e ↦ omega (arith, e) | inr e ↦ omega (arith, e.0) ]
              in let to_q : u < q.next + n =
              elim turn.next [ inl e ↦ omega (arith, e) | inr e ↦ omega (arith, e.0, e.1) ]
              in let old_room : IsRoom n u q.cells = λ v e. let apart : t ≢ v = λ z.
              other (sym e ∙ ap (λ (y : ℕ). y + n) (sym z)) in sym (turn.others v apart) ∙ room v e
              in let old = shown.free u from_q to_q old_room
              in (
                turned.words_else (u % n) places_apart ∙ old.0,
                (old.1.0, turned.homes_else (u % n) places_apart ∙ old.1.1, turned.spare_else u other old.1.0 old.1.2),
              )
        ];
  }

  pub shown_on : (n : ℕ) (q : Queue T) (h h' : List (Entry T N)) (words : List ℕ) (homes : List (Option S))
      → ((u : ℕ) (y : S) → spare n h u y → spare n h' u y) → Shown has spare n h q words homes → Shown has spare n h' q words homes
  shown_on n q h h' words homes same shown = record {
    wide = shown.wide;
    places = shown.places;
    next = shown.next;
    front = shown.front;
    bounded = shown.bounded;
    cells = shown.cells;
    free = λ u from to room. let old = shown.free u from to room in
        (old.0, (old.1.0, old.1.1, same u old.1.0 old.1.2));
  }
