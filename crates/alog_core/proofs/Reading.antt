-- The queue is read back from the words and places that stand for it.
use Rattle.std.proofs.Common.{◌≡◌, ℕ, zero, suc, ◌+◌, ◌-◌, ◌%◌, ◌<◌, ◌≤◌, ◌↔◌, ltb, cond, Option, None, Some}
use Rattle.std.proofs.Common.{List, [], ◌∷◌, ◌++◌, map, get_or, inl, inr, refl, sym, ap, subst, ◌∙◌, arith}
use Rattle.std.proofs.lemmas.Bool.Decides.{leb_tells}
use native.Mathlib.Nat.{add-mod_right}
use Rattle.alog_core.specs.Queue.{Cell, Queue, cell_of, IsRoom, Rises, IsSound}
use Rattle.alog_core.specs.Words.{sequence_by, AreSequences}
use Rattle.alog_core.specs.Table.{mark_by, cell_by, before_cells, cells_from, held, AreHeld, places_of, queue_in, Shows}
use Rattle.alog_core.specs.declared.mark.Mark.{Mark}
use Rattle.alog_core.specs.declared.mark.Mark.TheVariants.{Claimed, Written, Emptying}
use Rattle.alog_core.specs.declared.table.Held.{Held}
use Rattle.alog_core.specs.declared.table.Table.{Table}
use Rattle.std.specs.Option.{option_map}
use Rattle.std.proofs.lemmas.List.{append-nil, map-append}
use Rattle.alog_core.specs.World.{shown}
use Rattle.alog_core.specs.declared.said.CellView.{CellView}
use Rattle.alog_core.proofs.SharedCells.{on_option, at_same, at_other, ticket_of_cell}
use Rattle.alog_core.proofs.SharedLaps.{same_or_not}
use Rattle.alog_core.proofs.Moves.{queue_is}
use Rattle.alog_core.proofs.SharedRising.{bounds_of_rising, unlisted_below, rises_from_lower, rises_to_higher}

-- cells that rise within k tickets are those that a look-up finds, ticket by ticket
pub read_cells : {T : Type 0} (read : ℕ → Option (Cell T)) (low k : ℕ) (cs : List (Cell T)) → Rises low cs (low + k)
    → ((u : ℕ) → low ≤ u → u < low + k → read u ≡ cell_of u cs) → cells_from read low k ≡ cs
read_cells read low zero [] rises same = refl
read_cells read low zero (c ∷ cs) rises same =
    let tail : c.ticket + 1 ≤ low + 0 = bounds_of_rising (c.ticket + 1) cs (low + 0) rises.1 in absurd (omega (arith, rises.0))
read_cells read low (suc k) [] rises same =
    ap (λ o. before_cells o (cells_from read (low + 1) k)) (same low (omega arith) (omega arith))
    ∙ read_cells read (low + 1) k [] (omega arith) (λ u from to. same u (omega arith) (omega arith))
read_cells {T} read low (suc k) (c ∷ cs) rises same =
    let high : low + suc k ≤ low + 1 + k = omega arith
    in let rest : Rises (c.ticket + 1) cs (low + 1 + k) =
    rises_to_higher (c.ticket + 1) cs (low + suc k) (low + 1 + k) high rises.1
    in let first : read low ≡ cell_of low (c ∷ cs) = same low (omega arith) (omega arith)
    in elim (same_or_not c.ticket low) [
      | inl here ↦
          ap (λ o. before_cells o (cells_from read (low + 1) k)) (first ∙ at_same c.ticket low (Some c) (cell_of low cs) here)
          ∙ ap (λ (xs : List (Cell T)). c ∷ xs)
          (read_cells read (low + 1) k cs
          (rises_from_lower (low + 1) (c.ticket + 1) cs (low + 1 + k) (omega arith) rest)
          (λ u from to.
          same u (omega arith) (omega arith) ∙ at_other c.ticket u (Some c) (cell_of u cs) (omega arith)))
      | inr other ↦
          let none : cell_of low (c ∷ cs) ≡ None =
          at_other c.ticket low (Some c) (cell_of low cs) other
          ∙ unlisted_below low (c.ticket + 1) cs (low + 1 + k) rest (omega (arith, rises.0))
          in ap (λ o. before_cells o (cells_from read (low + 1) k)) (first ∙ none)
          ∙ read_cells read (low + 1) k (c ∷ cs) (omega (arith, rises.0), rest)
          (λ u from to. same u (omega arith) (omega arith))
    ]

-- the sequence of a listed ticket and the front tell its mark
mark_is : (front t : ℕ) (m : Mark) → (m ≡ Emptying) ↔ (t < front) → mark_by front t (sequence_by t m) ≡ m
mark_is front t Claimed emptied = at_same t t _ _ refl
mark_is front t Written emptied =
    at_other (t + 1) t Claimed (cond (ltb t front) Emptying Written) (omega arith)
    ∙ elim (leb_tells (suc t) front) [
      | inl early ↦ let bad : Written ≡ Emptying = emptied.1 (omega (arith, early.1)) in cc
      | inr late ↦ ap (λ b. cond b Emptying Written) late.0
    ]
mark_is front t Emptying emptied =
    at_other (t + 1) t Claimed (cond (ltb t front) Emptying Written) (omega arith)
    ∙ elim (leb_tells (suc t) front) [
      | inl early ↦ ap (λ b. cond b Emptying Written) early.0
      | inr late ↦ let low : t < front = emptied.0 refl in absurd (omega (arith, late.1))
    ]

module _ {T : Type 0} (n : ℕ) (q : Queue T) (s : List ℕ) (d : List (Option (Held T))) (sound : IsSound n q)
    (sequences : AreSequences n q s) (slots : AreHeld n q d) where
  abbrev pub read_at : ℕ → Option (Cell T)
  read_at u = cell_by q.front u (get_or s (u % n) 0) (get_or d (u % n) None)

  -- the place of one of the last n tickets shows its cell, or that it has none
  pub read_is : (u : ℕ) → q.next - n ≤ u → u < q.next → read_at u ≡ cell_of u q.cells
  read_is u from to =
      elim (on_option (cell_of u q.cells)) [
        | inl none ↦
            let room : IsRoom n (u + n) q.cells = λ v e. let same : u ≡ v = omega arith in
            let P : ℕ → Type 0 = λ z. cell_of z q.cells ≡ None in subst P same none
            in let empty : get_or d ((u + n) % n) None ≡ None = slots.places.free (u + n) (omega arith) (omega arith) room
            in ap (λ i. cell_by q.front u (get_or s (u % n) 0) (get_or d i None)) (sym (add-mod_right u n))
            ∙ ap (λ o. cell_by q.front u (get_or s (u % n) 0) o) empty ∙ sym none
        | inr some ↦
            let c : Cell T = some.0
            in let ticket : u ≡ c.ticket = sym (ticket_of_cell u q.cells c some.1)
            in let mark : mark_by q.front u (get_or s (u % n) 0) ≡ c.mark =
            ap (λ k. mark_by q.front u k) (sequences.places.cells u c some.1)
            ∙ mark_is q.front u c.mark (sound.emptied u c some.1)
            in let there : get_or d (u % n) None ≡ Some (held c.item c.actor) = slots.places.cells u c some.1
            in ap (λ o. cell_by q.front u (get_or s (u % n) 0) o) there
            ∙ (λ i. Some (record { ticket = ticket i; mark = mark i; item = c.item; actor = c.actor })) ∙ sym some.1
      ]

  pub read_back : cells_from read_at (q.next - n) (q.next - (q.next - n)) ≡ q.cells
  read_back =
      let low : ℕ = q.next - n
      in let high : low + (q.next - low) ≡ q.next = omega arith
      in read_cells read_at low (q.next - low) q.cells
      (rises_to_higher low q.cells q.next (low + (q.next - low)) (omega arith) sound.rising)
      (λ u from to. read_is u from (omega arith))

-- a table whose words and places stand for a queue keeps that queue
pub settles : {T : Type 0} (t : Table T) (r : Queue T) → t.next ≡ r.next → t.front ≡ r.front → IsSound (places_of t) r
    → AreSequences (places_of t) r t.sequences.items → AreHeld (places_of t) r t.slots.items → (queue_in t ≡ r) × Shows t
settles {T} t r next front sound sequences slots =
    let n : ℕ = places_of t
    in let s : List ℕ = t.sequences.items
    in let d : List (Option (Held T)) = t.slots.items
    in let C : ℕ → ℕ → List (Cell T) =
    λ e f. cells_from (λ u. cell_by f u (get_or s (u % n) 0) (get_or d (u % n) None)) (e - n) (e - (e - n))
    in let cells : C t.next t.front ≡ r.cells =
    ap (λ e. C e t.front) next ∙ ap (λ f. C r.next f) front ∙ read_back n r s d sound sequences slots
    in let is : queue_in t ≡ r = queue_is (queue_in t) r next front cells
    in let S : Queue T → Type 0 = λ q. AreSequences n q s
    in let D : Queue T → Type 0 = λ q. AreHeld n q d
    in (is, record { sequences = subst S (sym is) sequences; slots = subst D (sym is) slots })

-- one ticket more is read
before_append : {T : Type 0} (o : Option (Cell T)) (cs ds : List (Cell T))
    → before_cells o (cs ++ ds) ≡ before_cells o cs ++ ds
before_append None cs ds = refl
before_append (Some c) cs ds = refl

cells_from_last : {T : Type 0} (read : ℕ → Option (Cell T)) (low k : ℕ)
    → cells_from read low (suc k) ≡ cells_from read low k ++ before_cells (read (low + k)) []
cells_from_last read low zero =
    let same : low ≡ low + 0 = omega arith in ap (λ u. before_cells (read u) []) same
cells_from_last read low (suc k) =
    let same : low + 1 + k ≡ low + suc k = omega arith
    in let more = cells_from_last read (low + 1) k
    in ap (λ cs. before_cells (read low) cs)
    (more ∙ ap (λ u. cells_from read (low + 1) k ++ before_cells (read u) []) same)
    ∙ before_append (read low) (cells_from read (low + 1) k) (before_cells (read (low + suc k)) [])

-- what is shown, ticket by ticket
shown_last : {T : Type 0} (read : ℕ → Option (Cell T)) (low t : ℕ) → low ≤ t
    → map shown (cells_from read low (t + 1 - low))
    ≡ map shown (cells_from read low (t - low)) ++ map shown (before_cells (read t) [])
shown_last read low t from =
    let more : t + 1 - low ≡ suc (t - low) = omega arith
    in let at : low + (t - low) ≡ t = omega arith
    in ap (λ k. map shown (cells_from read low k)) more
    ∙ ap (λ cs. map shown cs)
    (cells_from_last read low (t - low) ∙ ap (λ u. cells_from read low (t - low) ++ before_cells (read u) []) at)
    ∙ map-append shown (cells_from read low (t - low)) (before_cells (read t) [])

module _ {T : Type 0} (read : ℕ → Option (Cell T)) (low t : ℕ) (from : low ≤ t) (vs : List CellView)
    (so_far : vs ≡ map shown (cells_from read low (t - low))) where
  pub shows_none : None ≡ option_map shown (read t) → vs ≡ map shown (cells_from read low (t + 1 - low))
  shows_none is =
      let by : (o : Option (Cell T)) → None ≡ option_map shown o → map shown (before_cells o []) ≡ [] =
      λ o. elim o as (λ z. None ≡ option_map shown z → map shown (before_cells z []) ≡ []) [
        | None ↦ λ e. refl
        | Some c ↦ λ e. absurd (cc)
      ]
      in so_far ∙ sym (append-nil (map shown (cells_from read low (t - low))))
      ∙ ap (λ ws. map shown (cells_from read low (t - low)) ++ ws) (sym (by (read t) is)) ∙ sym (shown_last read low t from)

  pub shows_one : (v : CellView) → Some v ≡ option_map shown (read t)
      → vs ++ v ∷ [] ≡ map shown (cells_from read low (t + 1 - low))
  shows_one v is =
      let by : (o : Option (Cell T)) → Some v ≡ option_map shown o → map shown (before_cells o []) ≡ v ∷ [] =
      λ o. elim o as (λ z. Some v ≡ option_map shown z → map shown (before_cells z []) ≡ v ∷ []) [
        | None ↦ λ e. absurd (cc)
        | Some c ↦ λ e. let same : v ≡ shown c = cc in ap (λ (w : CellView). w ∷ []) (sym same)
      ]
      in ap (λ ws. ws ++ v ∷ []) so_far
      ∙ ap (λ ws. map shown (cells_from read low (t - low)) ++ ws) (sym (by (read t) is)) ∙ sym (shown_last read low t from)
