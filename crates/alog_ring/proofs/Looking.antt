-- What the sequence of a ticket's place tells of the queue.
use Rattle.std.proofs.Common.{◌≡◌, ◌≢◌, ℕ, ◌+◌, ◌-◌, ◌*◌, ◌%◌, ◌<◌, ◌≤◌, ◌⊎◌, List, get_or, Some, None, refl}
use Rattle.std.proofs.Common.{sym, ap, subst, ◌∙◌, inl, inr, arith}
use mathlib.Core.Option as maybe
use native.Mathlib.Nat.{add-mod_right}
use lib.ListN.{get_elem?}
use Rattle.std.proofs.lemmas.Bool.Decides.{leb_tells}
use Rattle.alog_core.specs.declared.mark.Mark.{Mark}
use Rattle.alog_core.specs.declared.mark.Mark.TheVariants.{Claimed, Written, Emptying}
use Rattle.alog_core.specs.Queue.{Cell, Queue, cell_of, HasCell, IsListed, IsBlocked, IsRoom, IsWritten, IsUnwritten, IsSound}
use Rattle.alog_core.specs.History.{Entry}
use Rattle.alog_core.proofs.SharedCells.{on_option, ticket_of_cell}
use Rattle.alog_core.proofs.SharedLaps.{lap, same_or_not}
use Rattle.alog_core.proofs.SharedRising.{unlisted_below}
use Rattle.alog_ring.specs.declared.words.TheConstants.{SEQUENCES, APART}
use Rattle.alog_ring.specs.Rule.{seq_of, ShowsCell, Shown}
use Rattle.alog_ring.proofs.SharedLists.{not_both}

pub on_mark : (m : Mark) → (m ≡ Claimed) ⊎ ((m ≡ Written) ⊎ (m ≡ Emptying))
on_mark Claimed = inl refl
on_mark Written = inr (inl refl)
on_mark Emptying = inr (inr refl)

pub room_or_blocked : {T : Type 0} (n p : ℕ) (cs : List (Cell T)) → IsRoom n p cs ⊎ IsBlocked n p cs
room_or_blocked {T} n p cs =
    elim (leb_tells n p) [
      | inl le ↦
          elim (on_option (cell_of (p - n) cs)) [
            | inl none ↦ inl
                (λ u e. let P : ℕ → Type 0 = λ z. cell_of z cs ≡ None in let same : p - n ≡ u = omega arith in
                subst P same none)
            | inr some ↦ inr (p - n, omega (arith, le.1), some)
          ]
      | inr lt ↦ inl (λ u e. absurd (omega (arith, lt.1)))
    ]

-- the cell that a look-up finds, written out
pub has_cell : {T : Type 0} (cs : List (Cell T)) (t : ℕ) (c : Cell T) (m : Mark) → cell_of t cs ≡ Some c → c.mark ≡ m
    → HasCell cs t m c.item c.actor
has_cell cs t c m is mark =
    let ticket : c.ticket ≡ t = ticket_of_cell t cs c is
    in is ∙ (λ i. Some (record { ticket = ticket i; mark = mark i; item = c.item; actor = c.actor }))

module _ {S T N : Type 0} (has : S → T → Type 0) (spare : ℕ → List (Entry T N) → ℕ → S → Type 0) where
  shown_word : (t word : ℕ) (home : maybe.Option (maybe.Option S)) (x : T) (m : Mark) → ShowsCell has spare t word home x m
      → (word ≡ t) ⊎ (word ≡ t + 1)
  shown_word t word home x Claimed is = inl is
  shown_word t word home x Written is = inr is.0
  shown_word t word home x Emptying is = inr is

  module _ (n : ℕ) (h : List (Entry T N)) (q : Queue T) (words : List ℕ) (homes : List (maybe.Option S)) (two : 2 ≤ n)
      (sound : IsSound n q) (shown : Shown has spare n h q words homes) where
    -- a place whose ticket is listed, and one that waits for the ticket
    word_listed : (t : ℕ) → IsListed t q.cells → (get_or words (seq_of n t) 0 ≡ t) ⊎ (get_or words (seq_of n t) 0 ≡ t + 1)
    word_listed t is =
        shown_word t (get_or words (seq_of n t) 0) (get_elem? homes (t % n)) is.0.item is.0.mark (shown.cells t is.0 is.1)

    word_blocked : (p : ℕ) → IsBlocked n p q.cells
        → (get_or words (seq_of n p) 0 + n ≡ p) ⊎ (get_or words (seq_of n p) 0 + n ≡ p + 1)
    word_blocked p by =
        let place : by.0 % n ≡ p % n = sym (add-mod_right by.0 n) ∙ ap (λ (z : ℕ). z % n) by.1
        in let same : get_or words (seq_of n by.0) 0 ≡ get_or words (seq_of n p) 0 =
        ap (λ (z : ℕ). get_or words (z * APART + SEQUENCES) 0) place
        in elim (word_listed by.0 by.2) [ inl e ↦ inl (omega (arith, e, by.1)) | inr e ↦ inr (omega (arith, e, by.1)) ]

    -- the place has gone on from a ticket that is no longer listed
    passed : (p : ℕ) → p < q.next → cell_of p q.cells ≡ None → p < get_or words (seq_of n p) 0
    passed p low none =
        let on : (t : ℕ) × (q.next ≤ t) × (t < q.next + n) × (t % n ≡ p % n) × (p + n ≤ t) =
        lap q.next p q.next n (omega arith) low (omega arith)
        in let t : ℕ = on.0
        in let same : get_or words (seq_of n t) 0 ≡ get_or words (seq_of n p) 0 =
        ap (λ (z : ℕ). get_or words (z * APART + SEQUENCES) 0) on.3
        in elim (room_or_blocked n t q.cells) [
          | inl room ↦ omega (arith, (shown.free t on.1 on.2 room).0, on.4)
          | inr by ↦
              let P : ℕ → Type 0 = λ z. IsListed z q.cells
              in let apart : by.0 ≢ p = λ e. let listed : IsListed p q.cells = subst P e by.2 in
              not_both none listed.1
              in elim (word_blocked t by) [ inl e ↦ omega (arith, e, by.1, on.4) | inr e ↦ omega (arith, e, by.1, on.4) ]
        ]

    abbrev pub PushLook : ℕ → ℕ → Type 0
    PushLook p s =
        ((s ≡ p) × IsRoom n p q.cells) ⊎ (((s < p) × (p ≡ q.next) × IsBlocked n p q.cells) ⊎ ((p < s) × (p < q.next)))

    pub push_look : (p : ℕ) → p ≤ q.next → PushLook p (get_or words (seq_of n p) 0)
    push_look p low =
        elim (same_or_not p q.next) [
          | inl same ↦
              elim (room_or_blocked n p q.cells) [
                | inl room ↦ inl ((shown.free p (omega arith) (omega arith) room).0, room)
                | inr by ↦ inr
                    (inl (elim (word_blocked p by) [ inl e ↦ omega (arith, e) | inr e ↦ omega (arith, e) ], same, by))
              ]
          | inr other ↦
              elim (on_option (cell_of p q.cells)) [
                | inl none ↦ inr (inr (passed p (omega arith) none, omega arith))
                | inr some ↦
                    elim (word_listed p some) [
                      | inl e ↦ inl (e, λ u is. unlisted_below u (q.next - n) q.cells q.next sound.rising (omega arith))
                      | inr e ↦ inr (inr (omega (arith, e), omega arith))
                    ]
              ]
        ]

    abbrev pub PopLook : ℕ → ℕ → Type 0
    PopLook p s =
        ((s ≡ p + 1)
        × (q.front ≤ p → IsWritten p q.cells)) ⊎ (((s < p + 1) × (p ≡ q.front) × IsUnwritten p q.cells) ⊎ ((p + 1 < s)
        × (p < q.front)))

    front_look : (p : ℕ) → p ≡ q.front → PopLook p (get_or words (seq_of n p) 0)
    front_look p same =
        elim (on_option (cell_of p q.cells)) [
          | inl none ↦
              let last : p ≡ q.next =
              elim (same_or_not p q.next) [
                | inl e ↦ e
                | inr other ↦ let listed : IsListed p q.cells = sound.listed p (omega arith) (omega (arith, sound.ordered))
                    in not_both none listed.1
              ]
              in elim (room_or_blocked n p q.cells) [
                | inl room ↦ inr (inl (omega (arith, (shown.free p (omega arith) (omega arith) room).0), same, inl none))
                | inr by ↦ inr
                    (inl (elim (word_blocked p by) [ inl e ↦ omega (arith, e) | inr e ↦ omega (arith, e) ], same, inl none))
              ]
          | inr some ↦
              let c : Cell T = some.0
              in let F : Mark → Type 0 =
              λ m. ShowsCell has spare p (get_or words (seq_of n p) 0) (get_elem? homes (p % n)) c.item m
              in let shows : F c.mark = shown.cells p c some.1
              in elim (on_mark c.mark) [
                | inl e ↦ let w : get_or words (seq_of n p) 0 ≡ p = subst F e shows in
                    inr (inl (omega (arith, w), same, inr (c.item, c.actor, has_cell q.cells p c Claimed some.1 e)))
                | inr more ↦
                    elim more [
                      | inl e ↦ let w : (get_or words (seq_of n p) 0 ≡ p + 1)
                          × ((y : S) × (get_elem? homes (p % n) ≡ maybe.some (maybe.some y)) × has y c.item) = subst F e shows in
                          inl (w.0, λ _. (c.item, c.actor, has_cell q.cells p c Written some.1 e))
                      | inr e ↦ let low : p < q.front = (sound.emptied p c some.1).0 e in absurd (omega arith)
                    ]
              ]
        ]

    behind_look : (p : ℕ) → p < q.front → PopLook p (get_or words (seq_of n p) 0)
    behind_look p low =
        elim (on_option (cell_of p q.cells)) [
          | inl none ↦
              let on : p < get_or words (seq_of n p) 0 = passed p (omega (arith, sound.ordered)) none
              in elim (same_or_not (get_or words (seq_of n p) 0) (p + 1)) [
                | inl e ↦ inl (e, λ high. absurd (omega arith))
                | inr other ↦ inr (inr (omega arith, low))
              ]
          | inr some ↦
              let c : Cell T = some.0
              in let F : Mark → Type 0 =
              λ m. ShowsCell has spare p (get_or words (seq_of n p) 0) (get_elem? homes (p % n)) c.item m
              in let e : c.mark ≡ Emptying = (sound.emptied p c some.1).1 low
              in let w : get_or words (seq_of n p) 0 ≡ p + 1 = subst F e (shown.cells p c some.1)
              in inl (w, λ high. absurd (omega arith))
        ]

    pub pop_look : (p : ℕ) → p ≤ q.front → PopLook p (get_or words (seq_of n p) 0)
    pop_look p low = elim (same_or_not p q.front) [ inl same ↦ front_look p same | inr other ↦ behind_look p (omega arith) ]
