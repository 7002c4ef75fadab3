-- What is left in the places when a ring is closed.
use Rattle.std.proofs.Common.{◌≡◌, ◌≢◌, ℕ, zero, suc, ◌+◌, ◌-◌, ◌%◌, ◌<◌, ◌≤◌, ◌⊎◌, Some, None, List, [], ◌∷◌, length, get_or, refl, sym}
use Rattle.std.proofs.Common.{ap, subst, ◌∙◌, inl, inr, arith}
use mathlib.Core.Option as maybe
use lib.ListN.{get_elem?}
use Rattle.std.proofs.lemmas.Bool.Decides.{leb_tells}
use Rattle.atomic_table.specs.Table.{Final, Seen}
use Rattle.alog_core.specs.declared.mark.Mark.{Mark}
use Rattle.alog_core.specs.declared.mark.Mark.TheVariants.{Written, Emptying}
use Rattle.alog_core.specs.Queue.{Cell, Queue, last, start, cell_of, IsListed, IsRoom, IsSound, Rises}
use Rattle.alog_core.specs.History.{left_by, own_of}
use Rattle.alog_core.proofs.SharedCells.{at_same, at_other, on_option}
use Rattle.alog_core.proofs.SharedRising.{bounds_of_rising, listed_within, unlisted_below}
use Rattle.alog_core.proofs.SharedSound.{length-sound}
use Rattle.alog_ring.specs.declared.words.TheConstants.{NEXT, FRONT}
use Rattle.alog_ring.specs.declared.TheConstants.{ALL_PARTS}
use Rattle.alog_ring.specs.Known.{Known, IsAmong}
use Rattle.alog_ring.specs.Kinds.{PlaceKind}
use Rattle.alog_ring.specs.Sight.{Stage, Idle, Sight}
use Rattle.alog_ring.specs.Rule.{IsAtWork, HasEntries, Knows, seq_of, ShowsCell, Ruled}
use Rattle.alog_ring.specs.Limit.{Keeps}
use Rattle.alog_ring.specs.Board.{Leaves, AreInRow, LieIn}
use Rattle.alog_core.proofs.SharedLaps.{same_or_not}
use Rattle.alog_ring.proofs.SharedLists.{not_both, found, prefix_same}
use Rattle.alog_ring.proofs.Telling.{members_distinct}
use Rattle.alog_ring.proofs.SharedStepping.{sound_now}
use Rattle.alog_ring.proofs.Meeting.{all_actors, legal_prefix, actors_now, written_now}

-- Cells from this ticket on, without a gap, are in row.
in_row : {T : Type 0} (first low : ℕ) (cs : List (Cell T)) (high : ℕ) → Rises low cs high
    → ((t : ℕ) (c : Cell T) → cell_of t cs ≡ Some c → first ≤ t) → ((t : ℕ) → first ≤ t → t < high → IsListed t cs)
    → AreInRow first cs
in_row first low [] high rises from listed = tt
in_row {T} first low (c ∷ cs) high rises from listed =
    let below : c.ticket + 1 ≤ high = bounds_of_rising (c.ticket + 1) cs high rises.1
    in let lowest : first ≤ c.ticket = from c.ticket c (at_same c.ticket c.ticket (Some c) (cell_of c.ticket cs) refl)
    in let same : c.ticket ≡ first =
    elim (same_or_not c.ticket first) [
      | inl e ↦ e
      | inr apart ↦
          let here : IsListed first (c ∷ cs) = listed first (omega arith) (omega arith)
          in let later : cell_of first cs ≡ Some here.0 = sym (at_other c.ticket first (Some c) (cell_of first cs) apart)
          ∙ here.1
          in let none : cell_of first cs ≡ None = unlisted_below first (c.ticket + 1) cs high rises.1 (omega arith)
          in not_both none later
    ]
    in let tail : AreInRow (c.ticket + 1) cs = in_row (c.ticket + 1) (c.ticket + 1) cs high rises.1
    (λ t d is. (listed_within t (c.ticket + 1) cs high d rises.1 is).0)
    (λ t above under.
    let here : IsListed t (c ∷ cs) = listed t (omega arith) under
    in let apart : c.ticket ≢ t = omega arith
    in (here.0, sym (at_other c.ticket t (Some c) (cell_of t cs) apart) ∙ here.1))
    in let P : ℕ → Type 0 = λ z. AreInRow (z + 1) cs
    in (same, subst P same tail)

-- the i-th cell is that of the i-th ticket, and behind the cells none is listed
cell_here : {T : Type 0} (first : ℕ) (cs : List (Cell T)) (i : ℕ) (c : Cell T) → AreInRow first cs
    → get_elem? cs i ≡ maybe.some c → cell_of (first + i) cs ≡ Some c
cell_here first [] i c row is = absurd (maybe.some-ne-none c (sym is))
cell_here first (d ∷ cs) zero c row is =
    at_same d.ticket (first + 0) (Some d) (cell_of (first + 0) cs) (omega (arith, row.0))
    ∙ ap (λ (z : Cell _). Some z) (maybe.some-injective d c is)
cell_here {T} first (d ∷ cs) (suc i) c row is =
    let e : first + suc i ≡ first + 1 + i = omega arith
    in let apart : d.ticket ≢ first + suc i = omega (arith, row.0)
    in at_other d.ticket (first + suc i) (Some d) (cell_of (first + suc i) cs) apart
    ∙ ap (λ (z : ℕ). cell_of z cs) e ∙ cell_here (first + 1) cs i c row.1 is

none_behind : {T : Type 0} (first : ℕ) (cs : List (Cell T)) (i : ℕ) → AreInRow first cs → length cs ≤ i
    → cell_of (first + i) cs ≡ None
none_behind first [] i row le = refl
none_behind first (d ∷ cs) zero row le = absurd (omega arith)
none_behind first (d ∷ cs) (suc i) row le =
    let e : first + suc i ≡ first + 1 + i = omega arith
    in let apart : d.ticket ≢ first + suc i = omega (arith, row.0)
    in at_other d.ticket (first + suc i) (Some d) (cell_of (first + suc i) cs) apart
    ∙ ap (λ (z : ℕ). cell_of z cs) e ∙ none_behind (first + 1) cs i row.1 (omega arith)

-- cells in row, below a ticket, are no more than fit
row_below : {T : Type 0} (first low : ℕ) (cs : List (Cell T)) (high : ℕ) → AreInRow first cs → Rises low cs high → first ≤ high
    → first + length cs ≤ high
row_below first low [] high row rises le = omega arith
row_below first low (c ∷ cs) high row rises le =
    let below : c.ticket + 1 ≤ high = bounds_of_rising (c.ticket + 1) cs high rises.1
    in let more : first + 1 + length cs ≤ high =
    row_below (first + 1) (c.ticket + 1) cs high row.1 rises.1 (omega (arith, row.0))
    in omega (arith, more)

module _ {S T N : Type 0} (kind : PlaceKind S T N) (firsts : List S) (admits : S → Type 0) where
  -- The table of a ring at its end, where one pass, in no call, has all parts.
  pub record AtEnd (n f : ℕ) (v : Sight T N) (words : List ℕ) (places : List S) : Type 0 where
    pub id : ℕ
    pub fin : Final (Seen (Keeps kind firsts admits n f) id v) words places
    pub idle : v.stage ≡ Idle
    pub all : v.known.parts ≡ ALL_PARTS

module _ {S T N : Type 0} {kind : PlaceKind S T N} {firsts : List S} {admits : S → Type 0} {n f : ℕ} {v : Sight T N}
    {words : List ℕ} {places : List S} (end : AtEnd kind firsts admits n f v words places) where
  abbrev rule : Ruled kind.has (kind.spare firsts) n f end.fin.0
  rule = end.fin.1.0.ruled

  abbrev queue : Queue T
  queue = end.fin.1.0.ruled.queue

  live : 0 < v.known.parts
  live = omega arith

  sound : IsSound n queue
  sound = sound_now kind firsts n f end.fin.0 rule end.id v end.fin.1.1

  written : (t : ℕ) (c : Cell T) → cell_of t queue.cells ≡ Some c → c.mark ≡ Written
  written t c is = written_now kind firsts n f 0 end.id (v, []) live end.fin.0 rule end.fin.1.1 end.idle end.all t c is

  from_front : (t : ℕ) (c : Cell T) → cell_of t queue.cells ≡ Some c → queue.front ≤ t
  from_front t c is =
      elim (leb_tells queue.front t) [
        | inl le ↦ le.1
        | inr lt ↦ let wrong : Written ≡ Emptying = sym (written t c is) ∙ (sound.emptied t c is).1 lt.1 in absurd (cc)
      ]

  first_is_front : (first : ℕ) → get_elem? words FRONT ≡ maybe.some first → first ≡ queue.front
  first_is_front first at =
      sym (found words FRONT first 0 at) ∙ ap (λ (l : List ℕ). get_or l FRONT 0) (sym end.fin.2) ∙ rule.shown.front

  next_is_next : (next : ℕ) → get_elem? words NEXT ≡ maybe.some next → next ≡ queue.next
  next_is_next next at =
      sym (found words NEXT next 0 at) ∙ ap (λ (l : List ℕ). get_or l NEXT 0) (sym end.fin.2) ∙ rule.shown.next

  all_in_row : AreInRow queue.front queue.cells
  all_in_row = in_row queue.front (queue.next - n) queue.cells queue.next sound.rising from_front sound.listed

  count : queue.front + length queue.cells ≡ queue.next
  count =
      let q : Queue T = queue
      in let ordered : q.front ≤ q.next = sound.ordered
      in let below : q.front + length q.cells ≤ q.next =
      row_below q.front (q.next - n) q.cells q.next all_in_row sound.rising ordered
      in let none : cell_of (q.front + length q.cells) q.cells ≡ None =
      none_behind q.front q.cells (length q.cells) all_in_row (omega arith)
      in elim (leb_tells q.next (q.front + length q.cells)) [
        | inl le ↦ let all : q.next ≤ q.front + length q.cells = le.1 in omega (arith, below, all)
        | inr lt ↦ let here : IsListed (q.front + length q.cells) q.cells =
            sound.listed (q.front + length q.cells) (omega arith) lt.1 in not_both none here.1
      ]

  lie_in : LieIn kind firsts admits rule.history places queue.front n queue.cells
  lie_in =
      let q : Queue T = queue
      in let ordered : q.front ≤ q.next = sound.ordered
      in let row : AreInRow q.front q.cells = all_in_row
      in record {
        in_row = row;
        few = length-sound n q sound;
        items =
            λ i c at.
            let t : ℕ = q.front + i
            in let is : cell_of t q.cells ≡ Some c = cell_here q.front q.cells i c row at
            in let W : Mark → Type 0 =
            λ m.
            ShowsCell kind.has (kind.spare firsts) t (get_or end.fin.0.words (seq_of n t) 0)
            (get_elem? end.fin.0.homes (t % n)) c.item m
            in let lies : (get_or end.fin.0.words (seq_of n t) 0 ≡ t + 1)
            × ((y : S) × (get_elem? end.fin.0.homes (t % n) ≡ maybe.some (maybe.some y)) × kind.has y c.item) =
            subst W (written t c is) (rule.shown.cells t c is)
            in (lies.1.0, end.fin.4 (t % n) lies.1.0 lies.1.1, end.fin.1.0.values (t % n) lies.1.0 lies.1.1, lies.1.2);
        spares =
            λ i past low.
            let t : ℕ = q.front + i
            in let none : cell_of t q.cells ≡ None = none_behind q.front q.cells i row past
            in let beyond : q.next ≤ t =
            elim (leb_tells q.next t) [
              | inl le ↦ le.1
              | inr lt ↦ let here : IsListed t q.cells = sound.listed t (omega arith) lt.1 in not_both none here.1
            ]
            in let room : IsRoom n t q.cells =
            λ u e.
            elim (on_option (cell_of u q.cells)) [
              | inl free ↦ free
              | inr some ↦ let high : q.front ≤ u = from_front u some.0 some.1 in absurd (omega arith)
            ]
            in let lies = rule.shown.free t beyond (omega arith) room
            in (lies.1.0, end.fin.4 (t % n) lies.1.0 lies.1.1, end.fin.1.0.values (t % n) lies.1.0 lies.1.1, lies.1.2);
      }

  pub leaves : (front next : ℕ) → get_elem? words FRONT ≡ maybe.some front → get_elem? words NEXT ≡ maybe.some next
      → Leaves kind firsts admits v.known n places front next
  leaves front next at at_next =
      let k : Known T N = v.known
      in let r : Ruled kind.has (kind.spare firsts) n f end.fin.0 = rule
      in let K : Stage T N → Type 0 = λ z. Knows n r.history r.queue end.id k z
      in let work : IsAtWork end.id k = subst K end.idle (r.staged.knows end.id v end.fin.1.1)
      in let has : HasEntries r.history end.fin.0.views end.id k = r.told.entries end.id v end.fin.1.1 live
      in let left_is : left_by (start k.first) r.history ≡ r.queue =
      ap (λ (z : ℕ). left_by (start z) r.history) (r.told.first end.id v end.fin.1.1 live) ∙ r.stands.queue
      in let L : Queue T → ℕ → ℕ → Type 0 =
      λ q z e. (z ≡ q.front) × (e ≡ q.next) × (e ≤ last) × (z + length q.cells ≡ e)
      × LieIn kind firsts admits r.history places z n q.cells
      in let bounded : r.queue.next ≤ last = r.shown.bounded
      in let in_queue : L r.queue r.queue.front r.queue.next = (refl, refl, bounded, count, lie_in)
      in let lies : L (left_by (start k.first) r.history) front next =
      subst (λ (q : Queue T). L q front next) (sym left_is)
      (subst (λ (z : ℕ). L r.queue z next) (sym (first_is_front front at))
      (subst (λ (e : ℕ). L r.queue r.queue.front e) (sym (next_is_next next at_next)) in_queue))
      in let W : Queue T → Type 0 = λ q. (t : ℕ) (c : Cell T) → cell_of t q.cells ≡ Some c → c.mark ≡ Written
      in record {
        history = r.history;
        seen = r.told.seen end.id v end.fin.1.1;
        whole = record {
          faithful = record {
            legal = legal_prefix kind firsts n f end.fin.0 r end.id v end.fin.1.1 live r.history (prefix_same r.history);
            own = has.own ∙ ap (λ (z : ℕ). own_of z r.history) (sym work.0);
            joined = has.joined;
            distinct = members_distinct v r.told end.fin.1.1 live work.0;
          };
          actors =
              all_actors (λ b. (b ≡ k.actor) ⊎ IsAmong b k.joined) r.history
              (λ b some_own.
              elim (actors_now kind firsts n f 0 end.id (v, []) live end.fin.0 r end.fin.1.1 end.idle end.all b some_own) [
                | inl same ↦ inl (same ∙ sym work.0)
                | inr among ↦ inr among
              ]);
          written = subst W (sym left_is) written;
        };
        left = record { front_is = lies.0; next_is = lies.1; bounded = lies.2; count = lies.3; lie = lies.4 };
      }
