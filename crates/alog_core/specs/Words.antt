-- How words and places stand for a queue of n places. The place of a ticket is the ticket modulo n.
use Rattle.std.specs.Prelude.{◌≡◌, ℕ, ◌+◌, ◌%◌, ◌<◌, ◌≤◌, Some, List, ◌∷◌, length, slice_index}
use Rattle.alog_core.specs.Queue.{Cell, Queue, cell_of, IsRoom}
use Rattle.alog_core.specs.declared.mark.Mark.{Mark}
use Rattle.alog_core.specs.declared.mark.Mark.TheVariants.{Claimed, Written, Emptying}

-- What each place shows: of its ticket's cell, if there is one, and else of the ticket that it waits for, which is the least
-- from the next one on that leaves the place's number when divided by n.
pub record IsByPlace {T X : Type 0} (n : ℕ) (q : Queue T) (at : ℕ → X) (of_cell : ℕ → Cell T → X) (waiting : ℕ → X) : Type 0 where
  pub cells : (t : ℕ) (c : Cell T) → cell_of t q.cells ≡ Some c → at (t % n) ≡ of_cell t c
  pub free : (t : ℕ) → q.next ≤ t → t < q.next + n → IsRoom n t q.cells → at (t % n) ≡ waiting t

-- the sequence of a ticket's place: the ticket until it is written, and then one more
abbrev pub sequence_by : ℕ → Mark → ℕ
sequence_by t Claimed = t
sequence_by t Written = t + 1
sequence_by t Emptying = t + 1

-- The sequences, one for each place. A place without a cell has the ticket that it waits for.
pub record AreSequences {T : Type 0} (n : ℕ) (q : Queue T) (sequences : List ℕ) : Type 0 where
  pub count : length sequences ≡ n
  pub places : IsByPlace n q (λ i. slice_index sequences i) (λ t c. sequence_by t c.mark) (λ t. t)

-- the words: the next ticket, the front ticket, and the sequence of each place in turn
abbrev pub AreWords : {T : Type 0} → ℕ → Queue T → List ℕ → Type 0
AreWords n q words = (s : List ℕ) × (words ≡ q.next ∷ q.front ∷ s) × AreSequences n q s
