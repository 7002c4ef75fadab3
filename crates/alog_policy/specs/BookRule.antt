-- What holds of a loss book between any two steps: of the history, of what each seat knows, and of the two words.
use Rattle.std.specs.Prelude.{◌≡◌, ℕ, List, length, slice_index}
use Rattle.atomic_table.specs.Table.{State}
use Rattle.alog_lane.specs.Seats.{Entry}
use Rattle.alog_lane.specs.Roster.{Sight, Agrees}
use Rattle.alog_policy.specs.declared.loss_book.TheConstants.{OVERRUN, DISCARDED, WORDS}
use Rattle.alog_policy.specs.BookAdds.{Add, overrun_after, discarded_after}

-- The view of a seat: there is nothing to know of the book itself, and no seat is at work between two steps.
abbrev pub BookSight : Type 0
BookSight = Sight (Unit {0}) Add ⊥

-- each word has its number after the history
pub record Tells (h : List (Entry Add)) (words : List ℕ) : Type 0 where
  pub count : length words ≡ WORDS
  pub overrun : slice_index words OVERRUN ≡ overrun_after h
  pub discarded : slice_index words DISCARDED ≡ discarded_after h

-- The rule of a book.
pub record Ruled (s : State (Unit {0}) BookSight) : Type 0 where
  pub history : List (Entry Add)
  pub agrees : Agrees tt history s.views
  pub words : Tells history s.words
