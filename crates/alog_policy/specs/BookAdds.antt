-- The adds of a loss book, and what they sum to.
use Rattle.std.specs.Prelude.{ℕ, ◌%◌, ◌^◌, List}
use Rattle.std.specs.List.{sum_by}
use Rattle.alog_lane.specs.Seats.{Entry}

-- An add: so many items were overrun, or so many posts were discarded.
pub data Add : Type 0 where
  Overran : (items : ℕ) → Add
  Discarded : (posts : ℕ) → Add

-- how much an add has of each
abbrev pub items_of : Add → ℕ
items_of (Overran items) = items
items_of (Discarded posts) = 0

abbrev pub posts_of : Add → ℕ
posts_of (Overran items) = 0
posts_of (Discarded posts) = posts

-- the items and the posts of these adds
abbrev pub items_in : List (Entry Add) → ℕ
items_in h = sum_by (λ (x : Entry Add). items_of x.deed) h

abbrev pub posts_in : List (Entry Add) → ℕ
posts_in h = sum_by (λ (x : Entry Add). posts_of x.deed) h

-- the numbers of a book after these adds
abbrev pub overrun_after : List (Entry Add) → ℕ
overrun_after h = items_in h % 2 ^ 64

abbrev pub discarded_after : List (Entry Add) → ℕ
discarded_after h = posts_in h % 2 ^ 64
