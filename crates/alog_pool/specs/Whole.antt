-- What all passes of a ring did together, where one pass has seen everything.
use Rattle.std.specs.Prelude.{◌≡◌, ℕ, ◌+◌, List}
use Rattle.std.specs.List.{sum_by}
use Rattle.alog_core.specs.Accounts.{claimed, taken, listed}
use Rattle.alog_core.specs.History.{left_by}
use Rattle.alog_core.specs.Queue.{start}
use Rattle.alog_ring.specs.Known.{Member, Known, members_of}
use Rattle.alog_ring.specs.Share.{IsWhole}

module _ {T N : Type 0} (w : ℕ → T → ℕ) where
  -- what these members put in, and what they took out, by a weight
  abbrev pub claimed_among : List (Member T N) → ℕ
  claimed_among members = sum_by (λ (m : Member T N). claimed w m.own) members

  abbrev pub taken_among : List (Member T N) → ℕ
  taken_among members = sum_by (λ (m : Member T N). taken w m.own) members

  -- what the members of a pass put in, and what they took out
  abbrev pub claimed_by : Known T N → ℕ
  claimed_by k = claimed_among (members_of k)

  abbrev pub taken_by : Known T N → ℕ
  taken_by k = taken_among (members_of k)

-- By whatever weight of tickets and items: what the members of a pass that has seen everything put in, they took out, or it is
-- left in the queue.
abbrev pub MembersBalance : Type 0 → Type 0 → Type 0
MembersBalance T N = (k : Known T N) (w : ℕ → T → ℕ) → IsWhole k
    → claimed_by w k ≡ taken_by w k + listed w (left_by (start k.first) k.seen).cells
