-- Laws of seats and their histories.
use Rattle.std.specs.Prelude.{◌≡◌, []}
use Rattle.alog_lane.specs.Seats.{Known, IsFaithful, IsWhole}

-- a seat that has seen everything, and into which none was joined, has seen exactly its own entries
abbrev pub AloneSawItsOwn : Type 0 → Type 0
AloneSawItsOwn D = (k : Known D) → IsFaithful k → IsWhole k → k.joined ≡ [] → k.seen ≡ k.own
