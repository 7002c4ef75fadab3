-- What a round knows of the queue, whatever other actors did since its last step.
use Rattle.std.specs.Prelude.{◌≡◌, ℕ, ◌<◌, ◌≤◌, length}
use Rattle.alog_core.specs.Queue.{Queue, IsSound, IsRoom, IsWritten, HasCell, last}
use Rattle.alog_core.specs.World.{Machine, round_of}
use Rattle.alog_core.specs.declared.TheConstants.{ACTORS}
use Rattle.alog_core.specs.declared.round.Round.{Round}
use Rattle.alog_core.specs.declared.round.Round.TheVariants as round
use Rattle.alog_core.specs.declared.mark.Mark.TheVariants.{Claimed, Emptying}

abbrev pub IsStaged : {T : Type 0} → ℕ → Queue T → ℕ → Round T → Type 0
IsStaged n q a round.Idle = Unit {0}
IsStaged n q a (round.Push x) = Unit {0}
IsStaged n q a (round.PushRead p x) = (p ≤ q.next) × (p < last)
IsStaged n q a (round.PushFree p x) = (p ≤ q.next) × (p < last) × IsRoom n p q.cells
IsStaged {T} n q a (round.PushClaimed p) = (x : T) × HasCell q.cells p Claimed x a
IsStaged n q a round.Pop = Unit {0}
IsStaged n q a (round.PopRead p) = p ≤ q.front
IsStaged n q a (round.PopReady p) = (p ≤ q.front) × (p ≡ q.front → IsWritten p q.cells)
IsStaged {T} n q a (round.PopGrabbed p) = (x : T) × HasCell q.cells p Emptying x a
IsStaged n q a (round.PopFronted p) = p ≤ q.front

-- What holds of every machine that calls lead to.
pub record IsReached {T : Type 0} (m : Machine T) : Type 0 where
  pub small : 1 ≤ m.places
  pub sound : IsSound m.places m.queue
  pub issued : m.queue.next ≤ last
  pub actors : length m.rounds ≡ ACTORS
  pub staged : (a : ℕ) → a < ACTORS → IsStaged m.places m.queue a (round_of m a)
