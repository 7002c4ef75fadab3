-- How the works of a server's threads ended, by what is said of each: a relation of a thread's number and its work's answer.
use Rattle.std.specs.Prelude.{◌≡◌, ◌<◌, ℕ, ◌+◌, List, [], ◌∷◌, Option, None, Some, Result, Ok, Err}
use Rattle.alog_server.specs.declared.seats.Ended.{Ended}
use Rattle.alog_server.specs.declared.seats.Ended.TheVariants as ended

-- a work ended without an error, or with this one
abbrev pub EndsSo : {E : Type 0} → (Result (Unit {0}) E → Type 0) → Option E → Type 0
EndsSo gives None = gives (Ok tt)
EndsSo gives (Some e) = gives (Err e)

-- the first error among these
abbrev pub first_error : {E : Type 0} → List (Option E) → Option E
first_error [] = None
first_error (None ∷ os) = first_error os
first_error (Some e ∷ os) = Some e

module _ {E : Type 0} (gives : ℕ → Result (Unit {0}) E → Type 0) where
  -- the works of threads from this number on ended so, one after another
  abbrev pub EachEnds : ℕ → List (Option E) → Type 0
  EachEnds n [] = Unit {0}
  EachEnds n (o ∷ os) = EndsSo (gives n) o × EachEnds (n + 1) os

  -- The work of one of so many threads ended with this error, and that of each before it without one.
  pub record IsFirstEarly (threads : ℕ) (e : E) : Type 0 where
    pub thread : ℕ
    pub one : thread < threads
    pub early : gives thread (Err e)
    pub before : (i : ℕ) → i < thread → gives i (Ok tt)

  -- What is told of the works of so many threads: the first error, by number, or that each ended without one.
  abbrev pub TellsError : ℕ → Option E → Type 0
  TellsError threads None = (i : ℕ) → i < threads → gives i (Ok tt)
  TellsError threads (Some e) = IsFirstEarly threads e

  -- and the same before it is told; where there was no memory, no work was begun
  abbrev pub AllEnd : ℕ → Ended E → Type 0
  AllEnd threads ended.Done = TellsError threads None
  AllEnd threads (ended.Early e) = TellsError threads (Some e)
  AllEnd threads ended.OutOfMemory = Unit {0}

-- what is told of works that ended so
abbrev pub IsToldOf : {E : Type 0} → Ended E → Option E → Type 0
IsToldOf ended.Done o = o ≡ None
IsToldOf (ended.Early e) o = o ≡ Some e
IsToldOf ended.OutOfMemory o = ⊥
