-- The turns that a worker owes for an item of which it made some.
use Rattle.std.specs.Prelude.{◌≡◌, ◌⊎◌, ℕ, List, [], ◌∷◌, ◌++◌, drop, Option, None, Some}
use Rattle.std.specs.List.{AllByRecursion}
use Rattle.alog_lane.specs.declared.seat.TheConstants.{ALL_PARTS}
use Rattle.alog_msg.specs.declared.item.Item.{Item}
use Rattle.alog_hosted.specs.declared.owed.Owed.{Owed}
use Rattle.alog_pool.specs.Deeds.{Due, HaveMade, dues_of}
use Rattle.alog_pool.specs.SinkSeat.{SinkSeatView}
use Rattle.alog_registry.specs.declared.logger.Logger.{Logger}

-- of an item that was taken, those from this place on
abbrev pub owed_of : List Logger → Option Owed → Item → List Due
owed_of loggers None x = []
owed_of loggers (Some o) x = drop o.place (dues_of loggers o.ticket x)

-- an item that is half done is the last of these
abbrev pub IsLastOf : List (ℕ × Item) → Option Owed → Item → Type 0
IsLastOf taken None x = Unit {0}
IsLastOf taken (Some o) x = (before : List (ℕ × Item)) × (taken ≡ before ++ (o.ticket, x) ∷ [])

-- What is owed are the last turns that are due for the last of these items.
pub record OwesOf (loggers : List Logger) (taken : List (ℕ × Item)) (owed : List Due) : Type 0 where
  pub before : List (ℕ × Item)
  pub ticket : ℕ
  pub item : Item
  pub place : ℕ
  pub last : taken ≡ before ++ (ticket, item) ∷ []
  pub rest : owed ≡ drop place (dues_of loggers ticket item)

-- or nothing is owed
abbrev pub OwesLast : List Logger → List (ℕ × Item) → List Due → Type 0
OwesLast loggers taken owed = (owed ≡ []) ⊎ OwesOf loggers taken owed

-- one where an item is half done
abbrev pub half_of : Option Owed → ℕ
half_of None = 0
half_of (Some o) = 1

-- Between these places turns were made, of these dues the first ones, and the rest was not.
pub record MakesPart {S : Type 0} (old new : List (SinkSeatView S)) (dues rest : List Due) : Type 0 where
  pub made : List Due
  pub split : dues ≡ made ++ rest
  pub turns : HaveMade 0 old new made

-- what is left from the place of a turn that was not made; nothing where all were
abbrev pub rest_from : List Due → Option ℕ → List Due
rest_from dues None = []
rest_from dues (Some place) = drop place dues

-- nobody else has a seat at one of these places' lanes
abbrev pub AreAlone : {S : Type 0} → List (SinkSeatView S) → Type 0
AreAlone {S} places = AllByRecursion (λ (b : SinkSeatView S). b.seat.known.parts ≡ ALL_PARTS) places
