-- What the constructors of sinks give, and what a sink shows.
use Rattle.std.specs.Prelude.{◌≡◌, Bool, false, true, Option, Some, None, ◌⊎◌, ◌<◌, List, [], ◌∷◌, length}
use Rattle.std.specs.List.{Any}
use Rattle.alog_sink.specs.Files.{Files}
use Rattle.alog_sink.specs.Turn.{LeafView, StandsFor}
use Rattle.alog_sink.specs.declared.TheConstants.{FAN_MAX}
use Rattle.alog_sink.specs.declared.face.Face.{Face}
use Rattle.alog_sink.specs.declared.sink.Sink.{Sink}
use Rattle.alog_sink.specs.declared.sink.Sink.TheVariants.{Leaf, Fan}
use Rattle.alog_sink.specs.declared.target.Target.{Target}

-- A sink of this face and such a target was opened, and was given nothing: it stands for these files and no message.
pub record Opened {S : Type 0} (tells : Bool) (files : S → Files) (face : Face) (IsSuch : Target → Type 0) (opening : Files)
    (sink : Sink S) : Type 0 where
  pub leaf : LeafView S
  pub is : sink ≡ Leaf leaf
  pub same : leaf.face ≡ face
  pub such : IsSuch leaf.target
  pub whole : leaf.broken ≡ false
  pub stands : tells ≡ true → StandsFor files leaf opening []

-- the store of a sink that is no fan
abbrev pub store_of : {S : Type 0} → Sink S → Option S
store_of (Leaf l) = Some l.store
store_of (Fan f) = None

-- the members of a fan, of another sink none
abbrev pub members_of : {S : Type 0} → Sink S → List (LeafView S)
members_of (Leaf l) = []
members_of (Fan f) = f.members

-- the sinks that are no fans, in order
abbrev pub leaves_of : {S : Type 0} → List (Sink S) → List (LeafView S)
leaves_of [] = []
leaves_of (Leaf l ∷ sinks) = l ∷ leaves_of sinks
leaves_of (Fan f ∷ sinks) = leaves_of sinks

-- a fan
abbrev pub IsFan : {S : Type 0} → Sink S → Type 0
IsFan (Leaf l) = ⊥
IsFan (Fan f) = Unit {0}

-- no fan can have these members: there is none, there are more than sixteen, or one is a fan
abbrev pub AreNoMembers : {S : Type 0} → List (Sink S) → Type 0
AreNoMembers sinks = (length sinks < 1) ⊎ (FAN_MAX < length sinks) ⊎ Any IsFan sinks
