-- What the sinks of a system stand for after some steps, where a store may have failed.
use Rattle.std.specs.Prelude.{◌≡◌, ◌⊎◌, ℕ, true, Some, List, [], ◌∷◌, ◌++◌, slice_get, map}
use Rattle.std.specs.List.{AllByRecursion}
use Rattle.alog_msg.specs.declared.message.Message.{Message}
use Rattle.alog_sink.specs.Deeds.{BreaksOff}
use Rattle.alog_sink.specs.Files.{Files, AreSame}
use Rattle.alog_sink.specs.Kept.{deeds_of}
use Rattle.alog_sink.specs.LaneRuns.{Stood, AllStand}
use Rattle.alog_sink.specs.Lines.{Written, IsWrittenOf, admitted}
use Rattle.alog_sink.specs.Turn.{LeafView, StandsFor}
use Rattle.alog_sink.specs.declared.sink.Sink.{Sink}
use Rattle.alog_sink.specs.declared.sink.Sink.TheVariants as sinks
use Rattle.alog_system.specs.Acts.{Made, given_in, given_to}
use Rattle.alog_system.specs.declared.stepped.Stepped.{Stepped}
use Rattle.alog_system.specs.declared.stepped.Stepped.TheVariants.{Turned}
use Rattle.alog_system.specs.declared.stepped.Turn.TheVariants.{Fault}

-- the step answered that this sink's store had failed
abbrev pub IsFaultOn : ℕ → Stepped → Type 0
IsFaultOn k (Turned (Fault ticket sink)) = sink ≡ k
IsFaultOn k told = ⊥

-- none of these steps did
abbrev pub AreFine : ℕ → List Made → Type 0
AreFine k made = AllByRecursion (λ (m : Made). ¬ IsFaultOn k m.told) made

-- the leaves of a sink, and those of the messages given to it that it hands to them
abbrev pub leaves : {S : Type 0} → Sink S → List (LeafView S)
leaves (sinks.Leaf l) = l ∷ []
leaves (sinks.Fan f) = f.members

abbrev pub handed : {S : Type 0} → Sink S → List Message → List Message
handed (sinks.Leaf l) ms = ms
handed (sinks.Fan f) ms = admitted f.level ms

-- A sink of one store met none of these faults; of a fan, any member may have met them.
abbrev pub MeetsNone : {S : Type 0} → Sink S → ℕ → List Made → Type 0
MeetsNone (sinks.Leaf l) k made = AreFine k made
MeetsNone (sinks.Fan f) k made = Unit {0}

-- a front of what a turn does to the files: of the line of a text some first operations, of a flush nothing
abbrev pub HasFront : {S : Type 0} → (S → Files) → LeafView S → List Message → Files → Type 0
HasFront files whole [] after = AreSame (files whole.store) after
HasFront files whole (m ∷ ms) after =
    (w : Written) × IsWrittenOf whole.face whole.previous m w × BreaksOff (deeds_of whole.target w) (files whole.store) after

module _ {S : Type 0} (files : S → Files) (sink : Sink S) (k : ℕ) (made : List Made) (stood : Stood) (leaf : LeafView S) where
  -- A leaf stands for what it stood for and then for what its sink was given and handed on.
  pub record StandsWhole : Type 0 where
    pub stands : StandsFor files leaf stood.0 (stood.1 ++ handed sink (given_to k made))
    pub fine : MeetsNone sink k made

  -- Or it met a fault, which was told: it stood for what was handed on before, and its files have a front of that turn's operations.
  pub record BrokeOff : Type 0 where
    pub before : List Made
    pub turn : Made
    pub later : List Made
    pub cut : made ≡ before ++ turn ∷ later
    pub told : IsFaultOn k turn.told
    pub first : MeetsNone sink k before
    pub whole : LeafView S
    pub stood_for : StandsFor files whole stood.0 (stood.1 ++ handed sink (given_to k before))
    pub front : HasFront files whole (handed sink (given_in k turn.did)) (files leaf.store)
    pub broken : leaf.broken ≡ true

-- Each leaf does one or the other.
abbrev pub EachStands : {S : Type 0} → (S → Files) → Sink S → ℕ → List Made → List Stood → List (LeafView S) → Type 0
EachStands files sink k made [] [] = Unit {0}
EachStands files sink k made (s ∷ stood) (l ∷ ls) =
    (StandsWhole files sink k made s l ⊎ BrokeOff files sink k made s l) × EachStands files sink k made stood ls
EachStands files sink k made _ _ = ⊥

-- So does each sink whose leaves stood for some messages at first.
abbrev pub SinkStands : {S : Type 0} → (S → Files) → List Made → List (Sink S) → List (Sink S) → Type 0
SinkStands {S} files made first now =
    (k : ℕ) (old : Sink S) (stood : List Stood) → slice_get first k ≡ Some old → AllStand files (leaves old) stood
    → (new : Sink S) × (slice_get now k ≡ Some new) × EachStands files old k made stood (leaves new)

-- Where no step answered a fault of the sink, each leaf stands for what it stood for and then exactly for what was handed to it.
abbrev pub with_more : List Message → List Stood → List Stood
with_more more stood = map (λ (s : Stood). (s.0, s.1 ++ more)) stood

abbrev pub FineSinkStands : {S : Type 0} → (S → Files) → List Made → List (Sink S) → List (Sink S) → Type 0
FineSinkStands {S} files made first now =
    (k : ℕ) (old : Sink S) (stood : List Stood) → slice_get first k ≡ Some old → AllStand files (leaves old) stood → AreFine k made
    → (new : Sink S) × (slice_get now k ≡ Some new) × AllStand files (leaves new) (with_more (handed old (given_to k made)) stood)
