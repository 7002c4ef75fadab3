-- The turns of sinks: a step relation between a sink, what it is given, its answer, and the sink after.
use Rattle.std.specs.Prelude.{◌≡◌, ◌↔◌, ◌⊎◌, ℕ, ◌+◌, ◌<◌, ℤ, Option, Bool, true, false, List, [], ◌∷◌, ◌++◌, Result, Ok, Err, OnOk}
use Rattle.std.specs.List.{All}
use Rattle.alog_msg.specs.declared.level.Level.{Level}
use Rattle.alog_msg.specs.declared.message.Message.{Message}
use Rattle.alog_sink.specs.Deeds.{BreaksOff, all_done}
use Rattle.alog_sink.specs.Files.{Files, AreSame}
use Rattle.alog_sink.specs.Kept.{HasNoFile, IsKept, IsSameTarget, deeds_of}
use Rattle.alog_sink.specs.Lines.{Written, IsWrittenOf, AreLines, MayWrite, admits, previous_of}
use Rattle.alog_sink.specs.declared.TheConstants.{FAILURES_MAX}
use Rattle.alog_sink.specs.declared.face.Face.{Face}
use Rattle.alog_sink.specs.declared.target.Target.{Target}
use Rattle.alog_sink.specs.declared.leaf.SinkError.{SinkError}
use Rattle.alog_sink.specs.declared.leaf.SinkError.TheVariants as errors
use Rattle.alog_sink.specs.declared.leaf.Taken.{Taken}
use Rattle.alog_sink.specs.declared.leaf.Taken.TheVariants.{Below, Written as Wrote}

-- What callers see of a sink of one store.
pub record LeafView (S : Type 0) : Type 0 where
  pub face : Face
  pub target : Target
  pub store : S
  pub broken : Bool
  -- the time of the last message whose line was written
  pub previous : Option ℤ

-- the answer to a text, and to a flush
abbrev pub Answer : Type 0
Answer = Result Taken SinkError

module _ {S : Type 0} (files : S → Files) where
  -- A sink stands for the files at its start and the messages that it was given: it is not broken, its files are what its
  -- kind makes of the messages' lines, and it knows the time of the last message that passed its level.
  pub record StandsFor (leaf : LeafView S) (opening : Files) (messages : List Message) : Type 0 where
    pub whole : leaf.broken ≡ false
    pub written : List Written
    pub lines : AreLines leaf.face messages written
    pub kept : IsKept leaf.target opening written (files leaf.store)
    pub previous : leaf.previous ≡ previous_of leaf.face.level messages

module _ {S : Type 0} (tells : Bool) (files : S → Files) (failures : S → ℕ) where
  -- A sink is given a message.
  pub record Takes (old : LeafView S) (m : Message) (answer : Answer) (new : LeafView S) : Type 0 where
    pub below : (answer ≡ Ok Below) ↔ (admits old.face.level m.level ≡ false)
    pub broken : (answer ≡ Err errors.Broken) ↔ ((admits old.face.level m.level ≡ true) × (old.broken ≡ true))
    pub nothing : ((answer ≡ Ok Below) ⊎ (answer ≡ Err errors.Broken)) → new ≡ old
    pub face : new.face ≡ old.face
    pub target : IsSameTarget old.target new.target
    pub wrote : answer ≡ Ok Wrote → new.broken ≡ false
    pub failed : answer ≡ Err errors.Store → new.broken ≡ true
    pub rose : answer ≡ Err errors.Store → failures old.store < FAILURES_MAX → failures new.store ≡ failures old.store + 1
    pub stayed : OnOk answer (failures new.store ≡ failures old.store)
    pub stands : tells ≡ true → (opening : Files) (ms : List Message) → StandsFor files old opening ms
        → OnOk answer (StandsFor files new opening (ms ++ m ∷ []))
    pub writes : tells ≡ true → answer ≡ Ok Wrote → (w : Written) × IsWrittenOf old.face old.previous m w
        × AreSame (all_done (deeds_of old.target w) (files old.store)) (files new.store)
    pub breaks : tells ≡ true → answer ≡ Err errors.Store
        → (w : Written) × IsWrittenOf old.face old.previous m w × BreaksOff (deeds_of old.target w) (files old.store) (files new.store)

  -- A sink is flushed.
  pub record Flushes (old : LeafView S) (answer : Result Unit SinkError) (new : LeafView S) : Type 0 where
    pub broken : (answer ≡ Err errors.Broken) ↔ (old.broken ≡ true)
    pub nothing : answer ≡ Err errors.Broken → new ≡ old
    pub face : new.face ≡ old.face
    pub target : new.target ≡ old.target
    pub done : OnOk answer (new.broken ≡ false)
    pub failed : answer ≡ Err errors.Store → new.broken ≡ true
    pub rose : answer ≡ Err errors.Store → failures old.store < FAILURES_MAX → failures new.store ≡ failures old.store + 1
    pub stayed : OnOk answer (failures new.store ≡ failures old.store)
    pub same : tells ≡ true → AreSame (files old.store) (files new.store)
    pub stands : tells ≡ true → (opening : Files) (ms : List Message) → StandsFor files old opening ms
        → OnOk answer (StandsFor files new opening ms)
    pub quiet : HasNoFile old.target → old.broken ≡ false → (answer ≡ Ok tt) × (new ≡ old)

-- What callers see of a fan.
pub record FanView (S : Type 0) : Type 0 where
  pub level : Level
  pub members : List (LeafView S)

-- the first fault in member order, or this where there is none
abbrev pub first_fault : {A : Type 0} → A → List (Result A SinkError) → Result A SinkError
first_fault done [] = Ok done
first_fault done (Err e ∷ answers) = Err e
first_fault done (Ok a ∷ answers) = first_fault done answers

-- each of the old values comes, with its answer, to the new one in its place
abbrev pub EachDoes : {L A : Type 0} → (L → A → L → Type 0) → List L → List A → List L → Type 0
EachDoes Does [] [] [] = Unit {0}
EachDoes Does (o ∷ olds) (a ∷ answers) (n ∷ news) = Does o a n × EachDoes Does olds answers news
EachDoes Does _ _ _ = ⊥

-- an answer so far, or else the fault met now
abbrev pub or_fault : {A : Type 0} → Result A SinkError → Result A SinkError → Result A SinkError
or_fault (Err e) given = Err e
or_fault (Ok a) (Err e) = Err e
or_fault (Ok a) (Ok b) = Ok a

-- each member may be given the message
abbrev pub MayGive : {S : Type 0} → List (LeafView S) → Message → ℕ → Type 0
MayGive members m capacity = All (λ l. MayWrite l.face m capacity) members

module _ {S : Type 0} (tells : Bool) (files : S → Files) (failures : S → ℕ) where
  -- each member is given the message, whatever the others answer
  abbrev pub AllTake : List (LeafView S) → Message → List Answer → List (LeafView S) → Type 0
  AllTake olds m answers news = EachDoes (λ o a n. Takes tells files failures o m a n) olds answers news

  -- each member is flushed, whatever the others answer
  abbrev pub AllFlush : List (LeafView S) → List (Result Unit SinkError) → List (LeafView S) → Type 0
  AllFlush olds answers news = EachDoes (Flushes tells files failures) olds answers news

  -- A fan is given a message: its members are, where the message passes the fan's own level.
  pub record FanTakes (old : FanView S) (m : Message) (answer : Answer) (new : FanView S) : Type 0 where
    pub level : new.level ≡ old.level
    pub below : admits old.level m.level ≡ false → (answer ≡ Ok Below) × (new ≡ old)
    pub given : admits old.level m.level ≡ true
        → (answers : List Answer) × AllTake old.members m answers new.members × (answer ≡ first_fault Wrote answers)

  -- A fan is flushed: each of its members is.
  pub record FanFlushes (old : FanView S) (answer : Result Unit SinkError) (new : FanView S) : Type 0 where
    pub level : new.level ≡ old.level
    pub answers : List (Result Unit SinkError)
    pub given : AllFlush old.members answers new.members
    pub first : answer ≡ first_fault tt answers
