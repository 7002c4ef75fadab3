-- A script with a configuration where no store fails, and how a text shows that none did.
use Rattle.std.specs.Prelude.{◌≡◌, ◌⊎◌, ℕ, Bool, List, [], ◌∷◌, ◌++◌, codes}
use Rattle.alog_sink.specs.Files.{Files}
use Rattle.alog_system.specs.declared.stepped.Stepped.{Stepped}
use Rattle.alog_system.specs.declared.stepped.Stepped.TheVariants.{Round, Took, Turned}
use Rattle.alog_system.specs.declared.stepped.Turn.{Turn}
use Rattle.alog_system.specs.declared.stepped.Turn.TheVariants.{Kept, Dumped, Line, Below, Fault, Flushed}
use Rattle.alog_replay.specs.Configured.{Stage, Steps, configured}
use Rattle.alog_replay.specs.Refusing.{HasNoSink}
use Rattle.alog_replay.specs.Scene.{Scene, with_steps}
use Rattle.alog_replay.specs.Script.{Told, ScriptTells, text_of}
use Rattle.alog_replay.specs.Texts.{turn_text}

-- no store failed at this turn, at this step
abbrev pub IsWell : Turn → Type 0
IsWell Kept = Unit {0}
IsWell (Dumped k) = Unit {0}
IsWell (Line t n) = Unit {0}
IsWell (Below t n) = Unit {0}
IsWell (Fault t n) = ⊥
IsWell (Flushed t n) = Unit {0}

abbrev pub HasNoFault : Stepped → Type 0
HasNoFault (Round s) = Unit {0}
HasNoFault (Took t) = Unit {0}
HasNoFault (Turned turn) = IsWell turn

-- nothing, or bytes whose last is a newline
abbrev pub AreWholeLines : List ℕ → Type 0
AreWholeLines text = (text ≡ []) ⊎ ((front : List ℕ) × (text ≡ front ++ 10 ∷ []))

-- A line of a text says that a turn met a fault.
pub record HasFaultLine (text : List ℕ) : Type 0 where
  pub before : List ℕ
  pub actor : ℕ
  pub ticket : ℕ
  pub sink : List ℕ
  pub after : List ℕ
  pub begins : AreWholeLines before
  pub split : text ≡ before ++ (turn_text actor (codes "fault") ticket sink ++ after)

module _ {S : Type 0} (tells : Bool) (files : S → Files) (failures : S → ℕ) where
  -- the system makes a step at which no store fails; or there is no sink for the turn, which no system comes to
  abbrev pub StepsWell : Stage S → ℕ → List ℕ → Stage S → Type 0
  StepsWell s a text next =
      ((step : Steps tells files failures s a text next) × HasNoFault step.told) ⊎ (HasNoSink s.system a × (text ≡ []) × (next ≡ s))

  -- the scene where no store fails
  abbrev pub faultless : (S → List (List ℕ × List ℕ)) → Scene (Stage S)
  faultless listing = with_steps (configured tells files failures listing) StepsWell

  -- what a script tells without such a line, it tells where no store fails
  abbrev pub FaultsAreTold : (S → List (List ℕ × List ℕ)) → Type 0
  FaultsAreTold listing =
      (s : Stage S) (script : List ℕ) (t : Told) → ScriptTells (configured tells files failures listing) s script t
      → (¬ HasFaultLine (text_of t)) → ScriptTells (faultless listing) s script t
