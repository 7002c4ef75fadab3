-- What a script is played on, and what a command does there.
use Rattle.std.specs.Prelude.{◌≡◌, ℕ, zero, suc, Bool, true, false, List, [], ◌++◌}
use Rattle.alog_replay.specs.declared.limits.TheConstants.{STEPS_MAX}
use Rattle.alog_replay.specs.declared.command.Act.{Act}
use Rattle.alog_replay.specs.declared.command.Command.{Command}
use Rattle.alog_replay.specs.declared.command.Command.TheVariants.{Acts, Step, Run}

-- A scene tells of each stage who is free, what may be done, what is then printed and which stage follows. Where more
-- than one thing can come of an act or of a step, as where a store may fail, its relations allow each.
pub record Scene (S : Type 0) : Type 1 where
  -- the actor is in no call
  pub is_free : S → ℕ → Bool
  -- the act is not refused
  pub may_do : S → Act → Bool
  -- what an act that is not refused prints, and the stage after it
  pub Does : S → Act → List ℕ → S → Type 0
  -- what the next step of an actor in a call prints, and the stage after it
  pub Steps : S → ℕ → List ℕ → S → Type 0
  -- the files as they are printed at the end
  pub files : S → List ℕ

-- the scene where a step is one of these
abbrev pub with_steps : {S : Type 0} → Scene S → (S → ℕ → List ℕ → S → Type 0) → Scene S
with_steps scene Steps = record {
  is_free = scene.is_free;
  may_do = scene.may_do;
  Does = scene.Does;
  Steps = Steps;
  files = scene.files;
}

-- A command was carried out, with what it printed and the stage after it; or it was refused, with what had been printed.
pub data Played (S : Type 0) : Type 0 where
  Done : (text : List ℕ) (stage : S) → Played S
  Refused : (text : List ℕ) → Played S

-- the same after these bytes
abbrev pub behind : {S : Type 0} → List ℕ → Played S → Played S
behind text (Done more s) = Done (text ++ more) s
behind text (Refused more) = Refused (text ++ more)

-- one fact where a test holds, and another where it does not
abbrev pub WhereTrue : Bool → Type 0 → Type 0 → Type 0
WhereTrue true P Q = P
WhereTrue false P Q = Q

-- an actor made a step, and then comes what the rest says of the stage after it
abbrev pub StepThen : {S : Type 0} → Scene S → ℕ → S → (S → Played S → Type 0) → Played S → Type 0
StepThen {S} scene actor s Rest p =
    (text : List ℕ) × (next : S) × (q : Played S) × scene.Steps s actor text next × Rest next q × (p ≡ behind text q)

-- this many steps of an actor, and this answer where its call has ended before
unfoldable pub Makes : {S : Type 0} → Scene S → (S → Played S) → ℕ → ℕ → S → Played S → Type 0
Makes scene ended zero actor s p = p ≡ Done [] s
Makes scene ended (suc k) actor s p =
    WhereTrue (scene.is_free s actor) (p ≡ ended s) (StepThen scene actor s (λ t q. Makes scene ended k actor t q) p)

abbrev pub refused : {S : Type 0} → S → Played S
refused s = Refused []

abbrev pub done : {S : Type 0} → S → Played S
done s = Done [] s

-- steps of an actor in a call until its call has ended, but no more than `STEPS_MAX`
abbrev pub Runs : {S : Type 0} → Scene S → ℕ → S → Played S → Type 0
Runs scene actor s p = WhereTrue (scene.is_free s actor) (p ≡ Refused []) (Makes scene done STEPS_MAX actor s p)

-- what comes of a command; a `step` is refused where the actor's call has ended before, with what was printed
abbrev pub Plays : {S : Type 0} → Scene S → S → Command → Played S → Type 0
Plays {S} scene s (Acts act) p =
    WhereTrue (scene.may_do s act) ((text : List ℕ) × (next : S) × scene.Does s act text next × (p ≡ Done text next)) (p ≡ Refused [])
Plays scene s (Step actor count) p = Makes scene refused count actor s p
Plays scene s (Run actor) p = Runs scene actor s p

-- something comes of each act that is not refused, and of each step of an actor in a call
pub record GoesOn {S : Type 0} (scene : Scene S) : Type 0 where
  pub does : (s : S) (act : Act) → scene.may_do s act ≡ true → (text : List ℕ) × (next : S) × scene.Does s act text next
  pub steps : (s : S) (actor : ℕ) → scene.is_free s actor ≡ false → (text : List ℕ) × (next : S) × scene.Steps s actor text next

-- one thing alone comes of each act and of each step
pub record IsCertain {S : Type 0} (scene : Scene S) : Type 0 where
  pub does : (s : S) (act : Act) (x y : List ℕ) (t u : S) → scene.Does s act x t → scene.Does s act y u → (x ≡ y) × (t ≡ u)
  pub steps : (s : S) (actor : ℕ) (x y : List ℕ) (t u : S) → scene.Steps s actor x t → scene.Steps s actor y u → (x ≡ y) × (t ≡ u)

-- behind what stood there a text was printed of which this holds
abbrev pub Prints : List ℕ → List ℕ → (List ℕ → Type 0) → Type 0
Prints before after P = (text : List ℕ) × P text × (after ≡ before ++ text)

-- what was printed and the stage after it are those of a command that was carried out
abbrev pub IsDone : {S : Type 0} → (Played S → Type 0) → List ℕ → List ℕ → S → Type 0
IsDone Plays before after s = Prints before after (λ text. Plays (Done text s))

-- what was printed is that of a command that was refused
abbrev pub IsRefused : {S : Type 0} → (Played S → Type 0) → List ℕ → List ℕ → Type 0
IsRefused Plays before after = Prints before after (λ text. Plays (Refused text))
