-- How a line of a script spells a command: its first word is the name of a row of the table of commands, and what
-- stands behind that word and a space spells the arguments of that row's form. Numbers are rows of decimal digits, and
-- leading zeros count for nothing.
use Rattle.std.specs.Prelude.{◌≡◌, ◌⊎◌, ◌≤◌, ◌-◌, ◌^◌, ◌++◌, ℕ, ℤ, pos, neg_ℤ, List, [], ◌∷◌, Option, Some, None, codes, unwrap_or}
use Rattle.std.specs.Prelude.{if◌then◌else◌}
use Rattle.std.specs.Str.{bytes_eq}
use Rattle.std.specs.Str.Parse.{IsNumeral, digits_value}
use Rattle.alog_core.specs.declared.TheConstants.{ACTORS}
use Rattle.alog_msg.specs.Level.{Names}
use Rattle.alog_msg.specs.declared.level.Level.{Level as LogLevel}
use Rattle.alog_policy.specs.declared.policy.Policy.{Policy}
use Rattle.alog_policy.specs.declared.policy.Policy.TheVariants.{Block, OverrunOldest, DiscardNew}
use Rattle.alog_replay.specs.Cut.{tail_of, IsCut, IsWord}
use Rattle.alog_replay.specs.declared.limits.TheConstants.{STEPS_MAX}
use Rattle.alog_replay.specs.declared.command.Act.TheVariants.{Ring, Push, Pop, Work, Post, Log, Flush, Dump, Level, Cells, Counts}
use Rattle.alog_replay.specs.declared.command.Command.{Command}
use Rattle.alog_replay.specs.declared.command.Command.TheVariants.{Acts, Step, Run}

-- decimal digits of a value from least to most
abbrev pub SpellsNumber : ℕ → ℕ → List ℕ → ℕ → Type 0
SpellsNumber least most digits n = IsNumeral 10 digits × (digits_value 10 digits ≡ n) × (least ≤ n) × (n ≤ most)

-- actors are numbered from 0
abbrev pub SpellsActor : List ℕ → ℕ → Type 0
SpellsActor digits actor = SpellsNumber 0 (ACTORS - 1) digits actor

-- a size and a ticket are of 64 bits
abbrev pub SpellsWord64 : List ℕ → ℕ → Type 0
SpellsWord64 digits n = SpellsNumber 0 (2 ^ 64 - 1) digits n

-- a number of steps is 1 where none is given
abbrev pub SpellsCount : Option (List ℕ) → ℕ → Type 0
SpellsCount None count = count ≡ 1
SpellsCount (Some digits) count = SpellsNumber 1 STEPS_MAX digits count

-- a time is of 64 bits, and may begin with '-'
abbrev pub SpellsTime : List ℕ → ℤ → Type 0
SpellsTime word t =
    ((n : ℕ) × SpellsNumber 0 (2 ^ 63 - 1) word n × (t ≡ pos n))
    ⊎ ((digits : List ℕ) × (n : ℕ) × (word ≡ 45 ∷ digits) × SpellsNumber 0 (2 ^ 63) digits n × (t ≡ neg_ℤ (pos n)))

-- the names of the policies
abbrev pub policy_name : Policy → List ℕ
policy_name Block = codes "block"
policy_name OverrunOldest = codes "overrun_oldest"
policy_name DiscardNew = codes "discard_new"

-- the arguments that are one word
pub data Word : Type 0 where
  Number : Word
  AnActor : Word
  Time : Word
  APolicy : Word
  ALevel : Word
  AName : Word

-- what they say
abbrev pub Value : Word → Type 0
Value Number = ℕ
Value AnActor = ℕ
Value Time = ℤ
Value APolicy = Policy
Value ALevel = LogLevel
Value AName = List ℕ

-- and how
abbrev pub SpellsWord : (word : Word) → List ℕ → Value word → Type 0
SpellsWord Number text n = SpellsWord64 text n
SpellsWord AnActor text actor = SpellsActor text actor
SpellsWord Time text t = SpellsTime text t
SpellsWord APolicy text policy = text ≡ policy_name policy
SpellsWord ALevel text level = Names text level
SpellsWord AName text name = (text ≡ name) × IsWord text

-- The forms of arguments: none, a text, a number of steps, one word, or a word and then others behind a space.
pub data Form : Type 0 where
  NoArgument : Form
  AText : Form
  ACount : Form
  Only : Word → Form
  Then : Word → Form → Form

-- what arguments of a form say
abbrev pub Given : Form → Type 0
Given NoArgument = Unit {0}
Given AText = List ℕ
Given ACount = ℕ
Given (Only word) = Value word
Given (Then word form) = Value word × Given form

-- What stands behind a space, if anything does, spells arguments of a form. A text may be absent, which is the empty text.
abbrev pub SpellsForm : (form : Form) → Option (List ℕ) → Given form → Type 0
SpellsForm NoArgument rest g = rest ≡ None
SpellsForm AText rest g = g ≡ unwrap_or rest []
SpellsForm ACount rest g = SpellsCount rest g
SpellsForm (Only word) None g = ⊥
SpellsForm (Only word) (Some text) g = SpellsWord word text g
SpellsForm (Then word form) rest g =
    (text : List ℕ) × (more : Option (List ℕ)) × (rest ≡ Some (text ++ tail_of more)) × SpellsWord word text g.0 × SpellsForm form more g.1

-- a row of the table: a command's name, the form of its arguments, and the command that they make
pub record Row : Type 0 where
  pub name : List ℕ
  pub form : Form
  pub command : Given form → Command

-- an actor, a time, the name of a logger, a level and a text
abbrev pub log_form : Form
log_form = Then AnActor (Then Time (Then AName (Then ALevel AText)))

-- the table of commands
abbrev pub rows : List Row
rows =
    record { name = codes "ring"; form = Then Number (Only Number); command = λ g. Acts (Ring g.0 g.1) }
    ∷ record { name = codes "push"; form = Then AnActor AText; command = λ g. Acts (Push g.0 g.1) }
    ∷ record { name = codes "pop"; form = Only AnActor; command = λ actor. Acts (Pop actor) }
    ∷ record { name = codes "work"; form = Only AnActor; command = λ actor. Acts (Work actor) }
    ∷ record { name = codes "post"; form = Then AnActor (Then APolicy AText); command = λ g. Acts (Post g.0 g.1.0 g.1.1) }
    ∷ record { name = codes "log"; form = log_form; command = λ g. Acts (Log g.0 g.1.0 g.1.1.0 g.1.1.1.0 g.1.1.1.1) }
    ∷ record { name = codes "flush"; form = Then AnActor (Only AName); command = λ g. Acts (Flush g.0 g.1) }
    ∷ record { name = codes "dump"; form = Then AnActor (Then Time (Only AName)); command = λ g. Acts (Dump g.0 g.1.0 g.1.1) }
    ∷ record { name = codes "level"; form = Then AName (Only ALevel); command = λ g. Acts (Level g.0 g.1) }
    ∷ record { name = codes "cells"; form = NoArgument; command = λ none. Acts Cells }
    ∷ record { name = codes "counts"; form = NoArgument; command = λ none. Acts Counts }
    ∷ record { name = codes "step"; form = Then AnActor ACount; command = λ g. Step g.0 g.1 }
    ∷ record { name = codes "run"; form = Only AnActor; command = λ actor. Run actor }
    ∷ []

-- the first row of a name
unfoldable pub row_named : List Row → List ℕ → Option Row
row_named [] name = None
row_named (row ∷ more) name = if bytes_eq row.name name then Some row else row_named more name

-- what stands behind its name spells a row's command
abbrev pub SpellsRow : Option Row → Option (List ℕ) → Command → Type 0
SpellsRow None rest command = ⊥
SpellsRow (Some row) rest command = (g : Given row.form) × SpellsForm row.form rest g × (row.command g ≡ command)

-- a line spells a command
abbrev pub Spells : List ℕ → Command → Type 0
Spells line command = (name : List ℕ) × (rest : Option (List ℕ)) × IsCut line name rest × SpellsRow (row_named rows name) rest command
