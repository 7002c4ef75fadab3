-- The scene of a script with a configuration: the stepped system with the names of its loggers and sinks, and the files of its
-- leaves. A level holds from its line on; whoever logs reads it where the log begins.
use Rattle.std.specs.Prelude.{◌≡◌, ◌⊎◌, ℕ, suc, nat_le, ◌&&◌, ◌||◌, Bool, true, false, if◌then◌else◌, Option, Some, None, List, [], ◌∷◌}
use Rattle.std.specs.Prelude.{◌++◌, length, map, slice_get, slice_index_or, codes}
use Rattle.std.specs.Fmt.{decimal}
use Rattle.std.specs.List.{flat_map}
use Rattle.std.specs.Option.{option_map}
use Rattle.std.specs.Str.{bytes_eq}
use Rattle.alog_core.specs.World.{shown}
use Rattle.alog_msg.specs.Level.{row_of}
use Rattle.alog_msg.specs.declared.item.Item.{Item}
use Rattle.alog_msg.specs.declared.item.Item.TheVariants as item
use Rattle.alog_msg.specs.declared.level.Level.{Level as LogLevel}
use Rattle.alog_registry.specs.declared.logger.Logger.{Logger}
use Rattle.alog_sink.specs.Files.{Files}
use Rattle.alog_sink.specs.Opened.{members_of, store_of}
use Rattle.alog_sink.specs.Turn.{LeafView}
use Rattle.alog_sink.specs.declared.sink.Sink.{Sink}
use Rattle.alog_system.specs.Begin.{begun, filtering, is_unread, logging, message_by}
use Rattle.alog_system.specs.Roster.{level_at, with_level}
use Rattle.alog_system.specs.Step.{SystemSteps}
use Rattle.alog_system.specs.System.{SystemView, duty_of, is_free, item_of, with_roster}
use Rattle.alog_system.specs.declared.deed.Deed.TheVariants as deed
use Rattle.alog_system.specs.declared.stepped.Stepped.{Stepped}
use Rattle.alog_system.specs.declared.stepped.Stepped.TheVariants.{Round, Took, Turned}
use Rattle.alog_system.specs.declared.stepped.Turn.{Turn}
use Rattle.alog_system.specs.declared.stepped.Turn.TheVariants as turn
use Rattle.alog_replay.specs.Refusing.{Refuses, HasNoSink}
use Rattle.alog_replay.specs.Scene.{Scene}
use Rattle.alog_replay.specs.Texts.{line_of, take_line, stepped_text, turn_text, cells_line, counts_text, file_text}
use Rattle.alog_replay.specs.declared.command.Act.{Act}
use Rattle.alog_replay.specs.declared.command.Act.TheVariants.{Work, Log, Flush, Dump, Level, Cells, Counts}
use Rattle.alog_replay.specs.declared.places.Place.{Place}

pub record Stage (S : Type 0) : Type 0 where
  pub system : SystemView S
  -- the names of its sinks, by number
  pub names : List (List ℕ)
  -- where its leaves are, in the order of the configuration
  pub places : List Place

abbrev pub with_system : {S : Type 0} → Stage S → SystemView S → Stage S
with_system s system = record { system = system; names = s.names; places = s.places }

-- the number of the first logger of a name
abbrev pub number_of : List Logger → List ℕ → Option ℕ
number_of [] name = None
number_of (l ∷ loggers) name = if bytes_eq l.name name then Some 0 else option_map suc (number_of loggers name)

abbrev pub number_in : {S : Type 0} → Stage S → List ℕ → Option ℕ
number_in s name = number_of s.system.roster.loggers name

-- what is said of a number, and this where there is none
abbrev pub of_number : {X : Type 0} → X → (ℕ → X) → Option ℕ → X
of_number none of None = none
of_number none of (Some n) = of n

-- a text that is looked at keeps to the limit
abbrev pub is_fit : {S : Type 0} → SystemView S → LogLevel → List ℕ → ℕ → Bool
is_fit v level text n = is_unread v.roster n level || nat_le (length text) v.outputs.text_limit

abbrev pub is_there : Option ℕ → Bool
is_there number = of_number false (λ n. true) number

-- deeds are for actors in no call, and for loggers that there are; the queue is the system's
abbrev pub may_do : {S : Type 0} → Stage S → Act → Bool
may_do s (Work actor) = is_free s.system actor
may_do s (Log actor time name level text) = is_free s.system actor && of_number false (is_fit s.system level text) (number_in s name)
may_do s (Flush actor name) = is_free s.system actor && is_there (number_in s name)
may_do s (Dump actor time name) = is_free s.system actor && is_there (number_in s name)
may_do s (Level name level) = is_there (number_in s name)
may_do s Cells = true
may_do s Counts = true
may_do s _ = false

-- what is printed of a log: the level that filters it, if one does
abbrev pub filtered_text : ℕ → Option LogLevel → List ℕ
filtered_text a None = []
filtered_text a (Some level) = line_of a (codes "filtered " ++ (row_of level).name)

-- an act of a logger that there is
abbrev pub by_number : {S : Type 0} → Stage S → (ℕ → SystemView S) → List ℕ → Stage S
by_number s after name = of_number s (λ n. with_system s (after n)) (number_in s name)

abbrev pub log_text : {S : Type 0} → SystemView S → ℕ → LogLevel → ℕ → List ℕ
log_text v a level n = filtered_text a (filtering level (level_at v.roster n))

-- what an act prints that is not refused, and the stage after it
abbrev pub after_act : {S : Type 0} → Stage S → Act → List ℕ × Stage S
after_act s (Work actor) = ([], with_system s (begun s.system actor deed.Work))
after_act s (Log actor time name level text) = (
  of_number [] (log_text s.system actor level) (number_in s name),
  by_number s (λ n. logging s.system actor (message_by actor time n level text)) name,
)
after_act s (Flush actor name) = ([], by_number s (λ n. begun s.system actor (deed.Flush n)) name)
after_act s (Dump actor time name) = ([], by_number s (λ n. begun s.system actor (deed.Dump time n)) name)
after_act s (Level name level) = ([], by_number s (λ n. with_roster s.system (with_level s.system.roster n level)) name)
after_act s Cells = (cells_line (map shown s.system.desk.world.queue.cells), s)
after_act s Counts = (counts_text s.system.desk.counts, s)
after_act s _ = ([], s)

-- an item as a take shows it
abbrev pub shown_item : Item → List ℕ
shown_item (item.Text m) = m.text
shown_item (item.Flush n) = codes "flush " ++ decimal n
shown_item item.Stop = codes "stop"

-- the name of a sink by its number
abbrev pub sink_name : List (List ℕ) → ℕ → List ℕ
sink_name names n = slice_index_or names n []

-- what is printed of a turn
abbrev pub told_turn : List (List ℕ) → ℕ → Turn → List ℕ
told_turn names a turn.Kept = line_of a (codes "kept")
told_turn names a (turn.Dumped k) = line_of a (codes "dumped " ++ decimal k)
told_turn names a (turn.Line t n) = turn_text a (codes "line") t (sink_name names n)
told_turn names a (turn.Below t n) = turn_text a (codes "below") t (sink_name names n)
told_turn names a (turn.Fault t n) = turn_text a (codes "fault") t (sink_name names n)
told_turn names a (turn.Flushed t n) = turn_text a (codes "flush") t (sink_name names n)

-- what is printed of a worker's take, of the item that it then has
abbrev pub took_text : ℕ → ℕ → Option Item → List ℕ
took_text a t None = []
took_text a t (Some i) = take_line a t (shown_item i)

-- what is printed of a step
abbrev pub told_text : List (List ℕ) → ℕ → Option Item → Stepped → List ℕ
told_text names a held (Round s) = stepped_text shown_item a s
told_text names a held (Took t) = took_text a t held
told_text names a held (Turned turn) = told_turn names a turn

-- the store of a leaf: of a sink itself, or of a member of a fan
abbrev pub store_in : {S : Type 0} → Option ℕ → Sink S → Option S
store_in None sink = store_of sink
store_in {S} (Some m) sink = option_map (λ (l : LeafView S). l.store) (slice_get (members_of sink) m)

abbrev pub store_within : {S : Type 0} → Option ℕ → Option (Sink S) → Option S
store_within member None = None
store_within member (Some sink) = store_in member sink

abbrev pub store_at : {S : Type 0} → SystemView S → Place → Option S
store_at v p = store_within p.member (slice_get v.outputs.sinks p.sink)

-- the files of a sink as they are printed, one after another
abbrev pub listed_text : List ℕ → List (List ℕ × List ℕ) → List ℕ
listed_text sink files = flat_map (λ (f : List ℕ × List ℕ). file_text sink f.0 f.1) files

abbrev pub stored_text : {S : Type 0} → (S → List (List ℕ × List ℕ)) → List ℕ → Option S → List ℕ
stored_text listing sink None = []
stored_text listing sink (Some store) = listed_text sink (listing store)

abbrev pub place_text : {S : Type 0} → (S → List (List ℕ × List ℕ)) → SystemView S → Place → List ℕ
place_text listing v p = stored_text listing p.name (store_at v p)

abbrev pub places_text : {S : Type 0} → (S → List (List ℕ × List ℕ)) → SystemView S → List Place → List ℕ
places_text listing v places = flat_map (place_text listing v) places

module _ {S : Type 0} (tells : Bool) (files : S → Files) (failures : S → ℕ) where
  -- the system makes a step, which is printed
  pub record Steps (s : Stage S) (a : ℕ) (text : List ℕ) (next : Stage S) : Type 0 where
    pub told : Stepped
    pub steps : SystemSteps tells files failures s.system a told next.system
    pub printed : text ≡ told_text s.names a (item_of (duty_of next.system a)) told
    pub rest : next ≡ with_system s next.system

  -- One step of an actor in a call. Beside the system's own steps stand two cases that add nothing to what a system does, so that
  -- something comes of each step on any stage that can be written down: that a store refused a line at once, which is one of the
  -- ways in which its law lets it fail, and that there is no sink for the turn, which no system comes to.
  abbrev pub StepsIn : Stage S → ℕ → List ℕ → Stage S → Type 0
  StepsIn s a text next =
      Steps s a text next
      ⊎ ((t : Turn) × (system : SystemView S) × Refuses s.system a t system × (text ≡ told_turn s.names a t) × (next ≡ with_system s system))
      ⊎ (HasNoSink s.system a × (text ≡ []) × (next ≡ s))

  -- the scene
  abbrev pub configured : (S → List (List ℕ × List ℕ)) → Scene (Stage S)
  configured listing = record {
    is_free = λ s actor. is_free s.system actor;
    may_do = may_do;
    Does = λ s act text next. (text ≡ (after_act s act).0) × (next ≡ (after_act s act).1);
    Steps = StepsIn;
    files = λ s. places_text listing s.system s.places;
  }
