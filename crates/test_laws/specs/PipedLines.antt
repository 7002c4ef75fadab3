-- What a sink holds of the lines that a pipe logged.
use Rattle.std.specs.Prelude.{◌≡◌, ◌≢◌, ◌≤◌, ◌<◌, ◌+◌, ◌^◌, ◌==◌, ℕ, ℤ, Bool, true, Option, None, Some, is_none, List, [], ◌∷◌, ◌++◌, count_by, length, slice_get}
use Rattle.std.specs.List.{AllByRecursion, concat, flat_map}
use Rattle.std.specs.Str.{IsUtf8}
use Rattle.alog_config.specs.Built.{EachIs}
use Rattle.alog_config.specs.declared.config.Config.{Config}
use Rattle.alog_core.specs.declared.TheConstants.{TICKET_END}
use Rattle.alog_lines.specs.Lines.{lines_of}
use Rattle.alog_lines.specs.Pieces.{Piece, pieces_of}
use Rattle.alog_msg.specs.declared.level.Level.{Level}
use Rattle.alog_msg.specs.declared.message.Message.{Message}
use Rattle.alog_pattern.specs.declared.flags.Flag.TheVariants.{Text}
use Rattle.alog_pattern.specs.declared.items.Item.TheVariants.{Flag}
use Rattle.alog_pipe.specs.Pipes.{Pipes}
use Rattle.alog_pipe.specs.declared.piping.Piped.{Piped}
use Rattle.alog_policy.specs.declared.policy.Policy.TheVariants.{Block, OverrunOldest}
use Rattle.alog_pool.specs.OneWorker.{HoldsMore}
use Rattle.alog_registry.specs.Given.{message_with}
use Rattle.alog_registry.specs.Listed.{spec_at}
use Rattle.alog_registry.specs.declared.logger.Spec.{Spec}
use Rattle.alog_sink.specs.Files.{Files, bytes_of}
use Rattle.alog_sink.specs.Lines.{admits}
use Rattle.alog_sink.specs.Names.{numbered}
use Rattle.alog_sink.specs.Rotation.{Limits, Run, kept}
use Rattle.alog_sink.specs.Turn.{LeafView, StandsFor}
use Rattle.alog_sink.specs.declared.sink.Sink.{Sink}
use Rattle.alog_sink.specs.declared.sink.Sink.TheVariants.{Leaf}
use Rattle.alog_sink.specs.declared.target.Target.{Target}
use Rattle.alog_sink.specs.declared.target.Target.TheVariants.{Daily, Memory, Rotating}

-- a message of this logger and level, of the pool's first thread, with exactly this piece's text; its time is some
abbrev pub IsOf : ℕ → Level → Piece → Message → Type 0
IsOf logger level p m = (time : ℤ) × (m ≡ message_with logger level time 0 p.text None)

-- the texts of these pieces, each with a newline
abbrev pub text_lines : List Piece → List ℕ
text_lines pieces = flat_map (λ (p : Piece). p.text ++ 10 ∷ []) pieces

-- lines in UTF-8 of at most so many bytes, of which the last has its newline
pub record AreTexts (limit : ℕ) (bytes : List ℕ) : Type 0 where
  pub lines : AllByRecursion (λ (line : List ℕ). IsUtf8 line × (length line ≤ limit)) (lines_of bytes)
  pub front : List ℕ
  pub ends : bytes ≡ front ++ 10 ∷ []

-- a sink that takes this level, and whose lines are the texts alone
pub record IsPlain {S : Type 0} (level : Level) (leaf : LeafView S) : Type 0 where
  pub takes : admits leaf.face.level level ≡ true
  pub items : leaf.face.pattern.items ≡ Flag Text None ∷ []

-- Files that are rotated are runs of bytes. These runs are, one behind the other, what the base had at first and then these bytes; the last
-- one is in the base, and those before it are in the files by number, as far as they are kept.
pub record AreRuns (limits : Limits) (opening now : Files) (bytes : List ℕ) : Type 0 where
  pub runs : List Run
  pub joined : concat (flat_map (λ (run : Run). run) runs) ≡ bytes_of opening limits.file ++ bytes
  pub numbers : (i : ℕ) → i ≤ limits.max_files → now (numbered limits.file i) ≡ kept limits opening runs i

-- These bytes came behind what was there: in the one file, or in the files that are rotated. Of files by days nothing is said here.
abbrev pub HasBytes : Target → Files → Files → List ℕ → Type 0
HasBytes (Memory j) opening now bytes = bytes_of now j.file ≡ bytes_of opening j.file ++ bytes
HasBytes (Rotating r) opening now bytes = AreRuns r.limits opening now bytes
HasBytes (Daily d) opening now bytes = Unit {0}

module _ {S : Type 0} (files : S → Files) where
  -- A sink was opened over one of these stores, and stands for that store's files and these messages: its files are what its kind makes of
  -- the files that were there and of the messages' lines.
  pub record StandsOn (stores : List S) (messages : List Message) (leaf : LeafView S) : Type 0 where
    pub store : S
    pub place : ℕ
    pub store_is : slice_get stores place ≡ Some store
    pub stands : StandsFor files leaf (files store) messages

  -- Where these lines are the texts alone, they are these bytes.
  pub record StandsOver (level : Level) (stores : List S) (messages : List Message) (bytes : List ℕ) (leaf : LeafView S) : Type 0 where
    pub opened : StandsOn stores messages leaf
    pub plain : IsPlain level leaf → HasBytes leaf.target (files opened.store) (files leaf.store) bytes

  -- Of these sinks that of this number holds, behind what it held at first, exactly one message for each piece of these bytes, in their order.
  -- If it is no fan it stands for them over one of these stores. The texts of the pieces are the bytes, where these are lines of texts.
  pub record HoldsPieces (logger : ℕ) (level : Level) (n : ℕ) (stores : List S) (first last : List (Sink S)) (limit : ℕ) (bytes : List ℕ)
      : Type 0 where
    pub messages : List Message
    pub each : EachIs (IsOf logger level) (pieces_of limit bytes) messages
    pub old : Sink S
    pub new : Sink S
    pub old_is : slice_get first n ≡ Some old
    pub new_is : slice_get last n ≡ Some new
    pub holds : HoldsMore files old new messages
    pub stands : (leaf : LeafView S) → new ≡ Leaf leaf → StandsOver level stores messages (text_lines (pieces_of limit bytes)) leaf
    pub whole : AreTexts limit bytes → text_lines (pieces_of limit bytes) ≡ bytes

-- A pipe counts that no piece is missing, and that none was below the level that the logger had when it was logged.
abbrev pub LosesNone : {S : Type 0} → Piped S → Type 0
LosesNone p = (p.missing ≡ 0) × (p.below ≡ 0)

module _ {S : Type 0} (tells : Bool) (files : S → Files) (failures : S → ℕ) where
  -- Where the logger of a pipe does not overrun the oldest, nothing was overrun, whatever is missing.
  abbrev pub OverrunsNone : {c : Config} {stores : List S} {logger : ℕ} {level : Level} {before after : Option (List ℕ)} {p : Piped S}
      → Pipes tells files failures c stores logger level before after p → Type 0
  OverrunsNone {logger = logger} {p = p} h =
      (s : Spec) → spec_at h.setup.loggers logger ≡ Some s → s.policy ≢ OverrunOldest → p.report.totals.overrun ≡ 0

  -- A pipe, by this account of it, of a reader that had these bytes and was read to its end, to a logger among whose sinks that of this
  -- number stands once. The store of that sink tells its files, and no turn there met a fault.
  pub record FlowsTo (n : ℕ) (bytes : List ℕ) {c : Config} {stores : List S} {logger : ℕ} {level : Level} {before after : Option (List ℕ)}
      {p : Piped S} (h : Pipes tells files failures c stores logger level before after p) : Type 0 where
    pub had : before ≡ Some bytes
    pub few : length (pieces_of c.text bytes) < 2 ^ 64
    pub whole : is_none p.fault ≡ true
    pub spec : Spec
    pub found : spec_at h.setup.loggers logger ≡ Some spec
    pub once : count_by (λ (s : ℕ). s == n) spec.sinks.items ≡ 1
    pub told : tells ≡ true
    pub faultless : slice_get p.report.faults.items n ≡ Some 0

  -- Where its logger keeps no copies for a backtrace, such a pipe has told of all that is missing: none is left of which no line was logged.
  abbrev pub LeavesNone : {n : ℕ} {bytes : List ℕ} {c : Config} {stores : List S} {logger : ℕ} {level : Level} {before after : Option (List ℕ)}
      {p : Piped S} {h : Pipes tells files failures c stores logger level before after p} → FlowsTo n bytes h → Type 0
  LeavesNone {h = h} f = f.spec.backtrace ≡ 0 → h.through.log.hole ≡ 0

  -- Where its logger waits for room and keeps no copies for a backtrace, such a pipe of fewer pieces than a queue has tickets loses none. (One
  -- ticket may be the pool's, for its stop.)
  abbrev pub BlocksLoseNone : {n : ℕ} {bytes : List ℕ} {c : Config} {stores : List S} {logger : ℕ} {level : Level} {before after : Option (List ℕ)}
      {p : Piped S} {h : Pipes tells files failures c stores logger level before after p} → FlowsTo n bytes h → Type 0
  BlocksLoseNone {bytes = bytes} {c = c} {p = p} f =
      f.spec.policy ≡ Block → f.spec.backtrace ≡ 0 → length (pieces_of c.text bytes) + 1 < TICKET_END → p.missing ≡ 0

  -- Where its logger overruns the oldest, such a pipe counts that nothing was overrun.
  abbrev pub KeepsAll : {n : ℕ} {bytes : List ℕ} {c : Config} {stores : List S} {logger : ℕ} {level : Level} {before after : Option (List ℕ)}
      {p : Piped S} {h : Pipes tells files failures c stores logger level before after p} → FlowsTo n bytes h → Type 0
  KeepsAll {p = p} f = f.spec.policy ≡ OverrunOldest → p.report.totals.overrun ≡ 0
