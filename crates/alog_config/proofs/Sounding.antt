-- What keeps the rules is sound.
use Rattle.std.proofs.Common.{◌≡◌, ◌≤◌, ◌<◌, ◌^◌, ℕ, suc, ℤ, pos, true, rules, List, [], ◌∷◌, ◌++◌, length, codes, Option, Some, None, inl, inr}
use Rattle.std.proofs.Common.{refl, sym, ap, subst, ◌∙◌, arith}
use Rattle.std.proofs.lemmas.Bool.{and_from, cases_lt, le-leb}
use lib.Count.{ones}
use Rattle.alog_core.specs.World.{is_size}
use Rattle.alog_config.specs.declared.config.LoggerConfig.{LoggerConfig}
use Rattle.alog_config.specs.declared.config.SinkConfig.{SinkConfig}
use Rattle.alog_config.specs.declared.config.SinkKind.{SinkKind}
use Rattle.alog_config.specs.declared.config.SinkKind.TheVariants as sinks
use Rattle.alog_config.specs.declared.config.Upkeep.{Upkeep}
use Rattle.alog_config.specs.declared.config.Upkeep.TheVariants as upkeeps
use Rattle.alog_config.specs.declared.fault.Rule.{Rule}
use Rattle.alog_config.specs.declared.fault.Rule.TheVariants.{BadValue, Missing, NameTaken, NoSuchSink, UnknownKey}
use Rattle.alog_config.specs.declared.field.Field.{Field}
use Rattle.alog_config.specs.declared.field.Field.TheVariants.{Absent, Bad, Given}
use Rattle.alog_config.specs.declared.sink_fields.SinkFields.{SinkFields}
use Rattle.alog_config.specs.Fields.{AreSinkFields, AreTopFields}
use Rattle.alog_config.specs.declared.top.TopFields.{TopFields}
use Rattle.alog_format.specs.Civil.{IsRuleOf, IsZone}
use Rattle.alog_format.specs.declared.context.Zone.{Zone}
use Rattle.alog_format.specs.declared.context.Zone.TheVariants as zones
use Rattle.alog_msg.specs.declared.limits.TheConstants.{DEFAULT_TEXT_LIMIT, TEXT_LIMIT_MIN, TEXT_LIMIT_MAX}
use Rattle.alog_config.specs.Meaning.{AreLoggers, AreSinks, IsLogger, IsSink, SaysKind, SaysUpkeep, limit_of, zone_of}
use Rattle.alog_config.specs.Rules.{AreBadMembers, AreLentSinks, AreNoSinks, IsBadFile, IsFirst, IsTakenLoggerName, IsTakenName}
use Rattle.alog_config.specs.Rules.{LoggerBreaks, SinkBreaks, order}
use Rattle.alog_config.specs.Sound.{AreSoundLoggers, AreSoundSinks, IsSound, IsSoundKind, IsSoundLogger, IsSoundSink, IsSoundTop}
use Rattle.alog_config.specs.Sound.{IsSoundUpkeep}
use Rattle.alog_config.specs.Values.{IsField, IsMinutes, IsName, IsNameList, IsNumber, IsPattern, IsPatternText, IsQueue, IsTableArray}
use Rattle.alog_config.specs.Values.{LentTables, Spelled, given_or, tables_in}
use Rattle.alog_pattern.specs.Compiled.{IsTextLimit}
use Rattle.alog_pattern.specs.Flag.{flag_of}
use Rattle.alog_pattern.specs.Length.{longest_line}
use Rattle.alog_pattern.specs.Scan.{items_of}
use Rattle.alog_pattern.specs.declared.flags.Flag.TheVariants.{Default}
use Rattle.alog_pattern.specs.declared.items.Item.{Item}
use Rattle.alog_pattern.specs.declared.items.Item.TheVariants.{Flag}
use Rattle.alog_pattern.proofs.SharedReadings.{line_within}
use Rattle.alog_registry.specs.declared.TheConstants.{KEPT_MAX}
use Rattle.alog_sink.specs.Names.{IsFileName}
use Rattle.toml.specs.Data.{Data, Members}

-- no rule of a list is broken
pub none_first : (r : Rule) (rs : List Rule) (P : Rule → Type 0) → IsFirst (r ∷ rs) P None → (¬ P r) × IsFirst rs P None
none_first r rs P (inl x) = absurd (cc x.1)
none_first r rs P (inr x) = x

pub record AllKept (P : Rule → Type 0) : Type 0 where
  pub unknown : ¬ P UnknownKey
  pub bad : ¬ P BadValue
  pub missing : ¬ P Missing
  pub taken : ¬ P NameTaken
  pub no_sink : ¬ P NoSuchSink

pub all_kept : (P : Rule → Type 0) → IsFirst order P None → AllKept P
all_kept P h =
    let a = none_first UnknownKey (BadValue ∷ Missing ∷ NameTaken ∷ NoSuchSink ∷ []) P h in
    let b = none_first BadValue (Missing ∷ NameTaken ∷ NoSuchSink ∷ []) P a.1 in
    let c = none_first Missing (NameTaken ∷ NoSuchSink ∷ []) P b.1 in
    let d = none_first NameTaken (NoSuchSink ∷ []) P c.1 in
    let e = none_first NoSuchSink [] P d.1 in
    record { unknown = a.0; bad = b.0; missing = c.0; taken = d.0; no_sink = e.0 }

-- a field that is given was read
pub given_reads : {A : Type 0} (reads : Data → A → Type 0) (o : Option Data) (field : Field A) (a : A) → IsField reads o field
    → field ≡ Given a → (d : Data) × reads d a
given_reads reads None field a h e = absurd (let clash = sym h ∙ e in cc clash)
given_reads reads (Some d) (Given x) a h e = let same : x ≡ a = cc in (d, subst (λ y. reads d y) same h)
given_reads reads (Some d) Absent a h e = absurd (cc e)
given_reads reads (Some d) Bad a h e = absurd (cc e)

-- orders that are not refuted hold
pub held : (m n : ℕ) → ¬ (¬ (m ≤ n)) → m ≤ n
held m n h = elim (cases_lt n m) [
  | inl x ↦ absurd (h (λ y. omega (arith, x, y)))
  | inr x ↦ x
]

pub file_name_held : (name : List ℕ) → ¬ (¬ IsFileName name) → IsFileName name
file_name_held name h = record {
  some = held 1 (length name) (λ never. h (λ f. never f.some));
  short = held (length name) 64 (λ never. h (λ f. never f.short));
  no_slash = λ x. h (λ f. f.no_slash x);
  no_zero = λ x. h (λ f. f.no_zero x);
  no_folder = λ x. h (λ f. f.no_folder x);
  no_parent = λ x. h (λ f. f.no_parent x);
}

-- the default pattern can be compiled
plus_items : items_of (codes "%+") ≡ Flag Default None ∷ []
unfolding flag_of
plus_items = refl

pub plus_is_pattern : (limit : ℕ) → IsTextLimit limit → IsPattern limit (codes "%+")
plus_is_pattern limit limited = (
  omega arith,
  λ exceeds.
      let long = line_within 65536 limit (codes "%+") exceeds in
      let P : List Item → Type 0 = λ items. 65536 < longest_line limit items in
      let plain = subst P plus_items long in
      omega (arith, plain, limited.1),
)

pub pattern_sound : (limit : ℕ) (o : Option Data) (field : Field (List ℕ)) → IsTextLimit limit
    → IsField (Spelled (IsPatternText limit)) o field → IsPattern limit (given_or (codes "%+") field)
pattern_sound limit o (Given p) limited h =
    let r = given_reads (Spelled (IsPatternText limit)) o (Given p) p h refl in
    let said = r.1.2 in
    subst (λ t. IsPattern limit t) (sym said.0) said.1
pattern_sound limit o Absent limited h = plus_is_pattern limit limited
pattern_sound limit o Bad limited h = plus_is_pattern limit limited

-- numbers
pub number_sound : (least greatest : ℕ) (o : Option Data) (field : Field ℕ) (n : ℕ) → IsField (IsNumber least greatest) o field → field ≡ Given n
    → (least ≤ n) × (n ≤ greatest)
number_sound least greatest o field n h e = let r = given_reads (IsNumber least greatest) o field n h e in (r.1.1, r.1.2)

pub number_or_zero : (least greatest : ℕ) (o : Option Data) (field : Field ℕ) → IsField (IsNumber least greatest) o field
    → given_or 0 field ≤ greatest
number_or_zero least greatest o (Given n) h = (number_sound least greatest o (Given n) n h refl).1
number_or_zero least greatest o Absent h = omega arith
number_or_zero least greatest o Bad h = omega arith

upkeep_sound : (limit : ℕ) (t : Members) (f : SinkFields) (u : Upkeep) → AreSinkFields limit t f → SaysUpkeep f u → IsSoundUpkeep u
upkeep_sound limit t f upkeeps.Never are says = tt
upkeep_sound limit t f (upkeeps.BySize max_size max_files) are says =
    let size = number_sound 1 (2 ^ 40) _ f.max_size max_size are.max_size says.1 in
    let files = number_sound 0 1000 _ f.max_files max_files are.max_files says.2 in
    (size.0, size.1, files.1)
upkeep_sound limit t f (upkeeps.Daily hour minute max_files) are says = (
  rw says.1 (number_or_zero 0 23 _ f.hour are.hour),
  rw says.2 (number_or_zero 0 59 _ f.minute are.minute),
  rw says.3 (number_or_zero 0 1000 _ f.max_files are.max_files),
)

kind_sound : {limit : ℕ} (earlier : List SinkConfig) {t : Members} {f : SinkFields} (k : SinkKind) → IsTextLimit limit
    → AreSinkFields limit t f → AllKept (SinkBreaks earlier f) → SaysKind f k → IsSoundKind limit earlier k
kind_sound {limit} earlier {t} {f} (sinks.Lines file pattern upkeep) limited are kept says =
    let bad : ¬ IsBadFile earlier (Some file) = λ h. kept.bad (inr (inl (subst (IsBadFile earlier) (sym says.0) h))) in (
      file_name_held file (λ never. bad (inl never)),
      λ h. bad (inr h),
      subst (λ p. IsPattern limit p) (sym says.1) (pattern_sound limit _ f.pattern limited are.pattern),
      upkeep_sound limit t f upkeep are says.2,
    )
kind_sound earlier {f} (sinks.Fan of) limited are kept says =
    let r = given_reads IsNameList _ f.of of are.of says.1 in
    let bad : ¬ AreBadMembers earlier (Given of) = λ h. kept.bad (inr (inr (subst (AreBadMembers earlier) (sym says.1) h))) in (
      r.1.1,
      λ h. kept.no_sink (subst (AreNoSinks earlier) (sym says.1) h),
      λ h. bad (inl h),
      λ h. bad (inr h),
    )

-- a sink that a table says, and a logger
pub sink_sound : (limit : ℕ) (earlier : List SinkConfig) (t : Members) (s : SinkConfig) → IsTextLimit limit → IsSink limit earlier t s
    → IsSoundSink limit earlier s
sink_sound limit earlier t s limited h =
    let f = h.fields in
    let kept = all_kept (SinkBreaks earlier f) h.kept in
    let r = given_reads (Spelled IsName) _ f.name s.name h.are.name h.says.name in
    let said = r.1.2 in
    record {
      some = rw said.0 said.1;
      short = rw said.0 said.2;
      free = λ taken. kept.taken (subst (IsTakenName earlier) (sym h.says.name) taken);
      kind = kind_sound earlier s.kind limited h.are kept h.says.kind;
    }

pub logger_sound : (ss : List SinkConfig) (earlier : List LoggerConfig) (t : Members) (l : LoggerConfig) → IsLogger ss earlier t l
    → IsSoundLogger ss earlier l
logger_sound ss earlier t l h =
    let f = h.fields in
    let kept = all_kept (LoggerBreaks ss earlier f) h.kept in
    let r = given_reads (Spelled IsName) _ f.name l.name h.are.name h.says.name in
    let said = r.1.2 in
    let n = given_reads IsNameList _ f.sinks l.sinks h.are.sinks h.says.sinks in
    record {
      some = rw said.0 said.1;
      short = rw said.0 said.2;
      free = λ taken. kept.taken (subst (IsTakenLoggerName earlier) (sym h.says.name) taken);
      names = n.1.1;
      known = λ x. kept.no_sink (subst (AreNoSinks ss) (sym h.says.sinks) x);
      apart = λ x. kept.bad (inr (subst (AreLentSinks ss) (sym h.says.sinks) x));
      few = rw h.says.backtrace (number_or_zero 0 KEPT_MAX _ f.backtrace h.are.backtrace);
    }

-- all of them, as many as tables
pub sinks_sound : (limit : ℕ) (earlier : List SinkConfig) (ts : List Members) (ss : List SinkConfig) → IsTextLimit limit
    → AreSinks limit earlier ts ss → AreSoundSinks limit earlier ss × (length ss ≡ length ts)
sinks_sound limit earlier [] [] limited h = (tt, refl)
sinks_sound limit earlier [] (s ∷ ss) limited h = absurd h
sinks_sound limit earlier (t ∷ ts) [] limited h = absurd h
sinks_sound limit earlier (t ∷ ts) (s ∷ ss) limited h =
    let rest = sinks_sound limit (earlier ++ s ∷ []) ts ss limited h.1 in
    ((sink_sound limit earlier t s limited h.0, rest.0), ap suc rest.1)

pub loggers_sound : (sinks : List SinkConfig) (earlier : List LoggerConfig) (ts : List Members) (ls : List LoggerConfig)
    → AreLoggers sinks earlier ts ls → AreSoundLoggers sinks earlier ls × (length ls ≡ length ts)
loggers_sound sinks earlier [] [] h = (tt, refl)
loggers_sound sinks earlier [] (l ∷ ls) h = absurd h
loggers_sound sinks earlier (t ∷ ts) [] h = absurd h
loggers_sound sinks earlier (t ∷ ts) (l ∷ ls) h =
    let rest = loggers_sound sinks (earlier ++ l ∷ []) ts ls h.1 in
    ((logger_sound sinks earlier t l h.0, rest.0), ap suc rest.1)

-- what is said for all
text_sound : (o : Option Data) (field : Field ℕ) → IsField (IsNumber TEXT_LIMIT_MIN TEXT_LIMIT_MAX) o field
    → IsTextLimit (given_or DEFAULT_TEXT_LIMIT field)
text_sound o (Given n) h = number_sound TEXT_LIMIT_MIN TEXT_LIMIT_MAX o (Given n) n h refl
text_sound o Absent h = (omega arith, omega arith)
text_sound o Bad h = (omega arith, omega arith)

zero_near : IsZone (zones.Fixed (pos 0))
zero_near = search rules

minutes_sound : (o : Option Data) (field : Field ℤ) → IsField IsMinutes o field → IsZone (zones.Fixed (given_or (pos 0) field))
minutes_sound o (Given n) h = let r = given_reads IsMinutes o (Given n) n h refl in (r.1.1, r.1.2)
minutes_sound o Absent h = zero_near
minutes_sound o Bad h = zero_near

rule_near : (text : List ℕ) (zone : Zone) → IsRuleOf text zone → IsZone zone
rule_near text (zones.Fixed minutes) h = absurd h
rule_near text (zones.Rule rule) h = zero_near

zone_sound : (o : Option Data) (minutes : ℤ) (field : Field Zone) → IsZone (zones.Fixed minutes) → IsField (Spelled IsRuleOf) o field
    → IsZone (given_or (zones.Fixed minutes) field)
zone_sound o minutes (Given zone) fixed h =
    let r = given_reads (Spelled IsRuleOf) o (Given zone) zone h refl in rule_near r.1.0 zone r.1.2
zone_sound o minutes Absent fixed h = fixed
zone_sound o minutes Bad fixed h = fixed

default_size : is_size 8192 ≡ true
unfolding ones
default_size = refl

queue_sound : (o : Option Data) (field : Field ℕ) → IsField IsQueue o field → is_size (given_or 8192 field) ≡ true
queue_sound o (Given n) h =
    let r = (given_reads IsQueue o (Given n) n h refl).1 in
    and_from _ _ r.1 (and_from _ _ (le-leb 2 n r.0.1) (le-leb n 65536 r.0.2))
queue_sound o Absent h = default_size
queue_sound o Bad h = default_size

workers_sound : (o : Option Data) (field : Field ℕ) → IsField (IsNumber 1 64) o field
    → (1 ≤ given_or 1 field) × (given_or 1 field ≤ 64)
workers_sound o (Given n) h = number_sound 1 64 o (Given n) n h refl
workers_sound o Absent h = (omega arith, omega arith)
workers_sound o Bad h = (omega arith, omega arith)

pub top_kept : (t : Members) (f : TopFields) (queue workers : ℕ) → AreTopFields t f → queue ≡ given_or 8192 f.queue
    → workers ≡ given_or 1 f.workers → IsSoundTop queue workers
top_kept t f queue workers are places threads =
    let many = workers_sound _ f.workers are.workers in
    record {
      size = rw places (queue_sound _ f.queue are.queue);
      some = rw threads many.0;
      few = rw threads many.1;
    }

-- what is read keeps the rules
pub top_sound : {t : Members} {f : TopFields} {v w : LentTables} {limit : ℕ} {zone : Zone} {ss : List SinkConfig} {ls : List LoggerConfig}
    → AreTopFields t f → f.sinks ≡ Given v → f.loggers ≡ Given w → limit ≡ limit_of f → zone ≡ zone_of f
    → AreSinks limit [] (tables_in v) ss → AreLoggers ss [] (tables_in w) ls → IsSound limit zone ss ls
top_sound {f} {v} {w} {limit} {ss} {ls} are has_sinks has_loggers limited clock sinks_are loggers_are =
    let in_limit = subst IsTextLimit (sym limited) (text_sound _ f.text are.text) in
    let sinks_keep = sinks_sound limit [] (tables_in v) ss in_limit sinks_are in
    let loggers_keep = loggers_sound ss [] (tables_in w) ls loggers_are in
    let few_sinks = (given_reads IsTableArray _ f.sinks v are.sinks has_sinks).1.1 in
    let few_loggers = (given_reads IsTableArray _ f.loggers w are.loggers has_loggers).1.1 in
    let many = sinks_keep.1 in
    let more = loggers_keep.1 in
    record {
      limited = in_limit;
      near = subst IsZone (sym clock) (zone_sound _ _ f.zone (minutes_sound _ f.offset are.offset) are.zone);
      few_sinks = omega (arith, many, few_sinks);
      few_loggers = omega (arith, more, few_loggers);
      each_sink = sinks_keep.0;
      each_logger = loggers_keep.0;
    }
