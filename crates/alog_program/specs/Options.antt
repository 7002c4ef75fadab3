-- What the values of the options say, which are allowed, and which is the first that is refused.
use Rattle.std.specs.Prelude.{◌≡◌, ◌⊎◌, ◌↔◌, ◌<◌, ◌≤◌, ◌^◌, ◌-◌, ℕ, ℤ, pos, neg_ℤ, ◌≤ℤ◌, List, [], ◌∷◌, Option, None, Some, codes}
use Rattle.std.specs.Prelude.{unwrap_or, IsNone, IfSome}
use Rattle.std.specs.Str.{byte}
use Rattle.std.specs.Str.Parse.{IsNumeral, digits_value, signed_digits_value}
use Rattle.clap.specs.declared.parser.matches.ArgMatches.{ArgMatches}
use Rattle.clap.specs.Words.{found_of, first_value}
use Rattle.alog_msg.specs.Level.{Names}
use Rattle.alog_msg.specs.Message.{fields_of}
use Rattle.alog_msg.specs.declared.level.Level.{Level}
use Rattle.alog_msg.specs.declared.source.SourceRef.{SourceRef}
use Rattle.alog_msg.specs.declared.level.Level.TheVariants.{Info}
use Rattle.alog_format.specs.declared.context.TheConstants.{OFFSET_MAX}
use Rattle.alog_format.specs.Civil.{IsRuleOf, IsRuleText}
use Rattle.alog_format.specs.declared.context.Zone.{Zone}
use Rattle.alog_format.specs.declared.context.Zone.TheVariants.{Fixed}
use Rattle.alog_program.specs.declared.options.Allowed.{Allowed}
use Rattle.alog_program.specs.declared.options.Allowed.TheVariants.{Signed, Unsigned, ZoneRule, LevelName}
use Rattle.alog_program.specs.declared.options.FormatOption.{FormatOption}
use Rattle.alog_program.specs.declared.options.FormatOption.TheVariants.{Time, Offset, Zone as ZoneOption, Level as LevelOption, Thread, Process, Line}
use Rattle.alog_program.specs.declared.options.FormatOption.TheVariants.{Previous}
use Rattle.alog_program.specs.declared.options.ValueError.{ValueError}
use Rattle.alog_program.specs.declared.request.LineRequest.{LineRequest}

-- the value of each argument that is given, by the argument's name
abbrev pub Values : Type 0
Values = List ℕ → Option (List ℕ)

abbrev pub value_of : ArgMatches → Values
value_of matches name = first_value (found_of matches) name

-- the value of an argument, or the empty text
abbrev pub text_of : Values → List ℕ → List ℕ
text_of values name = unwrap_or (values name) []

-- the names and the order of the options
abbrev pub name_of : FormatOption → List ℕ
name_of Time = codes "time"
name_of Offset = codes "offset"
name_of ZoneOption = codes "zone"
name_of LevelOption = codes "level"
name_of Thread = codes "thread"
name_of Process = codes "process"
name_of Line = codes "line"
name_of Previous = codes "previous"

abbrev pub place_of : FormatOption → ℕ
place_of Time = 0
place_of Offset = 1
place_of ZoneOption = 2
place_of LevelOption = 3
place_of Thread = 4
place_of Process = 5
place_of Line = 6
place_of Previous = 7

-- what each option's value may be
abbrev pub allowed_of : FormatOption → Allowed
allowed_of Time = Signed (neg_ℤ (pos (2 ^ 63))) (pos (2 ^ 63 - 1))
allowed_of Offset = Signed (neg_ℤ OFFSET_MAX) OFFSET_MAX
allowed_of ZoneOption = ZoneRule
allowed_of LevelOption = LevelName
allowed_of Thread = Unsigned (2 ^ 64 - 1)
allowed_of Process = Unsigned (2 ^ 32 - 1)
allowed_of Line = Unsigned (2 ^ 32 - 1)
allowed_of Previous = Signed (neg_ℤ (pos (2 ^ 63))) (pos (2 ^ 63 - 1))

-- decimal digits, one or more, behind a minus perhaps
abbrev pub IsSignedNumeral : List ℕ → Type 0
IsSignedNumeral text = IsNumeral 10 text ⊎ ((digits : List ℕ) × (text ≡ byte "-" ∷ digits) × IsNumeral 10 digits)

-- the text is allowed
abbrev pub Allows : Allowed → List ℕ → Type 0
Allows (Signed least most) text =
    IsSignedNumeral text × (least ≤ℤ signed_digits_value 10 text) × (signed_digits_value 10 text ≤ℤ most)
Allows (Unsigned most) text = IsNumeral 10 text × (digits_value 10 text ≤ most)
Allows ZoneRule text = IsRuleText text
Allows LevelName text = (level : Level) × Names text level

-- no zone stands beside an offset
abbrev pub MayStand : Values → FormatOption → Type 0
MayStand values ZoneOption = IsNone (values (codes "offset"))
MayStand values _ = Unit {0}

-- the option is not given, or it may stand there and its value is allowed
abbrev pub IsAllowed : Values → FormatOption → Type 0
IsAllowed values option = IfSome (values (name_of option)) (λ text. Allows (allowed_of option) text × MayStand values option)

-- the number that decimal digits spell, and 0 where there is no value
abbrev pub IsNumber : Option (List ℕ) → ℕ → Type 0
IsNumber None n = n ≡ 0
IsNumber (Some digits) n = n ≡ digits_value 10 digits

-- the same where a minus may stand first
abbrev pub IsSignedNumber : Option (List ℕ) → ℤ → Type 0
IsSignedNumber None z = z ≡ pos 0
IsSignedNumber (Some digits) z = z ≡ signed_digits_value 10 digits

-- the time that they spell, and none where there is no value
abbrev pub IsTime : Option (List ℕ) → Option ℤ → Type 0
IsTime None time = time ≡ None
IsTime (Some digits) time = time ≡ Some (signed_digits_value 10 digits)

-- the zone of this rule, and where there is none the one of so many minutes
abbrev pub IsClock : Option (List ℕ) → Option (List ℕ) → Zone → Type 0
IsClock (Some rule) offset zone = IsRuleOf rule zone
IsClock None offset zone = (minutes : ℤ) × (zone ≡ Fixed minutes) × IsSignedNumber offset minutes

-- the level of this name, and info where there is none
abbrev pub IsLevel : Option (List ℕ) → Level → Type 0
IsLevel None level = level ≡ Info
IsLevel (Some name) level = Names name level

-- the source, which is there where its file or its function is given
pub record IsSource (values : Values) (line : ℕ) (source : Option SourceRef) : Type 0 where
  pub absent : IsNone source ↔ (IsNone (values (codes "file")) × IsNone (values (codes "function")))
  pub given : IfSome source (λ s. fields_of s ≡ record {
    file = text_of values (codes "file");
    line = line;
    function = text_of values (codes "function");
  })

-- the line is asked for by these values, and each is allowed
pub record AsksFor (values : Values) (r : LineRequest) : Type 0 where
  pub allowed : (option : FormatOption) → IsAllowed values option
  pub pattern : r.pattern.now ≡ text_of values (codes "PATTERN")
  pub text : r.text.now ≡ text_of values (codes "TEXT")
  pub name : r.name.now ≡ text_of values (codes "name")
  pub level : IsLevel (values (codes "level")) r.level
  pub time : IsSignedNumber (values (codes "time")) r.time
  pub thread : IsNumber (values (codes "thread")) r.thread
  pub source : (line : ℕ) × IsNumber (values (codes "line")) line × IsSource values line r.source
  pub process : IsNumber (values (codes "process")) r.context.process
  pub previous : IsTime (values (codes "previous")) r.previous
  pub zone : IsClock (values (codes "zone")) (values (codes "offset")) r.context.zone

-- the option is given, and refused: its value is not allowed, or it may not stand there
pub record Refuses (values : Values) (option : FormatOption) (fault : ValueError) : Type 0 where
  pub names : fault.option ≡ option
  pub given : values (name_of option) ≡ Some fault.value.now
  pub refused : ¬ (Allows (allowed_of option) fault.value.now × MayStand values option)
  pub allowed : fault.allowed ≡ allowed_of option

-- the first option whose value is refused
pub record IsFirstRefused (values : Values) (fault : ValueError) : Type 0 where
  pub refused : Refuses values fault.option fault
  pub earlier : (option : FormatOption) → place_of option < place_of fault.option → IsAllowed values option
