-- What one key of a table may hold, and what it is read as.
use Rattle.std.specs.Prelude.{◌≡◌, ◌≤◌, ℕ, ℤ, pos, negsuc, ◌≤ℤ◌, List, length, map, codes, String, Vec}
use Rattle.std.specs.Prelude.{Option, Some, None, IsTrue}
use denote.Ref.{Bor}
use Rattle.std.specs.BTreeMap.{BTreeMap}
use Rattle.std.specs.Int.{is_power_of_two}
use Rattle.std.specs.List.{AllPairs}
use Rattle.std.specs.declared.alloc.Global.{Global}
use Rattle.alog_config.specs.declared.TheConstants.{NAMES_MAX, TABLES_MAX}
use Rattle.alog_config.specs.declared.field.Field.{Field}
use Rattle.alog_config.specs.declared.field.Field.TheVariants.{Absent, Bad, Given}
use Rattle.alog_config.specs.declared.keys.Kind.{Kind}
use Rattle.alog_config.specs.declared.keys.Kind.TheVariants.{Memory, Rotating, Daily, Fan}
use Rattle.alog_msg.specs.declared.limits.TheConstants.{LOGGER_NAME_MAX}
use Rattle.alog_pattern.specs.Length.{LineExceeds}
use Rattle.alog_pattern.specs.declared.patterns.TheConstants.{LINE_MAX, PATTERN_MAX}
use Rattle.alog_policy.specs.declared.policy.Policy.{Policy}
use Rattle.alog_policy.specs.declared.policy.Policy.TheVariants.{Block, OverrunOldest, DiscardNew}
use Rattle.toml.specs.Data.{Data, as_str, string, integer, array, table, Members}
use Rattle.toml.specs.View.{items_of, table_view}
use Rattle.toml.specs.declared.value.Value.{Value}

-- What is at a key, if a value is read in this way: no such key, a value that can not be read so, or what it is read as.
abbrev pub IsField : {A : Type 0} → (Data → A → Type 0) → Option Data → Field A → Type 0
IsField reads None field = field ≡ Absent
IsField reads (Some d) Absent = ⊥
IsField {A} reads (Some d) Bad = (a : A) → ¬ reads d a
IsField reads (Some d) (Given a) = reads d a

-- what is given, or else the default
abbrev pub given_or : {A : Type 0} → A → Field A → A
given_or default (Given a) = a
given_or default Absent = default
given_or default Bad = default

-- an integer within these bounds
abbrev pub IsNumber : ℕ → ℕ → Data → ℕ → Type 0
IsNumber least greatest d n = (d ≡ integer (pos n)) × (least ≤ n) × (n ≤ greatest)

-- a power of two from 2 to 65,536
abbrev pub IsQueue : Data → ℕ → Type 0
IsQueue d n = IsNumber 2 65536 d n × IsTrue (is_power_of_two n)

-- minutes, less than a day either way
abbrev pub IsMinutes : Data → ℤ → Type 0
IsMinutes d n = (d ≡ integer n) × (negsuc 1438 ≤ℤ n) × (n ≤ℤ pos 1439)

-- a string that says so
abbrev pub Spelled : {A : Type 0} → (List ℕ → A → Type 0) → Data → A → Type 0
Spelled says d a = (text : List ℕ) × (d ≡ string text) × says text a

-- what a string says: itself; a name of 1 to 64 bytes; a pattern that can be compiled for texts of that limit
abbrev pub IsText : List ℕ → List ℕ → Type 0
IsText text a = a ≡ text

abbrev pub IsName : List ℕ → List ℕ → Type 0
IsName text a = (a ≡ text) × (1 ≤ length text) × (length text ≤ LOGGER_NAME_MAX)

abbrev pub IsPattern : ℕ → List ℕ → Type 0
IsPattern limit text = (length text ≤ PATTERN_MAX) × (¬ LineExceeds LINE_MAX limit text)

abbrev pub IsPatternText : ℕ → List ℕ → List ℕ → Type 0
IsPatternText limit text a = (a ≡ text) × IsPattern limit text

-- the kinds of sinks, and the policies, by their names
abbrev pub IsKind : List ℕ → Kind → Type 0
IsKind text Memory = text ≡ codes "memory"
IsKind text Rotating = text ≡ codes "rotating"
IsKind text Daily = text ≡ codes "daily"
IsKind text Fan = text ≡ codes "fan"

abbrev pub IsPolicy : List ℕ → Policy → Type 0
IsPolicy text Block = text ≡ codes "block"
IsPolicy text OverrunOldest = text ≡ codes "overrun_oldest"
IsPolicy text DiscardNew = text ≡ codes "discard_new"

-- 1 to 16 names, none twice
pub record AreNames (names : List (List ℕ)) : Type 0 where
  pub some : 1 ≤ length names
  pub few : length names ≤ NAMES_MAX
  pub apart : AllPairs (λ a b. ¬ (a ≡ b)) names

-- these values are strings with these texts
abbrev pub IsTexts : List Data → Option (List (List ℕ)) → Type 0
IsTexts values None = (texts : List (List ℕ)) → ¬ (values ≡ map string texts)
IsTexts values (Some texts) = values ≡ map string texts

abbrev pub IsNameList : Data → List (List ℕ) → Type 0
IsNameList d names = (d ≡ array (items_of (map string names))) × AreNames names

-- the tables that are lent, in order, and what each holds
abbrev pub LentTables : Type 0
LentTables = Vec (Bor (BTreeMap (String Global) Value)) Global

abbrev pub tables_in : LentTables → List Members
tables_in v = map (λ b. table_view b.now) v.items

-- these values are these tables
abbrev pub AreLent : List Data → Option LentTables → Type 0
AreLent values None = (tables : List Members) → ¬ (values ≡ map table tables)
AreLent values (Some v) = values ≡ map table (tables_in v)

-- an array of at most 256 tables
abbrev pub IsTableArray : Data → LentTables → Type 0
IsTableArray d v = (d ≡ array (items_of (map table (tables_in v)))) × (length (tables_in v) ≤ TABLES_MAX)

-- the text at a key: no such key, a value that is no string, or its text
abbrev pub IsTextAt : Option Data → Field (Bor (List ℕ)) → Type 0
IsTextAt None field = field ≡ Absent
IsTextAt (Some d) Absent = ⊥
IsTextAt (Some d) Bad = as_str d ≡ None
IsTextAt (Some d) (Given s) = d ≡ string s.now
