-- What of a line hangs on the name of the logger and on the level alone.
use Rattle.std.specs.Prelude.{◌≡◌, ◌≤◌, ℕ, Bool, true, false, List, [], ◌∷◌, None, All, length, take}
use Rattle.std.specs.List.{flat_map}
use Rattle.std.specs.Str.{byte}
use Rattle.alog_msg.specs.Level.{row_of}
use Rattle.alog_msg.specs.declared.level.Level.{Level}
use Rattle.alog_pattern.specs.declared.flags.Flag.{Flag}
use Rattle.alog_pattern.specs.declared.flags.Flag.TheVariants as flags
use Rattle.alog_pattern.specs.declared.items.Item.{Item}
use Rattle.alog_pattern.specs.declared.items.Item.TheVariants as items
use Rattle.alog_format.specs.declared.naming.Naming.{Naming}

-- the flags of the name and of the level, and those that have the same text in each line
abbrev pub flag_names : Flag → Bool
flag_names flags.Name = true
flag_names flags.Level = true
flag_names flags.ShortLevel = true
flag_names flags.Percent = true
flag_names flags.ColourStart = true
flag_names flags.ColourEnd = true
flag_names _ = false

-- the items whose text hangs on name and level alone: bytes, `%` and a byte, and such flags that are not padded
abbrev pub names : Item → Bool
names (items.Byte b) = true
names (items.Unknown b) = true
names (items.Flag flag None) = flag_names flag
names _ = false

-- the text of such a flag
abbrev pub named_flag_text : List ℕ → Level → Flag → List ℕ
named_flag_text name level flags.Name = name
named_flag_text name level flags.Level = (row_of level).name
named_flag_text name level flags.ShortLevel = (row_of level).short
named_flag_text name level flags.Percent = byte "%" ∷ []
named_flag_text name level _ = []

-- the text of such an item
abbrev pub named_text : List ℕ → Level → Item → List ℕ
named_text name level (items.Byte b) = b ∷ []
named_text name level (items.Unknown b) = byte "%" ∷ b ∷ []
named_text name level (items.Flag flag None) = named_flag_text name level flag
named_text name level _ = []

-- what is remembered is the texts of the first of these items, and those hang on name and level alone
abbrev pub Remembers : List Item → Naming → Type 0
Remembers items n =
    (n.count ≤ length items) × All (λ item. names item ≡ true) (take n.count items)
    × (n.text.items ≡ flat_map (named_text n.name.items n.level) (take n.count items))
