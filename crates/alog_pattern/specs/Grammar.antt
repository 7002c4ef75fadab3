-- The grammar of patterns: a string is a row of bytes other than `%` and of spellings of flags, and then perhaps
-- the beginning of a spelling. A byte is a number here, and no rule asks how large it is.
use Rattle.std.specs.Prelude.{◌≡◌, ◌≢◌, ℕ, ◌+◌, ◌-◌, ◌*◌, min, List, [], ◌∷◌, ◌++◌, map, fold, Bool, true, false, IsTrue, Option}
use Rattle.std.specs.Prelude.{Some, None, ◌⊎◌, if◌then◌else◌}
use Rattle.std.specs.List.{flat_map, AllByRecursion}
use Rattle.std.specs.Char.{is_ascii_digit}
use Rattle.std.specs.Str.{byte}
use Rattle.alog_pattern.specs.declared.items.Side.{Side}
use Rattle.alog_pattern.specs.declared.items.Side.TheVariants.{Right, Left, Centre}
use Rattle.alog_pattern.specs.declared.items.Padding.{Padding}
use Rattle.alog_pattern.specs.declared.items.Item.{Item}
use Rattle.alog_pattern.specs.declared.items.TheConstants.{WIDTH_MAX}
use Rattle.alog_pattern.specs.declared.items.Item.TheVariants as items
use Rattle.alog_pattern.specs.Flag.{flag_of}
use Rattle.alog_pattern.specs.declared.flags.Flag.{Flag}

-- how a flag is spelled: `%`, at most one side (none is right), digits or none, `!` or not, and the flag byte
pub record Spelling : Type 0 where
  pub side : Side
  pub digits : List ℕ
  pub cut : Bool
  pub flag : ℕ

abbrev pub side_bytes : Side → List ℕ
side_bytes Right = []
side_bytes Left = byte "-" ∷ []
side_bytes Centre = byte "=" ∷ []

abbrev pub cut_bytes : Bool → List ℕ
cut_bytes true = byte "!" ∷ []
cut_bytes false = []

-- what stands before the flag byte
abbrev pub opening : Spelling → List ℕ
opening s = byte "%" ∷ (side_bytes s.side ++ (s.digits ++ cut_bytes s.cut))

abbrev pub spelled : Spelling → List ℕ
spelled s = opening s ++ s.flag ∷ []

-- The flag byte is any byte, but no digit unless a cut precedes it, no side directly after `%`, and no `!`
-- directly after a digit. A cut stands only after a digit.
pub record IsSpelling (s : Spelling) : Type 0 where
  pub digits : AllByRecursion (λ b. IsTrue (is_ascii_digit b)) s.digits
  pub cut : IsTrue s.cut → s.digits ≢ []
  pub no_digit : IsTrue (is_ascii_digit s.flag) → IsTrue s.cut
  pub no_side : opening s ≡ byte "%" ∷ [] → (s.flag ≢ byte "-") × (s.flag ≢ byte "=")
  pub no_cut : s.digits ≢ [] → s.flag ≡ byte "!" → IsTrue s.cut

-- the number that digits write
abbrev pub number : List ℕ → ℕ
number digits = fold (λ n b. 10 * n + (b - byte "0")) 0 digits

-- the width is that number, or the greatest width where it is greater
abbrev pub width : Spelling → ℕ
width s = min WIDTH_MAX (number s.digits)

-- a spelling without digits has no padding
abbrev pub padding_of : List ℕ → Padding → Option Padding
padding_of [] p = None
padding_of (b ∷ bs) p = Some p

abbrev pub padding : Spelling → Option Padding
padding s = padding_of s.digits (record { width = width s; side = s.side; cut = s.cut })

-- a byte that is no flag: with a cut the padded function and the byte, else `%` and the byte
abbrev pub unknown : Spelling → Item
unknown s = if s.cut then items.Function (width s) s.side s.flag else items.Unknown s.flag

abbrev pub spelled_item : Option Flag → Spelling → Item
spelled_item (Some flag) s = items.Flag flag (padding s)
spelled_item None s = unknown s

-- a piece of a pattern: a byte that stands for itself, or a spelling
pub data Piece : Type 0 where
  Single : ℕ → Piece
  Spelled : Spelling → Piece

abbrev pub IsPiece : Piece → Type 0
IsPiece (Single b) = b ≢ byte "%"
IsPiece (Spelled s) = IsSpelling s

abbrev pub piece_bytes : Piece → List ℕ
piece_bytes (Single b) = b ∷ []
piece_bytes (Spelled s) = spelled s

abbrev pub item : Piece → Item
item (Single b) = items.Byte b
item (Spelled s) = spelled_item (flag_of s.flag) s

-- the bytes are a proper prefix of a spelling, and not empty
pub record IsUnfinished (bytes : List ℕ) : Type 0 where
  pub whole : Spelling
  pub is_spelling : IsSpelling whole
  pub missing : List ℕ
  pub begun : bytes ≢ []
  pub proper : missing ≢ []
  pub prefix : bytes ++ missing ≡ spelled whole

-- The bytes are these pieces, and then perhaps an unfinished spelling, which gives no item. The items are the pieces'.
pub record IsReading (bytes : List ℕ) (items : List Item) : Type 0 where
  pub pieces : List Piece
  pub rest : List ℕ
  pub each : AllByRecursion IsPiece pieces
  pub unfinished : (rest ≡ []) ⊎ IsUnfinished rest
  pub bytes_are : bytes ≡ flat_map piece_bytes pieces ++ rest
  pub items_are : items ≡ map item pieces

-- each string has exactly one item list
abbrev pub HasOneReading : List ℕ → Type 0
HasOneReading bytes = (items : List Item) × IsReading bytes items × ((others : List Item) → IsReading bytes others → others ≡ items)
