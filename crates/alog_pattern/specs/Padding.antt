-- Padding: a text and a width in bytes, by lengths alone.
use Rattle.std.specs.Prelude.{◌≡◌, ℕ, ◌-◌, ◌/◌, max, Option, Some, None, List, ◌++◌, length, take, Bool, nat_lt, replicate, if◌then◌else◌}
use Rattle.std.specs.Str.{byte}
use Rattle.alog_pattern.specs.declared.items.Padding.{Padding}
use Rattle.alog_pattern.specs.declared.items.Side.{Side}
use Rattle.alog_pattern.specs.declared.items.Side.TheVariants.{Right, Left, Centre}

abbrev pub spaces : ℕ → List ℕ
spaces n = replicate n (byte " ")

-- how many of n spaces stand before the text
abbrev pub spaces_before : Side → ℕ → ℕ
spaces_before Right n = n
spaces_before Left n = 0
spaces_before Centre n = n / 2

-- A shorter text gets spaces up to the width. A longer one keeps its first bytes if it is cut, and else stays.
abbrev pub pad : (width : ℕ) (side : Side) (cut : Bool) (text : List ℕ) → List ℕ
pad width side cut text =
    let missing = width - length text in
    let before = spaces_before side missing in
    if nat_lt (length text) width then spaces before ++ text ++ spaces (missing - before)
    else (if cut then take width text else text)

-- the padding of a flag, or none
abbrev pub padded : Option Padding → List ℕ → List ℕ
padded None text = text
padded (Some p) text = pad p.width p.side p.cut text

-- a padded text has at least the width, and exactly the width if it is cut
abbrev pub HasPaddedLength : Type 0
HasPaddedLength =
    (width : ℕ) (side : Side) (cut : Bool) (text : List ℕ)
    → length (pad width side cut text) ≡ (if cut then width else max width (length text))
