-- What a level's number, name and short name are, and which texts name a level.
use Rattle.std.specs.Prelude.{◌≡◌, ◌⊎◌, ℕ, List, codes}
use Rattle.alog_msg.specs.declared.level.Level.{Level}
use Rattle.alog_msg.specs.declared.level.Level.TheVariants.{Trace, Debug, Info, Warning, Error, Critical, Off}

-- a row of the table of levels
pub record Row : Type 0 where
  pub number : ℕ
  pub name : List ℕ
  pub short : List ℕ

-- the table of levels, from the least severe to off
abbrev pub row_of : Level → Row
row_of Trace = record { number = 0; name = codes "trace"; short = codes "T" }
row_of Debug = record { number = 1; name = codes "debug"; short = codes "D" }
row_of Info = record { number = 2; name = codes "info"; short = codes "I" }
row_of Warning = record { number = 3; name = codes "warning"; short = codes "W" }
row_of Error = record { number = 4; name = codes "error"; short = codes "E" }
row_of Critical = record { number = 5; name = codes "critical"; short = codes "C" }
row_of Off = record { number = 6; name = codes "off"; short = codes "O" }

-- a name that is read beside that of the table
abbrev pub IsOtherName : List ℕ → Level → Type 0
IsOtherName text Warning = text ≡ codes "warn"
IsOtherName text Error = text ≡ codes "err"
IsOtherName text _ = ⊥

-- a text names a level: it is the table's name or another name of it, letter by letter
abbrev pub Names : List ℕ → Level → Type 0
Names text level = (text ≡ (row_of level).name) ⊎ IsOtherName text level
