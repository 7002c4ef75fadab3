-- Names of files: which may be given, and the names with a number or a date that are made of one.
use Rattle.std.specs.Prelude.{◌≡◌, ◌≢◌, ℕ, zero, suc, ◌+◌, ◌-◌, ◌/◌, ◌%◌, ◌^◌, ◌<◌, ◌≤◌, nat_lt, ◌==◌, ◌&&◌, if◌then◌else◌}
use Rattle.std.specs.Prelude.{List, [], ◌∷◌, ◌++◌, length, take, codes, decimal}
use Rattle.std.specs.List.{after_last, Contains}
use Rattle.std.specs.Str.{byte}
use Rattle.alog_sink.specs.declared.names.Date.{Date}

-- A name of 1 to 64 bytes, without a slash or a zero byte, and neither of the two that mean folders.
pub record IsFileName (name : List ℕ) : Type 0 where
  pub some : 1 ≤ length name
  pub short : length name ≤ 64
  pub no_slash : ¬ Contains name (byte "/")
  pub no_zero : ¬ Contains name 0
  pub no_folder : name ≢ codes "."
  pub no_parent : name ≢ codes ".."

-- what stands after the last dot, or all where there is no dot
abbrev pub ending : List ℕ → List ℕ
ending name = after_last (λ b. b == byte ".") name

-- the extension: the last dot and what follows it, unless that dot is the first or the last character
abbrev pub extension : List ℕ → List ℕ
extension name =
    if nat_lt 0 (length (ending name)) && nat_lt (length (ending name) + 1) (length name) then byte "." ∷ ending name else []

-- the name before its extension
abbrev pub stem : List ℕ → List ℕ
stem name = take (length name - length (extension name)) name

-- The name with a number, which stands before the extension: `log.1.txt` is number 1 of `log.txt`. Number 0 is the name itself.
abbrev pub numbered : List ℕ → ℕ → List ℕ
numbered name zero = name
numbered name (suc i) = stem name ++ codes "." ++ decimal (suc i) ++ extension name

-- the last k decimal digits of n
abbrev pub digits : ℕ → ℕ → List ℕ
digits zero n = []
digits (suc k) n = digits k (n / 10) ++ (byte "0" + n % 10) ∷ []

-- a date as it stands in a name: `_2024-02-29`
abbrev pub date_text : Date → List ℕ
date_text date = codes "_" ++ digits 4 date.year ++ codes "-" ++ digits 2 date.month ++ codes "-" ++ digits 2 date.day

-- The name with a date, which stands before the extension: `log_2024-02-29.txt`.
abbrev pub dated : List ℕ → Date → List ℕ
dated name date = stem name ++ date_text date ++ extension name

-- A file has another name for each number. (Numbers below 2^64: beyond, the library says nothing of decimal digits.)
abbrev pub NumberedNamesDiffer : Type 0
NumberedNamesDiffer = (name : List ℕ) (i j : ℕ) → i < 2 ^ 64 → j < 2 ^ 64 → numbered name i ≡ numbered name j → i ≡ j

-- a date whose parts fit into the digits of a name
pub record IsDate (date : Date) : Type 0 where
  pub year : date.year < 10000
  pub month : date.month < 100
  pub day : date.day < 100

-- A file has another name for each date.
abbrev pub DatedNamesDiffer : Type 0
DatedNamesDiffer = (name : List ℕ) (a b : Date) → IsDate a → IsDate b → dated name a ≡ dated name b → a ≡ b
