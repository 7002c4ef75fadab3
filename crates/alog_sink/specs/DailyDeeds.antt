-- What a daily file does to files for an entry, and that this leads on to one entry more.
use Rattle.std.specs.Prelude.{◌≡◌, ℕ, zero, suc, ◌-◌, nat_lt, true, if◌then◌else◌, List, [], ◌∷◌, ◌++◌, length, get_or}
use Rattle.std.specs.List.{Contains}
use Rattle.alog_sink.specs.Daily.{Entry, opens, last_name, is_last, with_name, IsDaily}
use Rattle.alog_sink.specs.Deeds.{Deed, Append, Remove, all_done}
use Rattle.alog_sink.specs.Files.{Files}

-- the name that is pushed out of the last max_files names where one more is opened, if there is one, is removed
abbrev pub makes_way : ℕ → List (List ℕ) → List Deed
makes_way zero names = []
makes_way (suc n) names = if nat_lt n (length names) then Remove (get_or names (length names - suc n) []) ∷ [] else []

-- the deeds of an entry, whose line goes to the last name where it opens nothing
abbrev pub opening_deeds : ℕ → List (List ℕ) → Entry → List Deed
opening_deeds max_files names entry =
    (if is_last entry.name names then [] else makes_way max_files names) ++ Append entry.name entry.line ∷ []

abbrev pub day_deeds : ℕ → List (List ℕ) → List Entry → Entry → List Deed
day_deeds max_files names entries entry =
    if opens entries entry then opening_deeds max_files names entry else Append (last_name names) entry.line ∷ []

-- the opened names after an entry
abbrev pub names_after : List (List ℕ) → List Entry → Entry → List (List ℕ)
names_after names entries entry = if opens entries entry then with_name names entry.name else names

-- The deeds of an entry lead from the files of some entries to those of one entry more, where a name comes again only directly.
abbrev pub DaysGoOn : Type 0
DaysGoOn = (max_files : ℕ) (names : List (List ℕ)) (opening : Files) (entries : List Entry) (files : Files) (entry : Entry)
    → (opens entries entry ≡ true → Contains names entry.name → is_last entry.name names ≡ true)
    → IsDaily max_files names opening entries files
    → IsDaily max_files (names_after names entries entry) opening (entries ++ entry ∷ [])
    (all_done (day_deeds max_files names entries entry) files)
