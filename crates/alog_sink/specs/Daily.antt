-- Files by days: which lines open a period, the segments that they begin, and which file each segment is in.
use Rattle.std.specs.Prelude.{◌≡◌, ◌≢◌, ℕ, zero, suc, ◌-◌, ℤ, Bool, true, false, if◌then◌else◌, None, Some}
use Rattle.std.specs.Prelude.{List, [], ◌∷◌, ◌++◌, length, drop, fold, get_or}
use Rattle.std.specs.Int.Signed.{lt_z}
use Rattle.std.specs.List.{concat, list_all, AllPairs, Contains}
use Rattle.std.specs.Str.{bytes_eq}
use Rattle.alog_sink.specs.Files.{Files, bytes_of}

-- A line, its period, and the name that the file of its date has.
pub record Entry : Type 0 where
  pub period : ℤ
  pub name : List ℕ
  pub line : List ℕ

-- An entry opens its period if that is greater than every earlier one.
abbrev pub opens : List Entry → Entry → Bool
opens earlier entry = list_all (λ e. lt_z e.period entry.period) earlier

-- The line of an entry that opens, and those up to the next such entry; the name is that of the first.
pub record Segment : Type 0 where
  pub name : List ℕ
  pub lines : List (List ℕ)

-- The segments of entries: an entry that opens begins one, and the line of another goes to the last.
pub data AreSegments : List Entry → List Segment → Type 0 where
  none : AreSegments [] []
  begun : (entries : List Entry) (segments : List Segment) (entry : Entry) → AreSegments entries segments → opens entries entry ≡ true
      → AreSegments (entries ++ entry ∷ []) (segments ++ record { name = entry.name; lines = entry.line ∷ [] } ∷ [])
  gone_on : (entries : List Entry) (segments : List Segment) (last : Segment) (entry : Entry)
      → AreSegments entries (segments ++ last ∷ []) → opens entries entry ≡ false
      → AreSegments (entries ++ entry ∷ []) (segments ++ record last { lines = last.lines ++ entry.line ∷ [] } ∷ [])

-- the lines of the segments of a name
abbrev pub lines_of : List ℕ → List Segment → List (List ℕ)
lines_of name [] = []
lines_of name (s ∷ segments) = (if bytes_eq s.name name then s.lines else []) ++ lines_of name segments

-- the last of some names, and whether that is this one
abbrev pub last_name : List (List ℕ) → List ℕ
last_name names = get_or names (length names - 1) []

abbrev pub is_last : List ℕ → List (List ℕ) → Bool
is_last name [] = false
is_last name (n ∷ names) = bytes_eq (last_name (n ∷ names)) name

-- The names that were opened, in order; one that comes again directly is opened once.
abbrev pub with_name : List (List ℕ) → List ℕ → List (List ℕ)
with_name names name = if is_last name names then names else names ++ name ∷ []

abbrev pub opened_names : List Segment → List (List ℕ)
opened_names segments = fold (λ names s. with_name names s.name) [] segments

-- the last max_files of them, or all where max_files is 0
abbrev pub kept_names : ℕ → List (List ℕ) → List (List ℕ)
kept_names zero names = names
kept_names (suc n) names = drop (length names - suc n) names

-- After these entries, which opened these names, the opening files are these: each name that is kept has its opening bytes and the
-- lines of its segments, the other opened names are gone, and every other file is as it was. No name was opened twice.
pub record IsDaily (max_files : ℕ) (names : List (List ℕ)) (opening : Files) (entries : List Entry) (files : Files) : Type 0 where
  pub segments : List Segment
  pub cut : AreSegments entries segments
  pub opened : opened_names segments ≡ names
  pub distinct : AllPairs ◌≢◌ names
  pub kept : (name : List ℕ) → Contains (kept_names max_files names) name
      → files name ≡ Some (bytes_of opening name ++ concat (lines_of name segments))
  pub gone : (name : List ℕ) → Contains names name → ¬ Contains (kept_names max_files names) name → files name ≡ None
  pub others : (name : List ℕ) → ¬ Contains names name → files name ≡ opening name
