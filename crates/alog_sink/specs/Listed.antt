-- Files as a list of names and bytes.
use Rattle.std.specs.Prelude.{◌≡◌, ℕ, false, List, Some, String, Vec, IsSorted, map, slice_get, string_bytes, string_cmp, string_eq}
use Rattle.std.specs.List.{IsDistinct}
use Rattle.std.specs.Map.{keys_of, lookup}
use Rattle.std.specs.Option.{option_map}
use Rattle.std.specs.Str.{bytes_eq}
use Rattle.alog_sink.specs.Files.{Files}

module _ {Y Z : Type 0} where
  -- the files of a list: of each name what the first one of that name has
  abbrev pub files_in : List (String Y × Vec ℕ Z) → Files
  files_in es name = option_map (λ v. v.items) (lookup (λ k. bytes_eq name (string_bytes k)) es)

  -- the names of a list's files with what they have, in the order of the list
  abbrev pub entries_of : List (String Y × Vec ℕ Z) → List (List ℕ × List ℕ)
  entries_of es = map (λ e. (string_bytes e.0, e.1.items)) es

  -- the names ascend, and no two are the same
  abbrev pub AreInOrder : List (String Y × Vec ℕ Z) → Type 0
  AreInOrder es = IsSorted string_cmp (keys_of es) × IsDistinct string_eq (keys_of es)

  -- at this place is the file of this name
  abbrev pub IsAt : List (String Y × Vec ℕ Z) → ℕ → List ℕ → Type 0
  IsAt es at name =
      (k : String Y) × (v : Vec ℕ Z) × (slice_get es at ≡ Some (k, v)) × (string_bytes k ≡ name) × (files_in es name ≡ Some v.items)

-- the files but that of one name are the same
abbrev pub HasOthers : List ℕ → Files → Files → Type 0
HasOthers name files others = (other : List ℕ) → bytes_eq name other ≡ false → others other ≡ files other
