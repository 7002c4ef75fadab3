-- Files by name, and what each call of a store does to them.
use Rattle.std.specs.Prelude.{◌≡◌, ℕ, Option, None, Some, List, [], ◌++◌}
use Rattle.std.specs.Map.{update}
use Rattle.std.specs.Option.{unwrap_or}
use Rattle.std.specs.Str.{bytes_eq}

-- The files of a store: of each name its bytes, or none where there is no such file. A name is a list of bytes.
abbrev pub Files : Type 0
Files = List ℕ → Option (List ℕ)

-- the bytes of a file, of an absent one none
abbrev pub bytes_of : Files → List ℕ → List ℕ
bytes_of files name = unwrap_or (files name) []

-- no files
abbrev pub no_files : Files
no_files _ = None

-- the files with this one, in place of what had its name
abbrev pub with_file : List ℕ → List ℕ → Files → Files
with_file name bytes files = update bytes_eq files name (Some bytes)

-- bytes are appended to a file, which is made where it is absent
abbrev pub appended : List ℕ → List ℕ → Files → Files
appended name bytes files = with_file name (bytes_of files name ++ bytes) files

-- a file is removed, where it is there
abbrev pub removed : List ℕ → Files → Files
removed name files = update bytes_eq files name None

-- a file has another name, and takes the place of what had it
abbrev pub moved : Option (List ℕ) → List ℕ → List ℕ → Files → Files
moved None from to files = files
moved (Some bytes) from to files = with_file to bytes (removed from files)

-- a file is renamed; where it is absent everything stays
abbrev pub renamed : List ℕ → List ℕ → Files → Files
renamed from to files = moved (files from) from to files

-- the same files: each name has the same bytes, or no file, in both
abbrev pub AreSame : Files → Files → Type 0
AreSame files others = (name : List ℕ) → others name ≡ files name
