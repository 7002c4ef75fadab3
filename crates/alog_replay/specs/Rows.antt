-- Files as they are printed: a row of names with what each file has, whose names rise, so that the files alone determine it.
use Rattle.std.specs.Prelude.{◌≡◌, ℕ, if◌then◌else◌, None, Some, List, [], ◌∷◌}
use Rattle.std.specs.Cmp.Lexicographic.{slice_cmp}
use Rattle.std.specs.Ordering.{nat_cmp}
use Rattle.std.specs.Str.{bytes_eq}
use Rattle.std.specs.declared.cmp.Ordering.{Ordering}
use Rattle.std.specs.declared.cmp.Ordering.TheVariants.{Less, Equal, Greater}
use Rattle.alog_sink.specs.Files.{Files, AreSame}
use Rattle.alog_sink.specs.Memory.{listing}
use Rattle.alog_sink.specs.declared.mem_store.MemStore.{MemStore}

-- a file with its name, and some files one after another
abbrev pub File : Type 0
File = List ℕ × List ℕ

abbrev pub Row : Type 0
Row = List File

-- names are compared byte by byte
abbrev pub name_cmp : List ℕ → List ℕ → Ordering
name_cmp = slice_cmp nat_cmp

-- each name of a row is greater than this one
abbrev pub AreAbove : List ℕ → Row → Type 0
AreAbove name [] = Unit {0}
AreAbove name (f ∷ row) = (name_cmp name f.0 ≡ Less) × AreAbove name row

-- the names of a row rise, so that none is there twice
abbrev pub Rises : Row → Type 0
Rises [] = Unit {0}
Rises (f ∷ row) = AreAbove f.0 row × Rises row

-- of a name what the first file of that name has
abbrev pub files_of : Row → Files
files_of [] name = None
files_of (f ∷ row) name = if bytes_eq name f.0 then Some f.1 else files_of row name

-- A row of some files: its names rise, and it has these files.
pub record IsRowOf (files : Files) (row : Row) : Type 0 where
  pub rises : Rises row
  pub same : AreSame files (files_of row)

-- a file before the first of a row, in its place, or behind it
abbrev pub placed : Ordering → File → File → Row → Row → Row
placed Less f first rest behind = f ∷ first ∷ rest
placed Equal f first rest behind = f ∷ rest
placed Greater f first rest behind = first ∷ behind

-- a row with a file more, in place of what had its name
abbrev pub put_in : File → Row → Row
put_in f [] = f ∷ []
put_in f (first ∷ rest) = placed (name_cmp f.0 first.0) f first rest (put_in f rest)

-- files in the order of their names, of each name the first
abbrev pub in_order : Row → Row
in_order [] = []
in_order (f ∷ rest) = put_in f (in_order rest)

-- the files of a store in memory, as they are printed
abbrev pub row_of : MemStore → Row
row_of store = in_order (listing store)

-- what is printed of a store is a row of its files, and the only one
abbrev pub HasOneRow : {S : Type 0} → (S → Files) → (S → Row) → Type 0
HasOneRow {S} files row = (store : S) → IsRowOf (files store) (row store) × ((other : Row) → IsRowOf (files store) other → other ≡ row store)
