-- The distinct files of a table, in order of first use.
use Rattle.std.specs.Prelude.{ℕ, List, [], ◌∷◌, ◌++◌, map, bytes_eq, Bool, not, if◌then◌else◌}
use Rattle.std.specs.List.{filter, list_any, position_or_len}
use Rattle.kit_tables.specs.declared.files.KitFile.{KitFile}
use Rattle.kit_tables.specs.Rows.{Row}

-- a file: the bytes of its path, and a line that names it
pub record NamedFile : Type 0 where
  pub path : List ℕ
  pub line : ℕ

-- the file of the code, with the bytes of its path
abbrev pub named_file : KitFile → NamedFile
named_file file = record { path = file.path.now; line = file.line }

-- the file that a row names
abbrev pub file_in : Row → NamedFile
file_in row = record { path = row.file; line = row.line }

-- whether a file has this path
abbrev pub has_path : List ℕ → NamedFile → Bool
has_path path file = bytes_eq path file.path

-- the files without repetitions: the first, and then those with other paths
unfoldable pub distinct : List NamedFile → List NamedFile
distinct [] = []
distinct (f ∷ files) = f ∷ filter (λ g. not (has_path g.path f)) (distinct files)

-- the distinct files of rows, each with the line that names it first
unfoldable pub files_of : List Row → List NamedFile
files_of rows = distinct (map file_in rows)

-- the index of a row's file among files
abbrev pub index_among : List NamedFile → Row → ℕ
index_among files row = position_or_len (has_path row.file) files

-- ---- one more file

-- the files, and one more if none of them has its path
abbrev pub with_file : List NamedFile → NamedFile → List NamedFile
with_file files f = if list_any (has_path f.path) files then files else files ++ f ∷ []
