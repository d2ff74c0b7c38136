use Rattle.std.proofs.Common.{◌≡◌, ◌≤◌, ◌<◌, ◌++◌, All, drop, length, map}
use Rattle.kit_tables.specs.Rows.{row_of}
use Rattle.kit_tables.specs.Files.{named_file, files_of, index_among}
use Rattle.kit_tables.proofs.FileLaws.{then_files}
use Rattle.kit_tables.proofs.files.kit_files.Given as goal

-- the files and indices so far and the remaining rows give those of all rows
abbrev pub invariant-loop-row : goal.invariant-loop-row
invariant-loop-row l = record {
  paths : l.paths.keys ≡ map (λ file. file.path) l.files.items;
  files :
      then_files (map named_file l.files.items) (map row_of (drop l.row-index l.rows))
      ≡ files_of (map row_of l.rows);
  indices :
      l.of_rows.items ++ map (index_among (files_of (map row_of l.rows))) (map row_of (drop l.row-index l.rows))
      ≡ map (index_among (files_of (map row_of l.rows))) (map row_of l.rows);
  within : All (λ index. index < length l.files.items) l.of_rows.items;
  few : length l.files.items ≤ l.row-index;
}
