use Rattle.std.proofs.Common.{length, map, refl, arith}
use Rattle.kit_tables.specs.Rows.{row_of}
use Rattle.kit_tables.specs.Files.{named_file}
use Rattle.kit_tables.proofs.FileLaws.{files_on, indices_on, within_on, files_end, indices_end, files_start}
use Rattle.kit_tables.proofs.files.kit_files.Goals as goal

pub loop-row-init : goal.loop-row-init
loop-row-init c = record {
  paths = rw (c.new-paths.ensures.empty, c.new-files.ensures.items) refl;
  files = rw c.new-files.ensures.items (files_start (map row_of c.args.rows.now));
  indices = rw c.new-of_rows.ensures.items refl;
  within = rw c.new-of_rows.ensures.items (λ k d h. absurd (omega (arith, h)));
  few = rw c.new-files.ensures.items (omega arith);
}

pub add_file-requires-clause-paths : goal.add_file-requires-clause-paths
add_file-requires-clause-paths c = c.loop-row.invariant.paths

pub add_file-requires-clause-few : goal.add_file-requires-clause-few
add_file-requires-clause-few c =
    let h = c.loop-row.invariant.few in let k = c.loop-row-test.true in let m = c.requires in omega (arith, h, k, m)

pub loop-row-preserved : goal.loop-row-preserved
loop-row-preserved c = record {
  paths = c.in_ok-index.ensures.paths;
  files =
      files_on (map named_file c.loop-row.files.items) c.args.rows.now c.loop-row.row-index _
      (map named_file c.add_file.new.files.items) _ c.loop-row-test.true c.loop-row.invariant.files
      c.in_ok-index.ensures.files;
  indices =
      indices_on (map named_file c.loop-row.files.items) c.args.rows.now c.loop-row.row-index _ _
      c.loop-row.of_rows.items c.push.new.self.items _ _ c.loop-row-test.true c.loop-row.invariant.files
      c.loop-row.invariant.indices c.in_ok-index.ensures.index c.in_ok-push.ensures.items;
  within =
      rw c.in_ok-push.ensures.items (within_on (length c.loop-row.files.items) (length c.add_file.new.files.items)
      c.in_ok-index.index c.loop-row.of_rows.items c.in_ok-index.ensures.more c.loop-row.invariant.within
      c.in_ok-index.ensures.within);
  few = (let h = c.loop-row.invariant.few in let k = c.in_ok-index.ensures.few in omega (arith, h, k));
}

pub returns-clause-files : goal.returns-clause-files
returns-clause-files c =
    files_end (map named_file c.loop-row.files.items) c.args.rows.now c.loop-row.row-index _
    (let h = c.loop-row-test.false in omega (arith, h)) c.loop-row.invariant.files

pub returns-clause-of_rows : goal.returns-clause-of_rows
returns-clause-of_rows c =
    indices_end _ c.args.rows.now c.loop-row.row-index c.loop-row.of_rows.items _
    (let h = c.loop-row-test.false in omega (arith, h)) c.loop-row.invariant.indices

pub returns-clause-within : goal.returns-clause-within
returns-clause-within c = c.loop-row.invariant.within
