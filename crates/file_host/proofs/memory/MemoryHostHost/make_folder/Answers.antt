use Rattle.std.proofs.Common.{rules, ◌≡◌, true}
use Rattle.file_host.specs.World.{is_nothing}
use Rattle.file_host.specs.Journal.{no_files, held_after}
use Rattle.file_host.proofs.FileLaws.{folder_pushed}
use Rattle.file_host.proofs.memory.MemoryHostHost.make_folder.Goals as goal

pub returns-clause-made : goal.returns-clause-made
returns-clause-made c =
    let path = c.args.path.now in
    let nothing : is_nothing (held_after no_files c.args.self.now.entries.items path) ≡ true = search rules in
    folder_pushed c.args.self.now.entries.items c.keep.new.self.entries.items path c.in_ok-keep.ensures.kept nothing
