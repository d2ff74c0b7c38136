use Rattle.std.proofs.Common.{◌≡◌, take}
use Rattle.std.specs.Option.{option_map}
use Rattle.file_host.specs.Journal.{no_files, held_after, found_or_not}
use Rattle.file_host.proofs.memory.newest.Given as goal

-- what was found so far
abbrev pub invariant-loop-entry : goal.invariant-loop-entry
invariant-loop-entry l =
    found_or_not (option_map (λ content. content.now) l.found)
    ≡ held_after no_files (take l.entry-index l.entries) l.path
