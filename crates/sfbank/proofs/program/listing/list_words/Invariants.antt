use Rattle.std.proofs.Common.{◌≡◌, map, take}
use Rattle.sfbank.specs.KitPlans.{word_entry}
use Rattle.sfbank.specs.KitSteps.{entry_of}
use Rattle.sfbank.proofs.program.listing.list_words.Given as goal

-- the recordings so far
abbrev pub invariant-loop-path : goal.invariant-loop-path
invariant-loop-path l = map entry_of l.entries.items ≡ map word_entry (take l.path-index l.paths)
