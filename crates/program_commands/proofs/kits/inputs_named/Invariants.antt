use Rattle.std.proofs.Common.{◌≡◌, map, take}
use Rattle.program_commands.specs.Words.{input_named}
use Rattle.program_commands.proofs.kits.inputs_named.Given as goal

-- the paths so far are those of the words so far
abbrev pub invariant-loop-word : goal.invariant-loop-word
invariant-loop-word l =
    map (λ path. path.now) l.paths.items ≡ map (λ word. input_named word.now) (take l.word-index l.words)
