use Rattle.std.proofs.Common.{take}
use Rattle.std.specs.List.{AllZip}
use Rattle.program_commands.proofs.PresetLaws.{texts_behind}
use Rattle.program_commands.proofs.presets.parse_all.Given as goal

-- the values so far are those of the texts so far
abbrev pub invariant-loop-text : goal.invariant-loop-text
invariant-loop-text g l = AllZip g.T.Named.IsNamed (texts_behind (take l.text-index l.texts)) l.values.items
