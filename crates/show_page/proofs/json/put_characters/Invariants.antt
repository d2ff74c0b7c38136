use Rattle.std.proofs.Common.{drop}
use Rattle.std.specs.List.{flat_map}
use Rattle.base_outputs.proofs.OutputLaws.{Putting}
use Rattle.show_page.specs.Json.{character}
use Rattle.show_page.proofs.json.put_characters.Given as goal

-- the remaining ones are still to be written
abbrev pub invariant-loop-byte : goal.invariant-loop-byte
invariant-loop-byte g l =
    Putting g.W.Write.contents l.initial.output l.output (flat_map character l.text)
    (flat_map character (drop l.byte-index l.text))
