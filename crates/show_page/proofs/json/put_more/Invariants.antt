use Rattle.std.proofs.Common.{drop}
use Rattle.std.specs.List.{flat_map}
use Rattle.base_outputs.proofs.OutputLaws.{Putting}
use Rattle.show_page.specs.Json.{next_text}
use Rattle.show_page.proofs.json.put_more.Given as goal

-- the remaining ones are still to be written
abbrev pub invariant-loop-field : goal.invariant-loop-field
invariant-loop-field g l =
    Putting g.W.Write.contents l.initial.output l.output (flat_map next_text l.fields)
    (flat_map next_text (drop l.field-index l.fields))
